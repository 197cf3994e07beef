-- What a row holds, and what stands around one of its slots.
use Rattle.std.specs.Prelude.{◌≡◌, ℕ, true, List, [], ◌∷◌, IfSome, Some, None, Option}
use Rattle.rings.specs.Slots.{member}
use Rattle.row.specs.declared.row.Row.{Row}
use Rattle.row.specs.Entries.{Entry, RowModel}
use Rattle.row.specs.Held.{entry_in, entries_in, above_in, below_in}
use Rattle.row.specs.Orders.{order}

-- the entries, latest first
abbrev pub entries : Row → List Entry
entries r = entries_in r.shelf r.frames

abbrev pub model : Row → RowModel
model r = record { capacity = r.capacity; entries = entries r }

-- slot x has an entry
abbrev pub Stands : Row → ℕ → Type 0
Stands r x = member x (order r.shelf) ≡ true

-- the entry in slot x, the entries before it, and those behind it
abbrev pub held : Row → ℕ → Entry
held r x = entry_in r.shelf r.frames x

abbrev pub above : Row → ℕ → List Entry
above r x = above_in r.shelf r.frames x

abbrev pub below : Row → ℕ → List Entry
below r x = below_in r.shelf r.frames x

-- the entries before a slot, or all past the last
abbrev pub passed : Row → Option ℕ → List Entry
passed r None = entries r
passed r (Some x) = above r x

-- the entries from a slot on, or none past the last
abbrev pub coming : Row → Option ℕ → List Entry
coming r None = []
coming r (Some x) = held r x ∷ below r x

-- a slot that has an entry, or none
abbrev pub Standing : Row → Option ℕ → Type 0
Standing r at = IfSome at (λ x. Stands r x)
