-- The entries that a shelf and its frames hold.
use Rattle.std.specs.Prelude.{◌≡◌, ℕ, ◌<◌, true, cond, List, [], ◌∷◌, map, length, IfSome, Some, None, Option, MatchOption, ◌==◌, slice_index_or}
use Rattle.std.specs.Option.{unwrap_or}
use Rattle.rings.specs.Slots.{member, last, after}
use Rattle.row.specs.declared.frame.Frame.{Frame}
use Rattle.row.specs.declared.shelf.Shelf.{Shelf}
use Rattle.row.specs.Frames.{blank}
use Rattle.row.specs.Orders.{order, key}
use Rattle.row.specs.Entries.{Entry, find_entry, without, front}

-- each frame has a block's bytes
abbrev pub Whole : List Frame → Type 0
Whole frames = (x : ℕ) → x < 16 → length (slice_index_or frames x blank).bytes ≡ 256

-- the entry in slot x
abbrev pub entry_in : Shelf → List Frame → ℕ → Entry
entry_in s frames x = record { number = unwrap_or (key s x) 0; bytes = (slice_index_or frames x blank).bytes; mark = (slice_index_or frames x blank).mark }

-- what stands before x
abbrev pub before : ℕ → List ℕ → List ℕ
before x [] = []
before x (y ∷ ys) = cond (x == y) [] (y ∷ before x ys)

-- all entries, latest first
unfoldable pub entries_in : Shelf → List Frame → List Entry
entries_in s frames = map (entry_in s frames) (order s)

-- the entries before slot x, and those behind it
unfoldable pub above_in : Shelf → List Frame → ℕ → List Entry
above_in s frames x = map (entry_in s frames) (before x (order s))

unfoldable pub below_in : Shelf → List Frame → ℕ → List Entry
below_in s frames x = map (entry_in s frames) (after x (order s))

-- slot x has a number
abbrev pub On : Shelf → ℕ → Type 0
On s x = member x (order s) ≡ true

-- a slot that has a number, or none
abbrev pub OnIf : Shelf → Option ℕ → Type 0
OnIf s at = IfSome at (λ x. On s x)

-- the entries before a slot, or all past the last
abbrev pub passed_in : Shelf → List Frame → Option ℕ → List Entry
passed_in s frames None = entries_in s frames
passed_in s frames (Some x) = above_in s frames x

-- the entries from a slot on, or none past the last
abbrev pub coming_in : Shelf → List Frame → Option ℕ → List Entry
coming_in s frames None = []
coming_in s frames (Some x) = entry_in s frames x ∷ below_in s frames x

-- the slot of the entry that names b, or none
abbrev pub Found : Shelf → List Frame → ℕ → Option ℕ → Type 0
Found s frames b r =
    MatchOption r ((find_entry b (entries_in s frames) ≡ None) × (without b (entries_in s frames) ≡ entries_in s frames))
    (λ x. On s x × ((entry_in s frames x).number ≡ b) × (find_entry b (entries_in s frames) ≡ Some (entry_in s frames x)))

-- the slot of the last entry, or none
abbrev pub Last : Shelf → List Frame → Option ℕ → Type 0
Last s frames r =
    MatchOption r (entries_in s frames ≡ [])
    (λ x. On s x × (last (entries_in s frames) ≡ Some (entry_in s frames x)) × (without (entry_in s frames x).number (entries_in s frames) ≡ front (entries_in s frames)))
