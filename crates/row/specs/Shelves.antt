-- How the places of a shelf and its index agree.
use Rattle.std.specs.Prelude.{◌≡◌, ℕ, ◌^◌, ◌<◌, true, not, is_some}
use Rattle.std.specs.Option.{unwrap_or}
use Rattle.rings.specs.declared.index.Index.{Index}
use Rattle.rings.specs.declared.rings.Rings.{Rings}
use Rattle.rings.specs.Slots.{member}
use Rattle.rings.specs.Models.{ring}
use Rattle.rings.specs.Keys.{key_of}

-- the slots in order are those that have numbers
abbrev pub Listed : Rings → Index → Type 0
Listed places index = (x : ℕ) → x < 16 → member x (ring places 0) ≡ is_some (key_of index x)

-- the free slots are those that have none
abbrev pub Spare : Rings → Index → Type 0
Spare places index = (x : ℕ) → x < 16 → member x (ring places 1) ≡ not (is_some (key_of index x))

-- no two slots have one number
abbrev pub Single : Index → Type 0
Single index = (x y : ℕ) → (x < 16) × (y < 16) × (is_some (key_of index x) ≡ true) × (key_of index x ≡ key_of index y) → x ≡ y

-- numbers are of 32 bits
abbrev pub Small : Index → Type 0
Small index = (x : ℕ) → x < 16 → unwrap_or (key_of index x) 0 < 2 ^ 32
