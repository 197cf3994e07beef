-- Entries of a row, latest first: finding one, leaving one out, the last, and the one at a place.
use Rattle.std.specs.Prelude.{◌≡◌, ℕ, ◌-◌, ◌^◌, ◌<◌, ◌≤◌, Bool, true, false, cond, List, [], ◌∷◌, map, length, Some, None, Option, ◌==◌}
use Rattle.row.specs.declared.frame.Mark.{Mark}
use Rattle.row.specs.declared.frame.Mark.TheVariants.{Saved, Unsaved}
use Rattle.row.specs.declared.frame.Tag.{Tag}
use Rattle.std.specs.List.{AllByRecursion}
use Rattle.rings.specs.Slots.{distinct, last}

-- a block in a row: its number, its bytes and its mark
pub record Entry : Type 0 where
  pub number : ℕ
  pub bytes : List ℕ
  pub mark : Mark

-- whether a mark says that the device has the block's bytes
abbrev pub is_saved : Mark → Bool
is_saved Saved = true
is_saved Unsaved = false

abbrev pub saved : Entry → Bool
saved e = is_saved e.mark

-- the entry when it is saved
abbrev pub save : Entry → Entry
save e = record { number = e.number; bytes = e.bytes; mark = Saved }

-- what is told of an entry without its bytes
abbrev pub tag_of : Entry → Tag
tag_of e = record { number = e.number; mark = e.mark }

abbrev pub names : Entry → ℕ → Bool
names e b = e.number == b

-- the entry that names b, if any
abbrev pub find_entry : ℕ → List Entry → Option Entry
find_entry b [] = None
find_entry b (e ∷ es) = cond (names e b) (Some e) (find_entry b es)

-- the entries that do not name b
abbrev pub without : ℕ → List Entry → List Entry
without b [] = []
without b (e ∷ es) = cond (names e b) (without b es) (e ∷ without b es)

-- all but the last of a list that begins with x
abbrev pub start : {A : Type 0} → A → List A → List A
start x [] = []
start x (y ∷ ys) = x ∷ start y ys

-- all but the last
abbrev pub front : {A : Type 0} → List A → List A
front [] = []
front (x ∷ xs) = start x xs

-- the entry at a place, counted from 1
abbrev pub at_place : ℕ → List Entry → Option Entry
at_place n [] = None
at_place n (e ∷ es) = cond (n == 1) (Some e) (at_place (n - 1) es)

abbrev pub numbers : List Entry → List ℕ
numbers es = map (λ e. e.number) es

-- what a row holds: how many entries it can have, and its entries, latest first
pub record RowModel : Type 0 where
  pub capacity : ℕ
  pub entries : List Entry

-- the model with other entries
abbrev pub holding : List Entry → RowModel → RowModel
holding es m = record { capacity = m.capacity; entries = es }

-- the bytes of an entry, or else what was there
abbrev pub bytes_or : Option Entry → List ℕ → List ℕ
bytes_or None xs = xs
bytes_or (Some e) xs = e.bytes

-- whether a row has as many entries as it can have
abbrev pub full : RowModel → Bool
full m = length m.entries == m.capacity

-- the entry that has to leave before another can come, if any, and the row when it has left
abbrev pub leaving : RowModel → Option Entry
leaving m = cond (full m) (last m.entries) None

abbrev pub left : RowModel → RowModel
left m = cond (full m) (holding (front m.entries) m) m

-- what holds of every row
pub record Lawful (m : RowModel) : Type 0 where
  pub some : 1 ≤ m.capacity
  pub few : m.capacity ≤ 16
  pub room : length m.entries ≤ m.capacity
  pub single : distinct (numbers m.entries) ≡ true
  pub whole : AllByRecursion (λ e. length e.bytes ≡ 256) m.entries
  pub small : AllByRecursion (λ e. e.number < 2 ^ 32) m.entries
