-- What a tier tells of its levels.
use Rattle.std.specs.Prelude.{ℕ, ◌-◌, min, cond, List, [], ◌∷◌, length, Some, None, Option, ◌==◌}
use Rattle.std.specs.Option.{option_map}
use Rattle.row.specs.declared.frame.Tag.{Tag}
use Rattle.row.specs.Entries.{RowModel, tag_of, at_place}

-- counts and numbers of levels above 255 are told as 255
abbrev pub told : ℕ → ℕ
told n = min n 255

-- the level of a number, counted from 1
abbrev pub nth : {X : Type 0} → List X → ℕ → Option X
nth [] n = None
nth (x ∷ xs) n = cond (n == 1) (Some x) (nth xs (n - 1))

abbrev pub level_count : List RowModel → ℕ
level_count rs = told (length rs)

abbrev pub capacity_of : List RowModel → ℕ → Option ℕ
capacity_of rs level = option_map (λ r. r.capacity) (nth rs level)

-- number and mark of the entry at a place of a level
abbrev pub entry_in : Option RowModel → ℕ → Option Tag
entry_in None place = None
entry_in (Some r) place = option_map tag_of (at_place place r.entries)

abbrev pub entry_of : List RowModel → ℕ → ℕ → Option Tag
entry_of rs level place = entry_in (nth rs level) place
