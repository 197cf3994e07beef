-- Worked examples of the definitions, as one list of which every member is proved.
use Rattle.std.specs.Prelude.{◌≡◌, ℕ, false, List, [], ◌∷◌, map, replicate, Some}
use Rattle.std.specs.Option.{option_map}
use Rattle.std.specs.List.{AllByRecursion}
use Rattle.device.specs.declared.fault.DeviceFault.TheVariants.{Defective}
use Rattle.device.specs.Store.{Store}
use Rattle.layers.specs.declared.home.Home.{Home}
use Rattle.layers.specs.declared.home.Home.TheVariants.{First, Second}
use Rattle.layers.specs.Stripes.{striped_size, home}
use Rattle.row.specs.declared.frame.Mark.TheVariants.{Saved}
use Rattle.row.specs.Entries.{Entry, RowModel}
use Rattle.tier.specs.Demotions.{demoted, told_drop}
use Rattle.tier.specs.Lifts.{found, label_of}
use Rattle.tier.specs.Questions.{level_count}

pub data Example : Type 0 where
  -- a stripe of this unit over devices of so many blocks has so many
  stripe_has : (unit first second blocks : ℕ) → Example
  -- a block of a stripe of this unit lies there
  lies_at : (unit block : ℕ) → Home → Example
  -- rows of these capacities that name these blocks, the latest first, name those after a block is demoted
  demote_gives : (capacities : List ℕ) (rows : List (List ℕ)) (block : ℕ) (after : List (List ℕ)) → Example
  -- lifting a block from such rows names this level
  lift_names : (capacities : List ℕ) (rows : List (List ℕ)) (block level : ℕ) → Example
  -- so many levels are told as this number
  levels_told : (levels number : ℕ) → Example
  -- a block that was refused below so many levels is told with this one
  drop_told : (level number : ℕ) → Example

-- an entry whose bytes do not matter here
abbrev pub plain : ℕ → Entry
plain b = record { number = b; bytes = []; mark = Saved }

abbrev pub rows_of : List ℕ → List (List ℕ) → List RowModel
rows_of [] bs = []
rows_of (c ∷ cs) [] = []
rows_of (c ∷ cs) (b ∷ bs) = record { capacity = c; entries = map plain b } ∷ rows_of cs bs

abbrev pub names_of : List RowModel → List (List ℕ)
names_of rs = map (λ r. map (λ e. e.number) r.entries) rs

-- a device with no blocks
abbrev pub nothing : Store
nothing = record { size = 0; at = λ b. []; sound = λ b. false }

abbrev pub Holds : Example → Type 0
Holds (stripe_has u n m k) = striped_size u n m ≡ k
Holds (lies_at u b h) = home u b ≡ h
Holds (demote_gives cs bs b after) = names_of (demoted (rows_of cs bs) nothing (plain b)).rows ≡ after
Holds (lift_names cs bs b level) = option_map label_of (found b (rows_of cs bs)) ≡ Some record { level = level; mark = Saved }
Holds (levels_told n k) = level_count (replicate n record { capacity = 1; entries = [] }) ≡ k
Holds (drop_told n k) = told_drop record { block = 0; fault = Defective; level = n } ≡ record { block = 0; fault = Defective; level = k }

abbrev pub examples : List Example
examples = stripe_has 2 5 7 8 ∷ (lies_at 2 5 (First 3) ∷ (lies_at 2 6 (Second 2)
    ∷ (demote_gives (2 ∷ (1 ∷ [])) ((7 ∷ (4 ∷ [])) ∷ ([] ∷ [])) 9 ((9 ∷ (7 ∷ [])) ∷ ((4 ∷ []) ∷ []))
    ∷ (lift_names (2 ∷ (1 ∷ [])) ((9 ∷ (7 ∷ [])) ∷ ((4 ∷ []) ∷ [])) 4 2
    ∷ (levels_told 255 255 ∷ (levels_told 300 255 ∷ (drop_told 255 255 ∷ (drop_told 256 255 ∷ []))))))))

abbrev pub ExamplesHold : Type 0
ExamplesHold = AllByRecursion Holds examples
