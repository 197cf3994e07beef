-- A list of defective blocks over a store.
use Rattle.std.specs.Prelude.{ℕ, Bool, true, false, cond, not, ◌&&◌, List, [], ◌∷◌, ◌++◌, length, is_ok, Ok, Err, Result, ◌==◌, nat_lt, slice_index}
use Rattle.std.specs.List.{list_any}
use Rattle.device.specs.Store.{Store}
use Rattle.layers.specs.declared.defects.DefectFault.{DefectFault}
use Rattle.layers.specs.declared.defects.DefectFault.TheVariants.{NotGreater, Full, Memory}

-- the number of each refusal; want of memory has none of its own and is told as 0
abbrev pub number_of : DefectFault → ℕ
number_of NotGreater = 10
number_of Full = 11
number_of Memory = 0

abbrev pub listed : List ℕ → ℕ → Bool
listed xs b = list_any (λ x. x == b) xs

-- a block is defective if it is listed, or defective below
abbrev pub masked : List ℕ → Store → Store
masked xs s = record { size = s.size; at = s.at; sound = λ b. s.sound b && not (listed xs b) }

-- whether n is greater than the last number of the list
abbrev pub rises : List ℕ → ℕ → Bool
rises [] n = true
rises (x ∷ xs) n = nat_lt (slice_index (x ∷ xs) (length xs)) n

-- what listing n answers, where memory for one more number is there or not
abbrev pub listing : Bool → List ℕ → ℕ → Result (Unit {0}) DefectFault
listing room xs n = cond (rises xs n) (cond (nat_lt (length xs) 16) (cond room (Ok tt) (Err Memory)) (Err Full)) (Err NotGreater)

-- whether an answer is not the want of memory
abbrev pub had_room : Result (Unit {0}) DefectFault → Bool
had_room (Ok u) = true
had_room (Err NotGreater) = true
had_room (Err Full) = true
had_room (Err Memory) = false

-- the list after
abbrev pub with_listed : Result (Unit {0}) DefectFault → List ℕ → ℕ → List ℕ
with_listed r xs n = cond (is_ok r) (xs ++ n ∷ []) xs
