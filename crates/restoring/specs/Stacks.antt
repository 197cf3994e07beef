-- A stripe of two images under a defect list, made over plain bytes.
use Rattle.std.specs.Prelude.{◌≡◌, ℕ, ◌+◌, ◌*◌, ◌/◌, ◌%◌, Bool, true, cond, List, [], ◌∷◌, ◌++◌, is_ok, Ok, Err, Result, nat_lt}
use Rattle.device.specs.Bytes.{of_bytes}
use Rattle.device.specs.Store.{Store}
use Rattle.layers.specs.declared.defects.DefectFault.{DefectFault}
use Rattle.layers.specs.declared.defects.DefectFault.TheVariants.{Memory}
use Rattle.restoring.specs.declared.stack.StackFault.{StackFault}
use Rattle.restoring.specs.declared.stack.StackFault.TheVariants.{Unit as OfUnit, Defects as OfDefects, Restore as OfRestore}
use Rattle.layers.specs.Defects as defects
use Rattle.layers.specs.Stripes as stripes
use Rattle.layers.specs.Restores as restores

abbrev pub number_of : StackFault → ℕ
number_of (OfUnit f) = stripes.unit_number_of f
number_of (OfDefects f) = defects.number_of f
number_of (OfRestore f) = restores.number_of f

-- one answer after another: the first refusal counts
abbrev pub then : {E F X : Type 0} → (E → F) → Result (Unit {0}) E → Result X F → Result X F
then wrap (Ok u) next = next
then wrap (Err e) next = Err (wrap e)

abbrev pub wrapped : {E F X : Type 0} → (E → F) → Result X E → Result X F
wrapped wrap (Ok x) = Ok x
wrapped wrap (Err e) = Err (wrap e)

-- listing numbers one by one after those of xs, where memory does not fail
abbrev pub list_answer : List ℕ → List ℕ → Result (Unit {0}) DefectFault
list_answer xs [] = Ok tt
list_answer xs (n ∷ ns) = then (λ f. f) (defects.listing true xs n) (list_answer (xs ++ n ∷ []) ns)

-- restoring under a defect list: the list is checked first, where memory does not fail
abbrev pub listed_answer : List ℕ → Store → Store → Result ℕ StackFault
listed_answer ns s d = then OfDefects (list_answer [] ns) (wrapped OfRestore (restores.restore_answer s (defects.masked ns d)))

-- the unit of a stripe is checked before that
abbrev pub stack_answer : ℕ → List ℕ → Store → Store → Store → Result ℕ StackFault
stack_answer u ns s a b = then OfUnit (stripes.unit_answer u) (listed_answer ns s (stripes.striped u a b))

-- whether an answer is not the want of memory
abbrev pub had_memory : Result ℕ StackFault → Bool
had_memory (Ok n) = true
had_memory (Err (OfUnit f)) = true
had_memory (Err (OfDefects f)) = defects.had_room (Err f)
had_memory (Err (OfRestore f)) = true

-- what a call answers that may also find no memory for the list
abbrev pub memory_or : Result ℕ StackFault → Result ℕ StackFault → Result ℕ StackFault
memory_or r given = cond (had_memory r) given (Err (OfDefects Memory))

-- the blocks after a restore that answered r
abbrev pub blocks_after : Result ℕ StackFault → Store → Store → (ℕ → List ℕ)
blocks_after r s d = cond (is_ok r) (restores.copied s.size s d).at d.at

-- the block of a stripe of unit u that lies at n of the first device, and at n of the second
abbrev pub first_block : ℕ → ℕ → ℕ
first_block u n = u * (2 * (n / u)) + n % u

abbrev pub second_block : ℕ → ℕ → ℕ
second_block u n = u * (2 * (n / u) + 1) + n % u

-- the blocks of a device after a restore of s onto the stripe that answered r, where `of n` is the stripe's number of its block n
abbrev pub side_after : Result ℕ StackFault → (ℕ → ℕ) → Store → Store → (ℕ → List ℕ)
side_after r of s d = cond (is_ok r) (λ n. cond (nat_lt (of n) s.size) (s.at (of n)) (d.at n)) d.at

abbrev pub first_after : Result ℕ StackFault → ℕ → Store → Store → (ℕ → List ℕ)
first_after r u s d = side_after r (first_block u) s d

abbrev pub second_after : Result ℕ StackFault → ℕ → Store → Store → (ℕ → List ℕ)
second_after r u s d = side_after r (second_block u) s d

-- bytes are told by their blocks, those past the last whole one included: no other bytes have the same
abbrev pub BlocksTell : Type 0
BlocksTell = (xs ys : List ℕ) → (of_bytes xs).at ≡ (of_bytes ys).at → xs ≡ ys
