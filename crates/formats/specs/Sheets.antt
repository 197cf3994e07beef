-- A sheet: what its bytes list, or the first fault from the left.
use Rattle.std.specs.Prelude.{ℕ, zero, suc, ◌+◌, ◌-◌, ◌*◌, cond, ◌&&◌, List, [], ◌∷◌, length, take, drop, Ok, Err, codes, Result, ◌==◌, nat_le, nat_lt}
use Rattle.std.specs.Str.{bytes_eq}
use Rattle.formats.specs.declared.sheet.Images.{Images}
use Rattle.formats.specs.declared.sheet.Images.TheVariants.{Single, Striped}
use Rattle.formats.specs.declared.sheet.SheetFault.{SheetFault}
use Rattle.formats.specs.declared.sheet.SheetFault.TheVariants.{Cut, Broken, Extra, Memory}

-- the number of each refusal; want of memory has none of its own and is told as 0
abbrev pub number_of : SheetFault → ℕ
number_of (Cut o) = 13
number_of (Broken o) = 14
number_of (Extra o) = 15
number_of Memory = 0

-- what was read, and the bytes after it
abbrev pub Reading : Type 0 → Type 0
Reading X = Result (X × List ℕ) SheetFault

abbrev pub then : {X Y : Type 0} → Reading X → (X → List ℕ → Result Y SheetFault) → Result Y SheetFault
then (Ok p) f = f p.0 p.1
then (Err e) f = Err e

-- one byte from low to high, in a sheet of n bytes
abbrev pub byte_within : ℕ → ℕ → ℕ → List ℕ → Reading ℕ
byte_within n low high [] = Err (Cut n)
byte_within n low high (b ∷ rest) = cond (nat_le low b && nat_le b high) (Ok (b, rest)) (Err (Broken (n - suc (length rest))))

-- one number of two bytes, high byte first, not below the least that may stand there
abbrev pub number_from : ℕ → ℕ → List ℕ → Reading ℕ
number_from n least [] = Err (Cut n)
number_from n least (high ∷ []) = Err (Cut n)
number_from n least (high ∷ low ∷ rest) = cond (nat_le least (256 * high + low)) (Ok (256 * high + low, rest)) (Err (Broken (n - suc (suc (length rest)))))

-- k entries: what each is read by comes from the one before it
abbrev pub entries : (ℕ → List ℕ → Reading ℕ) → (ℕ → ℕ) → ℕ → ℕ → List ℕ → Reading (List ℕ)
entries read next from zero bytes = Ok ([], bytes)
entries read next from (suc k) bytes = then (read from bytes) (λ x rest. then (entries read next (next x) k rest) (λ xs after. Ok (x ∷ xs, after)))

-- a capacity of 1 to 16, whatever stood before it
abbrev pub capacity : ℕ → ℕ → List ℕ → Reading ℕ
capacity n from bytes = byte_within n 1 16 bytes

abbrev pub capacities : ℕ → ℕ → List ℕ → Reading (List ℕ)
capacities n k bytes = entries (capacity n) (λ x. 0) 0 k bytes

-- 0 to 4 levels
abbrev pub levels_of : ℕ → List ℕ → Reading (List ℕ)
levels_of n bytes = then (byte_within n 0 4 bytes) (λ k rest. capacities n k rest)

-- a single image has unit 1
abbrev pub single : ℕ → List ℕ → Reading Images
single n bytes = then (byte_within n 1 1 bytes) (λ u rest. Ok (Single, rest))

-- two have equal units of 1 to 64
abbrev pub striped : ℕ → List ℕ → Reading Images
striped n bytes = then (byte_within n 1 64 bytes) (λ u rest. then (byte_within n u u rest) (λ v after. Ok (Striped u, after)))

abbrev pub images_of : ℕ → List ℕ → Reading Images
images_of n bytes = then (byte_within n 1 2 bytes) (λ k rest. cond (k == 1) (single n rest) (striped n rest))

-- each number is greater than the one before it
abbrev pub rising : ℕ → ℕ → List ℕ → Reading (List ℕ)
rising n k bytes = entries (number_from n) (λ x. x + 1) 0 k bytes

-- 0 to 16 defects
abbrev pub defects_of : ℕ → List ℕ → Reading (List ℕ)
defects_of n bytes = then (byte_within n 0 16 bytes) (λ k rest. rising n k rest)

-- the four bytes that a sheet begins with
abbrev pub after_header : List ℕ → Result (List ℕ) SheetFault
after_header bytes = cond (nat_lt (length bytes) 4) (Err (Cut (length bytes))) (cond (bytes_eq (take 4 bytes) (codes "PILE")) (Ok (drop 4 bytes)) (Err (Broken 0)))

-- what a sheet lists
pub record Listed : Type 0 where
  pub levels : List ℕ
  pub images : Images
  pub defects : List ℕ

-- the three sections after the header
abbrev pub lists_of : ℕ → List ℕ → Reading Listed
lists_of n bytes =
    then (levels_of n bytes) (λ ls rest. then (images_of n rest) (λ is more. then (defects_of n more) (λ ds end. Ok (record { levels = ls; images = is; defects = ds }, end))))

-- nothing follows the last section
abbrev pub ended : ℕ → Listed → List ℕ → Result Listed SheetFault
ended n listed [] = Ok listed
ended n listed (b ∷ rest) = Err (Extra (n - suc (length rest)))

abbrev pub sections : ℕ → List ℕ → Result Listed SheetFault
sections n bytes = then (lists_of n bytes) (λ listed rest. ended n listed rest)

abbrev pub headed : ℕ → Result (List ℕ) SheetFault → Result Listed SheetFault
headed n (Ok rest) = sections n rest
headed n (Err e) = Err e

-- what a sheet lists, or its first fault
abbrev pub sheet_of : List ℕ → Result Listed SheetFault
sheet_of bytes = headed (length bytes) (after_header bytes)
