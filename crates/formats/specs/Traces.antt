-- A trace: its lines, which of them are lawful, and what they say.
use Rattle.std.specs.Prelude.{ℕ, ◌+◌, ◌-◌, ◌*◌, Bool, true, false, cond, not, ◌&&◌, ◌||◌, List, [], ◌∷◌, is_some, Some, None, Ok, Err, codes, Option, Result, ◌==◌, nat_le}
use Rattle.std.specs.Str.{bytes_eq}
use Rattle.formats.specs.declared.trace.TraceFault.{TraceFault}
use Rattle.formats.specs.declared.trace.TraceFault.TheVariants.{Broken}

abbrev pub number_of : TraceFault → ℕ
number_of (Broken line) = 16

abbrev pub within : ℕ → ℕ → ℕ → Bool
within low high c = nat_le low c && nat_le c high

-- the value of a decimal digit
abbrev pub digit : ℕ → Option ℕ
digit c = cond (within 48 57 c) (Some (c - 48)) None

-- the number that digits write after n
abbrev pub decimal_after : ℕ → List ℕ → ℕ
decimal_after n [] = n
decimal_after n (d ∷ ds) = decimal_after (10 * n + (d - 48)) ds

abbrev pub decimal : List ℕ → ℕ
decimal ds = decimal_after 0 ds

abbrev pub all_digits : List ℕ → Bool
all_digits [] = true
all_digits (d ∷ ds) = within 48 57 d && all_digits ds

-- at least one digit, and no zero before another
abbrev pub plain : List ℕ → Bool
plain [] = false
plain (d ∷ []) = true
plain (d ∷ e ∷ ds) = not (d == 48)

-- the number that digits write after n, if it is at most 65535
abbrev pub small_after : ℕ → List ℕ → Option ℕ
small_after n ds = cond (all_digits ds && nat_le (decimal_after n ds) 65535) (Some (decimal_after n ds)) None

-- the number of a field: decimal, without a leading zero, at most 65535
abbrev pub number_in : List ℕ → Option ℕ
number_in field = cond (plain field) (small_after 0 field) None

abbrev pub is_number : List ℕ → Bool
is_number field = is_some (number_in field)

abbrev pub is_hex : ℕ → Bool
is_hex c = within 48 57 c || within 97 102 c

abbrev pub hex : ℕ → ℕ
hex c = cond (nat_le 97 c) (c - 87) (c - 48)

-- the value of a digit of a byte
abbrev pub hex_digit : ℕ → Option ℕ
hex_digit c = cond (is_hex c) (Some (hex c)) None

-- a byte in two digits
abbrev pub fill_in : List ℕ → Option ℕ
fill_in [] = None
fill_in (h ∷ []) = None
fill_in (h ∷ l ∷ []) = cond (is_hex h && is_hex l) (Some (16 * hex h + hex l)) None
fill_in (h ∷ l ∷ m ∷ ms) = None

abbrev pub is_fill : List ℕ → Bool
is_fill field = is_some (fill_in field)

abbrev pub fronted : ℕ → Option (List ℕ × List ℕ) → Option (List ℕ × List ℕ)
fronted b None = None
fronted b (Some p) = Some (b ∷ p.0, p.1)

-- what stands before and after the first c
abbrev pub cut : ℕ → List ℕ → Option (List ℕ × List ℕ)
cut c [] = None
cut c (b ∷ bs) = cond (b == c) (Some ([], bs)) (fronted b (cut c bs))

-- a line by its fields
pub data Said : Type 0 where
  read : List ℕ → Said
  write : List ℕ → List ℕ → Said
  sync : Said

-- the fields after `R`: one space and a number
abbrev pub read_fields : List ℕ → Option Said
read_fields [] = None
read_fields (s ∷ number) = cond (s == 32 && is_number number) (Some (read number)) None

abbrev pub write_parts : Option (List ℕ × List ℕ) → Option Said
write_parts None = None
write_parts (Some p) = cond (is_number p.0 && is_fill p.1) (Some (write p.0 p.1)) None

-- the fields after `W`: one space, a number, one space and a byte
abbrev pub write_fields : List ℕ → Option Said
write_fields [] = None
write_fields (s ∷ rest) = cond (s == 32) (write_parts (cut 32 rest)) None

-- nothing stands after `S`
abbrev pub sync_fields : List ℕ → Option Said
sync_fields [] = Some sync
sync_fields (b ∷ bs) = None

-- what the text of a line says, if it is lawful
abbrev pub said : List ℕ → Option Said
said [] = None
said (letter ∷ fields) =
    cond (letter == 82) (read_fields fields) (cond (letter == 87) (write_fields fields) (cond (letter == 83) (sync_fields fields) None))

abbrev pub with_byte : ℕ → List (Option (List ℕ)) → List (Option (List ℕ))
with_byte b [] = None ∷ []
with_byte b (None ∷ ls) = None ∷ ls
with_byte b (Some l ∷ ls) = Some (b ∷ l) ∷ ls

-- the text of each line, and none for a last line that no byte 10 ends
abbrev pub lines : List ℕ → List (Option (List ℕ))
lines [] = []
lines (b ∷ bs) = cond (b == 10) (Some [] ∷ lines bs) (with_byte b (lines bs))

abbrev pub lawful_line : Option (List ℕ) → Bool
lawful_line None = false
lawful_line (Some text) = is_some (said text)

-- the first line that is not lawful, where so many lines stand before these
abbrev pub judged_after : ℕ → List (Option (List ℕ)) → Result (Unit {0}) TraceFault
judged_after before [] = Ok tt
judged_after before (l ∷ ls) = cond (lawful_line l) (judged_after (before + 1) ls) (Err (Broken (before + 1)))

abbrev pub is_header : List ℕ → Bool
is_header text = bytes_eq text (codes "demote-trace 1")

abbrev pub bodied : List ℕ → Result (Unit {0}) TraceFault → Result (List ℕ) TraceFault
bodied body (Ok u) = Ok body
bodied body (Err e) = Err e

abbrev pub judged_by : Option (List ℕ × List ℕ) → Result (List ℕ) TraceFault
judged_by None = Err (Broken 1)
judged_by (Some p) = cond (is_header p.0) (bodied p.1 (judged_after 1 (lines p.1))) (Err (Broken 1))

-- the lines after the header of a lawful trace, or the first line that breaks a rule
abbrev pub judged : List ℕ → Result (List ℕ) TraceFault
judged trace = judged_by (cut 10 trace)

abbrev pub beside : Option Said → List ℕ → Option (Said × List ℕ)
beside None rest = None
beside (Some s) rest = Some (s, rest)

abbrev pub said_first : Option (List ℕ × List ℕ) → Option (Said × List ℕ)
said_first None = None
said_first (Some p) = beside (said p.0) p.1

-- what the first line says, and the lines after it
abbrev pub first_line : List ℕ → Option (Said × List ℕ)
first_line rest = said_first (cut 10 rest)
