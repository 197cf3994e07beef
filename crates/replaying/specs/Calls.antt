-- The calls that the lines of a trace stand for.
use Rattle.std.specs.Prelude.{◌≡◌, ℕ, List, [], ◌∷◌, length, replicate, Some, None, Ok, Err, Option, Result}
use Rattle.std.specs.Option.{unwrap_or}
use Rattle.formats.specs.declared.trace.TraceFault.{TraceFault}
use Rattle.formats.specs.Traces.{Said, read as said_read, write as said_write, sync as said_sync, said, lines, judged, number_in, fill_in}
use Rattle.pile.specs.Piles.{Call, read, write, sync}

-- the number and the byte of a field; a lawful line has no field without one
abbrev pub number_of : List ℕ → ℕ
number_of field = unwrap_or (number_in field) 0

abbrev pub fill_of : List ℕ → ℕ
fill_of field = unwrap_or (fill_in field) 0

-- a read into a block of zeros, a write of a block of equal bytes
abbrev pub call_of : Said → Call
call_of (said_read n) = read (number_of n) (replicate 256 0)
call_of (said_write n f) = write (number_of n) (replicate 256 (fill_of f))
call_of said_sync = sync

abbrev pub line_says : Option (List ℕ) → Option Said
line_says None = None
line_says (Some text) = said text

abbrev pub with_call : Option Said → List Call → List Call
with_call None cs = []
with_call (Some s) cs = call_of s ∷ cs

-- one call for each line, up to a line that is not lawful, which an accepted trace has not
abbrev pub calls_in : List (Option (List ℕ)) → List Call
calls_in [] = []
calls_in (l ∷ ls) = with_call (line_says l) (calls_in ls)

abbrev pub calls_of : List ℕ → List Call
calls_of body = calls_in (lines body)

-- an accepted trace has a call for each line after its first
abbrev pub OneEach : Result (List ℕ) TraceFault → Type 0
OneEach (Ok body) = length (calls_of body) ≡ length (lines body)
OneEach (Err f) = Unit {0}

abbrev pub EveryLine : List ℕ → Type 0
EveryLine trace = OneEach (judged trace)
