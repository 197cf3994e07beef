-- What the trace reader's answers say, whatever memory their fields lie in.
use Rattle.std.specs.Prelude.{◌≡◌, ℕ, List, ◌++◌, Some, None, Ok, Err, codes, decimal, Option, Result}
use Rattle.std.specs.Borrow.{Bor}
use Rattle.formats.specs.declared.trace.Line.{Line}
use Rattle.formats.specs.declared.trace.Line.TheVariants.{Read, Write, Sync}
use Rattle.formats.specs.declared.trace.TraceFault.{TraceFault}
use Rattle.formats.specs.declared.trace.TraceFault.TheVariants.{Broken}
use Rattle.formats.specs.declared.trace.lines.Lines.{Lines}
use Rattle.formats.specs.Traces.{Said, read, write, sync, first_line, number_of}

abbrev pub shown : Line → Said
shown (Read number) = read number.now
shown (Write number fill) = write number.now fill.now
shown Sync = sync

abbrev pub shown_line : Option Line → Option Said
shown_line None = None
shown_line (Some l) = Some (shown l)

abbrev pub shown_parts : Option (Bor (List ℕ) × Bor (List ℕ)) → Option (List ℕ × List ℕ)
shown_parts None = None
shown_parts (Some p) = Some (p.0.now, p.1.now)

abbrev pub shown_first : Option (Line × Bor (List ℕ)) → Option (Said × List ℕ)
shown_first None = None
shown_first (Some p) = Some (shown p.0, p.1.now)

abbrev pub shown_rest : Result (Bor (List ℕ)) TraceFault → Result (List ℕ) TraceFault
shown_rest (Ok r) = Ok r.now
shown_rest (Err e) = Err e

abbrev pub shown_taken : Option Line → Lines → Option (Said × List ℕ)
shown_taken None after = None
shown_taken (Some line) after = Some (shown line, after.rest.now)

-- the first line is taken and those after it are left; where none is, all is as it was
pub record TakesLine (before : Lines) (line : Option Line) (after : Lines) : Type 0 where
  pub taken : shown_taken line after ≡ first_line before.rest.now
  pub stays : line ≡ None → after.rest.now ≡ before.rest.now

-- a refusal's number and its line, in words
abbrev pub fault_text : TraceFault → Option (List ℕ)
fault_text (Broken line) = Some (decimal (number_of (Broken line)) ++ (codes " at " ++ decimal line))
