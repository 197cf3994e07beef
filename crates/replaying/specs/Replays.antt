-- What a replay answers, and what it leaves in the images.
use Rattle.std.specs.Prelude.{ℕ, Bool, true, false, cond, List, [], ◌∷◌, Ok, Err, Result}
use Rattle.device.specs.Bytes.{of_bytes}
use Rattle.formats.specs.declared.report.LevelTally.{LevelTally}
use Rattle.formats.specs.declared.sheet.SheetFault.{SheetFault}
use Rattle.formats.specs.declared.trace.TraceFault.{TraceFault}
use Rattle.formats.specs.Sheets.{Listed, sheet_of}
use Rattle.formats.specs.Traces.{judged}
use Rattle.pile.specs.Bare.{bare, bare_after}
use Rattle.pile.specs.Piles.{Call, mounted, after}
use Rattle.tier.specs.Models.{Model}
use Rattle.replaying.specs.declared.fault.ReplayFault.{ReplayFault}
use Rattle.replaying.specs.declared.fault.ReplayFault.TheVariants.{Sheet as OfSheet, Trace as OfTrace, Memory}
use Rattle.replaying.specs.Calls.{calls_of}
use Rattle.replaying.specs.Layouts.{device_of, tier_of, first_of, second_of}
use Rattle.replaying.specs.Runs.{refusals}

-- each level's capacity beside its hits, of which there are as many
abbrev pub level_tallies : List ℕ → List ℕ → List LevelTally
level_tallies [] hits = []
level_tallies (c ∷ cs) [] = record { capacity = c; hits = 0 } ∷ level_tallies cs []
level_tallies (c ∷ cs) (h ∷ hs) = record { capacity = c; hits = h } ∷ level_tallies cs hs

-- what a replay tells
pub record Told : Type 0 where
  pub levels : List LevelTally
  pub floor : ℕ
  pub refused : ℕ

-- of a list of calls on a tier with levels of these capacities
abbrev pub told_of : List ℕ → List Call → Model → Told
told_of capacities cs m = record {
  levels = level_tallies capacities (after cs (mounted m)).hits;
  floor = (after cs (mounted m)).floor;
  refused = refusals cs (mounted m);
}

-- what the sheet lists and the lines of the trace; the sheet is checked first
abbrev pub both : Result Listed SheetFault → Result (List ℕ) TraceFault → Result (Listed × List ℕ) ReplayFault
both (Err f) t = Err (OfSheet f)
both (Ok l) (Err f) = Err (OfTrace f)
both (Ok l) (Ok body) = Ok (l, body)

abbrev pub plan_of : List ℕ → List ℕ → Result (Listed × List ℕ) ReplayFault
plan_of sheet trace = both (sheet_of sheet) (judged trace)

abbrev pub answer_by : Result (Listed × List ℕ) ReplayFault → List ℕ → List ℕ → Result Told ReplayFault
answer_by (Err f) first second = Err f
answer_by (Ok p) first second = Ok (told_of p.0.levels (calls_of p.1) (tier_of p.0 first second))

abbrev pub replay_answer : List ℕ → List ℕ → List ℕ → List ℕ → Result Told ReplayFault
replay_answer sheet first second trace = answer_by (plan_of sheet trace) first second

-- what the bare device holds after the calls: every accepted write has gone straight to it
abbrev pub left_on : Listed → List ℕ → List ℕ → List ℕ → (ℕ → List ℕ)
left_on l first second body = (bare_after (calls_of body) (bare (device_of l first second))).store.at

-- the blocks of the two images after it; a refusal leaves both
abbrev pub first_left : Result (Listed × List ℕ) ReplayFault → List ℕ → List ℕ → (ℕ → List ℕ)
first_left (Err f) first second = (of_bytes first).at
first_left (Ok p) first second = first_of p.0.images (left_on p.0 first second p.1)

abbrev pub second_left : Result (Listed × List ℕ) ReplayFault → List ℕ → List ℕ → (ℕ → List ℕ)
second_left (Err f) first second = (of_bytes second).at
second_left (Ok p) first second = second_of p.0.images (of_bytes second).at (left_on p.0 first second p.1)

-- whether an answer is not the want of memory
abbrev pub had_memory : {X : Type 0} → Result X ReplayFault → Bool
had_memory (Ok x) = true
had_memory (Err (OfSheet f)) = true
had_memory (Err (OfTrace f)) = true
had_memory (Err Memory) = false

-- what a call answers that may also find no memory
abbrev pub memory_or : {X Y : Type 0} → Result X ReplayFault → Result Y ReplayFault → Result Y ReplayFault
memory_or r given = cond (had_memory r) given (Err Memory)
