-- The numbers of a tier's refusals, and what a demotion answers.
use Rattle.std.specs.Prelude.{ℕ, cond, List, ◌++◌, Some, None, Ok, Err, Option, Result, ◌==◌, codes, decimal}
use Rattle.device.specs.Refusals.{number_of}
use Rattle.tier.specs.declared.faults.DemoteFault.{DemoteFault}
use Rattle.tier.specs.declared.faults.DemoteFault.TheVariants.{Length as OfLength, Dropped as OfDropped}
use Rattle.tier.specs.declared.faults.Dropped.{Dropped}
use Rattle.tier.specs.declared.faults.LiftFault.{LiftFault}
use Rattle.tier.specs.declared.faults.LiftFault.TheVariants.{Length}
use Rattle.tier.specs.declared.victim.Victim.{Victim}
use Rattle.tier.specs.Demotions.{raised, told_drop}

abbrev pub lift_number_of : LiftFault → ℕ
lift_number_of Length = 1

abbrev pub dropped_number_of : Dropped → ℕ
dropped_number_of d = 5

-- what is printed of it: the block, the refusal inside it, and the level
abbrev pub dropped_text : Dropped → Option (List ℕ)
dropped_text d = Some (codes "block " ++ (decimal d.block ++ (codes ", inside " ++ (decimal (number_of d.fault) ++ (codes ", level " ++ decimal d.level)))))

abbrev pub fault_number_of : DemoteFault → ℕ
fault_number_of (OfLength v) = 1
fault_number_of (OfDropped d) = dropped_number_of d

abbrev pub fault_raised : DemoteFault → DemoteFault
fault_raised (OfLength v) = OfLength v
fault_raised (OfDropped d) = OfDropped (told_drop (raised d))

-- what a demotion answers, by what became of it
abbrev pub dropped_answer : Option Dropped → Result (Unit {0}) DemoteFault
dropped_answer None = Ok tt
dropped_answer (Some d) = Err (OfDropped (told_drop d))

abbrev pub demote_answer : Victim → ℕ → Option Dropped → Result (Unit {0}) DemoteFault
demote_answer v len dropped = cond (len == 256) (dropped_answer dropped) (Err (OfLength v))

-- the answer of the tier below, seen from one level higher
abbrev pub raised_answer : Result (Unit {0}) DemoteFault → Result (Unit {0}) DemoteFault
raised_answer (Ok u) = Ok tt
raised_answer (Err f) = Err (fault_raised f)

-- what a sync answers
abbrev pub sync_answer : Option Dropped → Result (Unit {0}) Dropped
sync_answer None = Ok tt
sync_answer (Some d) = Err (told_drop d)
