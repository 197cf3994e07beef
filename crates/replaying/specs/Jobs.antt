-- The run of a sheet's lines on its levels and defects, over the stored blocks of its images.
use Rattle.std.specs.Prelude.{ℕ, List, vec_items, Result}
use Rattle.device.specs.Store.{Store}
use Rattle.layers.specs.Defects.{masked}
use Rattle.replaying.specs.declared.fault.ReplayFault.{ReplayFault}
use Rattle.replaying.specs.declared.job.Job.{Job}
use Rattle.replaying.specs.declared.running.Outcome.{Outcome}
use Rattle.replaying.specs.Calls.{calls_of}
use Rattle.replaying.specs.Layouts.{tier_over}
use Rattle.replaying.specs.Outcomes.{TellsOr, blocks_after}

-- what it tells
abbrev pub JobTells : Job → Store → Result Outcome ReplayFault → Type 0
JobTells job s r = TellsOr r (calls_of job.body.now) (tier_over (vec_items job.sheet.now.levels) (masked (vec_items job.sheet.now.defects) s))

-- the blocks that it leaves
abbrev pub job_leaves : Job → Store → Result Outcome ReplayFault → (ℕ → List ℕ)
job_leaves job s r = blocks_after r (calls_of job.body.now) (masked (vec_items job.sheet.now.defects) s)
