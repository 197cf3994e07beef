-- What a run of calls on a tier tells, and what it leaves on the device.
use Rattle.std.specs.Prelude.{◌≡◌, ℕ, cond, List, ◌++◌, map, is_ok, Ok, Err, Result}
use Rattle.device.specs.Store.{Store}
use Rattle.pile.specs.Bare.{bare, bare_after}
use Rattle.pile.specs.Piles.{Call, sync, mounted, stepped, after}
use Rattle.pile.specs.Tallies.{hits_of}
use Rattle.tier.specs.Models.{Model}
use Rattle.replaying.specs.declared.fault.ReplayFault.{ReplayFault}
use Rattle.replaying.specs.declared.fault.ReplayFault.TheVariants.{Memory}
use Rattle.replaying.specs.declared.running.Outcome.{Outcome}
use Rattle.replaying.specs.Layouts.{empty_row}
use Rattle.replaying.specs.Runs.{refusals}

-- the tallies and refusals of these calls on a tier
pub record Tells (o : Outcome) (cs : List Call) (m : Model) : Type 0 where
  pub hits : hits_of o.tallies ≡ (after cs (mounted m)).hits
  pub floor : o.tallies.floor ≡ (after cs (mounted m)).floor
  pub refused : o.refused ≡ refusals cs (mounted m)

-- the stored blocks after the calls and a sync
abbrev pub synced_store : List Call → Model → Store
synced_store cs m = (stepped sync (after cs (mounted m))).tier.store

-- more empty levels on top of a tier
abbrev pub stacked : List ℕ → Model → Model
stacked cs m = record { store = m.store; rows = map empty_row cs ++ m.rows }

-- only memory can be wanting
abbrev pub TellsOr : Result Outcome ReplayFault → List Call → Model → Type 0
TellsOr (Ok o) cs m = Tells o cs m
TellsOr (Err f) cs m = f ≡ Memory

-- the blocks of a device after these calls, if they were run: as if each accepted write had gone straight to it
abbrev pub blocks_after : {X : Type 0} → Result X ReplayFault → List Call → Store → (ℕ → List ℕ)
blocks_after r cs s = cond (is_ok r) (bare_after cs (bare s)).store.at s.at
