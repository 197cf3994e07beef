-- What a replay's answer says, wherever its list lies.
use Rattle.std.specs.Prelude.{Ok, Err, vec_items, Result}
use Rattle.replaying.specs.declared.bytes.Replayed.{Replayed}
use Rattle.replaying.specs.declared.fault.ReplayFault.{ReplayFault}
use Rattle.replaying.specs.Replays.{Told}

abbrev pub seen : Result Replayed ReplayFault → Result Told ReplayFault
seen (Ok t) = Ok record { levels = vec_items t.levels; floor = t.floor; refused = t.refused }
seen (Err f) = Err f
