-- Whether a read can tell two devices apart.
use Rattle.std.specs.Prelude.{ℕ, Bool, cond, not, ◌&&◌, ◌==◌}
use Rattle.std.specs.Str.{bytes_eq}
use Rattle.device.specs.Below.{all_below}
use Rattle.device.specs.Store.{Store}

-- block b is defective in both, or sound in both with the same bytes
abbrev pub same_block : Store → Store → ℕ → Bool
same_block s t b = cond (s.sound b) (t.sound b && bytes_eq (s.at b) (t.at b)) (not (t.sound b))

abbrev pub same_devices : Store → Store → Bool
same_devices s t = s.size == t.size && all_below (same_block s t) s.size
