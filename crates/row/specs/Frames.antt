-- Frames: a block's bytes with its mark, and what a frame is after a write.
use Rattle.std.specs.Prelude.{ℕ, List, []}
use Rattle.row.specs.declared.frame.Frame.{Frame}
use Rattle.row.specs.declared.frame.Mark.{Mark}
use Rattle.row.specs.declared.frame.Mark.TheVariants.{Saved}

-- what is read past the last frame
abbrev pub blank : Frame
blank = record { bytes = []; mark = Saved }

abbrev pub filled : List ℕ → Mark → Frame
filled bytes mark = record { bytes = bytes; mark = mark }

abbrev pub saved_frame : Frame → Frame
saved_frame f = record { bytes = f.bytes; mark = Saved }
