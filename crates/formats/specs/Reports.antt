-- A report: its bytes, and a buffer that they are written into.
use Rattle.std.specs.Prelude.{◌≡◌, ℕ, ◌+◌, ◌-◌, ◌^◌, ◌<◌, ◌≤◌, min, cond, List, [], ◌∷◌, ◌++◌, length, take, drop, Ok, Err, codes, decimal, Result, nat_le}
use Rattle.formats.specs.declared.report.LevelTally.{LevelTally}
use Rattle.formats.specs.declared.report.cursor.Cursor.{Cursor}
use Rattle.formats.specs.declared.report.ReportFault.{ReportFault}
use Rattle.formats.specs.declared.report.ReportFault.TheVariants.{Short}

abbrev pub number_of : ReportFault → ℕ
number_of Short = 17

-- a word and a number, in decimal without leading zeros
abbrev pub field : List ℕ → ℕ → List ℕ
field word n = word ++ decimal n

abbrev pub level_line : ℕ → LevelTally → List ℕ
level_line i l = ((field (codes "level ") i ++ field (codes " capacity ") l.capacity) ++ field (codes " hits ") l.hits) ++ (10 ∷ [])

-- a line for each level, counted from i
abbrev pub level_lines : ℕ → List LevelTally → List ℕ
level_lines i [] = []
level_lines i (l ∷ ls) = level_line i l ++ level_lines (i + 1) ls

abbrev pub last_line : List ℕ → ℕ → List ℕ
last_line word n = field word n ++ (10 ∷ [])

abbrev pub last_lines : ℕ → ℕ → List ℕ
last_lines floor refused = last_line (codes "floor ") floor ++ last_line (codes "refused ") refused

abbrev pub report : List LevelTally → ℕ → ℕ → List ℕ
report levels floor refused = level_lines 1 levels ++ last_lines floor refused

-- how long the report is, or that the buffer is shorter
abbrev pub report_answer : ℕ → List ℕ → Result ℕ ReportFault
report_answer room text = cond (nat_le (length text) room) (Ok (length text)) (Err Short)

-- a text written into a buffer from a place on, with all else as it was
abbrev pub placed : List ℕ → ℕ → List ℕ → List ℕ
placed text at buffer = take at buffer ++ (text ++ drop (at + length text) buffer)

-- the buffer after: the report in front and its own bytes after it, or as it was
abbrev pub report_buffer : List ℕ → List ℕ → List ℕ
report_buffer text buffer = cond (nat_le (length text) (length buffer)) (placed text 0 buffer) buffer

-- a cursor stands behind a text, and where its buffer had room for the text, the buffer holds it; the buffer is the same that was lent
pub record Wrote (text : List ℕ) (before after : Cursor) : Type 0 where
  pub stops : before.at < 2 ^ 64 → after.at ≡ min (before.at + length text) (2 ^ 64 - 1)
  pub bytes : before.at + length text ≤ length before.buffer.now → length before.buffer.now < 2 ^ 64 → after.buffer.now ≡ placed text before.at before.buffer.now
  pub same_reference : after.buffer.ghost_name ≡ before.buffer.ghost_name
