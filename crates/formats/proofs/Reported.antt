-- The lines of a report written one after another.
use Rattle.std.proofs.Common.{◌≡◌, ℕ, ◌+◌, ◌-◌, ◌^◌, ◌<◌, ◌≤◌, min, nat_le, None, List, length, get_or, drop, codes, sym, ap, subst, ◌∙◌, inl, inr, arith, length-append}
use Rattle.std.specs.Bool.{then_some}
use Rattle.std.proofs.lemmas.Bool.{lt-leb, cases_lt}
use Rattle.std.proofs.lemmas.List.{drop_more, drop_all}
use Rattle.formats.specs.declared.report.LevelTally.{LevelTally}
use Rattle.formats.specs.declared.report.cursor.Cursor.{Cursor}
use Rattle.formats.specs.Reports.{level_line, level_lines, last_line, last_lines, report, Wrote}
use Rattle.formats.proofs.Placed.{wrote_next, wrote_none}

-- what stands past the last level
abbrev pub blank : LevelTally
blank = record { capacity = 0; hits = 0 }

wrote_as : {a b : List ℕ} {x y : Cursor} → a ≡ b → Wrote a x y → Wrote b x y
wrote_as {x = x} {y = y} e w = let P : List ℕ → Type 0 = λ t. Wrote t x y in subst P e w

-- the lines of the levels from index i on make all the lines
abbrev pub Left : List LevelTally → Cursor → ℕ → Cursor → Type 0
Left levels start i now = (end : Cursor) → Wrote (level_lines (i + 1) (drop i levels)) now end → Wrote (level_lines 1 levels) start end

module _ (levels : List LevelTally) (start : Cursor) (i : ℕ) (now : Cursor) (left : Left levels start i now) where
  pub left_more : i < length levels → (next : Cursor) → Wrote (level_line (i + 1) (get_or levels i blank)) now next → Left levels start (i + 1) next
  left_more h next w end v = left end (wrote_as (sym (ap (λ ls. level_lines (i + 1) ls) (drop_more levels i blank h))) (wrote_next w v))

  pub left_none : length levels ≤ i → Wrote (level_lines 1 levels) start now
  left_none h = left now (wrote_as (sym (ap (λ ls. level_lines (i + 1) ls) (drop_all i levels h))) (wrote_none now))

-- what is measured and what is left of the lines of the levels are as long as the whole, or both too long to count
abbrev pub Measured : ℕ → List LevelTally → ℕ → ℕ → Type 0
Measured total levels i at = (at < 2 ^ 64) × (min (at + length (level_lines (i + 1) (drop i levels))) (2 ^ 64 - 1) ≡ min total (2 ^ 64 - 1))

-- the last lines are measured first
pub measured_last : (levels : List LevelTally) (floor refused first second : ℕ)
    → first ≡ min (0 + length (last_line (codes "floor ") floor)) (2 ^ 64 - 1)
    → second ≡ min (first + length (last_line (codes "refused ") refused)) (2 ^ 64 - 1)
    → Measured (length (report levels floor refused)) levels 0 second
measured_last levels floor refused first second a b =
    let e = length-append (level_lines 1 levels) (last_lines floor refused) in
    let f = length-append (last_line (codes "floor ") floor) (last_line (codes "refused ") refused) in
    (omega (arith, b), omega (arith, a, b, e, f))

module _ (total : ℕ) (levels : List LevelTally) (i at : ℕ) (measured : Measured total levels i at) where
  lines_length : i < length levels → length (level_lines (i + 1) (drop i levels)) ≡ length (level_line (i + 1) (get_or levels i blank)) + length (level_lines ((i + 1) + 1) (drop (i + 1) levels))
  lines_length h =
      ap (λ ls. length (level_lines (i + 1) ls)) (drop_more levels i blank h)
      ∙ length-append (level_line (i + 1) (get_or levels i blank)) (level_lines ((i + 1) + 1) (drop (i + 1) levels))

  pub measured_more : i < length levels → (next : ℕ) → next ≡ min (at + length (level_line (i + 1) (get_or levels i blank))) (2 ^ 64 - 1) → Measured total levels (i + 1) next
  measured_more h next e = let l = lines_length h in let m = measured.1 in (omega (arith, e), omega (arith, e, l, m))

  past : (room : ℕ) → room < 2 ^ 64 - 1 → room < at → room < total
  past room small over = let m = measured.1 in omega (arith, m)

  pub measured_past : (room : ℕ) → room < 2 ^ 64 - 1 → room < at → None ≡ then_some (nat_le total room) total
  measured_past room small over = rw (lt-leb total room (past room small over))

  all : length levels ≤ i → (room : ℕ) → room < 2 ^ 64 - 1 → at ≤ room → at ≡ total
  all h room small within =
      let l = ap (λ ls. length (level_lines (i + 1) ls)) (drop_all i levels h) in
      let m = measured.1 in
      omega (arith, l, m)

  pub measured_all : length levels ≤ i → (room : ℕ) → room < 2 ^ 64 - 1 → then_some (nat_le at room) at ≡ then_some (nat_le total room) total
  measured_all h room small =
      elim (cases_lt room at) [
        | inl l ↦ rw (lt-leb at room l) (measured_past room small l)
        | inr l ↦ ap (λ n. then_some (nat_le n room) n) (all h room small l)
      ]
