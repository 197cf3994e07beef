-- A store: the blocks of a device and which of them are sound.
use Rattle.std.specs.Prelude.{◌≡◌, ℕ, ◌<◌, ◌≤◌, Bool, true, cond, List, length, ◌==◌}

-- `size` is how many blocks there are, `at b` the bytes of block b, `sound b` whether b is a block that is not defective.
-- Past `size`, `at` stands for what a device keeps and never shows: a write leaves that too.
pub record Store : Type 0 where
  pub size : ℕ
  pub at : ℕ → List ℕ
  pub sound : ℕ → Bool

-- one block replaced
abbrev pub put : Store → ℕ → List ℕ → Store
put s b v = record { size = s.size; at = λ n. cond (n == b) v (s.at n); sound = s.sound }

pub record Lawful (s : Store) : Type 0 where
  pub few : s.size ≤ 1048576
  pub there : (b : ℕ) → s.sound b ≡ true → b < s.size
  pub whole : (b : ℕ) → b < s.size → length (s.at b) ≡ 256

-- two stores that no read can tell apart: as many blocks, the same bytes in each, the same ones defective
pub record Same (s t : Store) : Type 0 where
  pub size : s.size ≡ t.size
  pub at : (b : ℕ) → b < s.size → s.at b ≡ t.at b
  pub sound : (b : ℕ) → s.sound b ≡ t.sound b

-- all that a read can tell: as many blocks, the same ones defective, and the same bytes in each block that is not
pub record ReadAlike (s t : Store) : Type 0 where
  pub size : s.size ≡ t.size
  pub sound : (b : ℕ) → s.sound b ≡ t.sound b
  pub at : (b : ℕ) → b < s.size → s.sound b ≡ true → s.at b ≡ t.at b
