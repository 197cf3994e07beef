-- What the lists of a lawful sheet keep to.
use Rattle.std.specs.Prelude.{ℕ, ◌<◌, ◌≤◌, List, length, slice_index}

-- up to four capacities from 1 to 16
pub record Capacities (cs : List ℕ) : Type 0 where
  pub few : length cs ≤ 4
  pub each : (k : ℕ) → k < length cs → (1 ≤ slice_index cs k) × (slice_index cs k ≤ 16)

-- up to sixteen rising numbers
pub record Rising (ns : List ℕ) : Type 0 where
  pub few : length ns ≤ 16
  pub each : (j k : ℕ) → j < k → k < length ns → slice_index ns j < slice_index ns k
