-- The worked examples by computing, and the worked runs by the laws.
use Rattle.std.proofs.Common.{[], ◌∷◌, refl, lit≤}
use Rattle.examples.specs.Examples.{ExamplesHold}
use Rattle.examples.specs.Runs.{RunsStand, some_touches}
use Rattle.examples.proofs.Standing.{stands}

pub worked : ExamplesHold
worked = (refl, (refl, (refl, (refl, (refl, (refl, (refl, (refl, (refl, tt)))))))))

pub worked_runs : RunsStand
worked_runs = (
  stands (2 ∷ (3 ∷ [])) some_touches _ _ _ (lit≤ tt, (lit≤ tt, tt)) (lit≤ tt) refl refl refl,
  (
    stands (5 ∷ []) some_touches _ _ _ (lit≤ tt, tt) (lit≤ tt) refl refl refl,
    (stands (3 ∷ (2 ∷ [])) some_touches _ _ _ (lit≤ tt, (lit≤ tt, tt)) (lit≤ tt) refl refl refl, tt),
  ),
)
