-- The laws, from what every run keeps.
use Rattle.std.proofs.Common.{◌≡◌, List, [], ◌∷◌, ◌++◌, take, sym, refl, ap, ◌∙◌}
use Rattle.std.proofs.lemmas.List.{take-map, take-take}
use Rattle.tier.specs.Models.{Model}
use Rattle.pile.specs.Bare.{bare, bare_after}
use Rattle.pile.specs.Laws.{Mountable, Transparent, Stored, Recent, Counted, Tallied, Promised, trail_of}
use Rattle.pile.specs.Piles.{Pile, Call, sync, mounted, after, stepped}
use Rattle.pile.specs.Recency.{once, within, flat, numbers, room}
use Rattle.pile.proofs.Recents.{flat_take, same_room}
use Rattle.pile.proofs.Runs.{run_kept, run_answers, mount_kept, sync_stored}
use Rattle.pile.proofs.Touches.{Inv, room_take}

pub after_last : (cs : List Call) (c : Call) (p : Pile) → after (cs ++ c ∷ []) p ≡ stepped c (after cs p)
after_last [] c p = refl
after_last (x ∷ cs) c p = after_last cs c (stepped x p)

module _ (m : Model) (ok : Mountable m) where
  kept : (cs : List Call) → Inv m (after cs (mounted m)) (bare_after cs (bare m.store))
  kept cs = run_kept m cs (mounted m) (bare m.store) (mount_kept m ok)

  pub transparent : Transparent m
  transparent cs = run_answers m cs (mounted m) (bare m.store) (mount_kept m ok)

  pub stored : Stored m
  stored cs = ap (λ p. p.tier.store) (after_last cs sync (mounted m)) ∙ sync_stored m (after cs (mounted m)) (bare_after cs (bare m.store)) (kept cs)

  pub recent : Recent m
  recent cs j =
      ap numbers (flat_take (after cs (mounted m)).tier.rows j (kept cs).packed)
      ∙ (sym (take-map (λ x. x.number) (room (take j (after cs (mounted m)).tier.rows)) (flat (after cs (mounted m)).tier.rows))
      ∙ (ap (λ xs. take (room (take j (after cs (mounted m)).tier.rows)) xs) (kept cs).recent
      ∙ (take-take (room (take j (after cs (mounted m)).tier.rows)) (room (after cs (mounted m)).tier.rows) (once (trail_of cs m.store)) (room_take j (after cs (mounted m)).tier.rows)
      ∙ ap (λ n. take n (once (trail_of cs m.store))) (same_room (after cs (mounted m)).tier.rows m.rows j (kept cs).same_caps))))

  pub counted : Counted m
  counted cs j = (kept cs).served j ∙ ap (λ n. within n (trail_of cs m.store)) (same_room (after cs (mounted m)).tier.rows m.rows j (kept cs).same_caps)

  pub tallied : Tallied m
  tallied cs = (kept cs).all

  pub promised : Promised m
  promised = record { transparent = transparent; stored = stored; recent = recent; counted = counted; tallied = tallied }
