-- Levels over a floor: they can be mounted, and after a sync the device holds what it would hold without them.
use Rattle.std.proofs.Common.{◌≡◌, ℕ, suc, ◌<◌, ◌≤◌, false, List, [], ◌∷◌, map, length, get_or, sym, refl, ap, ◌∙◌, append-nil, arith}
use Rattle.std.specs.List.{AllByRecursion as All}
use Rattle.device.specs.Store.{Store, Lawful}
use Rattle.pile.specs.Bare.{bare, bare_after}
use Rattle.pile.specs.Laws.{Mountable}
use Rattle.pile.specs.Mounts.{has_entry}
use Rattle.pile.specs.Piles.{Call, sync, mounted}
use Rattle.pile.specs.Recency.{flat}
use Rattle.pile.proofs.Promised.{after_last, stored}
use Rattle.tier.specs.Floors.{floor_model}
use Rattle.tier.specs.Models.{LawfulRow}
use Rattle.replaying.specs.Layouts.{empty_row, tier_over}
use Rattle.replaying.specs.Bounds.{Capacities}
use Rattle.replaying.specs.Outcomes.{stacked, synced_store}

-- empty rows
no_entry : (cs : List ℕ) → has_entry (map empty_row cs) ≡ false
no_entry [] = refl
no_entry (c ∷ cs) = no_entry cs

flat_none : (cs : List ℕ) → flat (map empty_row cs) ≡ []
flat_none [] = refl
flat_none (c ∷ cs) = flat_none cs

as_many : (cs : List ℕ) → length (map empty_row cs) ≡ length cs
as_many [] = refl
as_many (c ∷ cs) = ap suc (as_many cs)

rows_lawful : (cs : List ℕ) → ((k : ℕ) → k < length cs → get_or cs k 0 ≤ 16) → All LawfulRow (map empty_row cs)
rows_lawful [] h = tt
rows_lawful (c ∷ cs) h = (record { bounded = omega (arith, h 0 (omega arith)); short = omega arith; once = refl; whole = tt }, rows_lawful cs (λ k l. h (suc k) (omega arith)))

module _ (cs : List ℕ) (s : Store) where
  pub on_floor : stacked cs (floor_model s) ≡ tier_over cs s
  on_floor = ap (λ rs. record { store = s; rows = rs }) (append-nil (map empty_row cs))

  mountable : Lawful s → Capacities cs → Mountable (tier_over cs s)
  mountable l c = record { lawful = record { store = l; rows = rows_lawful cs (λ k h. (c.each k h).1) }; empty = flat_none cs }

  pub floor_stored : Lawful s → Capacities cs → (k : List Call) → synced_store k (stacked cs (floor_model s)) ≡ (bare_after k (bare s)).store
  floor_stored l c k =
      ap (λ m. synced_store k m) on_floor ∙ (ap (λ p. p.tier.store) (sym (after_last k sync (mounted (tier_over cs s)))) ∙ stored (tier_over cs s) (mountable l c) k)
