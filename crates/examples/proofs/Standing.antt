-- Where a run of reads ends, from the laws of a mounted tier.
use Rattle.std.proofs.Common.{◌≡◌, ℕ, ◌+◌, ◌<◌, ◌≤◌, true, List, [], ◌∷◌, reverse, length, take, sym, refl, ap, ◌∙◌, subst, arith}
use mathlib.Core.List.{reverse-cons}
use Rattle.std.specs.List.{AllByRecursion as All}
use Rattle.std.proofs.ByRecursion.{All-append, All-weaker}
use Rattle.std.proofs.lemmas.List.{reverse-reverse, length-reverse, length-map}
use Rattle.device.specs.Store.{Store, Lawful}
use Rattle.tier.specs.Models.{Model, LawfulRow}
use Rattle.pile.specs.Bare.{bare, bare_after}
use Rattle.pile.specs.Laws.{Mountable, trail_of}
use Rattle.pile.specs.Piles.{mounted}
use Rattle.pile.specs.Reads.{reads_of}
use Rattle.pile.specs.Recency.{once, within, flat, room, total}
use Rattle.pile.proofs.Promised.{recent, counted, tallied}
use Rattle.pile.proofs.Runs.{run_kept, mount_kept}
use Rattle.pile.proofs.Sums.{reads_turned, reads_trail}
use Rattle.pile.proofs.Touches.{Inv, same_count}
use Rattle.examples.specs.Examples.{names_of}
use Rattle.examples.specs.Runs.{empty_rows, run, RunStands}
use Rattle.examples.proofs.Pieces.{pieces, shares, rows_pieces, hits_shares}

all_reverse : {X : Type 0} (P : X → Type 0) (xs : List X) → All P xs → All P (reverse xs)
all_reverse P [] h = tt
all_reverse P (x ∷ xs) h = subst (All P) (sym (reverse-cons x xs)) (All-append P (reverse xs) (x ∷ []) (all_reverse P xs h.1) (h.0, tt))

empty_lawful : (cs : List ℕ) → All (λ c. c ≤ 65536) cs → All LawfulRow (empty_rows cs)
empty_lawful [] h = tt
empty_lawful (c ∷ cs) h = (record { bounded = h.0; short = omega arith; once = refl; whole = tt }, empty_lawful cs h.1)

empty_flat : (cs : List ℕ) → flat (empty_rows cs) ≡ []
empty_flat [] = refl
empty_flat (c ∷ cs) = empty_flat cs

-- no room serves no touch
within_zero : (bs : List ℕ) → within 0 bs ≡ 0
within_zero [] = refl
within_zero (b ∷ bs) = omega (arith, within_zero bs)

-- the trail of reads of sound blocks
reads_make : (s : Store) → Lawful s → (bs : List ℕ) → All (λ b. s.sound b ≡ true) bs → length bs ≤ 4000000000 → trail_of (reads_of bs) s ≡ reverse bs
reads_make s l bs h few =
    ap (λ xs. trail_of (reads_of xs) s) (sym (reverse-reverse bs))
    ∙ (ap (λ cs. trail_of cs s) (reads_turned (reverse bs))
    ∙ ap (λ d. d.trail) (reads_trail s (reverse bs) (all_reverse (λ b. (b < s.size) × (s.sound b ≡ true)) bs (All-weaker (λ b. s.sound b ≡ true) (λ b. (b < s.size) × (s.sound b ≡ true)) (λ b k. (l.there b k, k)) bs h)) (omega (arith, length-reverse bs))))

module _ (cs bs : List ℕ) (bounded : All (λ c. c ≤ 65536) cs) (few : length bs ≤ 4000000000) (s : Store) (l : Lawful s) (sound : All (λ b. s.sound b ≡ true) bs) where
  abbrev tier : Model
  tier = record { store = s; rows = empty_rows cs }

  mountable : Mountable tier
  mountable = record { lawful = record { store = l; rows = empty_lawful cs bounded }; empty = empty_flat cs }

  kept : Inv tier (run cs bs s) (bare_after (reads_of bs) (bare s))
  kept = run_kept tier (reads_of bs) (mounted tier) (bare s) (mount_kept tier mountable)

  made : trail_of (reads_of bs) s ≡ reverse bs
  made = reads_make s l bs sound few

  as_many_rows : length (run cs bs s).tier.rows ≡ length cs
  as_many_rows = same_count (run cs bs s).tier.rows (empty_rows cs) kept.same_caps ∙ length-map cs (λ c. record { capacity = c; entries = [] })

  -- each row names its piece of the blocks in order of recency
  named : names_of (run cs bs s).tier.rows ≡ pieces cs (once (reverse bs))
  named = rows_pieces cs (once (reverse bs)) (run cs bs s).tier.rows as_many_rows (λ j. recent tier mountable (reads_of bs) j ∙ ap (λ t. take (room (take j (empty_rows cs))) (once t)) made)

  -- each level serves what its room serves beyond the levels above it
  served : (run cs bs s).hits ≡ shares cs 0 (reverse bs)
  served = hits_shares cs 0 (reverse bs) (run cs bs s).hits (kept.many ∙ as_many_rows) sums
    where
      sums : (j : ℕ) → total (take j (run cs bs s).hits) + within 0 (reverse bs) ≡ within (0 + room (take j (empty_rows cs))) (reverse bs)
      sums j =
          let k : 0 + room (take j (empty_rows cs)) ≡ room (take j (empty_rows cs)) = omega arith in
          omega (arith, counted tier mountable (reads_of bs) j ∙ ap (λ t. within (room (take j (empty_rows cs))) t) made, within_zero (reverse bs), ap (λ m. within m (reverse bs)) k)

  -- and the levels and the floor every touch
  all_served : total (run cs bs s).hits + (run cs bs s).floor ≡ length bs
  all_served = tallied tier mountable (reads_of bs) ∙ (ap length made ∙ length-reverse bs)

-- a run ends in what computes from its capacities and its touches alone
pub stands : (cs bs : List ℕ) (names : List (List ℕ)) (hits : List ℕ) (floor : ℕ) → All (λ c. c ≤ 65536) cs → length bs ≤ 4000000000
    → pieces cs (once (reverse bs)) ≡ names → shares cs 0 (reverse bs) ≡ hits → total hits + floor ≡ length bs → RunStands cs bs names hits floor
stands cs bs names hits floor bounded few p q n s l sound =
    let served_is : (run cs bs s).hits ≡ hits = served cs bs bounded few s l sound ∙ q in
    record {
      named = named cs bs bounded few s l sound ∙ p;
      served = served_is;
      missed = omega (arith, all_served cs bs bounded few s l sound, ap total served_is, n);
    }
