-- The tallies of the first levels, one after another.
use Rattle.std.proofs.Common.{◌≡◌, ℕ, zero, suc, ◌+◌, ◌-◌, ◌<◌, cond, List, [], ◌∷◌, ◌++◌, length, get_or, take, Some, unwrap_or, sym, refl, ap, ◌∙◌, arith}
use Rattle.std.proofs.lemmas.Bool.{ne_eqb}
use Rattle.formats.specs.declared.report.LevelTally.{LevelTally}
use Rattle.tier.specs.Questions.{nth}
use Rattle.replaying.specs.Replays.{level_tallies}

abbrev at_place : List ℕ → List ℕ → ℕ → LevelTally
at_place cs hs i = record { capacity = get_or cs i 0; hits = unwrap_or (nth hs (suc i)) 0 }

nth_later : (h : ℕ) (hs : List ℕ) (i : ℕ) → nth (h ∷ hs) (suc (suc i)) ≡ nth hs (suc i)
nth_later h hs i =
    let e : suc (suc i) - 1 ≡ suc i = omega arith in ap (λ t. cond t (Some h) (nth hs (suc (suc i) - 1))) (ne_eqb (suc (suc i)) 1 (λ q. omega arith)) ∙ ap (λ k. nth hs k) e

more : (cs hs : List ℕ) (i : ℕ) → i < length cs → level_tallies (take (suc i) cs) hs ≡ level_tallies (take i cs) hs ++ at_place cs hs i ∷ []
more [] hs i l = absurd (omega arith)
more (c ∷ cs) [] zero l = refl
more (c ∷ cs) (h ∷ hs) zero l = refl
more (c ∷ cs) [] (suc i) l = ap (λ ts. record { capacity = c; hits = 0 } ∷ ts) (more cs [] i (omega arith))
more (c ∷ cs) (h ∷ hs) (suc i) l =
    ap (λ ts. record { capacity = c; hits = h } ∷ ts) (more cs hs i (omega arith)
    ∙ ap (λ o. level_tallies (take i cs) hs ++ record { capacity = get_or cs i 0; hits = unwrap_or o 0 } ∷ []) (sym (nth_later h hs i)))

-- one level more
pub tallied_more : (cs hs : List ℕ) (i : ℕ) → i < length cs
    → level_tallies (take (i + 1) cs) hs ≡ level_tallies (take i cs) hs ++ record { capacity = get_or cs i 0; hits = unwrap_or (nth hs (i + 1)) 0 } ∷ []
tallied_more cs hs i l = let e : i + 1 ≡ suc i = omega arith in rw e (more cs hs i l)
