-- The tallies of the levels: a touch counts for the first j levels exactly where they have its block.
use Rattle.std.proofs.Common.{◌≡◌, ℕ, zero, suc, ◌+◌, ◌<◌, Bool, true, false, cond, ◌||◌, eqb, List, [], ◌∷◌, ◌++◌, length, take, replicate, Some, None, Option, sym, refl, ap, ◌∙◌, inl, inr, arith}
use Rattle.std.specs.Option.{option_map}
use Rattle.std.proofs.lemmas.Bool.{or_parts}
use Rattle.row.specs.Entries.{Entry, find_entry as look, RowModel}
use Rattle.tier.specs.Lifts.{Found, found, deeper, or_below}
use Rattle.pile.specs.Piles.{add_at}
use Rattle.pile.specs.Recency.{flat, total}
use Rattle.pile.proofs.Entries.{names, option_cases, look_none, look_some, names_left}

-- the tallies of the levels after a touch
abbrev pub hit : Option Found → List ℕ → List ℕ
hit None hs = hs
hit (Some f) hs = add_at f.level hs

abbrev one_if : Bool → ℕ
one_if t = cond t 1 0

add_deeper : (n h : ℕ) (hs : List ℕ) → 0 < n → add_at (n + 1) (h ∷ hs) ≡ h ∷ add_at n hs
add_deeper zero h hs l = absurd (omega arith)
add_deeper (suc n) h hs l = let e : suc n + 1 ≡ suc (suc n) = omega arith in rw e

found_level : (b : ℕ) (rs : List RowModel) (f : Found) → found b rs ≡ Some f → 0 < f.level
found_level b [] f h = absurd (let z : ◌≡◌ {A = ℕ} 0 1 = cc in omega arith)
found_level b (r ∷ rs) f h = top (look b r.entries) (found b rs) refl h (λ g e. found_level b rs g e)
  where
    top : (o : Option Entry) (q : Option Found) → found b rs ≡ q → or_below o q ≡ Some f → ((g : Found) → found b rs ≡ Some g → 0 < g.level) → 0 < f.level
    top (Some e) q k h go = let x : 1 ≡ f.level = (let y : record { level = 1; entry = e } ≡ f = cc in ap (λ z. z.level) y) in omega (arith, x)
    top None None k h go = absurd (let z : ◌≡◌ {A = ℕ} 0 1 = cc in omega arith)
    top None (Some g) k h go = let x : g.level + 1 ≡ f.level = (let y : deeper g ≡ f = cc in ap (λ z. z.level) y) in omega (arith, x)

hit_deeper : (q : Option Found) (h : ℕ) (hs : List ℕ) → ((g : Found) → q ≡ Some g → 0 < g.level) → hit (option_map deeper q) (h ∷ hs) ≡ h ∷ hit q hs
hit_deeper None h hs pos = refl
hit_deeper (Some g) h hs pos = add_deeper g.level h hs (pos g refl)

pub names_right : (b : ℕ) (xs ys : List Entry) → names b xs ≡ false → names b (xs ++ ys) ≡ names b ys
names_right b [] ys h = refl
names_right b (x ∷ xs) ys h = let p = or_parts (eqb x.number b) (names b xs) h in ap (λ t. t || names b (xs ++ ys)) p.0 ∙ names_right b xs ys p.1

pub hits_count : (b : ℕ) (rs : List RowModel) (hs : List ℕ) (j : ℕ) → length hs ≡ length rs
    → total (take j (hit (found b rs) hs)) ≡ one_if (names b (flat (take j rs))) + total (take j hs)
hits_count b rs hs zero l = refl
hits_count b [] hs (suc j) l = omega arith
hits_count b (r ∷ rs) [] (suc j) l = absurd (omega arith)
hits_count b (r ∷ rs) (h ∷ hs) (suc j) l =
    elim (option_cases (look b r.entries)) [ inr k ↦ here k.0 k.1 | inl k ↦ below k (hits_count b rs hs j (omega arith)) ]
  where
    here : (e : Entry) → look b r.entries ≡ Some e
        → total (take (suc j) (hit (found b (r ∷ rs)) (h ∷ hs))) ≡ one_if (names b (flat (take (suc j) (r ∷ rs)))) + total (take (suc j) (h ∷ hs))
    here e k =
        let n : names b (r.entries ++ flat (take j rs)) ≡ true = names_left b r.entries (flat (take j rs)) (look_some b r.entries e k) in
        ap (λ o. total (take (suc j) (hit (or_below o (found b rs)) (h ∷ hs)))) k ∙ (omega arith ∙ ap (λ t. one_if t + (h + total (take j hs))) (sym n))

    below : look b r.entries ≡ None → total (take j (hit (found b rs) hs)) ≡ one_if (names b (flat (take j rs))) + total (take j hs)
        → total (take (suc j) (hit (found b (r ∷ rs)) (h ∷ hs))) ≡ one_if (names b (flat (take (suc j) (r ∷ rs)))) + total (take (suc j) (h ∷ hs))
    below k go =
        ap (λ o. total (take (suc j) (hit (or_below o (found b rs)) (h ∷ hs)))) k
        ∙ (ap (λ xs. total (take (suc j) xs)) (hit_deeper (found b rs) h hs (λ g e. found_level b rs g e))
        ∙ (ap (λ n. h + n) go ∙ (omega arith ∙ ap (λ t. one_if t + (h + total (take j hs))) (sym (names_right b r.entries (flat (take j rs)) (look_none b r.entries k))))))

length_add : (n : ℕ) (hs : List ℕ) → length (add_at n hs) ≡ length hs
length_add n [] = refl
length_add zero (h ∷ hs) = refl
length_add (suc zero) (h ∷ hs) = refl
length_add (suc (suc n)) (h ∷ hs) = ap suc (length_add (suc n) hs)

pub length_hit : (o : Option Found) (hs : List ℕ) → length (hit o hs) ≡ length hs
length_hit None hs = refl
length_hit (Some f) hs = length_add f.level hs

pub no_hits : (n j : ℕ) → total (take j (replicate n 0)) ≡ 0
no_hits n zero = refl
no_hits zero (suc j) = refl
no_hits (suc n) (suc j) = omega (arith, no_hits n j)
