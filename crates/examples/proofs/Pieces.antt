-- Rows and hits from what their first few come to.
use Rattle.std.proofs.Common.{◌≡◌, ℕ, suc, ◌+◌, ◌-◌, List, [], ◌∷◌, ◌++◌, length, take, drop, sym, refl, ap, ◌∙◌, arith}
use Rattle.std.proofs.lemmas.List.{append-nil, append_cancel_left, map-append, take-append-drop, take-take, drop-take}
use Rattle.row.specs.Entries.{RowModel}
use Rattle.pile.specs.Recency.{within, flat, numbers, room, total}
use Rattle.examples.specs.Examples.{names_of}
use Rattle.examples.specs.Runs.{empty_rows}

-- a list cut into pieces of these lengths
abbrev pub pieces : List ℕ → List ℕ → List (List ℕ)
pieces [] xs = []
pieces (c ∷ cs) xs = take c xs ∷ pieces cs (drop c xs)

-- by how much each further room serves more touches of a trail
abbrev pub shares : List ℕ → ℕ → List ℕ → List ℕ
shares [] n trail = []
shares (c ∷ cs) n trail = (within (n + c) trail - within n trail) ∷ shares cs (n + c) trail

take_plus : (m n : ℕ) (xs : List ℕ) → take (m + n) xs ≡ take m xs ++ take n (drop m xs)
take_plus m n xs = sym (take-append-drop m (take (m + n) xs)) ∙ (λ i. take-take m (m + n) xs (omega arith) i ++ drop-take m n xs i)

-- rows whose first few name the front of a list, as much as they have room for, name its pieces
pub rows_pieces : (cs xs : List ℕ) (rs : List RowModel) → length rs ≡ length cs → ((j : ℕ) → numbers (flat (take j rs)) ≡ take (room (take j (empty_rows cs))) xs)
    → names_of rs ≡ pieces cs xs
rows_pieces [] xs [] n h = refl
rows_pieces [] xs (r ∷ rs) n h = absurd (omega arith)
rows_pieces (c ∷ cs) xs [] n h = absurd (omega arith)
rows_pieces (c ∷ cs) xs (r ∷ rs) n h = λ i. first i ∷ rows_pieces cs (drop c xs) rs (omega arith) rest i
  where
    first : numbers r.entries ≡ take c xs
    first = ap numbers (sym (append-nil r.entries)) ∙ (h 1 ∙ ap (λ k. take k xs) (omega arith))

    rest : (j : ℕ) → numbers (flat (take j rs)) ≡ take (room (take j (empty_rows cs))) (drop c xs)
    rest j = append_cancel_left (take c xs) (numbers (flat (take j rs))) (take (room (take j (empty_rows cs))) (drop c xs))
        (ap (λ ys. ys ++ numbers (flat (take j rs))) (sym first)
        ∙ (sym (map-append (λ e. e.number) r.entries (flat (take j rs)))
        ∙ (h (suc j) ∙ take_plus c (room (take j (empty_rows cs))) xs)))

-- hits of which the first few sum to the touches that so much room serves
pub hits_shares : (cs : List ℕ) (n : ℕ) (trail hs : List ℕ) → length hs ≡ length cs
    → ((j : ℕ) → total (take j hs) + within n trail ≡ within (n + room (take j (empty_rows cs))) trail) → hs ≡ shares cs n trail
hits_shares [] n trail [] l h = refl
hits_shares [] n trail (x ∷ hs) l h = absurd (omega arith)
hits_shares (c ∷ cs) n trail [] l h = absurd (omega arith)
hits_shares (c ∷ cs) n trail (x ∷ hs) l h = λ i. one i ∷ hits_shares cs (n + c) trail hs (omega arith) rest i
  where
    first : x + within n trail ≡ within (n + c) trail
    first = let k : n + (c + 0) ≡ n + c = omega arith in omega (arith, h 1, ap (λ m. within m trail) k)

    one : x ≡ within (n + c) trail - within n trail
    one = omega (arith, first)

    rest : (j : ℕ) → total (take j hs) + within (n + c) trail ≡ within (n + c + room (take j (empty_rows cs))) trail
    rest j =
        let k : n + (c + room (take j (empty_rows cs))) ≡ n + c + room (take j (empty_rows cs)) = omega arith in
        omega (arith, first, h (suc j), ap (λ m. within m trail) k)
