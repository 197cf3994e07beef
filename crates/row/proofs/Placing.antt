-- The slot and the entry at a place, counted from 1.
use Rattle.std.proofs.Common.{◌≡◌, ℕ, zero, suc, ◌-◌, ◌≤◌, true, false, eqb, List, [], ◌∷◌, map, Some, None, Option, option_map, sym, refl, ap, ◌∙◌, arith}
use Rattle.std.proofs.lemmas.Bool.{or_left, eq-eqb, ne_eqb}
use Rattle.std.specs.List.{slice_get}
use Rattle.rings.specs.Slots.{member}
use Rattle.row.specs.declared.frame.Frame.{Frame}
use Rattle.row.specs.declared.shelf.Shelf.{Shelf}
use Rattle.row.specs.Entries.{Entry, at_place}
use Rattle.row.specs.Held.{OnIf, entry_in, entries_in}
use Rattle.row.specs.Orders.{order}
use Rattle.row.proofs.Mapped.{member_there}
use Rattle.row.proofs.Entering.{entries_is}

placed_suc : (f : ℕ → Entry) (k : ℕ) (xs : List ℕ) → at_place (suc k) (map f xs) ≡ option_map f (slice_get xs k)
placed_suc f k [] = refl
placed_suc f zero (x ∷ xs) = refl
placed_suc f (suc k) (x ∷ xs) =
    let e : eqb (suc (suc k)) 1 ≡ false = ne_eqb (suc (suc k)) 1 (λ q. omega arith) in
    let d : suc (suc k) - 1 ≡ suc k = omega arith in
    rw (e, d) (placed_suc f k xs)

placed_none : (n : ℕ) (es : List Entry) → (1 ≤ n → ⊥) → at_place n es ≡ None
placed_none n [] h = refl
placed_none n (e ∷ es) h =
    let q : eqb n 1 ≡ false = ne_eqb n 1 (λ i. h (omega arith)) in
    rw q (placed_none (n - 1) es (λ i. h (omega arith)))

member_get : (k : ℕ) (xs : List ℕ) (x : ℕ) → slice_get xs k ≡ Some x → member x xs ≡ true
member_get k [] x e = let z : ◌≡◌ {A = ℕ} 0 1 = cc in absurd (omega arith)
member_get zero (y ∷ ys) x e = let q : x ≡ y = cc in or_left (eqb x y) (member x ys) (eq-eqb x y q)
member_get (suc k) (y ∷ ys) x e = member_there x y ys (member_get k ys x e)

-- there is no place 0
pub no_place : (s : Shelf) (fs : List Frame) (n : ℕ) (r : Option ℕ) → (1 ≤ n → ⊥) → r ≡ None → at_place n (entries_in s fs) ≡ option_map (entry_in s fs) r
no_place s fs n r h e = placed_none n (entries_in s fs) h ∙ sym (ap (λ o. option_map (entry_in s fs) o) e)

pub on_get : (s : Shelf) (k : ℕ) (r : Option ℕ) → r ≡ slice_get (order s) k → OnIf s r
on_get s k None e = tt
on_get s k (Some x) e = member_get k (order s) x (sym e)

pub placed_get : (s : Shelf) (fs : List Frame) (n k : ℕ) (r : Option ℕ) → 1 ≤ n → k ≡ n - 1 → r ≡ slice_get (order s) k → at_place n (entries_in s fs) ≡ option_map (entry_in s fs) r
placed_get s fs n k r h d e =
    let q : n ≡ suc k = omega arith in
    ap (λ m. at_place m (entries_in s fs)) q ∙ (ap (at_place (suc k)) (entries_is s fs) ∙ (placed_suc (entry_in s fs) k (order s) ∙ sym (ap (λ o. option_map (entry_in s fs) o) e)))
