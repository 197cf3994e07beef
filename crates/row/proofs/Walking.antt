-- Walking a shelf from its first slot: what is passed and what is coming at each slot.
use Rattle.std.proofs.Common.{◌≡◌, ℕ, List, [], ◌∷◌, ◌++◌, Some, None, Option, sym, ap, ◌∙◌, MatchOption}
use Rattle.rings.specs.Slots.{first, after}
use Rattle.row.specs.declared.frame.Frame.{Frame}
use Rattle.row.specs.declared.shelf.Shelf.{Shelf}
use Rattle.row.specs.Orders.{order}
use Rattle.row.specs.Held.{On, OnIf, entry_in, entries_in, above_in, below_in, passed_in, coming_in}
use Rattle.row.proofs.Entering.{entries_around, first_slot, next_slot}

pub first_walk : (s : Shelf) (fs : List Frame) (at : Option ℕ) → at ≡ first (order s) → OnIf s at × (passed_in s fs at ≡ []) × (coming_in s fs at ≡ entries_in s fs)
first_walk s fs at e = go at (first_slot s fs at e)
  where
    go : (at : Option ℕ) → MatchOption at (entries_in s fs ≡ []) (λ x. On s x × (above_in s fs x ≡ []) × (entries_in s fs ≡ entry_in s fs x ∷ below_in s fs x)) → OnIf s at × (passed_in s fs at ≡ []) × (coming_in s fs at ≡ entries_in s fs)
    go None h = (tt, h, sym h)
    go (Some x) h = (h.0, h.1, sym h.2)

pub next_walk : (s : Shelf) (fs : List Frame) (x : ℕ) (at : Option ℕ) → On s x → at ≡ first (after x (order s)) → OnIf s at × (passed_in s fs at ≡ above_in s fs x ++ entry_in s fs x ∷ []) × (coming_in s fs at ≡ below_in s fs x)
next_walk s fs x at o e = go at (next_slot s fs x at o e)
  where
    go : (at : Option ℕ) → MatchOption at (below_in s fs x ≡ []) (λ y. On s y × (above_in s fs y ≡ above_in s fs x ++ entry_in s fs x ∷ []) × (below_in s fs x ≡ entry_in s fs y ∷ below_in s fs y)) → OnIf s at × (passed_in s fs at ≡ above_in s fs x ++ entry_in s fs x ∷ []) × (coming_in s fs at ≡ below_in s fs x)
    go None h = (tt, entries_around s fs x o ∙ ap (λ es. above_in s fs x ++ entry_in s fs x ∷ es) h, sym h)
    go (Some y) h = (h.0, h.1, sym h.2)
