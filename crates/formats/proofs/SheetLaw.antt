-- What the reading of a whole sheet tells.
use Rattle.std.proofs.Common.{◌≡◌, ℕ, suc, ◌-◌, ◌<◌, ◌≤◌, ltb, List, [], ◌∷◌, ◌++◌, length, take, drop, Ok, Err, codes, sym, refl, ap, ◌∙◌, inl, inr, append-nil, arith, length-append}
use Rattle.std.specs.Str.{bytes_eq}
use Rattle.std.proofs.lemmas.Slice.Eq.{bytes_eq-Decides}
use Rattle.std.proofs.lemmas.List.{take-append-drop, take_at}
use Rattle.std.proofs.lemmas.Bool.{cases_Bool, ltb-false, le-ltb}
use Rattle.formats.specs.declared.sheet.SheetFault.TheVariants.{Cut, Broken, Extra, Memory}
use Rattle.formats.specs.Sheets.{Reading, Listed, then, after_header, lists_of, ended, sections, headed, sheet_of}
use Rattle.formats.specs.SheetLaws.{Lawful, Outcome, ToldRightly}
use Rattle.formats.proofs.Fair.{Fair-at, fair_lists}

header_kept : (pre : List ℕ) → after_header (codes "PILE" ++ pre) ≡ Ok pre
header_kept pre = rw (le-ltb (length (codes "PILE" ++ pre)) 4 (omega arith))

sheet_after : (pre : List ℕ) → sheet_of (codes "PILE" ++ pre) ≡ sections (length (codes "PILE" ++ pre)) pre
sheet_after pre = ap (λ r. headed (length (codes "PILE" ++ pre)) r) (header_kept pre)

module _ (bytes rest : List ℕ) (whole : bytes ≡ codes "PILE" ++ rest) where
  module _ (pre tail : List ℕ) (split : rest ≡ pre ++ tail) (o : ℕ) (at : o ≡ length bytes - length tail) where
    bytes_split : bytes ≡ (codes "PILE" ++ pre) ++ tail
    bytes_split = whole ∙ ap (λ z. codes "PILE" ++ z) split

    offset : o ≡ length (codes "PILE" ++ pre)
    offset = omega (arith, at, ap length bytes_split ∙ length-append (codes "PILE" ++ pre) tail)

    inside : 0 < length tail → o < length bytes
    inside h = omega (arith, at, ap length bytes_split ∙ length-append (codes "PILE" ++ pre) tail)

    before : take o bytes ≡ codes "PILE" ++ pre
    before = ap (λ z. take o z) bytes_split ∙ take_at (codes "PILE" ++ pre) tail o (sym offset)

  extra : (l : Listed) (tail pre : List ℕ) → Lawful l → rest ≡ pre ++ tail → ((m : ℕ) (ys : List ℕ) → lists_of m (pre ++ ys) ≡ Ok (l, ys)) → Outcome bytes (ended (length bytes) l tail)
  extra l [] pre q s t = q
  extra l (b ∷ more) pre q s t =
      let o : ℕ = length bytes - suc (length more) in (
        inside pre (b ∷ more) s o refl (omega arith),
        (
          l,
          ap sheet_of (before pre (b ∷ more) s o refl)
              ∙ (sheet_after pre ∙ ap (λ r. then r (λ x end. ended (length (codes "PILE" ++ pre)) x end)) (ap (λ z. lists_of (length (codes "PILE" ++ pre)) z) (sym (append-nil pre)) ∙ t (length (codes "PILE" ++ pre)) [])),
        ),
      )

  by_lists : (r : Reading Listed) → Fair-at Lawful lists_of (length bytes) rest r → Outcome bytes (then r (λ l end. ended (length bytes) l end))
  by_lists (Ok p) (q, (pre, s, t)) = extra p.0 p.1 pre q s t
  by_lists (Err (Cut o)) e = e
  by_lists (Err (Broken o)) (pre, tail, s, some, e, t) = (
    inside pre tail s o e some,
    ap sheet_of (before pre tail s o e)
        ∙ (sheet_after pre ∙ (ap (λ r. then r (λ x end. ended (length (codes "PILE" ++ pre)) x end)) (t (length (codes "PILE" ++ pre))) ∙ ap (λ n. Err (Cut n)) (sym (offset pre tail s o e)))),
  )
  by_lists (Err (Extra o)) e = absurd e
  by_lists (Err Memory) e = e

pub told_rightly : (bytes : List ℕ) → ToldRightly bytes
told_rightly bytes =
    elim (cases_Bool (ltb (length bytes) 4)) [
      | inl h ↦ rw h refl
      | inr h ↦ let four : 4 ≤ length bytes = ltb-false (length bytes) 4 h in
          elim (cases_Bool (bytes_eq (take 4 bytes) (codes "PILE"))) [
            | inl s ↦ rw (h, s) (by_lists bytes (drop 4 bytes)
                (sym (take-append-drop 4 bytes) ∙ ap (λ z. z ++ drop 4 bytes) ((bytes_eq-Decides (take 4 bytes) (codes "PILE")).0 s)) (lists_of (length bytes) (drop 4 bytes)) (fair_lists (length bytes) (drop 4 bytes)))
            | inr s ↦ rw (h, s) (omega arith, refl)
          ]
    ]
