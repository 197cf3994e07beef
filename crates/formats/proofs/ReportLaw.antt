-- What a report writes of a number reads back.
use Rattle.std.proofs.Common.{◌≡◌, ℕ, ◌^◌, ◌<◌, true, not, List, [], ◌∷◌, length, get_or, refl, ap, ◌∙◌, inl, inr, arith, rules}
use Rattle.std.specs.Fmt as written
use Rattle.std.proofs.lemmas.Fmt.{decimal_digit, decimal_nonempty, first_decimal, digits_decimal, digits_value-decimal}
use Rattle.std.proofs.lemmas.Str.Parse.{IsNumeralModel, numerals_by_fold}
use Rattle.std.proofs.lemmas.Bool.{ne_eqb, cases_eq}
use Rattle.formats.specs.Traces.{all_digits, plain, decimal, decimal_after}
use Rattle.formats.specs.ReportLaws.{ReadBack}

own : IsNumeralModel (λ ds. all_digits ds ≡ true) decimal
own = numerals_by_fold _ (search rules) decimal_after (search rules)

plain_from : (ds : List ℕ) → 0 < length ds → (get_or ds 0 0 ≡ 48 → ⊥) → plain ds ≡ true
plain_from [] s h = absurd (omega arith)
plain_from (d ∷ []) s h = refl
plain_from (d ∷ e ∷ ds) s h = ap not (ne_eqb d 48 h)

plain_decimal : (n : ℕ) → n < 2 ^ 64 → plain (written.decimal n) ≡ true
plain_decimal n h =
    elim (cases_eq n 0) [
      | inl z ↦ ap (λ m. plain (written.decimal m)) z ∙ ap plain (decimal_digit 0 (omega arith))
      | inr z ↦ let f : 48 < get_or (written.decimal n) 0 0 = first_decimal n (omega arith) h in plain_from (written.decimal n) (decimal_nonempty n h) (λ e. omega arith)
    ]

pub read_back : ReadBack
read_back n h = (digits_decimal own n h, plain_decimal n h, digits_value-decimal own n h)
