-- What entries and stored blocks together say of each block: an entry has the wanted bytes, and where it is saved, or where there is none, the stored block has them.
use Rattle.std.proofs.Common.{◌≡◌, ℕ, true, false, cond, eqb, List, [], ◌∷◌, ◌++◌, length, Some, None, Ok, Option, sym, refl, ap, ◌∙◌, subst, inl, inr}
use Rattle.std.specs.List.{AllByRecursion as All}
use Rattle.std.proofs.lemmas.Bool.{cases_Bool, or_parts, or_from, eqb-true, eqb-false, eq-eqb, ne_eqb, cond-true as cond_yes, cond-false as cond_no}
use Rattle.device.specs.Answers.{answer}
use Rattle.device.specs.Store.{Store}
use Rattle.device.proofs.Outcomes.{written_ok}
use Rattle.row.specs.Entries.{Entry, is_saved, find_entry as look, without}
use Rattle.tier.specs.Demotions.{settled, refusal_of}
use Rattle.pile.proofs.Entries.{names, distinct, look_fresh, names_parts, distinct_head}

abbrev pub fits : Option Entry → List ℕ → List ℕ → Type 0
fits None stored wanted = stored ≡ wanted
fits (Some e) stored wanted = (e.bytes ≡ wanted) × (is_saved e.mark ≡ true → stored ≡ wanted)

abbrev pub Agree : List Entry → Store → (ℕ → List ℕ) → Type 0
Agree es s w = (b : ℕ) → fits (look b es) (s.at b) (w b)

-- the stored blocks take every entry
abbrev pub Ready : Store → List Entry → Type 0
Ready s es = All (λ e. answer s e.number (length e.bytes) ≡ Ok tt) es

pub ready_without : (s : Store) (b : ℕ) (es : List Entry) → Ready s es → Ready s (without b es)
ready_without s b [] h = tt
ready_without s b (e ∷ es) h = elim (cases_Bool (eqb e.number b)) [ inl k ↦ rw k (ready_without s b es h.1) | inr k ↦ rw k (h.0, ready_without s b es h.1) ]

pub look_without : (n b : ℕ) (es : List Entry) → eqb b n ≡ false → look n (without b es) ≡ look n es
look_without n b [] h = refl
look_without n b (e ∷ es) h =
    elim (cases_Bool (eqb e.number b)) [
      | inl k ↦ rw k (look_without n b es h ∙ sym (cond_no (eqb e.number n) (Some e) (look n es) (ap (λ m. eqb m n) (eqb-true e.number b k) ∙ h)))
      | inr k ↦ rw k (ap (λ o. cond (eqb e.number n) (Some e) o) (look_without n b es h))
    ]

-- an entry in front of the rest: it has what is wanted of its block, and nothing else changes
pub agree_front : (es : List Entry) (s : Store) (w w' : ℕ → List ℕ) (e : Entry) → Agree es s w → e.bytes ≡ w' e.number → (is_saved e.mark ≡ true → s.at e.number ≡ w' e.number)
    → ((n : ℕ) → eqb e.number n ≡ false → w' n ≡ w n) → Agree (e ∷ without e.number es) s w'
agree_front es s w w' e a bytes saved others n = elim (cases_Bool (eqb e.number n)) [
  | inl h ↦ subst (λ o. fits o (s.at n) (w' n)) (sym (cond_yes (eqb e.number n) (Some e) (look n (without e.number es)) h)) (here (eqb-true e.number n h))
  | inr h ↦ subst (λ o. fits o (s.at n) (w' n)) (sym (cond_no (eqb e.number n) (Some e) (look n (without e.number es)) h ∙ look_without n e.number es h)) (there h)
]
  where
    here : e.number ≡ n → (e.bytes ≡ w' n) × (is_saved e.mark ≡ true → s.at n ≡ w' n)
    here q = (bytes ∙ ap w' q, λ k. ap s.at (sym q) ∙ (saved k ∙ ap w' q))

    there : eqb e.number n ≡ false → fits (look n es) (s.at n) (w' n)
    there h = subst (λ x. fits (look n es) (s.at n) x) (sym (others n h)) (a n)

look_append : (n : ℕ) (ks : List Entry) (f : Entry) → eqb f.number n ≡ false → look n (ks ++ f ∷ []) ≡ look n ks
look_append n [] f h = cond_no (eqb f.number n) (Some f) None h
look_append n (k ∷ ks) f h = ap (λ o. cond (eqb k.number n) (Some k) o) (look_append n ks f h)

look_end : (n : ℕ) (ks : List Entry) (f : Entry) → names n ks ≡ false → f.number ≡ n → look n (ks ++ f ∷ []) ≡ Some f
look_end n [] f h e = cond_yes (eqb f.number n) (Some f) None (eq-eqb f.number n e)
look_end n (k ∷ ks) f h e = let p = or_parts (eqb k.number n) (names n ks) h in cond_no (eqb k.number n) (Some k) (look n (ks ++ f ∷ [])) p.0 ∙ look_end n ks f p.1 e

end_fresh : (ks : List Entry) (f : Entry) → distinct (ks ++ f ∷ []) ≡ true → names f.number ks ≡ false
end_fresh [] f h = refl
end_fresh (k ∷ ks) f h =
    let p = distinct_head k (ks ++ f ∷ []) h in
    let q = or_parts (eqb f.number k.number) false (names_parts k.number ks (f ∷ []) p.0).1 in
    or_from (eqb k.number f.number) (names f.number ks) (ne_eqb k.number f.number (λ e. eqb-false f.number k.number q.0 (sym e))) (end_fresh ks f p.1)

-- an entry that the stored blocks take
module _ (f : Entry) (s : Store) (ok : answer s f.number (length f.bytes) ≡ Ok tt) where
  pub settled_taken : (settled f s).dropped ≡ None
  settled_taken = elim (cases_Bool (is_saved f.mark)) [ inl h ↦ rw h | inr h ↦ rw h (ap (λ r. refusal_of f.number r) ok) ]

  settled_other : (n : ℕ) → eqb f.number n ≡ false → (settled f s).store.at n ≡ s.at n
  settled_other n h = elim (cases_Bool (is_saved f.mark)) [
    | inl k ↦ rw k
    | inr k ↦ rw k (ap (λ t. t.at n) (written_ok s f.number f.bytes ok) ∙ cond_no (eqb n f.number) f.bytes (s.at n) (ne_eqb n f.number (λ e. eqb-false f.number n h (sym e))))
  ]

  settled_self : (w : List ℕ) → fits (Some f) (s.at f.number) w → (settled f s).store.at f.number ≡ w
  settled_self w a = elim (cases_Bool (is_saved f.mark)) [
    | inl k ↦ rw k (a.1 k)
    | inr k ↦ rw k (ap (λ t. t.at f.number) (written_ok s f.number f.bytes ok) ∙ (cond_yes (eqb f.number f.number) f.bytes (s.at f.number) (eq-eqb f.number f.number refl) ∙ a.0))
  ]

  pub settled_size : (settled f s).store.size ≡ s.size
  settled_size = elim (cases_Bool (is_saved f.mark)) [ inl k ↦ rw k | inr k ↦ rw k (ap (λ t. t.size) (written_ok s f.number f.bytes ok)) ]

  pub settled_sound : (settled f s).store.sound ≡ s.sound
  settled_sound = elim (cases_Bool (is_saved f.mark)) [ inl k ↦ rw k | inr k ↦ rw k (ap (λ t. t.sound) (written_ok s f.number f.bytes ok)) ]

-- the last of some entries falls to the stored blocks
pub agree_fall : (ks : List Entry) (f : Entry) (s : Store) (w : ℕ → List ℕ) → answer s f.number (length f.bytes) ≡ Ok tt → distinct (ks ++ f ∷ []) ≡ true
    → Agree (ks ++ f ∷ []) s w → Agree ks (settled f s).store w
agree_fall ks f s w ok once a n = elim (cases_Bool (eqb f.number n)) [ inl h ↦ self (eqb-true f.number n h) | inr h ↦ other h ]
  where
    self : f.number ≡ n → fits (look n ks) ((settled f s).store.at n) (w n)
    self e =
        let g : names n ks ≡ false = ap (λ m. names m ks) (sym e) ∙ end_fresh ks f once in
        let y : fits (Some f) (s.at n) (w n) = subst (λ o. fits o (s.at n) (w n)) (look_end n ks f g e) (a n) in
        let z : (settled f s).store.at n ≡ w n = ap (settled f s).store.at (sym e) ∙ settled_self f s ok (w n) (y.0, λ k. ap s.at e ∙ y.1 k) in
        subst (λ o. fits o ((settled f s).store.at n) (w n)) (sym (look_fresh n ks g)) z

    other : eqb f.number n ≡ false → fits (look n ks) ((settled f s).store.at n) (w n)
    other h = subst (λ x. fits (look n ks) x (w n)) (sym (settled_other f s ok n h)) (subst (λ o. fits o (s.at n) (w n)) (look_append n ks f h) (a n))
