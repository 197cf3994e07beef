-- Rising numbers, at most sixteen, are never refused by a defect list.
use Rattle.std.proofs.Common.{◌≡◌, ℕ, ◌-◌, ◌<◌, true, List, [], ◌∷◌, length, get_or, take, Ok, Err, Result, refl, ap, ◌∙◌, arith}
use Rattle.std.proofs.lemmas.List.{get_or-take, length-take-le}
use Rattle.std.proofs.lemmas.Bool.{lt-ltb}
use Rattle.layers.specs.declared.defects.DefectFault.{DefectFault}
use Rattle.layers.specs.declared.defects.DefectFault.TheVariants.{NotGreater, Full, Memory}
use Rattle.layers.specs.Defects.{rises, listing, had_room}
use Rattle.replaying.specs.Bounds.{Rising}

above_last : (xs : List ℕ) (n : ℕ) → (0 < length xs → get_or xs (length xs - 1) 0 < n) → rises xs n ≡ true
above_last [] n h = refl
above_last (x ∷ xs) n h =
    let e : length (x ∷ xs) - 1 ≡ length xs = omega arith in
    lt-ltb (get_or (x ∷ xs) (length xs) 0) n (omega (arith, h (omega arith), ap (λ k. get_or (x ∷ xs) k 0) e))

module _ (ns : List ℕ) (rising : Rising ns) (i : ℕ) (in' : i < length ns) where
  front : length (take i ns) ≡ i
  front = length-take-le i ns (omega arith)

  higher : 0 < length (take i ns) → get_or (take i ns) (length (take i ns) - 1) 0 < get_or ns i 0
  higher h =
      let e : length (take i ns) - 1 ≡ i - 1 = omega (arith, front) in
      omega (arith, ap (λ k. get_or (take i ns) k 0) e, get_or-take i ns (i - 1) 0 (omega (arith, front)), rising.each (i - 1) i (omega (arith, front)) in')

  taken : listing true (take i ns) (get_or ns i 0) ≡ Ok tt
  taken = rw (above_last (take i ns) (get_or ns i 0) higher, front, lt-ltb i 16 (omega (arith, rising.few)))

  never : (f : DefectFault) (xs : List ℕ) (n : ℕ) → xs ≡ take i ns → n ≡ get_or ns i 0 → ◌≡◌ {A = Result (Unit {0}) DefectFault} (Err f) (listing true xs n) → ⊥
  never f xs n e q h = let z : ◌≡◌ {A = ℕ} 0 1 = cc (taken, h ∙ (ap (λ zs. listing true zs n) e ∙ ap (λ k. listing true (take i ns) k) q)) in omega arith

  -- so only memory can be wanting for the next number
  pub only_memory : (f : DefectFault) (xs : List ℕ) (n : ℕ) → xs ≡ take i ns → n ≡ get_or ns i 0 → ◌≡◌ {A = Result (Unit {0}) DefectFault} (Err f) (listing (had_room (Err f)) xs n) → f ≡ Memory
  only_memory Memory xs n e q h = refl
  only_memory NotGreater xs n e q h = absurd (never NotGreater xs n e q h)
  only_memory Full xs n e q h = absurd (never Full xs n e q h)
