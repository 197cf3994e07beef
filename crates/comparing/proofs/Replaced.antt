-- What a comparison says of devices it says of equal ones.
use Rattle.std.proofs.Common.{◌≡◌, ℕ, true, cond, List, Err, Result, sym, ap, ◌∙◌, subst}
use Rattle.certificate.specs.declared.weighing.Comparison.{Comparison}
use Rattle.device.specs.Store.{Store}
use Rattle.layers.specs.Defects.{masked}
use Rattle.formats.specs.Sheets.{Listed}
use Rattle.replaying.specs.Layouts.{images_store, tier_over, tier_of}
use Rattle.certificate.specs.Weighings.{compare_answer}
use Rattle.comparing.specs.declared.fault.LayoutFault.{LayoutFault}
use Rattle.comparing.specs.declared.fault.LayoutFault.TheVariants.{Images as OfImages}
use Rattle.std.specs.Borrow.{Bor}
use Rattle.formats.specs.declared.sheet.Sheet.{Sheet}
use Rattle.comparing.specs.declared.side.Side.{Side}
use Rattle.comparing.specs.Sides.{SidesWeighed}
use Rattle.comparing.specs.Sheets.{Weighed, Proved, shown, memory_or, wrapped, same_images, layouts_answer}

pub devices_are : (r : Result Comparison LayoutFault) (first second : Side (Bor Sheet)) (s x t y : Store) → s ≡ x → t ≡ y → SidesWeighed first s second t r → SidesWeighed first x second y r
devices_are r first second s x t y p q h = subst (λ z. SidesWeighed first x second z r) q (subst (λ z. SidesWeighed first z second t r) p h)

-- two sheets that list the same images
module _ (l m : Listed) (one two : List ℕ) (j k : ℕ) (r : Result Comparison LayoutFault) (s : Store) (same : same_images l.images m.images ≡ true) (p : images_store l.images one two ≡ s) (q : images_store m.images one two ≡ s)
    (h : Weighed (tier_over l.levels (masked l.defects s)) j (tier_over m.levels (masked m.defects s)) k r) where
  over_images : Weighed (tier_of l one two) j (tier_of m one two) k r
  over_images =
      subst (λ z. Weighed (tier_of l one two) j (tier_over m.levels (masked m.defects z)) k r) (sym q) (subst (λ z. Weighed (tier_over l.levels (masked l.defects z)) j (tier_over m.levels (masked m.defects s)) k r) (sym p) h)

  pub images_answer : shown r ≡ memory_or r (layouts_answer l j m k one two)
  images_answer = over_images.answer ∙ ap (λ t. memory_or r (cond t (wrapped (compare_answer (tier_of l one two) j (tier_of m one two) k)) (Err OfImages))) (sym same)

  pub images_proved : Proved (tier_of l one two) j (tier_of m one two) k r
  images_proved = over_images.proved
