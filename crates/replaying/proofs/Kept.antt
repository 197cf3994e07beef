-- A replay that was refused leaves the images as they were.
use Rattle.std.proofs.Common.{◌≡◌, ℕ, Bool, false, cond, List, refl, ap, arith}
use Rattle.device.specs.Bytes.{of_bytes}
use Rattle.device.proofs.Told.{told}
use Rattle.formats.specs.declared.sheet.Images.{Images}
use Rattle.formats.specs.declared.sheet.Images.TheVariants.{Single, Striped}
use Rattle.formats.specs.Sheets.{Listed}
use Rattle.formats.specs.SheetLaws.{LawfulUnit, Lawful}
use Rattle.replaying.specs.Layouts.{images_store, device_of, first_of, second_of}
use Rattle.replaying.proofs.Halves.{first_at, second_at}

module _ (first second : List ℕ) where
  first_by : (im : Images) → LawfulUnit im → first_of im (images_store im first second).at ≡ (of_bytes first).at
  first_by Single l = refl
  first_by (Striped u) l = λ i n. first_at u (omega (arith, l.0)) (of_bytes first) (of_bytes second) n i

  second_by : (im : Images) → LawfulUnit im → second_of im (of_bytes second).at (images_store im first second).at ≡ (of_bytes second).at
  second_by Single l = refl
  second_by (Striped u) l = λ i n. second_at u (omega (arith, l.0)) (of_bytes first) (of_bytes second) n i

  module _ (l : Listed) (lawful : Lawful l) where
    pub first_kept : first_of l.images (device_of l first second).at ≡ (of_bytes first).at
    first_kept = first_by l.images lawful.unit

    pub second_kept : second_of l.images (of_bytes second).at (device_of l first second).at ≡ (of_bytes second).at
    second_kept = second_by l.images lawful.unit

-- bytes whose blocks are those of a refusal
pub same_bytes : (xs ys : List ℕ) (ok : Bool) (blocks : ℕ → List ℕ) → ok ≡ false → (of_bytes xs).at ≡ cond ok blocks (of_bytes ys).at → xs ≡ ys
same_bytes xs ys ok blocks e h = told xs ys (λ b. ap (λ f. f b) (rw e at h))
