-- Comparing the layouts that two sheets list over the same images.
use Rattle.std.specs.Prelude.{◌≡◌, ℕ, Bool, true, false, cond, List, Ok, Err, Result, ◌==◌}
use Rattle.formats.specs.declared.sheet.Images.{Images}
use Rattle.formats.specs.declared.sheet.Images.TheVariants.{Single, Striped}
use Rattle.formats.specs.declared.sheet.SheetFault.{SheetFault}
use Rattle.formats.specs.Sheets.{Listed, sheet_of}
use Rattle.certificate.specs.declared.weighing.CompareFault.{CompareFault}
use Rattle.certificate.specs.declared.weighing.Comparison.{Comparison}
use Rattle.certificate.specs.Certificates.{Certified, Certificate}
use Rattle.certificate.specs.Weighings.{Weighing, compare_answer, seen_comparison}
use Rattle.replaying.specs.Layouts.{tier_of}
use Rattle.tier.specs.Models.{Model}
use Rattle.comparing.specs.declared.fault.LayoutFault.{LayoutFault}
use Rattle.comparing.specs.declared.fault.LayoutFault.TheVariants.{First, Second, Images as OfImages, Compare, Memory}

-- whether two sheets list the same images
abbrev pub same_images : Images → Images → Bool
same_images Single Single = true
same_images Single (Striped v) = false
same_images (Striped u) Single = false
same_images (Striped u) (Striped v) = u == v

abbrev pub wrapped : Result Weighing CompareFault → Result Weighing LayoutFault
wrapped (Ok w) = Ok w
wrapped (Err f) = Err (Compare f)

-- the layouts of two sheets that list the same images
abbrev pub layouts_answer : Listed → ℕ → Listed → ℕ → List ℕ → List ℕ → Result Weighing LayoutFault
layouts_answer l j m k image image2 =
    cond (same_images l.images m.images) (wrapped (compare_answer (tier_of l image image2) j (tier_of m image image2) k)) (Err OfImages)

-- the first sheet is read first, then the second
abbrev pub listed_answer : Result Listed SheetFault → ℕ → Result Listed SheetFault → ℕ → List ℕ → List ℕ → Result Weighing LayoutFault
listed_answer (Err f) j other k image image2 = Err (First f)
listed_answer (Ok l) j (Err f) k image image2 = Err (Second f)
listed_answer (Ok l) j (Ok m) k image image2 = layouts_answer l j m k image image2

-- the first j levels of one layout and the first k of the other
abbrev pub sheets_answer : List ℕ → ℕ → List ℕ → ℕ → List ℕ → List ℕ → Result Weighing LayoutFault
sheets_answer first j second k image image2 = listed_answer (sheet_of first) j (sheet_of second) k image image2

abbrev pub shown : Result Comparison LayoutFault → Result Weighing LayoutFault
shown (Ok c) = Ok (seen_comparison c)
shown (Err f) = Err f

abbrev pub had_memory : Result Comparison LayoutFault → Bool
had_memory (Ok c) = true
had_memory (Err (First f)) = true
had_memory (Err (Second f)) = true
had_memory (Err OfImages) = true
had_memory (Err (Compare f)) = true
had_memory (Err Memory) = false

-- want of memory is the only freedom
abbrev pub memory_or : Result Comparison LayoutFault → Result Weighing LayoutFault → Result Weighing LayoutFault
memory_or r given = cond (had_memory r) given (Err Memory)

-- what is proved by each answer of a comparison of two tiers
abbrev pub Proved : Model → ℕ → Model → ℕ → Result Comparison LayoutFault → Type 0
Proved m j n k (Ok c) = Certified m j n k c.verdict
Proved m j n k (Err (First f)) = Unit {0}
Proved m j n k (Err (Second f)) = Unit {0}
Proved m j n k (Err OfImages) = Unit {0}
Proved m j n k (Err (Compare f)) = Certificate m j n k (Err f)
Proved m j n k (Err Memory) = Unit {0}

-- of two tiers that were compared, what it answers and what that proves
pub record Weighed (m : Model) (j : ℕ) (n : Model) (k : ℕ) (r : Result Comparison LayoutFault) : Type 0 where
  pub answer : shown r ≡ memory_or r (wrapped (compare_answer m j n k))
  pub proved : Proved m j n k r

-- the same of the layouts of two accepted sheets
abbrev pub ListedProved : Result Listed SheetFault → ℕ → Result Listed SheetFault → ℕ → List ℕ → List ℕ → Result Comparison LayoutFault → Type 0
ListedProved (Err f) j other k image image2 r = Unit {0}
ListedProved (Ok l) j (Err f) k image image2 r = Unit {0}
ListedProved (Ok l) j (Ok m) k image image2 r = Proved (tier_of l image image2) j (tier_of m image image2) k r

abbrev pub SheetsProved : List ℕ → ℕ → List ℕ → ℕ → List ℕ → List ℕ → Result Comparison LayoutFault → Type 0
SheetsProved first j second k image image2 r = ListedProved (sheet_of first) j (sheet_of second) k image image2 r
