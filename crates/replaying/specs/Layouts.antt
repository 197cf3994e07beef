-- The device and the tier that a sheet lists over the bytes of its images.
use Rattle.std.specs.Prelude.{ℕ, List, [], map}
use Rattle.device.specs.Bytes.{of_bytes}
use Rattle.device.specs.Store.{Store}
use Rattle.formats.specs.declared.sheet.Images.{Images}
use Rattle.formats.specs.declared.sheet.Images.TheVariants.{Single, Striped}
use Rattle.formats.specs.Sheets.{Listed}
use Rattle.layers.specs.Defects.{masked}
use Rattle.layers.specs.Stripes.{striped}
use Rattle.restoring.specs.Stacks.{first_block, second_block}
use Rattle.row.specs.Entries.{RowModel}
use Rattle.tier.specs.Models.{Model}

-- one image, or two striped ones
abbrev pub images_store : Images → List ℕ → List ℕ → Store
images_store Single first second = of_bytes first
images_store (Striped u) first second = striped u (of_bytes first) (of_bytes second)

-- the images under the list of defects
abbrev pub device_of : Listed → List ℕ → List ℕ → Store
device_of l first second = masked l.defects (images_store l.images first second)

abbrev pub empty_row : ℕ → RowModel
empty_row c = record { capacity = c; entries = [] }

-- empty levels of these capacities over stored blocks
abbrev pub tier_over : List ℕ → Store → Model
tier_over capacities s = record { store = s; rows = map empty_row capacities }

abbrev pub tier_of : Listed → List ℕ → List ℕ → Model
tier_of l first second = tier_over l.levels (device_of l first second)

-- the blocks of the two devices of a stripe, by those of the stripe
abbrev pub first_half : ℕ → (ℕ → List ℕ) → ℕ → List ℕ
first_half u blocks n = blocks (first_block u n)

abbrev pub second_half : ℕ → (ℕ → List ℕ) → ℕ → List ℕ
second_half u blocks n = blocks (second_block u n)

-- the blocks of the first image, by those of the device
abbrev pub first_of : Images → (ℕ → List ℕ) → (ℕ → List ℕ)
first_of Single blocks = blocks
first_of (Striped u) blocks = first_half u blocks

-- the blocks of the second image; where there is one image, a second one keeps its own
abbrev pub second_of : Images → (ℕ → List ℕ) → (ℕ → List ℕ) → (ℕ → List ℕ)
second_of Single own blocks = own
second_of (Striped u) own blocks = second_half u blocks
