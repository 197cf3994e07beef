use Rattle.std.proofs.Common.{◌≡◌, ℕ, true, sym, ap, ◌∙◌, rules}
use Rattle.std.proofs.lemmas.Bool.{eq-eqb}
use Rattle.device.specs.Bytes.{of_bytes}
use Rattle.device.specs.Store.{Store}
use Rattle.formats.specs.declared.sheet.Images.TheVariants.{Striped}
use Rattle.formats.specs.Seen.{listed}
use Rattle.layers.specs.Stripes.{striped}
use Rattle.replaying.specs.Layouts.{images_store}
use Rattle.comparing.specs.Sheets.{same_images}
use Rattle.comparing.proofs.Replaced.{images_answer, images_proved}
use Rattle.comparing.proofs.sheets.compare_images.Goals as goal

pub returns-in-Single-Single : goal.returns-in-Single-Single
returns-in-Single-Single c =
    let l = listed c.args.first.sheet.now in
    let m = listed c.args.second.sheet.now in
    let one = c.args.images.first.now in
    let two = c.args.images.second.now in
    let s : Store = of_bytes one in
    let same : same_images c.args.first.sheet.now.images c.args.second.sheet.now.images ≡ true = λ i. same_images (c.in-Single-Single.is-0 i) (c.in-Single-Single.is-1 i) in
    let p : images_store c.args.first.sheet.now.images one two ≡ s = ap (λ i. images_store i one two) c.in-Single-Single.is-0 in
    let q : images_store c.args.second.sheet.now.images one two ≡ s = ap (λ i. images_store i one two) c.in-Single-Single.is-1 in
    record {
      answer = images_answer l m one two c.args.first.levels c.args.second.levels c.compare_copies.result s same p q c.compare_copies.ensures;
      proved = images_proved l m one two c.args.first.levels c.args.second.levels c.compare_copies.result s same p q c.compare_copies.ensures;
    }

pub returns-else-unit-other : goal.returns-else-unit-other
returns-else-unit-other c =
    let l = listed c.args.first.sheet.now in
    let m = listed c.args.second.sheet.now in
    let one = c.args.images.first.now in
    let two = c.args.images.second.now in
    let u = c.in-Striped-Striped.unit in
    let over : ℕ → Store = λ n. striped n (of_bytes one) (of_bytes two) in
    let v : u ≡ c.unwrap-unit.result = search rules in
    let s : Store = over c.unwrap-unit.result in
    let w : c.args.second.sheet.now.images ≡ Striped u = c.in-Striped-Striped.is-1 ∙ ap Striped (sym c.if-unit-other.false) in
    let same : same_images c.args.first.sheet.now.images c.args.second.sheet.now.images ≡ true = (λ i. same_images (c.in-Striped-Striped.is-0 i) (w i)) ∙ eq-eqb u u (λ i. u) in
    let p : images_store c.args.first.sheet.now.images one two ≡ s = ap (λ i. images_store i one two) c.in-Striped-Striped.is-0 ∙ ap over v in
    let q : images_store c.args.second.sheet.now.images one two ≡ s = ap (λ i. images_store i one two) w ∙ ap over v in
    record {
      answer = images_answer l m one two c.args.first.levels c.args.second.levels c.compare_striped_copies.result s same p q c.compare_striped_copies.ensures;
      proved = images_proved l m one two c.args.first.levels c.args.second.levels c.compare_striped_copies.result s same p q c.compare_striped_copies.ensures;
    }
