use Rattle.std.proofs.Common.{◌≡◌, ◌-◌, ◌<◌, [], ◌∷◌, ◌++◌, take, vec_items, vec_len, sym, ap, ◌∙◌, arith}
use Rattle.pile.specs.Reads.{passing}
use Rattle.certificate.proofs.Passing.{skipped, taken, one_moved}
use Rattle.certificate.proofs.reads.greatest_sound.Goals as goal

pub loop-b-preserved-in-Continue-1 : goal.loop-b-preserved-in-Continue-1
loop-b-preserved-in-Continue-1 g c =
    let f = (g.T.Tier.model c.args.tier.now).store.sound in
    let xs = vec_items c.loop-b.found in
    let had = vec_len c.loop-b.found in
    let e = c.in_ok-push.ensures in
    let all = take c.args.count (passing f (g.T.Tier.model c.args.tier.now).store.size) in
    let few : had < c.args.count = omega (arith, c.if-len-count.false, c.len.ensures, c.loop-b.invariant.1) in
    let q : xs ++ take (c.args.count - had) ((c.loop-b.b - 1) ∷ passing f (c.loop-b.b - 1)) ≡ all
    = ap (λ ys. xs ++ take (c.args.count - had) ys) (sym (taken f c.loop-b.b (omega (arith, c.loop-b-test.true)) (sym c.if-is_sound.ensures))) ∙ c.loop-b.invariant.0 in (
      ap (λ ys. ys ++ take (c.args.count - vec_len c.push.new.self) (passing f (c.loop-b.b - 1))) e.items
          ∙ (ap (λ n. (xs ++ (c.loop-b.b - 1) ∷ []) ++ take (c.args.count - n) (passing f (c.loop-b.b - 1))) e.len
          ∙ one_moved xs (passing f (c.loop-b.b - 1)) all (c.loop-b.b - 1) c.args.count had few q),
      omega (arith, e.len, few),
    )

pub loop-b-preserved : goal.loop-b-preserved
loop-b-preserved g c =
    let f = (g.T.Tier.model c.args.tier.now).store.sound in
    (ap (λ ys. vec_items c.loop-b.found ++ take (c.args.count - vec_len c.loop-b.found) ys) (sym (skipped f c.loop-b.b (omega (arith, c.loop-b-test.true)) (sym c.if-is_sound.ensures))) ∙ c.loop-b.invariant.0, c.loop-b.invariant.1)
