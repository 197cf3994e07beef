use Rattle.std.proofs.Common.{◌≡◌, ℕ, ◌<◌, cond, eqb, sym, ap, ◌∙◌}
use Rattle.std.proofs.lemmas.List.{length-set}
use Rattle.rings.specs.Buckets.{bucket, key_in}
use Rattle.rings.specs.Models.{ring, fronted}
use Rattle.rings.proofs.Filing.{insert_filed, insert_key, remove_filed, remove_key}
use Rattle.rings.proofs.index.Index.file.Goals as goal

pub invariant_of-self : goal.invariant_of-self
invariant_of-self c =
    let s = c.args.self.now in
    let x = c.index.ensures in
    let moved : (q : ℕ) → q < 16 → ring c.move_to_front.new.self q ≡ fronted c.args.slot (bucket c.in-Some.n) q (ring s.rings q) =
    λ q h. c.move_to_front.ensures q h ∙ ap (λ r. fronted c.args.slot r q (ring s.rings q)) c.bucket_of.ensures in
    rw x.same (record {
      wide = length-set s.keys c.args.slot c.in-Some.n ∙ s.wide;
      filed = insert_filed s.rings c.move_to_front.new.self s.keys c.in-Some.n c.args.slot s.wide x.few moved s.filed;
    })

pub invariant_of-self-in-None : goal.invariant_of-self-in-None
invariant_of-self-in-None c =
    let s = c.args.self.now in
    record { wide = s.wide; filed = remove_filed s.rings c.remove.new.self s.keys c.args.slot c.remove.ensures.rings s.filed }

pub returns-in-Some : goal.returns-in-Some
returns-in-Some c y h =
    let s = c.args.self.now in
    let x = c.index.ensures in
    let moved : (q : ℕ) → q < 16 → ring c.move_to_front.new.self q ≡ fronted c.args.slot (bucket c.in-Some.n) q (ring s.rings q) =
    λ q h. c.move_to_front.ensures q h ∙ ap (λ r. fronted c.args.slot r q (ring s.rings q)) c.bucket_of.ensures in
    rw x.same (insert_key s.rings c.move_to_front.new.self s.keys c.in-Some.n c.args.slot s.wide x.few moved y h)
    ∙ ap (λ o. cond (eqb y c.args.slot) o (key_in s.rings s.keys y)) (sym c.in-Some.is)

pub returns-in-None : goal.returns-in-None
returns-in-None c y h =
    let s = c.args.self.now in
    remove_key s.rings c.remove.new.self s.keys c.args.slot c.remove.ensures.rings y h
    ∙ ap (λ o. cond (eqb y c.args.slot) o (key_in s.rings s.keys y)) (sym c.in-None.is)
