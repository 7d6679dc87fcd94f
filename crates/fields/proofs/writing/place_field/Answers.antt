use Rattle.std.proofs.Common.{◌≡◌, ◌-◌, ◌/◌, ◌%◌, [], ◌∷◌, ◌++◌, length, Ok, ap, ◌∙◌, arith, rules, length-append}
use Rattle.fields.specs.Fields.{reading, placed}
use Rattle.fields.proofs.Rounds.{put_field, round}
use Rattle.fields.proofs.writing.place_field.Goals as goal

pub returns : goal.returns
returns g c =
    let r = g.R.Record in
    let laws = g.met.R.Record in
    let out = c.args.output.now in
    let at = c.args.at in
    let x = c.args.item.now in
    let long = laws.long x in
    let ends = c.requires.size in
    let fits = c.requires.fits in
    let head : c.copy_from_slice.new.self ≡ r.TAG ∷ (r.LEN / 256 % 256) ∷ (r.LEN % 256) ∷ [] = search rules in
    let body : c.write.new.body ≡ r.bytes x = c.write.ensures.after in
    let heads = ap length head in
    let bodies = ap length body in
    let is = put_field out c.copy_from_slice.new.self _ c.write.new.body at 3 (c.args.end - at) (omega arith) (omega (arith, length-append c.copy_from_slice.new.self c.write.new.body))
    ∙ (λ i. placed out at (head i ++ body i)) in record {
      after = is;
      back = ap (λ l. reading r.TAG r.LEN r.parse l at) is ∙ round r.TAG r.LEN r.parse out (r.bytes x) at long (omega arith) (omega arith) ∙ ap Ok (laws.back x c.write.ensures.fits);
    }
