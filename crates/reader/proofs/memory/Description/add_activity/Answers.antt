use Rattle.std.proofs.Common.{◌≡◌, ◌+◌, length, vec_items, vec_len, sym, ap, ◌∙◌, arith}
use Rattle.std.proofs.lemmas.List.{length-map}
use Rattle.records.specs.declared.activity.Activity.{Activity}
use Rattle.description.specs.Limits.{cell_count}
use Rattle.reader.specs.Described.{application_of, described}
use Rattle.reader.specs.Known.{KnownActivity}
use Rattle.reader.proofs.Pushing.{cell_count-push, each_push, right_is_known}
use Rattle.reader.proofs.memory.Description.add_activity.Goals as goal

pub invariant_of-self : goal.invariant_of-self
invariant_of-self c =
    let d = c.args.self.now in
    let x = c.args.x in
    let v = c.push_reserved.new.self in
    let P : Activity → Type 0 = KnownActivity (vec_len d.applications) (vec_len d.resources) in
    let k = right_is_known (described d) x c.requires.right in
    let applications : length (described d).applications ≡ vec_len d.applications = length-map (vec_items d.applications) application_of ∙ sym d.applications.ok.0 in
    let resources : length (described d).resources ≡ vec_len d.resources = sym d.resources.ok.0 in
    let new : P x = (omega arith, omega arith, k.2, k.3) in
    let counted : d.cells + x.turns ≡ cell_count (vec_items v) =
    ap (λ n. n + x.turns) d.counted ∙ sym (cell_count-push (vec_items d.activities) x) ∙ ap cell_count (sym c.push_reserved.ensures.items) in record {
      room = (omega arith, omega arith, omega arith, omega arith);
      few = (omega arith, omega arith, omega arith, omega arith);
      counted = ap (λ n. d.cells + n) c.from.ensures ∙ counted;
      cells_few = omega arith;
      activities_known =
          each_push P (vec_items d.activities) (vec_items v) x _ (vec_len d.activities) (vec_len v) d.activities.ok.0 c.push_reserved.ensures.len c.push_reserved.ensures.items d.activities_known new;
      edges_known = λ i h. ((d.edges_known i h).0, omega (arith, (d.edges_known i h).1));
    }
