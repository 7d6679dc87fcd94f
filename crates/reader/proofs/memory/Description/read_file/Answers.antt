use Rattle.std.proofs.Common.{suc, length, None, Err, sym, ap, ◌∙◌, subst}
use Rattle.model.specs.declared.refusal.Refusal.TheVariants.{OutOfLimits}
use Rattle.description.specs.Descriptions.{Description, nothing}
use Rattle.description.specs.declared.field_kind.FieldKind.TheVariants.{Header}
use Rattle.description.specs.Reader.{Reading, reads}
use Rattle.reader.specs.Taken.{Ends}
use Rattle.reader.proofs.FieldRuns.{header_fault, header_right, other_version, refused_whole}
use Rattle.reader.proofs.memory.Description.read_file.Goals as goal

pub returns-in_err-header : goal.returns-in_err-header
returns-in_err-header g c =
    let r = g.K.Kind.relations c.args.kind.now in
    let a = c.in_err-header.ensures.answer in
    let faulty = header_fault r c.args.input.now a.0 a.1 ∙ ap (λ x. Err x) (sym a.2) in
    refused_whole c.from_residual.result c.in_err-header.field-0.0 _ _ c.from_residual.ensures.1 faulty

pub returns-then-header-ne1 : goal.returns-then-header-ne1
returns-then-header-ne1 g c =
    other_version (g.K.Kind.relations c.args.kind.now) c.args.input.now c.in_ok-header.header c.in_ok-header.ensures.answer c.if-header-ne1.true ∙ ap (λ n. Err (OutOfLimits n)) (sym c.place.ensures)

pub returns : goal.returns
returns g c =
    let r = g.K.Kind.relations c.args.kind.now in
    let input = c.args.input.now in
    let h = c.in_ok-header.header in
    let start : Description → Reading = λ d. record { last = Header; so_far = record { label = h.label; resources = d.resources; applications = d.applications; activities = d.activities; edges = d.edges }; current = None } in
    subst (Ends c.read_fields.result c.read_fields.new.self)
    (ap (λ d. reads r input (suc (length input)) (start d) c.size.result) c.requires
    ∙ ap (reads r input (suc (length input)) (start nothing)) c.size.ensures
    ∙ sym (header_right r input h c.in_ok-header.ensures.answer c.if-header-ne1.false))
    c.read_fields.ensures
