use Rattle.std.proofs.Common.{◌≡◌, None, inr, refl, rules}
use Rattle.std.specs.List.{slice_get}
use Rattle.schema.specs.UpdateData.{update_data}
use Rattle.script_nodes.specs.Given.{given}
use Rattle.script_nodes.specs.FieldNumbers.{numbered_fields}
use Rattle.fed_tree.proofs.LastNode.{is_set, is_unset, no_field}
use Rattle.fed_tree.proofs.updating.set_last.Goals as goal

pub returns-in_default-field_numbered : goal.returns-in_default-field_numbered
returns-in_default-field_numbered c =
    let v = c.args.update.now.nodes in
    let entry = c.in-Some.entry.now in
    let none : None ≡ slice_get numbered_fields c.args.field = search rules in
    inr
    (no_field (update_data c.args.update.now) v.len v.ok.0 (c.in-Some.ensures.variant.0 refl) entry c.in-Some.ensures.value c.args.field
    (given c.args.value) none)

pub returns-in-Ok-true : goal.returns-in-Ok-true
returns-in-Ok-true c =
    inr
    (is_set (update_data c.args.update.now) c.args.update.now.nodes.len c.args.update.now.nodes.ok.0 (c.in-Some.ensures.variant.0 refl) c.in-Some.entry.now c.in-Some.ensures.value c.args.field
    (given c.args.value) c.in-Some-field_numbered.field c.in-Some-field_numbered.ensures c.set_field.new.node _ c.in-Ok-true.field-0-test c.in-Ok-true.ensures)

pub returns-in-Ok-false : goal.returns-in-Ok-false
returns-in-Ok-false c =
    inr
    (is_unset (update_data c.args.update.now) c.args.update.now.nodes.len c.args.update.now.nodes.ok.0 (c.in-Some.ensures.variant.0 refl) c.in-Some.entry.now c.in-Some.ensures.value c.args.field
    (given c.args.value) c.in-Some-field_numbered.field c.in-Some-field_numbered.ensures c.set_field.new.node _ c.in-Ok-false.field-0-test c.in-Ok-false.ensures)
