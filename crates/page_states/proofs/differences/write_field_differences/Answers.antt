use Rattle.script_nodes.proofs.FieldNames.{has_its_name}
use Rattle.page_states.proofs.FieldsTold.{field_more, fields_told}
use Rattle.page_states.proofs.differences.write_field_differences.Goals as goal

pub write_field_difference-requires : goal.write_field_difference-requires
write_field_difference-requires g c =
    let table = c.named_fields-name-items in
    has_its_name table.result.now table.ensures.names c.loop-name.name-index _ c.loop-name-test.true

pub loop-name-preserved : goal.loop-name-preserved
loop-name-preserved g c =
    let loop = c.loop-name in
    field_more c.args.old.now c.args.new.now c.named_fields-name-items.result.now loop.name-index _ _ _ _ c.loop-name-test.true loop.invariant
    c.in_ok-write_field_difference.ensures

pub returns : goal.returns
returns g c =
    let table = c.named_fields-name-items in
    let loop = c.loop-name in
    fields_told c.args.old.now c.args.new.now table.result.now loop.name-index _ _ c.loop-name-test.false table.ensures.fields loop.invariant
