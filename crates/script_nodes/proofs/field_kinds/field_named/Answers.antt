use Rattle.script_nodes.proofs.FieldNames.{found_or_nowhere}
use Rattle.script_nodes.proofs.field_kinds.field_named.Goals as goal

pub returns : goal.returns
returns c = found_or_nowhere c.args.name.now c.named_fields.result.now c.named_fields.ensures.names c.named_fields.ensures.fields c.named.result c.named.ensures
