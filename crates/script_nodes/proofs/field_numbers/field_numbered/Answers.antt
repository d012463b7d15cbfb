use Rattle.std.proofs.Common.{ap, ◌∙◌, option_map}
use Rattle.script_nodes.proofs.FieldNumbers.{field_at, field_of}
use Rattle.script_nodes.proofs.field_numbers.field_numbered.Goals as goal

pub returns-in-Some : goal.returns-in-Some
returns-in-Some c =
    ap (option_map field_of) c.in-Some.ensures ∙ field_at c.numbered_fields.result.now c.args.number c.numbered_fields.ensures.fields

pub returns-in-None : goal.returns-in-None
returns-in-None c =
    ap (option_map field_of) c.in-None.ensures ∙ field_at c.numbered_fields.result.now c.args.number c.numbered_fields.ensures.fields
