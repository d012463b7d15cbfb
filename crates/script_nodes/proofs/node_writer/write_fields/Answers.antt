use Rattle.std.proofs.Common.{◌≡◌, List, map, flat_map, Bor, ℕ, subst, ap, sym, ◌∙◌}
use Rattle.std.specs.Io.KnownBytes.{Appends}
use Rattle.std.proofs.lemmas.List.{take_all}
use Rattle.std.proofs.lemmas.List.Folds.{flat_map-map}
use Rattle.schema.specs.NodeData.{NodeData}
use Rattle.script_nodes.specs.declared.field_kinds.Field.{Field}
use Rattle.script_nodes.specs.FieldKinds.{all_fields}
use Rattle.script_nodes.specs.NodeText.{fields_text, piece}
use Rattle.script_nodes.proofs.FieldNames.{has_its_name}
use Rattle.script_nodes.proofs.node_writer.write_fields.Goals as goal

pub write_field-requires : goal.write_field-requires
write_field-requires g c = has_its_name c.named_fields-name-items.result.now c.named_fields-name-items.ensures.names c.loop-name.name-index _ c.loop-name-test.true

all_written : (n : NodeData) (table : List (Bor (List ℕ) × Field)) → map (λ e. e.1) table ≡ all_fields → flat_map (λ e. piece n e.1) table ≡ fields_text n
unfolding fields_text
all_written n table all = sym (flat_map-map (piece n) (λ e. e.1) table) ∙ ap (flat_map (piece n)) all

pub returns-clause-written : goal.returns-clause-written
returns-clause-written g c =
    let n = c.args.node.now in let table = c.named_fields-name-items.result.now in
    subst (Appends (g.O.Write.contents c.args.out.now) (g.O.Write.contents c.loop-name.out))
    (ap (flat_map (λ e. piece n e.1)) (take_all c.loop-name.name-index table c.loop-name-test.false) ∙ all_written n table c.named_fields-name-items.ensures.fields)
    c.loop-name.invariant
