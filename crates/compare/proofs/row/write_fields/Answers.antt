use Rattle.std.proofs.Common.{◌≡◌, Bool, List, map, flat_map, Bor, ℕ, subst, ap, sym, ◌∙◌}
use Rattle.std.specs.Io.KnownBytes.{Appends}
use Rattle.std.proofs.lemmas.List.{take_all}
use Rattle.std.proofs.lemmas.List.Folds.{flat_map-map}
use Rattle.schema.specs.NodeData.{NodeData}
use Rattle.script_nodes.specs.declared.field_kinds.Field.{Field}
use Rattle.script_nodes.specs.FieldKinds.{all_fields}
use Rattle.script_nodes.proofs.FieldNames.{has_its_name}
use Rattle.compare.specs.Rows.{fields_text, told_piece}
use Rattle.compare.proofs.row.write_fields.Goals as goal

pub write_told-requires : goal.write_told-requires
write_told-requires g c = has_its_name c.named_fields-name-items.result.now c.named_fields-name-items.ensures.names c.loop-name.name-index _ c.loop-name-test.true

all_written : (is_within : Bool) (n : NodeData) (table : List (Bor (List ℕ) × Field)) → map (λ e. e.1) table ≡ all_fields → flat_map (λ e. told_piece is_within n e.1) table ≡ fields_text is_within n
all_written is_within n table all = sym (flat_map-map (told_piece is_within n) (λ e. e.1) table) ∙ ap (flat_map (told_piece is_within n)) all

pub returns : goal.returns
returns g c =
    let n = c.args.node.now in let is_within = c.args.is_within in let table = c.named_fields-name-items.result.now in
    subst (Appends (g.O.Write.contents c.args.out.now) (g.O.Write.contents c.loop-name.out))
    (ap (flat_map (λ e. told_piece is_within n e.1)) (take_all c.loop-name.name-index table c.loop-name-test.false) ∙ all_written is_within n table c.named_fields-name-items.ensures.fields)
    c.loop-name.invariant
