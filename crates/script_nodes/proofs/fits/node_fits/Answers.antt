use Rattle.std.proofs.Common.{All, subst}
use Rattle.std.proofs.lemmas.List.{take_all}
use Rattle.script_nodes.specs.NodeReading.{IsValue}
use Rattle.script_words.specs.Reading.{IsRole}
use Rattle.script_nodes.proofs.NodeFits.{each_value}
use Rattle.script_nodes.proofs.fits.node_fits.Goals as goal

pub returns : goal.returns
returns c = λ sets.
    let n = c.args.node.now in let table = c.named_fields-field-items.result.now in
    (subst IsRole c.role.ensures c.role_fits.ensures, each_value n table c.named_fields-field-items.ensures.fields (subst (All (λ entry. IsValue entry.1 n)) (take_all c.loop-field.field-index table c.loop-field-test.false) (c.loop-field.invariant sets)))
