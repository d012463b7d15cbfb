use Rattle.std.proofs.Common.{ap, option_copied, sym, ◌∙◌}
use Rattle.script_nodes.specs.FieldMeaning.{field_means, fields_mean, takes_text}
use Rattle.script_nodes.proofs.FieldWords.{as_stopped}
use Rattle.script_words.specs.Fields.{each_word, fields_of}
use Rattle.script_words.proofs.FieldReads.{all_read, goes_on, none_read}
use Rattle.script_nodes.proofs.node_lines.node_of.Goals as goal

pub loop-words-init : goal.loop-words-init
loop-words-init c = ap (each_word field_means (fields_of takes_text (option_copied c.args.words.rest))) c.new-node.ensures

pub loop-words-preserved : goal.loop-words-preserved
loop-words-preserved c =
    goes_on field_means (fields_of takes_text (option_copied c.loop-words.words.rest)) c.loop-words.node (c.node_field.new.node, fields_of takes_text (option_copied c.node_field.new.words.rest)) _
    c.in_ok-node_field.ensures.means c.loop-words.invariant

pub returns-in_err-node_field : goal.returns-in_err-node_field
returns-in_err-node_field c =
    as_stopped (fields_mean c.args.role (option_copied c.args.words.rest)) c.from_residual.result c.in_err-node_field.field-0.0 _ c.from_residual.ensures.1
    (none_read takes_text field_means c.loop-words.words.rest c.loop-words.node _ c.in_err-node_field.field-0.0 _ _ (sym c.loop-words-test.true ∙ c.is_some.ensures) c.in_err-node_field.ensures.means c.loop-words.invariant)

pub returns : goal.returns
returns c = all_read takes_text field_means c.loop-words.words.rest c.loop-words.node _ (sym c.loop-words-test.false ∙ c.is_some.ensures) c.loop-words.invariant
