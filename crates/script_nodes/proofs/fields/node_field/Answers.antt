use Rattle.std.proofs.Common.{rules, ◌≡◌, false, true, None, Some, ◌∙◌}
use Rattle.script_nodes.specs.FieldMeaning.{field_called, field_means, takes_text}
use Rattle.script_nodes.proofs.FieldWords.{bad_line, called_is, flag_read, no_field, unknown_field, value_read}
use Rattle.script_words.specs.Fields.{fields_of, one_word}
use Rattle.script_words.specs.Reading.{unread}
use Rattle.script_words.proofs.FieldReads.{cut_flag, cut_value}
use Rattle.script_nodes.proofs.fields.node_field.Goals as goal

pub returns-in_err-name-clause-means : goal.returns-in_err-name-clause-means
returns-in_err-name-clause-means c =
    bad_line (one_word field_means (fields_of takes_text (unread c.args.words.now)) c.args.node.now) c.from_residual.result c.in_err-name.field-0.0 _ c.from_residual.ensures.1 c.in_err-name.ensures.cut.0
    (no_field (unread c.args.words.now) c.args.node.now c.in_err-name.ensures.cut.1)

pub returns-in_err-field-clause-means : goal.returns-in_err-field-clause-means
returns-in_err-field-clause-means c =
    let unknown : field_called c.in_ok-name.name.now ≡ None = called_is c.in_ok-name.name.now c.field_named.result c.field_named.ensures ∙ (search rules) in
    let none = unknown_field (unread c.args.words.now) (unread c.field.new.self) c.in_ok-name.name c.in_ok-name.has_value c.args.node.now c.in_ok-name.ensures.cut unknown in
    search rules

pub returns-then-has_value-clause-means : goal.returns-then-has_value-clause-means
returns-then-has_value-clause-means c =
    let known : field_called c.in_ok-name.name.now ≡ Some c.in_ok-field.field = called_is c.in_ok-name.name.now c.field_named.result c.field_named.ensures ∙ (search rules) in
    let yes : c.in_ok-name.has_value ≡ true = first_of (cc, search rules) in
    value_read (unread c.args.words.now) (unread c.field.new.self) (unread c.field_value.new.words) c.in_ok-name.name.now c.in_ok-field.field c.args.node.now c.field_value.new.node c.field_value.result
    (cut_value (unread c.args.words.now) (unread c.field.new.self) c.in_ok-name.name c.in_ok-name.has_value yes c.in_ok-name.ensures.cut) known c.field_value.ensures.means

pub returns-clause-means : goal.returns-clause-means
returns-clause-means c =
    let known : field_called c.in_ok-name.name.now ≡ Some c.in_ok-field.field = called_is c.in_ok-name.name.now c.field_named.result c.field_named.ensures ∙ (search rules) in
    let no : c.in_ok-name.has_value ≡ false = first_of (cc, search rules) in
    flag_read (unread c.args.words.now) (unread c.field.new.self) c.in_ok-name.name.now c.in_ok-field.field c.args.node.now c.give_flag.new.node c.give_flag.result
    (cut_flag (unread c.args.words.now) (unread c.field.new.self) c.in_ok-name.name c.in_ok-name.has_value no c.in_ok-name.ensures.cut) known c.give_flag.ensures.means
