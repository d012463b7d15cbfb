use Rattle.std.proofs.Common.{◌≡◌, false, rules, true}
use Rattle.script_lines.specs.LineReading.{head_data}
use Rattle.script_words.specs.Reading.{unread}
use Rattle.script_lines.proofs.HeadAnswers.{field_read, no_field_read}
use Rattle.script_words.proofs.FieldReads.{cut_flag, cut_value}
use Rattle.script_lines.proofs.HeadMeanings.{flag_field}
use Rattle.script_lines.proofs.heads.Head.read_field.Goals as goal

pub returns-in_err-name-clause-means : goal.returns-in_err-name-clause-means
returns-in_err-name-clause-means c =
    no_field_read (unread c.args.words.now) (unread c.field.new.self) (head_data c.args.self.now) (head_data c.args.self.now) c.from_residual.result c.in_err-name.field-0.0 c.from_residual.ensures.1 c.in_err-name.ensures.cut

pub returns-then-not-has_value-clause-means : goal.returns-then-not-has_value-clause-means
returns-then-not-has_value-clause-means c =
    let no : c.in_ok-name.has_value ≡ false = first_of (cc, search rules) in
    let k = cut_flag (unread c.args.words.now) (unread c.field.new.self) c.in_ok-name.name c.in_ok-name.has_value no c.in_ok-name.ensures.cut in
    flag_field (unread c.args.words.now) c.in_ok-name.name.now (unread c.field.new.self) (head_data c.args.self.now) k.1 k.0

pub returns-clause-means : goal.returns-clause-means
returns-clause-means c =
    let yes : c.in_ok-name.has_value ≡ true = first_of (cc, search rules) in
    field_read (unread c.args.words.now) c.in_ok-name.name.now (unread c.field.new.self) (unread c.read_value.new.words) (head_data c.args.self.now) (head_data c.read_value.new.self) c.read_value.result
    (cut_value (unread c.args.words.now) (unread c.field.new.self) c.in_ok-name.name c.in_ok-name.has_value yes c.in_ok-name.ensures.cut) c.read_value.ensures.means
