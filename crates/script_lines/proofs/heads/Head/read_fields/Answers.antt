use Rattle.std.proofs.Common.{option_copied, refl}
use Rattle.script_lines.specs.LineReading.{head_data}
use Rattle.script_lines.proofs.HeadAnswers.{all_read, answers_err, none_read, one_read}
use Rattle.script_lines.proofs.heads.Head.read_fields.Goals as goal

pub loop-alloc-preserved : goal.loop-alloc-preserved
loop-alloc-preserved c =
    let k = c.in_ok-read_field.ensures.means in
    one_read (option_copied c.loop-alloc.words.rest) (option_copied c.read_field.new.words.rest) (head_data c.loop-alloc.self) (head_data c.read_field.new.self) _ k.0 k.1 k.2.0 k.2.1 c.loop-alloc.invariant

pub returns-in_err-read_field : goal.returns-in_err-read_field
returns-in_err-read_field c =
    answers_err _ c.from_residual.result c.in_err-read_field.field-0.0 _ c.from_residual.ensures.1
    (none_read c.loop-alloc.words.rest (head_data c.loop-alloc.self) (head_data c.read_field.new.self) (option_copied c.read_field.new.words.rest) _ c.in_err-read_field.field-0.0 _ c.loop-alloc-test.ensures c.in_err-read_field.ensures.means c.loop-alloc.invariant)

pub returns : goal.returns
returns c = (head_data c.loop-alloc.self, all_read c.loop-alloc.words.rest (head_data c.loop-alloc.self) _ c.loop-alloc-test.ensures c.loop-alloc.invariant, refl)
