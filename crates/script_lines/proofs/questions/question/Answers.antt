use Rattle.std.proofs.Common.{refl}
use Rattle.script_words.specs.Reading.{unread}
use Rattle.script_lines.proofs.QuestionWords.{none_asked}
use Rattle.script_lines.proofs.questions.question.Goals as goal

pub returns-in_default : goal.returns-in_default
returns-in_default c =
    let d = c.in_default in
    (refl, none_asked c.args.word.now (unread c.args.words) d.not-children d.not-following d.not-preceding d.not-filtered d.not-following_filtered d.not-preceding_filtered d.not-set d.not-hit d.not-focus d.not-label d.not-value d.not-text d.not-move d.not-indexes d.not-between)
