use Rattle.std.proofs.Common.{refl, ◌∙◌}
use Rattle.script_words.specs.Meaning.{next_as}
use Rattle.script_words.specs.Reading.{unread}
use Rattle.script_words.specs.WordValues.{id_of}
use Rattle.script_lines.proofs.HeadAnswers.{given_once}
use Rattle.script_lines.proofs.heads.new_id.Goals as goal

pub returns-clause-means : goal.returns-clause-means
returns-clause-means c =
    ((c.in_ok-id.field-0, unread c.id.new.self), given_once c.args.place.now (next_as id_of (unread c.args.words.now)) c.if-is_some.ensures ∙ c.in_ok-id.ensures.takes, (refl, refl))
