use Rattle.texts.proofs.FormatStarts.{begins_at_first}
use Rattle.texts.proofs.formats.begins_format.Goals as goal

pub returns-in_default : goal.returns-in_default
returns-in_default c = begins_at_first c.args.run c.in_default.ensures
