use Rattle.page_states.proofs.Shared.{told_from}
use Rattle.page_states.proofs.shown_texts.tell_anew.Goals as goal

pub returns-clause-told : goal.returns-clause-told
returns-clause-told c = told_from c.args.place.now c.args.source _ c.requires.shared c.in_ok-value.ensures
