use Rattle.model.proofs.Focus.FocusIsOne.{effective_focus_unique}
use Rattle.model.proofs.laws.worlds.effective_focus_is_one.Goals as goal

pub returns : goal.returns
returns c = effective_focus_unique
