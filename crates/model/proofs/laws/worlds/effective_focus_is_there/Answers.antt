use Rattle.model.proofs.Focus.FocusIsThere.{effective_focus_exists}
use Rattle.model.proofs.laws.worlds.effective_focus_is_there.Goals as goal

pub returns : goal.returns
returns c = λ w s. let e = effective_focus_exists s in (e.0, e.1, s.focus_is_node e.0 e.1.0)
