use Rattle.model.proofs.Differences.DifferencesExist.{differences_exist as exist}
use Rattle.model.proofs.Focus.FocusIsThere.{focus_exists}
use Rattle.model.proofs.laws.events.differences_exist.Goals as goal

pub returns : goal.returns
returns c = λ old new root s t. let before = focus_exists s in let after = focus_exists t in exist old new root before.0 after.0 before.1 after.1
