use Rattle.std.proofs.Common.{refl}
use Rattle.tree_store.proofs.KeptReads.{told_stored}
use Rattle.tree_store.proofs.store.Store.set_host_focused.Goals as goal

pub invariant_of-self : goal.invariant_of-self
invariant_of-self c = told_stored c.self.inside _ c.args.focused c.self.invariant refl
