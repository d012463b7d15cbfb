use Rattle.std.proofs.Common.{All, subst}
use Rattle.script_lines.specs.ReadingBack.{HasSets, IsEntry}
use Rattle.script_lines.proofs.read_back.update_fits.Goals as goal

pub returns-clause-nodes : goal.returns-clause-nodes
returns-clause-nodes c = subst (λ nodes. All HasSets nodes → All IsEntry nodes) c.deref.ensures.value c.entries_fit.ensures
