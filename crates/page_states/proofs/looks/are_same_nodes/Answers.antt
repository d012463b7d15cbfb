use Rattle.std.proofs.lemmas.Slice.Eq.{slice_eq-Decides}
use Rattle.model.specs.declared.FullNodeId.{FullNodeId}
use Rattle.model.proofs.Worlds.Ids.{equal_ids_are_one}
use Rattle.page_states.proofs.looks.are_same_nodes.Goals as goal

pub returns : goal.returns
returns c = slice_eq-Decides (λ (a b : FullNodeId). (equal_ids_are_one a b).1) c.args.a.now c.args.b.now c.eq.result c.eq.ensures
