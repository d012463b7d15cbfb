use Rattle.std.proofs.Common.{ap, ◌∙◌}
use Rattle.model.proofs.State.StatePlaces.{value_of}
use Rattle.tree_plan.specs.Passes.{at_name}
use Rattle.tree_plan.proofs.MovedIn.{moves_in}
use Rattle.tree_plan.proofs.regrafting.Regrafted.add.Goals as goal

pub returns-clause-moved_in : goal.returns-clause-moved_in
returns-clause-moved_in g c =
    let n = value_of (at_name c.args.compared.now.grafted c.args.name.now) c.requires in
    let e = c.in_ok-move_in.ensures in
    moves_in (g.L.LookUps.world c.args.look_ups.now) c.args.compared.now c.args.name.now n.0 c.args.self.now.moved_in c.move_in.new.self.moved_in n.1
    c.tree_record-old.result c.tree_record-old.ensures.record
    (λ absent. ap (λ r. r.moved_in) (e.absent absent)) (λ rootless. ap (λ r. r.moved_in) (e.rootless rootless))
    (λ index node graft q known root is. (e.present index node graft known root (c.copied-graft.ensures ∙ c.get.ensures.value ∙ is)).0 q)
