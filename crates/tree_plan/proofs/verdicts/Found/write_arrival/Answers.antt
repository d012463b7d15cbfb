use Rattle.std.proofs.Common.{◌≡◌, None, false, get_or, rules, sym, ap, ◌∙◌, [], ◌∷◌}
use Rattle.model.specs.declared.FullNodeId.{FullNodeId}
use Rattle.tree_plan.specs.declared.passes.Named.{Named}
use Rattle.tree_plan.specs.Passes.{at}
use Rattle.tree_plan.proofs.IdMaps.{read_step}
use Rattle.tree_plan.proofs.Walked.{row_both, walks_one}
use Rattle.tree_plan.proofs.verdicts.Found.write_arrival.Goals as goal

abbrev nowhere : FullNodeId × Named
nowhere = (record { tree = 0; node = record { 0 = 0 } }, record { entry = 0; was = None; is_news = false })

pub write_node-requires : goal.write_node-requires
write_node-requires g c =
    let m = c.args.self.now.compared.named in
    let here = read_step m c.entries-named.ensures.ascends c.entries-named.result.now c.entries-named.ensures.all c.args.rows.named nowhere c.if-rows-named.true in
    let same : (get_or c.entries-named.result.now c.args.rows.named nowhere).0 ≡ c.args.id = search rules in
    (c.requires.0, (c.requires.1.0, (sym here ∙ ap (at m) same, sym c.requires.1.1)))

pub returns-then-eq-clause-ok : goal.returns-then-eq-clause-ok
returns-then-eq-clause-ok g c =
    let same : (get_or c.entries-named.result.now c.args.rows.named nowhere).0 ≡ c.args.id = search rules in
    row_both g.step c.args.self.now c.requires.0 c.args.id c.args.rows.named c.args.rows.entered c.args.written.now c.write_node.new.written c.entries-named.result.now c.entries-named.ensures.all
    nowhere c.if-rows-named.true same c.in_ok-write_node.ensures.ok

pub returns-clause-ok : goal.returns-clause-ok
returns-clause-ok g c = walks_one g.step c.args.self.now c.requires.0 (c.args.id ∷ []) c.args.rows c.args.written.now c.write_node-2.new.written c.in_ok-write_node-2.ensures.ok
