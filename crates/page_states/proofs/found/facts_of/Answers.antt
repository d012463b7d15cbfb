use Rattle.std.proofs.Common.{sym, ap, ◌∙◌}
use Rattle.std.specs.BTreeMap.{get}
use Rattle.model.specs.FullIds.{full_cmp}
use Rattle.views.specs.Nodes.{id_at}
use Rattle.page_states.proofs.found.facts_of.Goals as goal

pub returns-in-Some : goal.returns-in-Some
returns-in-Some c = λ right. right (id_at c.args.node.now) c.in-Some.facts.now (ap (get full_cmp c.args.known.now) (sym c.id.ensures) ∙ sym c.in-Some.ensures.value)
