use Rattle.std.proofs.Common.{rules, ◌≡◌, Some, sym, ap, ◌∙◌}
use Rattle.model.specs.World.{World, ROOT_NAME, focus_named}
use Rattle.tree_plan.proofs.Opens.{first_root_name}
use Rattle.tree_plan.proofs.OfNames.{focus_by_name}
use Rattle.tree_plan.proofs.focusing.end_opened.Goals as goal

pub end_from-requires-clause-first : goal.end_from-requires-clause-first
end_from-requires-clause-first g c =
    let w : World = g.L.LookUps.world c.args.look_ups.now in
    let t = c.args.looked_up.now in
    let first : t.index ≡ Some 0 = c.has_first_index.ensures.0 (search rules) in
    let name : t.id ≡ ROOT_NAME = first_root_name w c.requires.old t.id (sym c.requires.record.index ∙ first) in
    ap (focus_named w) (sym name) ∙ focus_by_name w t.id t c.requires.record ∙ sym c.declared_in.ensures ∙ c.in-Some.is
