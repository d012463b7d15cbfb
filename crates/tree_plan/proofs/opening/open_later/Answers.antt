use Rattle.std.proofs.Common.{rules, ◌≡◌, ◌≢◌, Some, None, IsSome, sym, ap, ◌∙◌, subst, ◌<◌, ◌-◌, ◌^◌, length, unwrap_or, refl}
use Rattle.schema.specs.UpdateData.{update_data}
use Rattle.model.specs.World.{World, ROOT_NAME}
use Rattle.tree_plan.proofs.Opens.{first_root_name, later_opening, ungrafted}
use Rattle.tree_plan.proofs.opening.open_later.Goals as goal
use Rattle.tree_plan.proofs.opening.open_later.Goals.{then-is_none+else-not-has_first_index, else-is_none}

pub returns-clause-ok : goal.returns-clause-ok
returns-clause-ok g c =
    let w : World = g.L.LookUps.world c.args.look_ups.now in
    let u = update_data c.args.update.now in
    let t = c.args.looked_up.now in
    let o = c.known_trees-known.ensures.old in
    let counted : c.known_trees-known.result ≡ length w.known = c.known_trees-known.ensures.count in
    let grafted : u.name ≢ ROOT_NAME → IsSome t.graft = elim c.if-is_none.branch [
      | then-is_none+else-not-has_first_index b ↦ λ other. absurd (other (first_root_name w o u.name (sym c.requires.found.index ∙ b.if-not-has_first_index.ensures.0 (search rules))))
      | else-is_none b ↦ λ _. b.if-is_none.ensures
    ] in
    later_opening w o u c.requires.later t c.requires.found grafted
    c.in_ok-index.index (c.in_ok-index.ensures.ok ∙ ap (unwrap_or t.index) counted) (λ none. subst (λ n. n < 2 ^ 32 - 1) counted (c.in_ok-index.ensures.room none)) c.in_ok-root.root c.in_ok-root.ensures.ok

pub returns-then-not-has_first_index-clause-err : goal.returns-then-not-has_first_index-clause-err
returns-then-not-has_first_index-clause-err g c =
    let w : World = g.L.LookUps.world c.args.look_ups.now in
    let t = c.args.looked_up.now in
    let none : t.graft ≡ None = search rules in
    let other : ¬ (t.index ≡ Some 0) = λ first. let yes = c.has_first_index.ensures.1 first in let no = c.if-not-has_first_index.true in cc in
    let apart = ungrafted w c.known_trees-known.ensures.old c.requires.later c.args.update.now.tree_id t c.requires.found none other in
    (c.requires.later, refl, apart.0, apart.1)
