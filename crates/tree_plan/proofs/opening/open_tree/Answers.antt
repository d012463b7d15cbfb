use Rattle.std.proofs.Common.{◌≡◌, ◌∙◌, length, Some, option_map, sym, ap, arith}
use Rattle.schema.specs.UpdateData.{info_data, update_data}
use Rattle.model.specs.World.{World}
use Rattle.model.specs.Update.{IsFirst}
use Rattle.model.proofs.State.StatePlaces.{map_some}
use Rattle.tree_plan.proofs.Opens.{first_opening, none_known}
use Rattle.tree_plan.proofs.opening.open_tree.Goals as goal

pub returns-clause-ok : goal.returns-clause-ok
returns-clause-ok g c =
    let w : World = g.L.LookUps.world c.args.look_ups.now in
    let u = update_data c.args.update.now in
    let counted : c.known_trees.result ≡ length w.known = c.known_trees.ensures.count in
    let first : IsFirst w = none_known w.known (let zero : c.known_trees.result ≡ 0 = omega arith in sym counted ∙ zero) in
    let info = map_some _ c.args.update.now.tree c.in_ok-root.root c.in_ok-root.ensures.ok.0 in
    let has : u.info ≡ Some (info_data info.0) = ap (option_map info_data) info.1 in
    first_opening w c.known_trees.ensures.old u first c.args.looked_up.now c.requires.found (info_data info.0) has c.in_ok-root.root info.2 c.in_ok-root.ensures.ok.1
