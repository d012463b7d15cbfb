use Rattle.std.proofs.Common.{rules, ◌≡◌, Some, subst}
use Rattle.std.specs.Io.KnownBytes.{Appends}
use Rattle.std.proofs.KnownBytes.{Appends-trans}
use Rattle.std.proofs.lemmas.Result.{on_ok_weaker}
use Rattle.model.specs.Geometry.{bounding_box}
use Rattle.views.specs.Nodes.{world_at, id_at}
use Rattle.find.specs.Printed.{box_text, middle_line, sides_line}
use Rattle.find.proofs.report.write_box.Goals as goal

pub returns : goal.returns
returns g c =
    let w = world_at c.args.node in
    let id = id_at c.args.node in
    let top = id_at c.args.top in
    let box = c.in-Some.bounds in
    let found : Some box ≡ bounding_box w id = search rules in
    on_ok_weaker c.write_middle.result
    (λ rest.
    subst (λ o. Appends (g.O.Write.contents c.args.out.now) (g.O.Write.contents c.write_middle.new.out) (box_text w top id o)) found
    (Appends-trans _ _ _ (sides_line box) (middle_line w top id box) c.in_ok-write_bounds.ensures rest))
    c.write_middle.ensures
