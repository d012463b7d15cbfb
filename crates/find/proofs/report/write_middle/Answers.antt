use Rattle.std.proofs.Common.{◌≡◌, ◌++◌, Some, sym, ap, subst, ◌∙◌}
use Rattle.std.specs.Prelude.{codes}
use Rattle.std.specs.Io.KnownBytes.{Appends}
use Rattle.std.specs.Option.{option_map_or}
use Rattle.std.proofs.KnownBytes.{Appends-trans}
use Rattle.std.proofs.lemmas.Result.{on_ok_weaker}
use Rattle.views.specs.Nodes.{world_at, id_at}
use Rattle.hidden_texts.specs.Known.{AreRight}
use Rattle.find.specs.Middle.{node_at_middle}
use Rattle.find.specs.Printed.{hit_text}
use Rattle.find.proofs.report.write_middle.Goals as goal

pub returns : goal.returns
returns g c =
    let w = world_at c.args.node in
    let id = id_at c.args.node in
    let hit = id_at c.in-Some.hit in
    let found : Some hit ≡ node_at_middle w (id_at c.args.top) c.args.bounds = c.in-Some.ensures.node ∙ ap (λ v. node_at_middle v (id_at c.args.top) c.args.bounds) (sym c.requires.world) in
    on_ok_weaker c.write_hit.result
    (λ rest.
    subst (λ o. Appends (g.O.Write.contents c.args.out.now) (g.O.Write.contents c.write_hit.new.out) (codes "  middle " ++ option_map_or (hit_text w id) o (codes "none\n"))) found
    (Appends-trans _ _ _ (codes "  middle ") (hit_text w id hit) c.in_ok-write_all.ensures.bytes rest))
    c.write_hit.ensures

pub write_hit-requires-clause-known : goal.write_hit-requires-clause-known
write_hit-requires-clause-known g c = subst (λ v. AreRight v c.args.passwords.now) (c.requires.world ∙ sym c.in-Some.ensures.world) c.requires.known
