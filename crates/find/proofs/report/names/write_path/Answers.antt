use Rattle.std.proofs.Common.{◌++◌, subst}
use Rattle.std.specs.Prelude.{codes, reverse}
use Rattle.std.specs.Io.KnownBytes.{Appends}
use Rattle.std.proofs.KnownBytes.{Appends-trans}
use Rattle.model.specs.Upward.{upward}
use Rattle.views.specs.Nodes.{world_at, id_at}
use Rattle.find.specs.Printed.{names_text}
use Rattle.find.proofs.Upward.{names_down, nodes_known}
use Rattle.find.proofs.report.names.write_path.Goals as goal

pub returns : goal.returns
returns g c =
    let w = world_at c.args.node in
    let ups = upward w (id_at c.args.node) in
    let names = names_text w (reverse ups) in
    let named = subst (Appends (g.O.Write.contents c.write_all.new.self) (g.O.Write.contents c.write_names.new.out)) (names_down w c.in_ok-nodes.nodes.items ups c.in_ok-nodes.ensures) c.in_ok-write_names.ensures in
    Appends-trans _ _ _ (codes "  path" ++ names) (codes "\n") (Appends-trans _ _ _ (codes "  path") names c.in_ok-write_all.ensures.bytes named) c.in_ok-write_all-2.ensures.bytes

pub write_names-requires : goal.write_names-requires
write_names-requires g c =
    let w = world_at c.args.node in
    nodes_known c.args.passwords.now w c.in_ok-nodes.nodes.items (upward w (id_at c.args.node)) c.in_ok-nodes.ensures c.requires
