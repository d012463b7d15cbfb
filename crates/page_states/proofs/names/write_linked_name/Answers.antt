use Rattle.std.proofs.Common.{◌++◌, codes, subst}
use Rattle.std.specs.Io.KnownBytes.{Appends}
use Rattle.std.proofs.KnownBytes.{Appends-trans}
use Rattle.views.specs.Nodes.{id_at}
use Rattle.page_states.specs.Named.{role_and_text, linked_id}
use Rattle.page_states.proofs.names.write_linked_name.Goals as goal

pub returns : goal.returns
returns g c =
    let named = role_and_text c.args.view in
    let linked = linked_id c.args.state (id_at c.args.view.node) in
    let last = subst (λ i. Appends (g.O.Write.contents c.write_all.new.self) (g.O.Write.contents c.write_linked_id.new.out) (linked_id c.args.state i)) c.id.ensures c.in_ok-write_linked_id.ensures in
    let before = Appends-trans _ _ _ named (codes " ") c.in_ok-write_role_and_text.ensures c.in_ok-write_all.ensures.bytes in
    Appends-trans _ _ _ (named ++ codes " ") linked before last
