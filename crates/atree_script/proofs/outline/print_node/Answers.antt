use Rattle.std.proofs.lemmas.Result.{on_ok_weaker}
use Rattle.std.proofs.KnownBytes.{Appends-trans}
use Rattle.std.specs.Io.KnownBytes.{Appends}
use Rattle.std.proofs.Common.{subst, ◌++◌}
use Rattle.schema.specs.RoleNames.{role_text}
use Rattle.model.specs.Lists.{ancestors}
use Rattle.views.specs.Nodes.{world_at, id_at, data_at}
use Rattle.atree_script.specs.Outline.{spaces_for, focus_mark, named_line}
use Rattle.atree_script.proofs.TreeLines.{role_shown}
use Rattle.atree_script.proofs.outline.print_node.Goals as goal

pub returns : goal.returns
returns g c =
    let n = c.args.node in
    let w = world_at n in
    let id = id_at n in
    let before = g.O.Write.contents c.args.out.now in
    let after = g.O.Write.contents c.print_name.new.out in
    let indent = spaces_for (ancestors w id) in
    let role = role_text (data_at n).role in
    on_ok_weaker c.print_name.result
    (λ named.
    subst (λ r. Appends before after (indent ++ named_line id r (focus_mark w id))) (role_shown n)
    (Appends-trans before (g.O.Write.contents c.print_indent.new.out) after indent (named_line id role (focus_mark w id)) c.in_ok-print_indent.ensures named))
    c.print_name.ensures
