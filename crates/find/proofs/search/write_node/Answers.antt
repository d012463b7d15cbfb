use Rattle.std.proofs.Common.{sym, subst}
use Rattle.std.specs.Prelude.{OnOk}
use Rattle.std.specs.Io.KnownBytes.{Appends}
use Rattle.views.specs.Nodes.{id_at}
use Rattle.hidden_texts.specs.Known.{AreRight}
use Rattle.find.specs.Printed.{node_text}
use Rattle.find.proofs.search.write_node.Goals as goal

pub report-requires-clause-known : goal.report-requires-clause-known
report-requires-clause-known g c = subst (λ v. AreRight v c.args.passwords.now) (sym c.requires.world) c.requires.known

pub returns : goal.returns
returns g c =
    subst (λ w. OnOk c.report.result (Appends (g.O.Write.contents c.args.output.now) (g.O.Write.contents c.report.new.out) (node_text w (id_at c.args.top) (id_at c.args.node))))
    c.requires.world c.report.ensures
