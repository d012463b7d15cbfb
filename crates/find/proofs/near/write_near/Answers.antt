use Rattle.std.proofs.Common.{sym, subst}
use Rattle.std.specs.Prelude.{OnOk}
use Rattle.std.specs.Io.KnownBytes.{Appends}
use Rattle.views.specs.Nodes.{id_at}
use Rattle.hidden_texts.specs.Known.{AreRight}
use Rattle.find.specs.Near.{near_line}
use Rattle.find.proofs.near.write_near.Goals as goal

pub write_near_line-requires : goal.write_near_line-requires
write_near_line-requires g c = subst (λ v. AreRight v c.args.passwords.now) (sym c.requires.world) c.requires.known

pub returns : goal.returns
returns g c =
    subst (λ w. OnOk c.write_near_line.result (Appends (g.O.Write.contents c.args.out.now) (g.O.Write.contents c.write_near_line.new.out) (near_line c.args.how.now w (id_at c.args.node))))
    c.requires.world c.write_near_line.ensures
