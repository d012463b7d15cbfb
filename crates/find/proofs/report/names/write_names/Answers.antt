use Rattle.std.proofs.Common.{sym, ap, subst}
use Rattle.std.specs.Prelude.{flat_map, reverse}
use Rattle.std.specs.Io.KnownBytes.{Appends}
use Rattle.std.proofs.KnownBytes.{Appends-trans}
use Rattle.std.proofs.lemmas.Result.{on_ok_weaker}
use Rattle.find.specs.Viewed.{name_seen, later_seen, names_seen, IsKnownOf}
use Rattle.find.proofs.Upward.{last_taken, last_known}
use Rattle.find.proofs.report.names.write_names.Goals as goal

pub write_name-requires : goal.write_name-requires
write_name-requires g c = (last_known (IsKnownOf c.args.passwords.now) c.args.nodes.items c.pop.new.self.items c.in-Some.root c.in-Some.ensures.items c.requires).last

pub write_later-requires : goal.write_later-requires
write_later-requires g c = (last_known (IsKnownOf c.args.passwords.now) c.args.nodes.items c.pop.new.self.items c.in-Some.root c.in-Some.ensures.items c.requires).others

pub returns : goal.returns
returns g c =
    let left = c.pop.new.self.items in
    on_ok_weaker c.write_later.result
    (λ later.
    subst (Appends (g.O.Write.contents c.args.out.now) (g.O.Write.contents c.write_later.new.out)) (sym (ap names_seen (last_taken c.args.nodes.items left c.in-Some.root c.in-Some.ensures.items)))
    (Appends-trans _ _ _ (name_seen c.in-Some.root) (flat_map later_seen (reverse left)) c.in_ok-write_name.ensures later))
    c.write_later.ensures
