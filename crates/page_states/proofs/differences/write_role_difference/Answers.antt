use Rattle.std.proofs.Common.{◌≡◌, ◌∙◌, true, false, sym}
use Rattle.std.proofs.lemmas.Result.{on_ok_weaker}
use Rattle.views.specs.Nodes.{data_at}
use Rattle.page_states.specs.Differences.{role_change}
use Rattle.page_states.proofs.Told.{told_if_other}
use Rattle.page_states.proofs.differences.write_role_difference.Goals as goal

pub returns : goal.returns
returns g c =
    let was = (data_at c.args.old.now).role in
    let is = (data_at c.args.new.now).role in
    let before = g.O.Write.contents c.args.out.now in
    let after = g.O.Write.contents c.write_role_change.new.out in
    let other : was ≡ is → ⊥ =
    λ same.
    let equal : c.eq.result ≡ true = c.eq.ensures.exact.1 (c.role.ensures ∙ same ∙ sym c.role-2.ensures) in
    let unequal : c.eq.result ≡ false = c.if-eq.false in cc
    in
    on_ok_weaker c.write_role_change.result
    (λ written. told_if_other was is (role_change was is) before after other written)
    c.write_role_change.ensures
