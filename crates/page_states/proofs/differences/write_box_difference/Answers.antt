use Rattle.std.proofs.Common.{◌≡◌, true, false}
use Rattle.std.proofs.lemmas.Result.{on_ok_weaker}
use Rattle.page_states.specs.Differences.{box_change}
use Rattle.page_states.proofs.Told.{told_if_other}
use Rattle.page_states.proofs.differences.write_box_difference.Goals as goal

pub returns : goal.returns
returns g c =
    let was = c.args.old in
    let new = c.args.new in
    let before = g.O.Write.contents c.args.out.now in
    let after = g.O.Write.contents c.write_box_change.new.out in
    let other : was ≡ new → ⊥ =
    λ same.
    let equal : c.is_same_box.result ≡ true = c.is_same_box.ensures.1 same in
    let unequal : c.is_same_box.result ≡ false = c.if-is_same_box.false in cc
    in
    on_ok_weaker c.write_box_change.result
    (λ written. told_if_other was new (box_change was new) before after other written)
    c.write_box_change.ensures
