use Rattle.std.proofs.Common.{◌+◌, get_or, take, sym, subst}
use Rattle.std.specs.Io.KnownBytes.{Appends}
use Rattle.std.proofs.KnownBytes.{Appends-trans}
use Rattle.html.specs.Written.{AppendsBeginning}
use Rattle.html.proofs.Beginnings.{at_err}
use Rattle.page.specs.States.{item_text, items_from}
use Rattle.page.specs.declared.sections.Titled.{Titled}
use Rattle.page.proofs.Items.{items_cut, items_more}
use Rattle.page.proofs.sections.write_items.Goals as goal

pub loop-index-preserved : goal.loop-index-preserved
loop-index-preserved g c =
    let states = c.args.states.now in
    let i = c.loop-index.index in
    let item = c.index-states-index.result in
    let before = g.O.Write.contents c.args.out.now in
    let so_far = g.O.Write.contents c.loop-index.out in
    let after = g.O.Write.contents c.write_item.new.out in
    let told = subst (λ (it : Titled). Appends so_far after (item_text (i + 1) it)) c.index-states-index.is c.in_ok-write_item.ensures.written in
    subst (Appends before after) (sym (items_more states i item c.loop-index-test.true))
    (Appends-trans before so_far after (items_from 1 (take i states)) (item_text (i + 1) (get_or states i item)) c.loop-index.invariant told)

pub returns-in_err-write_item-clause-cut : goal.returns-in_err-write_item-clause-cut
returns-in_err-write_item-clause-cut g c =
    let i = c.loop-index.index in
    let so_far = g.O.Write.contents c.loop-index.out in
    let after = g.O.Write.contents c.write_item.new.out in
    let begun = subst (λ (it : Titled). AppendsBeginning so_far after (item_text (i + 1) it)) c.index-states-index.is c.in_err-write_item.ensures.cut in
    at_err _ (items_cut c.args.states.now i c.index-states-index.result c.loop-index-test.true _ _ _ c.loop-index.invariant begun)
