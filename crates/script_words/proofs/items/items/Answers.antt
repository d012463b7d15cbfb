use Rattle.std.proofs.Common.{rules, ◌≡◌, ◌∷◌, ◌++◌, [], IfSome, None, Some, option_copied, append_assoc, append-nil, ap, subst, sym, ◌∙◌}
use Rattle.script_words.specs.SaysParts.{SaysItems}
use Rattle.script_words.proofs.CommaLists.{all_left, next_left, pushed_left}
use Rattle.script_words.proofs.PartMeanings.{all_done, bad_part, none_done, one_done}
use Rattle.script_words.proofs.items.items.Goals as goal

pub loop-left-init : goal.loop-left-init
loop-left-init g c = record {
  reads = λ item others h hs e. all_left g.T.Item.item_text g.T.Item.is_item item others c.new-items.result.items c.args.word.now c.new-items.ensures.items h hs e;
  only = λ more says. subst (λ done. SaysItems g.T.Item.says (Some c.args.word.now) (done ++ more)) (sym c.new-items.ensures.items) says;
  means = none_done g.T.Item.value_of c.args.word.now c.new-items.result.items c.new-items.ensures.items;
}

pub returns-in_err-item-clause-reads : goal.returns-in_err-item-clause-reads
returns-in_err-item-clause-reads g c = λ item others h hs e.
    let k = next_left g.T.Item.item_text g.T.Item.is_item (item ∷ others) c.loop-left.items.items (option_copied c.loop-left.left) c.in-Some.rest.now c.cut_at.result.0.now (option_copied c.cut_at.result.1)
    c.item.ensures.apart c.cut_at.ensures.reads (ap option_copied c.in-Some.is) (c.loop-left.invariant.reads item others h hs e) in
    let n = c.item.ensures.reads k.0 k.1 k.2 in search rules

pub loop-left-preserved : goal.loop-left-preserved
loop-left-preserved g c = record {
  reads = λ item others h hs e.
      let k = next_left g.T.Item.item_text g.T.Item.is_item (item ∷ others) c.loop-left.items.items (option_copied c.loop-left.left) c.in-Some.rest.now c.cut_at.result.0.now (option_copied c.cut_at.result.1)
      c.item.ensures.apart c.cut_at.ensures.reads (ap option_copied c.in-Some.is) (c.loop-left.invariant.reads item others h hs e) in
      let n = c.item.ensures.reads k.0 k.1 k.2 in
      let m : c.in_ok-item.item ≡ k.0 = search rules in
      pushed_left g.T.Item.item_text g.T.Item.is_item (item ∷ others) c.loop-left.items.items c.push.new.self.items k.0 c.in_ok-item.item (option_copied c.cut_at.result.1) k.3 c.in_ok-push.ensures.items m;
  only = λ more says.
      let is : c.item.result ≡ Some c.in_ok-item.item = search rules in
      let item = subst (λ read. IfSome read (λ value. g.T.Item.says c.cut_at.result.0.now value)) is c.item.ensures.only in
      let all = c.loop-left.invariant.only (c.in_ok-item.item ∷ more) (c.cut_at.result.0.now, option_copied c.cut_at.result.1, ap option_copied c.in-Some.is ∙ ap Some c.cut_at.ensures.whole, item, says) in
      subst (SaysItems g.T.Item.says (Some c.args.word.now)) (sym (append_assoc c.loop-left.items.items (c.in_ok-item.item ∷ []) more) ∙ ap (λ done. done ++ more) (sym c.in_ok-push.ensures.items)) all;
  means =
      let is : c.item.result ≡ Some c.in_ok-item.item = search rules in
      one_done g.T.Item.value_of c.args.word.now c.loop-left.items.items c.push.new.self.items c.in_ok-item.item (option_copied c.loop-left.left) (option_copied c.cut_at.result.1) c.in-Some.rest.now c.cut_at.result.0.now
      (ap option_copied c.in-Some.is) c.cut_at.ensures.part c.cut_at.ensures.behind (sym is ∙ c.item.ensures.means) c.in_ok-push.ensures.items c.loop-left.invariant.means;
}

pub returns-clause-only : goal.returns-clause-only
returns-clause-only g c = subst (SaysItems g.T.Item.says (Some c.args.word.now)) (append-nil c.loop-left.items.items) (c.loop-left.invariant.only [] (ap option_copied c.in_default.is))

pub returns-in_err-item-clause-means : goal.returns-in_err-item-clause-means
returns-in_err-item-clause-means g c =
    let is : c.item.result ≡ None = search rules in
    let none = bad_part g.T.Item.value_of c.args.word.now c.loop-left.items.items (option_copied c.loop-left.left) (option_copied c.cut_at.result.1) c.in-Some.rest.now c.cut_at.result.0.now
    (ap option_copied c.in-Some.is) c.cut_at.ensures.part c.cut_at.ensures.behind (sym is ∙ c.item.ensures.means) c.loop-left.invariant.means in
    search rules

pub returns-clause-means : goal.returns-clause-means
returns-clause-means g c = all_done g.T.Item.value_of c.args.word.now c.loop-left.items.items (option_copied c.loop-left.left) (ap option_copied c.in_default.is) c.loop-left.invariant.means
