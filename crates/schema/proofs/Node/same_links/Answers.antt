-- What neither has set is the same in both.
use Rattle.std.proofs.Common.{refl, subst}
use Rattle.schema.specs.Parts.{SameLinks}
use Rattle.schema.specs.contracts.Node.{the_view}
use Rattle.schema.specs.declared.marks.Mark.TheVariants.{ActiveDescendant, PreviousOnLine, NextOnLine, TreeId, TextSelection}
use Rattle.schema.proofs.MarkedFields.{both_unset}
use Rattle.schema.proofs.Node.same_links.Goals as goal

pub returns-then-share_none : goal.returns-then-share_none
returns-then-share_none c =
    let a = c.self.inside in let b = c.other.inside in
    let none = c.share_none.ensures c.if-share_none.true in
    let same : SameLinks (the_view a) (the_view b) = record {
      active_descendant = both_unset _ _ _ _ (none ActiveDescendant refl);
      previous_on_line = both_unset _ _ _ _ (none PreviousOnLine refl);
      next_on_line = both_unset _ _ _ _ (none NextOnLine refl);
      tree_id = both_unset _ _ _ _ (none TreeId refl);
      text_selection = both_unset _ _ _ _ (none TextSelection refl);
    } in
    (λ t. subst (λ d. SameLinks d c.args.other.now) c.self.view_is (subst (λ d. SameLinks (the_view a) d) c.other.view_is same), λ s. refl)
