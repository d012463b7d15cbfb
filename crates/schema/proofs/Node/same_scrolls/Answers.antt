-- What neither has set is the same in both.
use Rattle.std.proofs.Common.{refl, subst}
use Rattle.schema.specs.Parts.{SameScrolls}
use Rattle.schema.specs.contracts.Node.{the_view}
use Rattle.schema.specs.declared.marks.Mark.TheVariants.{ScrollX, ScrollXMin, ScrollXMax, ScrollY, ScrollYMin, ScrollYMax, Transform}
use Rattle.schema.proofs.MarkedFields.{both_unset}
use Rattle.schema.proofs.Node.same_scrolls.Goals as goal

pub returns-then-share_none : goal.returns-then-share_none
returns-then-share_none c =
    let a = c.self.inside in let b = c.other.inside in
    let none = c.share_none.ensures c.if-share_none.true in
    let same : SameScrolls (the_view a) (the_view b) = record {
      scroll_x = both_unset _ _ _ _ (none ScrollX refl);
      scroll_x_min = both_unset _ _ _ _ (none ScrollXMin refl);
      scroll_x_max = both_unset _ _ _ _ (none ScrollXMax refl);
      scroll_y = both_unset _ _ _ _ (none ScrollY refl);
      scroll_y_min = both_unset _ _ _ _ (none ScrollYMin refl);
      scroll_y_max = both_unset _ _ _ _ (none ScrollYMax refl);
      transform = both_unset _ _ _ _ (none Transform refl);
    } in
    (λ t. subst (λ d. SameScrolls d c.args.other.now) c.self.view_is (subst (λ d. SameScrolls (the_view a) d) c.other.view_is same), λ s. refl)
