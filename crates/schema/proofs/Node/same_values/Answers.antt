-- What neither has set is the same in both.
use Rattle.std.proofs.Common.{refl, subst}
use Rattle.schema.specs.Parts.{SameValues}
use Rattle.schema.specs.contracts.Node.{the_view}
use Rattle.schema.specs.declared.marks.Mark.TheVariants.{NumericValue, MinNumericValue, MaxNumericValue, NumericValueStep, NumericValueJump}
use Rattle.schema.proofs.MarkedFields.{both_unset}
use Rattle.schema.proofs.Node.same_values.Goals as goal

pub returns-then-share_none : goal.returns-then-share_none
returns-then-share_none c =
    let a = c.self.inside in let b = c.other.inside in
    let none = c.share_none.ensures c.if-share_none.true in
    let same : SameValues (the_view a) (the_view b) = record {
      numeric_value = both_unset _ _ _ _ (none NumericValue refl);
      min_numeric_value = both_unset _ _ _ _ (none MinNumericValue refl);
      max_numeric_value = both_unset _ _ _ _ (none MaxNumericValue refl);
      numeric_value_step = both_unset _ _ _ _ (none NumericValueStep refl);
      numeric_value_jump = both_unset _ _ _ _ (none NumericValueJump refl);
    } in
    (λ t. subst (λ d. SameValues d c.args.other.now) c.self.view_is (subst (λ d. SameValues (the_view a) d) c.other.view_is same), λ s. refl)
