-- What neither has set is the same in both.
use Rattle.std.proofs.Common.{refl, subst}
use Rattle.schema.specs.Parts.{SameCounts}
use Rattle.schema.specs.contracts.Node.{the_view}
use Rattle.schema.specs.declared.marks.Mark.TheVariants.{Level, SizeOfSet, PositionInSet}
use Rattle.schema.proofs.MarkedFields.{both_unset}
use Rattle.schema.proofs.Node.same_counts.Goals as goal

pub returns-then-share_none : goal.returns-then-share_none
returns-then-share_none c =
    let a = c.self.inside in let b = c.other.inside in
    let none = c.share_none.ensures c.if-share_none.true in
    let same : SameCounts (the_view a) (the_view b) = record {
      level = both_unset _ _ _ _ (none Level refl);
      size_of_set = both_unset _ _ _ _ (none SizeOfSet refl);
      position_in_set = both_unset _ _ _ _ (none PositionInSet refl);
    } in
    (λ t. subst (λ d. SameCounts d c.args.other.now) c.self.view_is (subst (λ d. SameCounts (the_view a) d) c.other.view_is same), λ s. refl)
