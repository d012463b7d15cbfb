-- What neither has set is the same in both.
use Rattle.std.proofs.Common.{refl, subst}
use Rattle.schema.specs.Parts.{SameLooks}
use Rattle.schema.specs.contracts.Node.{the_view}
use Rattle.schema.specs.declared.marks.Mark.TheVariants.{FontSize, FontWeight, BackgroundColor, ForegroundColor, Overline, Strikethrough, Underline}
use Rattle.schema.proofs.MarkedFields.{both_unset}
use Rattle.schema.proofs.Node.same_looks.Goals as goal

pub returns-then-share_none : goal.returns-then-share_none
returns-then-share_none c =
    let a = c.self.inside in let b = c.other.inside in
    let none = c.share_none.ensures c.if-share_none.true in
    let same : SameLooks (the_view a) (the_view b) = record {
      font_size = both_unset _ _ _ _ (none FontSize refl);
      font_weight = both_unset _ _ _ _ (none FontWeight refl);
      background_color = both_unset _ _ _ _ (none BackgroundColor refl);
      foreground_color = both_unset _ _ _ _ (none ForegroundColor refl);
      overline = both_unset _ _ _ _ (none Overline refl);
      strikethrough = both_unset _ _ _ _ (none Strikethrough refl);
      underline = both_unset _ _ _ _ (none Underline refl);
    } in
    (λ t. subst (λ d. SameLooks d c.args.other.now) c.self.view_is (subst (λ d. SameLooks (the_view a) d) c.other.view_is same), λ s. refl)
