-- What neither has set is the same in both.
use Rattle.std.proofs.Common.{refl, subst}
use Rattle.schema.specs.Parts.{SameChoices}
use Rattle.schema.specs.contracts.Node.{the_view}
use Rattle.schema.specs.declared.marks.Mark.TheVariants.{Expanded, Selected, Toggled, Orientation, SortDirection, AriaCurrent, HasPopup, Live, TextDirection, TextAlign, VerticalOffset}
use Rattle.schema.proofs.MarkedFields.{both_unset}
use Rattle.schema.proofs.Node.same_choices.Goals as goal

pub returns-then-share_none : goal.returns-then-share_none
returns-then-share_none c =
    let a = c.self.inside in let b = c.other.inside in
    let none = c.share_none.ensures c.if-share_none.true in
    let same : SameChoices (the_view a) (the_view b) = record {
      expanded = both_unset _ _ _ _ (none Expanded refl);
      selected = both_unset _ _ _ _ (none Selected refl);
      toggled = both_unset _ _ _ _ (none Toggled refl);
      orientation = both_unset _ _ _ _ (none Orientation refl);
      sort_direction = both_unset _ _ _ _ (none SortDirection refl);
      aria_current = both_unset _ _ _ _ (none AriaCurrent refl);
      has_popup = both_unset _ _ _ _ (none HasPopup refl);
      live = both_unset _ _ _ _ (none Live refl);
      text_direction = both_unset _ _ _ _ (none TextDirection refl);
      text_align = both_unset _ _ _ _ (none TextAlign refl);
      vertical_offset = both_unset _ _ _ _ (none VerticalOffset refl);
    } in
    (λ t. subst (λ d. SameChoices d c.args.other.now) c.self.view_is (subst (λ d. SameChoices (the_view a) d) c.other.view_is same), λ s. refl)
