-- What neither has set is the same in both.
use Rattle.std.proofs.Common.{refl, subst}
use Rattle.schema.specs.Parts.{SameRarer}
use Rattle.schema.specs.contracts.Node.{the_view}
use Rattle.schema.specs.declared.marks.Mark.TheVariants.{ActiveDescendant, PreviousOnLine, NextOnLine, TreeId, TextSelection, Level, SizeOfSet, PositionInSet, NumericValue, MinNumericValue, MaxNumericValue, NumericValueStep, NumericValueJump, ScrollX, ScrollXMin, ScrollXMax, ScrollY, ScrollYMin, ScrollYMax, Transform, FontSize, FontWeight, BackgroundColor, ForegroundColor, Overline, Strikethrough, Underline, Expanded, Selected, Toggled, Orientation, SortDirection, AriaCurrent, HasPopup, Live, TextDirection, TextAlign, VerticalOffset}
use Rattle.schema.proofs.MarkedFields.{both_unset}
use Rattle.schema.proofs.Node.same_rarer.Goals as goal

pub returns-then-share_none : goal.returns-then-share_none
returns-then-share_none c =
    let a = c.self.inside in let b = c.other.inside in
    let none = c.share_none.ensures c.if-share_none.true in
    let same : SameRarer (the_view a) (the_view b) = record {
      links = record {
        active_descendant = both_unset _ _ _ _ (none ActiveDescendant refl);
        previous_on_line = both_unset _ _ _ _ (none PreviousOnLine refl);
        next_on_line = both_unset _ _ _ _ (none NextOnLine refl);
        tree_id = both_unset _ _ _ _ (none TreeId refl);
        text_selection = both_unset _ _ _ _ (none TextSelection refl);
      };
      counts = record {
        level = both_unset _ _ _ _ (none Level refl);
        size_of_set = both_unset _ _ _ _ (none SizeOfSet refl);
        position_in_set = both_unset _ _ _ _ (none PositionInSet refl);
      };
      values = record {
        numeric_value = both_unset _ _ _ _ (none NumericValue refl);
        min_numeric_value = both_unset _ _ _ _ (none MinNumericValue refl);
        max_numeric_value = both_unset _ _ _ _ (none MaxNumericValue refl);
        numeric_value_step = both_unset _ _ _ _ (none NumericValueStep refl);
        numeric_value_jump = both_unset _ _ _ _ (none NumericValueJump refl);
      };
      scrolls = record {
        scroll_x = both_unset _ _ _ _ (none ScrollX refl);
        scroll_x_min = both_unset _ _ _ _ (none ScrollXMin refl);
        scroll_x_max = both_unset _ _ _ _ (none ScrollXMax refl);
        scroll_y = both_unset _ _ _ _ (none ScrollY refl);
        scroll_y_min = both_unset _ _ _ _ (none ScrollYMin refl);
        scroll_y_max = both_unset _ _ _ _ (none ScrollYMax refl);
        transform = both_unset _ _ _ _ (none Transform refl);
      };
      looks = record {
        font_size = both_unset _ _ _ _ (none FontSize refl);
        font_weight = both_unset _ _ _ _ (none FontWeight refl);
        background_color = both_unset _ _ _ _ (none BackgroundColor refl);
        foreground_color = both_unset _ _ _ _ (none ForegroundColor refl);
        overline = both_unset _ _ _ _ (none Overline refl);
        strikethrough = both_unset _ _ _ _ (none Strikethrough refl);
        underline = both_unset _ _ _ _ (none Underline refl);
      };
      choices = record {
        expanded = both_unset _ _ _ _ (none Expanded refl);
        selected = both_unset _ _ _ _ (none Selected refl);
        toggled = both_unset _ _ _ _ (none Toggled refl);
        orientation = both_unset _ _ _ _ (none Orientation refl);
        sort_direction = both_unset _ _ _ _ (none SortDirection refl);
        aria_current = both_unset _ _ _ _ (none AriaCurrent refl);
        has_popup = both_unset _ _ _ _ (none HasPopup refl);
        live = both_unset _ _ _ _ (none Live refl);
        text_direction = both_unset _ _ _ _ (none TextDirection refl);
        text_align = both_unset _ _ _ _ (none TextAlign refl);
        vertical_offset = both_unset _ _ _ _ (none VerticalOffset refl);
      };
    } in
    (λ t. subst (λ d. SameRarer d c.args.other.now) c.self.view_is (subst (λ d. SameRarer (the_view a) d) c.other.view_is same), λ s. refl)
