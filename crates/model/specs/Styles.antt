-- The format of a run: the style that it has itself or inherits.
use Rattle.std.specs.Prelude.{ℕ, List, Bool, Option, refl}
use Rattle.std.specs.Coded.{Coded, code_by, coded×, coded_ℕ, coded_option, coded_list}
use Rattle.schema.specs.SameBy.{same_by}
use Rattle.schema.specs.declared.values.Color.{Color}
use Rattle.schema.specs.declared.values.TextAlign.{TextAlign}
use Rattle.schema.specs.declared.values.TextDecoration.{TextDecoration}
use Rattle.schema.specs.declared.values.VerticalOffset.{VerticalOffset}
use Rattle.schema.specs.contracts.Color.{the_row as color_row}
use Rattle.schema.specs.contracts.TextAlign.{the_row as align_row}
use Rattle.schema.specs.contracts.TextDecoration.{the_row as decoration_row}
use Rattle.schema.specs.contracts.VerticalOffset.{the_row as offset_row}
use Rattle.model.specs.declared.FullNodeId.{FullNodeId}
use Rattle.model.specs.World.{World}
use Rattle.model.specs.Upward.{inherited_field}

-- the format of a text, as far as it decides where a new format begins: direction and italics don't count
pub record Style : Type 0 where
  pub font_family : Option (List ℕ)
  pub language : Option (List ℕ)
  pub font_size : Option ℕ
  pub font_weight : Option ℕ
  pub background_color : Option Color
  pub foreground_color : Option Color
  pub overline : Option TextDecoration
  pub strikethrough : Option TextDecoration
  pub underline : Option TextDecoration
  pub text_align : Option TextAlign
  pub vertical_offset : Option VerticalOffset

abbrev pub style_of : World → FullNodeId → Style
style_of w id = record {
  font_family = inherited_field (λ d. d.font_family) w id;
  language = inherited_field (λ d. d.language) w id;
  font_size = inherited_field (λ d. d.font_size) w id;
  font_weight = inherited_field (λ d. d.font_weight) w id;
  background_color = inherited_field (λ d. d.background_color) w id;
  foreground_color = inherited_field (λ d. d.foreground_color) w id;
  overline = inherited_field (λ d. d.overline) w id;
  strikethrough = inherited_field (λ d. d.strikethrough) w id;
  underline = inherited_field (λ d. d.underline) w id;
  text_align = inherited_field (λ d. d.text_align) w id;
  vertical_offset = inherited_field (λ d. d.vertical_offset) w id;
}

abbrev pub coded_style : Coded Style
coded_style =
    code_by
    (Option (List ℕ)
    × (Option (List ℕ)
    × (Option ℕ
    × (Option ℕ
    × (Option Color
    × (Option Color
    × (Option TextDecoration × (Option TextDecoration × (Option TextDecoration × (Option TextAlign × Option VerticalOffset))))))))))
    (coded× (coded_option (coded_list coded_ℕ))
    (coded× (coded_option (coded_list coded_ℕ))
    (coded× (coded_option coded_ℕ)
    (coded× (coded_option coded_ℕ)
    (coded× (coded_option color_row.coded)
    (coded× (coded_option color_row.coded)
    (coded× (coded_option decoration_row.coded)
    (coded× (coded_option decoration_row.coded)
    (coded× (coded_option decoration_row.coded) (coded× (coded_option align_row.coded) (coded_option offset_row.coded)))))))))))
    (λ s. (
      s.font_family,
      (
        s.language,
        (
          s.font_size,
          (
            s.font_weight,
            (
              s.background_color,
              (s.foreground_color, (s.overline, (s.strikethrough, (s.underline, (s.text_align, s.vertical_offset))))),
            ),
          ),
        ),
      ),
    ))
    (λ p. record {
      font_family = p.0;
      language = p.1.0;
      font_size = p.1.1.0;
      font_weight = p.1.1.1.0;
      background_color = p.1.1.1.1.0;
      foreground_color = p.1.1.1.1.1.0;
      overline = p.1.1.1.1.1.1.0;
      strikethrough = p.1.1.1.1.1.1.1.0;
      underline = p.1.1.1.1.1.1.1.1.0;
      text_align = p.1.1.1.1.1.1.1.1.1.0;
      vertical_offset = p.1.1.1.1.1.1.1.1.1.1;
    })
    (λ _. refl)

-- whether two formats are equal
unfoldable pub same_style : Style → Style → Bool
same_style = same_by coded_style
