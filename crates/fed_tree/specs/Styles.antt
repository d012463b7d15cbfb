-- How the text of nodes looks.
use Rattle.std.specs.Prelude.{ℕ, List, Option, Some, None, option_map}
use Rattle.model.specs.declared.FullNodeId.{FullNodeId}
use Rattle.model.specs.World.{World}
use Rattle.model.specs.Upward.{inherited_field}
use Rattle.model.specs.Views.{is_italic}
use Rattle.fed_tree.specs.declared.styles.Style.{Style}
use Rattle.fed_tree.specs.declared.styles.Style.TheVariants as style
use Rattle.fed_tree.specs.declared.styles.StyleValue.{StyleValue}
use Rattle.fed_tree.specs.declared.styles.StyleValue.TheVariants as value

-- the property of the nearest node, from this one upwards, that has one; of those that are no texts
abbrev pub style_at : Style → World → FullNodeId → Option StyleValue
style_at style.TextDirection w id = option_map (λ v. value.Direction v) (inherited_field (λ d. d.text_direction) w id)
style_at style.FontFamily w id = None
style_at style.Language w id = None
style_at style.FontSize w id = option_map (λ v. value.Size v) (inherited_field (λ d. d.font_size) w id)
style_at style.FontWeight w id = option_map (λ v. value.Weight v) (inherited_field (λ d. d.font_weight) w id)
style_at style.BackgroundColor w id = option_map (λ v. value.Color v) (inherited_field (λ d. d.background_color) w id)
style_at style.ForegroundColor w id = option_map (λ v. value.Color v) (inherited_field (λ d. d.foreground_color) w id)
style_at style.Overline w id = option_map (λ v. value.Line v) (inherited_field (λ d. d.overline) w id)
style_at style.Strikethrough w id = option_map (λ v. value.Line v) (inherited_field (λ d. d.strikethrough) w id)
style_at style.Underline w id = option_map (λ v. value.Line v) (inherited_field (λ d. d.underline) w id)
style_at style.TextAlign w id = option_map (λ v. value.Align v) (inherited_field (λ d. d.text_align) w id)
style_at style.VerticalOffset w id = option_map (λ v. value.Offset v) (inherited_field (λ d. d.vertical_offset) w id)
style_at style.Italic w id = Some (value.Italic (is_italic w id))

-- and of those that are
abbrev pub style_text_at : Style → World → FullNodeId → Option (List ℕ)
style_text_at style.FontFamily w id = inherited_field (λ d. d.font_family) w id
style_text_at style.Language w id = inherited_field (λ d. d.language) w id
style_text_at style.TextDirection w id = None
style_text_at style.FontSize w id = None
style_text_at style.FontWeight w id = None
style_text_at style.BackgroundColor w id = None
style_text_at style.ForegroundColor w id = None
style_text_at style.Overline w id = None
style_text_at style.Strikethrough w id = None
style_text_at style.Underline w id = None
style_text_at style.TextAlign w id = None
style_text_at style.VerticalOffset w id = None
style_text_at style.Italic w id = None
