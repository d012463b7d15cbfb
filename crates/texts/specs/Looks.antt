-- The style of a text, property by property.
use Rattle.std.specs.Prelude.{◌≡◌, Option}
use Rattle.schema.specs.NodeData.{NodeData}
use Rattle.model.specs.declared.FullNodeId.{FullNodeId}
use Rattle.model.specs.World.{World}
use Rattle.model.specs.Upward.{inherited_field}
use Rattle.model.specs.Views.{is_italic}
use Rattle.texts.specs.declared.looks.Look.{Look}
use Rattle.texts.specs.declared.looks.Look.TheVariants.{Direction, FontFamily, Language, FontSize, FontWeight, BackgroundColor, ForegroundColor, Overline, Strikethrough, Underline, Alignment, Offset, Italic}

-- two nodes inherit the same value of a field
abbrev pub LookAlike : {A : Type 0} → (NodeData → Option A) → World → FullNodeId → FullNodeId → Type 0
LookAlike field w a b = inherited_field field w a ≡ inherited_field field w b

-- two nodes have the same value of it
abbrev pub AreSame : Look → World → FullNodeId → FullNodeId → Type 0
AreSame Direction = LookAlike (λ d. d.text_direction)
AreSame FontFamily = LookAlike (λ d. d.font_family)
AreSame Language = LookAlike (λ d. d.language)
AreSame FontSize = LookAlike (λ d. d.font_size)
AreSame FontWeight = LookAlike (λ d. d.font_weight)
AreSame BackgroundColor = LookAlike (λ d. d.background_color)
AreSame ForegroundColor = LookAlike (λ d. d.foreground_color)
AreSame Overline = LookAlike (λ d. d.overline)
AreSame Strikethrough = LookAlike (λ d. d.strikethrough)
AreSame Underline = LookAlike (λ d. d.underline)
AreSame Alignment = LookAlike (λ d. d.text_align)
AreSame Offset = LookAlike (λ d. d.vertical_offset)
AreSame Italic = λ w a b. is_italic w a ≡ is_italic w b
