-- How texts look at their positions, and over parts of them.
use Rattle.std.specs.Prelude.{◌≡◌, ℕ, List, slice_get, Bool, true, false, Option, Some, None, MatchOption, IsSomeAnd, option_and_then}
use Rattle.schema.specs.NodeData.{NodeData}
use Rattle.model.specs.declared.FullNodeId.{FullNodeId}
use Rattle.model.specs.World.{World, data_of}
use Rattle.model.specs.FlatText.{FlatText, flat_text}
use Rattle.model.specs.Ranges.{IsPropertyOf, Property, Range}
use Rattle.model.specs.Ranges.Property.{Single as single, Mixed as mixed}
use Rattle.model.specs.Upward.{inherited_field}
use Rattle.model.specs.Views.{is_italic}
use Rattle.texts.specs.declared.range_properties.TextRangePropertyValue.{TextRangePropertyValue}
use Rattle.texts.specs.declared.range_properties.TextRangePropertyValue.TheVariants.{Single, Mixed}
use Rattle.fed_tree.specs.Spans.{part_between}
use Rattle.fed_tree.specs.Spots.{found_at}
use Rattle.fed_tree.specs.Styles.{style_at, style_text_at}
use Rattle.fed_tree.specs.declared.spots.Spot.{Spot}
use Rattle.fed_tree.specs.declared.styles.Style.{Style}
use Rattle.fed_tree.specs.declared.styles.Style.TheVariants as style
use Rattle.fed_tree.specs.declared.styles.StyleValue.{StyleValue}

-- the run of a position in the text of a node
abbrev pub run_at : Spot → World → FullNodeId → Option FullNodeId
run_at at w id = option_and_then (λ p. option_and_then (λ s. Some s.id) (slice_get (flat_text w id) p.run)) (found_at at w id)

-- the property there, which the run has itself or inherits
abbrev pub style_in_text : Spot → Style → World → FullNodeId → Option StyleValue
style_in_text at style w id = option_and_then (style_at style w) (run_at at w id)

abbrev pub style_text_in_text : Spot → Style → World → FullNodeId → Option (List ℕ)
style_text_in_text at style w id = option_and_then (style_text_at style w) (run_at at w id)

abbrev pub is_mixed : {A : Type 0} → Property A → Bool
is_mixed (single value) = false
is_mixed mixed = true

abbrev pub is_mixed_value : {T : Type 0} → TextRangePropertyValue T → Bool
is_mixed_value (Single value) = false
is_mixed_value Mixed = true

-- whether two runs of the range have different values
abbrev pub Differs : {A : Type 0} → (FullNodeId → A) → FlatText → Range → Bool → Type 0
Differs {A} of t r differs = (p : Property A) × IsPropertyOf of t r p × (differs ≡ is_mixed p)

abbrev pub DiffersOver : Style → World → FlatText → Range → Bool → Type 0
DiffersOver style.TextDirection w t r differs = Differs (inherited_field (λ d. d.text_direction) w) t r differs
DiffersOver style.FontFamily w t r differs = Differs (inherited_field (λ d. d.font_family) w) t r differs
DiffersOver style.Language w t r differs = Differs (inherited_field (λ d. d.language) w) t r differs
DiffersOver style.FontSize w t r differs = Differs (inherited_field (λ d. d.font_size) w) t r differs
DiffersOver style.FontWeight w t r differs = Differs (inherited_field (λ d. d.font_weight) w) t r differs
DiffersOver style.BackgroundColor w t r differs = Differs (inherited_field (λ d. d.background_color) w) t r differs
DiffersOver style.ForegroundColor w t r differs = Differs (inherited_field (λ d. d.foreground_color) w) t r differs
DiffersOver style.Overline w t r differs = Differs (inherited_field (λ d. d.overline) w) t r differs
DiffersOver style.Strikethrough w t r differs = Differs (inherited_field (λ d. d.strikethrough) w) t r differs
DiffersOver style.Underline w t r differs = Differs (inherited_field (λ d. d.underline) w) t r differs
DiffersOver style.TextAlign w t r differs = Differs (inherited_field (λ d. d.text_align) w) t r differs
DiffersOver style.VerticalOffset w t r differs = Differs (inherited_field (λ d. d.vertical_offset) w) t r differs
DiffersOver style.Italic w t r differs = Differs (is_italic w) t r differs

-- of the part of the node's text between two positions, if these are there
abbrev pub DiffersIn : World → FullNodeId → Spot → Spot → Style → Option Bool → Type 0
DiffersIn w id from to style found =
    MatchOption (part_between from to w id) (found ≡ None) (λ r. IsSomeAnd found (λ differs. DiffersOver style w (flat_text w id) r differs))

-- and if the tree has the node
abbrev pub DiffersBetween : Option World → FullNodeId → Spot → Spot → Style → Option Bool → Type 0
DiffersBetween world id from to style found =
    MatchOption world (found ≡ None) (λ w. MatchOption (data_of w id) (found ≡ None) (λ (d : NodeData). DiffersIn w id from to style found))
