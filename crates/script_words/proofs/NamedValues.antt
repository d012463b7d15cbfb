-- The value of a word that is one of a few names.
use Rattle.std.proofs.Common.{◌≡◌, ℕ, Bool, true, false, List, Option, Some, refl}
use Rattle.schema.specs.declared.values.AriaCurrent.{AriaCurrent}
use Rattle.schema.specs.declared.values.AriaCurrent.TheVariants as aria_current
use Rattle.schema.specs.declared.values.HasPopup.{HasPopup}
use Rattle.schema.specs.declared.values.HasPopup.TheVariants as has_popup
use Rattle.schema.specs.declared.values.Live.{Live}
use Rattle.schema.specs.declared.values.Live.TheVariants as live
use Rattle.schema.specs.declared.values.Orientation.{Orientation}
use Rattle.schema.specs.declared.values.Orientation.TheVariants as orientation
use Rattle.schema.specs.declared.values.SortDirection.{SortDirection}
use Rattle.schema.specs.declared.values.SortDirection.TheVariants as sort_direction
use Rattle.schema.specs.declared.values.TextAlign.{TextAlign}
use Rattle.schema.specs.declared.values.TextAlign.TheVariants as text_align
use Rattle.schema.specs.declared.values.TextDecorationStyle.{TextDecorationStyle}
use Rattle.schema.specs.declared.values.TextDecorationStyle.TheVariants as decoration_style
use Rattle.schema.specs.declared.values.TextDirection.{TextDirection}
use Rattle.schema.specs.declared.values.TextDirection.TheVariants as text_direction
use Rattle.schema.specs.declared.values.Toggled.{Toggled}
use Rattle.schema.specs.declared.values.Toggled.TheVariants as toggled
use Rattle.schema.specs.declared.values.VerticalOffset.{VerticalOffset}
use Rattle.schema.specs.declared.values.VerticalOffset.TheVariants as vertical_offset
use Rattle.script_words.specs.NamedIn.{IsNamed, ReadsNamed, first_named}
use Rattle.script_words.specs.NameLists.{all_currents, all_decoration_styles, all_lives, all_orientations, all_popups, all_sort_directions, all_text_aligns, all_text_directions, all_toggles, all_truths, all_vertical_offsets}
use Rattle.script_words.specs.Names.{aria_current_name, decoration_style_name, has_popup_name, live_name, orientation_name, sort_direction_name, text_align_name, text_direction_name, toggled_name, truth_name, vertical_offset_name}
use Rattle.script_words.specs.WordValues.{aria_current_of, decoration_style_of, has_popup_of, live_of, orientation_of, sort_direction_of, text_align_of, text_direction_of, toggled_of, truth_of, vertical_offset_of}
use Rattle.script_words.proofs.WordMeanings.{named_is}

-- ---- each is the first with its name

pub first_toggled : (value : Toggled) → first_named toggled_name (toggled_name value) all_toggles ≡ Some value
unfolding first_named
first_toggled toggled.True = refl
first_toggled value = refl

pub first_truth : (value : Bool) → first_named truth_name (truth_name value) all_truths ≡ Some value
unfolding first_named
first_truth true = refl
first_truth value = refl

pub first_live : (value : Live) → first_named live_name (live_name value) all_lives ≡ Some value
unfolding first_named
first_live live.Off = refl
first_live value = refl

pub first_orientation : (value : Orientation) → first_named orientation_name (orientation_name value) all_orientations ≡ Some value
unfolding first_named
first_orientation orientation.Horizontal = refl
first_orientation value = refl

pub first_sort_direction : (value : SortDirection) → first_named sort_direction_name (sort_direction_name value) all_sort_directions ≡ Some value
unfolding first_named
first_sort_direction sort_direction.Ascending = refl
first_sort_direction value = refl

pub first_aria_current : (value : AriaCurrent) → first_named aria_current_name (aria_current_name value) all_currents ≡ Some value
unfolding first_named
first_aria_current aria_current.False = refl
first_aria_current value = refl

pub first_has_popup : (value : HasPopup) → first_named has_popup_name (has_popup_name value) all_popups ≡ Some value
unfolding first_named
first_has_popup has_popup.Menu = refl
first_has_popup value = refl

pub first_text_direction : (value : TextDirection) → first_named text_direction_name (text_direction_name value) all_text_directions ≡ Some value
unfolding first_named
first_text_direction text_direction.LeftToRight = refl
first_text_direction value = refl

pub first_text_align : (value : TextAlign) → first_named text_align_name (text_align_name value) all_text_aligns ≡ Some value
unfolding first_named
first_text_align text_align.Left = refl
first_text_align value = refl

pub first_vertical_offset : (value : VerticalOffset) → first_named vertical_offset_name (vertical_offset_name value) all_vertical_offsets ≡ Some value
unfolding first_named
first_vertical_offset vertical_offset.Subscript = refl
first_vertical_offset value = refl

pub first_decoration_style : (value : TextDecorationStyle) → first_named decoration_style_name (decoration_style_name value) all_decoration_styles ≡ Some value
unfolding first_named
first_decoration_style decoration_style.Solid = refl
first_decoration_style value = refl

-- ---- what is read of a word

pub toggled_is : (word : List ℕ) (r : Option Toggled) → ReadsNamed toggled_name word r → IsNamed toggled_name word r → r ≡ toggled_of word
toggled_is word r reads only = named_is toggled_name all_toggles first_toggled word r reads only

pub truth_is : (word : List ℕ) (r : Option Bool) → ReadsNamed truth_name word r → IsNamed truth_name word r → r ≡ truth_of word
truth_is word r reads only = named_is truth_name all_truths first_truth word r reads only

pub live_is : (word : List ℕ) (r : Option Live) → ReadsNamed live_name word r → IsNamed live_name word r → r ≡ live_of word
live_is word r reads only = named_is live_name all_lives first_live word r reads only

pub orientation_is : (word : List ℕ) (r : Option Orientation) → ReadsNamed orientation_name word r → IsNamed orientation_name word r → r ≡ orientation_of word
orientation_is word r reads only = named_is orientation_name all_orientations first_orientation word r reads only

pub sort_direction_is : (word : List ℕ) (r : Option SortDirection) → ReadsNamed sort_direction_name word r → IsNamed sort_direction_name word r → r ≡ sort_direction_of word
sort_direction_is word r reads only = named_is sort_direction_name all_sort_directions first_sort_direction word r reads only

pub aria_current_is : (word : List ℕ) (r : Option AriaCurrent) → ReadsNamed aria_current_name word r → IsNamed aria_current_name word r → r ≡ aria_current_of word
aria_current_is word r reads only = named_is aria_current_name all_currents first_aria_current word r reads only

pub has_popup_is : (word : List ℕ) (r : Option HasPopup) → ReadsNamed has_popup_name word r → IsNamed has_popup_name word r → r ≡ has_popup_of word
has_popup_is word r reads only = named_is has_popup_name all_popups first_has_popup word r reads only

pub text_direction_is : (word : List ℕ) (r : Option TextDirection) → ReadsNamed text_direction_name word r → IsNamed text_direction_name word r → r ≡ text_direction_of word
text_direction_is word r reads only = named_is text_direction_name all_text_directions first_text_direction word r reads only

pub text_align_is : (word : List ℕ) (r : Option TextAlign) → ReadsNamed text_align_name word r → IsNamed text_align_name word r → r ≡ text_align_of word
text_align_is word r reads only = named_is text_align_name all_text_aligns first_text_align word r reads only

pub vertical_offset_is : (word : List ℕ) (r : Option VerticalOffset) → ReadsNamed vertical_offset_name word r → IsNamed vertical_offset_name word r → r ≡ vertical_offset_of word
vertical_offset_is word r reads only = named_is vertical_offset_name all_vertical_offsets first_vertical_offset word r reads only

pub decoration_style_is : (word : List ℕ) (r : Option TextDecorationStyle) → ReadsNamed decoration_style_name word r → IsNamed decoration_style_name word r → r ≡ decoration_style_of word
decoration_style_is word r reads only = named_is decoration_style_name all_decoration_styles first_decoration_style word r reads only
