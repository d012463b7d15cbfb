-- What is said of a moved focus: the dialog, the landmark, the group and the list that it enters, the headers of its cell, and the node.
use Rattle.std.specs.Prelude.{◌≡◌, ◌≢◌, ⊤, ◌⊎◌, Option, Some, None, option_copied}
use Rattle.schema.specs.NodeData.{NodeData}
use Rattle.model.specs.declared.FullNodeId.{FullNodeId}
use Rattle.model.specs.World.{World, HasData}
use Rattle.model.specs.Events.{Seen}
use Rattle.model.specs.Focus.{IsActiveDialog}
use Rattle.hidden_texts.specs.Hidden.{hides_label}
use Rattle.hidden_texts.specs.Shown.{shown_label}
use Rattle.phrases.specs.declared.focus.Focus.{Focus}
use Rattle.phrases.specs.declared.sayings.Dialog.{Dialog}
use Rattle.phrases.specs.declared.sayings.Saying.TheVariants.{Focused, InDialog}
use Rattle.phrases.specs.News.{news}
use Rattle.phrases.specs.Roles.{role_word}
use Rattle.phrases.specs.Sayings.{saying}
use Rattle.phrases.specs.Voices.{Speech, said_later}
use Rattle.speaking.specs.Groups.{group_said}
use Rattle.speaking.specs.Headers.{headers_said}
use Rattle.speaking.specs.Landmarks.{landmark_said, list_said}
use Rattle.speaking.specs.NodeTexts.{ShowsFocus}

-- the old focus was in the dialog
abbrev pub WasInside : Option Seen → FullNodeId → Type 0
WasInside None dialog = ⊥
WasInside (Some old) dialog = IsActiveDialog old.world (Some dialog)

-- it was in another dialog, or in none
abbrev pub WasOutside : Option Seen → FullNodeId → Type 0
WasOutside None dialog = ⊤
WasOutside (Some old) dialog = (before : Option FullNodeId) × IsActiveDialog old.world before × (before ≢ Some dialog)

-- the dialog that is entered is the active one, unless that has the focus itself or the old focus was in it too
abbrev pub Enters : Option Seen → Seen → Option FullNodeId → Type 0
Enters old new (Some dialog) = IsActiveDialog new.world (Some dialog) × (dialog ≢ new.id) × WasOutside old dialog
Enters old new None =
    IsActiveDialog new.world None ⊎ ((dialog : FullNodeId) × IsActiveDialog new.world (Some dialog)
    × ((dialog ≡ new.id) ⊎ WasInside old dialog))

pub record ShowsDialog (w : World) (id : FullNodeId) (d : NodeData) (g : Dialog) : Type 0 where
  pub role : g.role.now ≡ role_word d.role
  pub label : option_copied g.label ≡ news None (shown_label w id)
  pub hidden_label : g.is_label_hidden ≡ hides_label w id
  pub modal : g.is_modal ≡ d.modal

-- a line says the dialog
pub record SaysDialog (w : World) (id : FullNodeId) (v u : Speech) : Type 0 where
  pub node : NodeData
  pub has : HasData w id node
  pub dialog : Dialog
  pub shows : ShowsDialog w id node dialog
  pub said : u ≡ said_later v (saying (InDialog dialog))

-- a line says the node
pub record SaysFocus (new : Seen) (v u : Speech) : Type 0 where
  pub node : NodeData
  pub has : HasData new.world new.id node
  pub focus : Focus
  pub shows : ShowsFocus new.world new.id node focus
  pub said : u ≡ said_later v (saying (Focused focus))

abbrev pub SaysEntered : World → Option FullNodeId → Speech → Speech → Type 0
SaysEntered w None v u = u ≡ v
SaysEntered w (Some dialog) v u = SaysDialog w dialog v u

-- what is around the focus: the landmark, the group, the list, and then the headers
abbrev pub around_said : Option Seen → Seen → Speech → Speech
around_said old new v = headers_said old new (list_said old new (group_said old new (landmark_said old new v)))

-- the dialog first, then what is around the focus, and then the focus
pub record SaysMove (old : Option Seen) (new : Seen) (v u : Speech) : Type 0 where
  pub entered : Option FullNodeId
  pub enters : Enters old new entered
  pub between : Speech
  pub dialog : SaysEntered new.world entered v between
  pub focus : SaysFocus new (around_said old new between) u

-- nothing is said if there is no focus any more
abbrev pub SaysMoved : Option Seen → Option Seen → Speech → Speech → Type 0
SaysMoved old None v u = u ≡ v
SaysMoved old (Some new) v u = SaysMove old new v u
