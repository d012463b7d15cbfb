-- What is said of a group that the focus enters.
use Rattle.std.specs.Prelude.{ℕ, List, [], codes, Bool, not, ◌&&◌, ◌||◌, Option, None, bytes_eq}
use Rattle.std.specs.Option.{option_map_or}
use Rattle.schema.specs.NodeData.{NodeData}
use Rattle.schema.specs.Roles.{same_role}
use Rattle.schema.specs.declared.Role.TheVariants.{GenericContainer}
use Rattle.model.specs.declared.FullNodeId.{FullNodeId}
use Rattle.model.specs.Events.{Seen}
use Rattle.model.specs.World.{World, data_of}
use Rattle.hidden_texts.specs.Shown.{shown_label}
use Rattle.phrases.specs.News.{news}
use Rattle.phrases.specs.Roles.{role_word}
use Rattle.phrases.specs.Sayings.{group_line}
use Rattle.phrases.specs.Voices.{Speech}
use Rattle.speaking.specs.Around.{entered_said}
use Rattle.speaking.specs.Said.{said_if}

-- a role that is said as a group, a radio group or a frame, but for containers
abbrev pub is_group_word : List ℕ → Bool
is_group_word word = bytes_eq word (codes "group") || (bytes_eq word (codes "radio group") || bytes_eq word (codes "frame"))

abbrev pub is_group : NodeData → Bool
is_group d = not (same_role d.role GenericContainer) && is_group_word (role_word d.role)

-- the word for the role of a node
abbrev pub role_word_at : World → FullNodeId → List ℕ
role_word_at w id = option_map_or (λ d. role_word d.role) (data_of w id) []

-- the role and the name of a group, if it has one
abbrev pub group_named : World → FullNodeId → Speech → Speech
group_named w group v =
    said_if (group_line (role_word_at w group)) (news None (shown_label w group)) v

-- the nearest group is said by its name, if the old focus wasn't in it
abbrev pub group_said : Option Seen → Seen → Speech → Speech
group_said old new v = entered_said is_group group_named old new v
