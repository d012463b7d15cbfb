-- What is said of a landmark and of a list that the focus enters.
use Rattle.std.specs.Prelude.{ℕ, List, [], codes, Bool, not, ◌&&◌, ◌||◌, Option, None, bytes_eq, slice_get, is_some, length, ◌==◌}
use Rattle.std.specs.Option.{option_map_or, option_and_then}
use Rattle.std.specs.List.{list_any}
use Rattle.schema.specs.NodeData.{NodeData}
use Rattle.model.specs.declared.FullNodeId.{FullNodeId}
use Rattle.model.specs.Events.{Seen}
use Rattle.model.specs.Frontier.{filtered_children}
use Rattle.model.specs.Views.{computed_size_of_set}
use Rattle.model.specs.World.{World}
use Rattle.hidden_texts.specs.Shown.{shown_label}
use Rattle.phrases.specs.News.{news}
use Rattle.phrases.specs.Roles.{role_word}
use Rattle.phrases.specs.Sayings.{landmark_line, listing_line}
use Rattle.phrases.specs.Voices.{Speech, said_later}
use Rattle.speaking.specs.Around.{entered_said}
use Rattle.speaking.specs.Groups.{role_word_at}
use Rattle.speaking.specs.NodeTexts.{listed_answer}

-- the words for the roles of landmarks
abbrev pub is_landmark_word : List ℕ → Bool
is_landmark_word word =
    bytes_eq word (codes "banner") || (bytes_eq word (codes "complementary") || (bytes_eq word (codes "content information")
    || (bytes_eq word (codes "main") || (bytes_eq word (codes "navigation") || bytes_eq word (codes "search")))))

-- the words for those that are landmarks only with a name
abbrev pub is_region_word : List ℕ → Bool
is_region_word word = bytes_eq word (codes "form") || bytes_eq word (codes "region")

-- it has a label, or nodes that label it
abbrev pub is_named : NodeData → Bool
is_named d = is_some d.label || not (length d.labelled_by == 0)

abbrev pub is_landmark : NodeData → Bool
is_landmark d = is_landmark_word (role_word d.role) || (is_region_word (role_word d.role) && is_named d)

-- the role and the name of a landmark
abbrev pub landmark_named : World → FullNodeId → Speech → Speech
landmark_named w id v = said_later v (landmark_line (role_word_at w id) (news None (shown_label w id)))

-- the nearest landmark is said, if the old focus wasn't in it
abbrev pub landmark_said : Option Seen → Seen → Speech → Speech
landmark_said old new v = entered_said is_landmark landmark_named old new v

abbrev pub is_list_word : List ℕ → Bool
is_list_word word = bytes_eq word (codes "list") || bytes_eq word (codes "list box")

abbrev pub is_list : NodeData → Bool
is_list d = is_list_word (role_word d.role)

-- how many items a list has: the size of the set of what is listed first in it, if that is an item
abbrev pub items_of : World → FullNodeId → Option ℕ
items_of w list =
    option_and_then (computed_size_of_set (listed_answer w) w) (slice_get (filtered_children (listed_answer w) w list) 0)

-- the name of a list, if it has one, and the number of its items
abbrev pub list_named : World → FullNodeId → Speech → Speech
list_named w id v = option_map_or (λ n. said_later v (listing_line (role_word_at w id) (news None (shown_label w id)) n)) (items_of w id) v

-- the nearest list is said with the number of its items, if the old focus wasn't in it
abbrev pub list_said : Option Seen → Seen → Speech → Speech
list_said old new v = entered_said is_list list_named old new v
