-- What names a node on a page.
use Rattle.std.specs.Prelude.{ℕ, List, ◌++◌, codes}
use Rattle.schema.specs.declared.Role.{Role}
use Rattle.role_names.specs.Names.{shown_name}
use Rattle.model.specs.declared.FullNodeId.{FullNodeId}
use Rattle.views.specs.Nodes.{world_at, id_at, data_at}
use Rattle.page_states.specs.declared.found.View.{View}
use Rattle.page_states.specs.Said.{caption_shown, hidden_label_word}
use Rattle.page_states.specs.Written.{anchor_text, small_id, word_text}

abbrev pub role_bold : Role → List ℕ
role_bold role = codes "<b>" ++ shown_name role ++ codes "</b>"

-- a node's role, its label or else its value, where it has one that is shown, and that its label is hidden, where it is
abbrev pub role_and_text : View → List ℕ
role_and_text v =
    role_bold (data_at v.node).role ++ word_text (codes "q") (codes "l") (caption_shown v.facts.hidden (world_at v.node) (id_at v.node))
    ++ word_text (codes "i") (codes "w") (hidden_label_word v.facts.hidden.label)

-- and its id
abbrev pub name_text : View → List ℕ
name_text v = role_and_text v ++ codes " " ++ small_id (id_at v.node)

-- the beginning of a link to the place at which a state shows a node, and its id as such a link
abbrev pub link_begun : ℕ → FullNodeId → List ℕ
link_begun state id = codes "<a href=\"#" ++ anchor_text state id ++ codes "\">"

abbrev pub linked_id : ℕ → FullNodeId → List ℕ
linked_id state id = link_begun state id ++ small_id id ++ codes "</a>"

-- a node's role and text, and its id as such a link
abbrev pub linked_text : ℕ → View → List ℕ
linked_text state v = role_and_text v ++ codes " " ++ linked_id state (id_at v.node)
