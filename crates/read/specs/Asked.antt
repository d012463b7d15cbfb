-- What is printed of the node that was asked for.
use Rattle.std.specs.Prelude.{ℕ, Bool, false, not, ◌&&◌, List, codes, if◌then◌else◌}
use Rattle.std.specs.Option.{option_map_or}
use Rattle.schema.specs.declared.NodeId.{NodeId}
use Rattle.schema.specs.declared.TreeId.{TreeId}
use Rattle.model.specs.declared.FullNodeId.{FullNodeId}
use Rattle.model.specs.World.{World}
use Rattle.model.specs.Queries.{node_named}
use Rattle.model.specs.TextRuns.{supports_text_ranges}
use Rattle.hidden_texts.specs.Hidden.{hides_text}
use Rattle.views.specs.TextDefects.{text_defect}
use Rattle.read.specs.Lines.{read_text}
use Rattle.read.specs.NoText.{no_text_line}

-- the text of a node, unless it is hidden or there is none; then why
abbrev pub told_of : World → FullNodeId → List ℕ
told_of w id =
    if hides_text w id then codes "text hidden\n"
    else (if supports_text_ranges w id then read_text w id else no_text_line (text_defect w id))

-- the text of a node by its name
abbrev pub asked_text : World → NodeId × TreeId → List ℕ
asked_text w name = option_map_or (told_of w) (node_named w name) (codes "no node\n")

-- the node exists and has a text that isn't hidden
abbrev pub shows_text : World → FullNodeId → Bool
shows_text w id = not (hides_text w id) && supports_text_ranges w id

abbrev pub is_told : World → NodeId × TreeId → Bool
is_told w name = option_map_or (shows_text w) (node_named w name) false
