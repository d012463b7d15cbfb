-- What is said of live regions at the end of a step.
use Rattle.std.specs.Prelude.{◌≡◌, ℕ, List, [], ◌∷◌, map, All, ◌++◌, length, ◌-◌, slice_get, Bool, true, false, not, ◌&&◌, ◌||◌, Option, Some, None, option_and_then, if◌then◌else◌}
use Rattle.std.specs.List.{fold}
use Rattle.std.specs.Option.{option_map_or}
use Rattle.model.specs.declared.FullNodeId.{FullNodeId}
use Rattle.model.specs.Forest.{is_same}
use Rattle.model.specs.Lists.{preorder}
use Rattle.model.specs.Upward.{says}
use Rattle.model.specs.Views.{live}
use Rattle.model.specs.World.{World, data_of, root_of}
use Rattle.views.specs.declared.node.node_ref.NodeRef.{NodeRef}
use Rattle.views.specs.Nodes.{world_at, id_at}
use Rattle.phrases.specs.News.{news}
use Rattle.phrases.specs.Tellings.{told}
use Rattle.phrases.specs.Voices.{Speech}
use Rattle.speaking.specs.declared.news.News.{News}
use Rattle.speaking.specs.Above.{above_of, region_of}
use Rattle.speaking.specs.LiveTexts.{is_space, told_text}
use Rattle.speaking.specs.News.{is_new, is_region_of}

-- views of these nodes of the world, in their order
pub record AreViews (w : World) (ids : List FullNodeId) (nodes : List NodeRef) : Type 0 where
  pub same : map id_at nodes ≡ ids
  pub world : All (λ node. world_at node ≡ w) nodes

-- a space, or no byte at all
abbrev pub is_gap : Option ℕ → Bool
is_gap byte = option_map_or is_space byte true

-- neither text has a space where they meet, and neither is empty
abbrev pub needs_space : List ℕ → List ℕ → Bool
needs_space text part = not (is_gap (slice_get text (length text - 1))) && not (is_gap (slice_get part 0))

-- with a space, where one is needed before this part
abbrev pub spaced : List ℕ → List ℕ → List ℕ
spaced text part = if needs_space text part then text ++ 32 ∷ [] else text

-- a text and one more part of it, if there is one
abbrev pub with_part : List ℕ → Option (List ℕ) → List ℕ
with_part text None = text
with_part text (Some part) = spaced text part ++ part

-- a node's own region is this one
abbrev pub is_in : Option FullNodeId → FullNodeId → Bool
is_in own region = option_map_or (λ r. is_same r region) own false

-- of a region that is said as a whole each node is said, and of another one those whose texts are new
abbrev pub is_part : World → News → FullNodeId → FullNodeId → Bool
is_part w n region id = is_in (region_of w id) region && (says (λ d. d.live_atomic) w region || is_new n id)

-- what a node says in the sentence of a region
abbrev pub part_at : World → News → FullNodeId → FullNodeId → Option (List ℕ)
part_at w n region id = if is_part w n region id then option_and_then (told_text (above_of w id)) (data_of w id) else None

abbrev pub with_node : World → News → FullNodeId → List ℕ → FullNodeId → List ℕ
with_node w n region text id = with_part text (part_at w n region id)

-- what the nodes of a region say, in the order of the document
abbrev pub sentence : World → News → FullNodeId → List ℕ
sentence w n region = fold (with_node w n region) [] (preorder w region)

-- that is said as one line
abbrev pub region_said : World → News → FullNodeId → Speech → Speech
region_said w n region v = told (live w region) (news None (Some (sentence w n region))) v

abbrev pub said_at : World → News → Speech → FullNodeId → Speech
said_at w n v id = if is_region_of n id then region_said w n id v else v

-- all nodes, in the order of the document
abbrev pub all_nodes : World → List FullNodeId
all_nodes w = option_map_or (preorder w) (root_of w 0) []

-- each region in which anything is new is said, in the order of the document
abbrev pub news_said : World → News → Speech → Speech
news_said w n v = fold (said_at w n) v (all_nodes w)
