-- Which nodes a query finds.
use Rattle.std.specs.Prelude.{◌≡◌, ℕ, Bool, true, false, ◌&&◌, List, [], ◌∷◌, ◌++◌, All, filter, map, Option, Some, None, option_and_then, if◌then◌else◌}
use Rattle.std.specs.Option.{option_map_or}
use Rattle.std.specs.Borrow.{Bor}
use Rattle.matching.specs.Matches.{is_match}
use Rattle.schema.specs.declared.Role.{Role}
use Rattle.schema.specs.declared.Role.TheVariants.{Label}
use Rattle.schema.specs.Roles.{same_role}
use Rattle.model.specs.declared.FullNodeId.{FullNodeId}
use Rattle.model.specs.declared.filters.FilterResult.{FilterResult}
use Rattle.model.specs.World.{World, data_of, root_of}
use Rattle.model.specs.Covers.{is_included}
use Rattle.model.specs.Labels.{label_of}
use Rattle.model.specs.Values.{value_of}
use Rattle.model.specs.Upward.{says}
use Rattle.views.specs.declared.node.node_ref.NodeRef.{NodeRef}
use Rattle.views.specs.Descendants.{filtered_descendants}
use Rattle.views.specs.Follows.{Follows}
use Rattle.views.specs.Nodes.{world_at, id_at}
use Rattle.queries.specs.declared.by.Wanted.{Wanted}

-- the text that a node shows: the value of a Label, and the label of any other node
abbrev pub text_of : World → FullNodeId → Option (List ℕ)
text_of w id = if says (λ d. same_role d.role Label) w id then value_of w id else label_of w id

-- whether what is asked of a text holds of the text that is there; where nothing is asked it does
abbrev pub holds_of : (List ℕ → List ℕ → Bool) → Option (Bor (List ℕ)) → Option (List ℕ) → Bool
holds_of test None own = true
holds_of test (Some sought) own = option_map_or (test sought.now) own false

abbrev pub has_role : Option Role → World → FullNodeId → Bool
has_role None w id = true
has_role (Some role) w id = says (λ d. same_role d.role role) w id

abbrev pub description_of : World → FullNodeId → Option (List ℕ)
description_of w id = option_and_then (λ d. d.description) (data_of w id)

-- whether a node has the texts that are wanted
abbrev pub has_texts : Wanted → World → FullNodeId → Bool
has_texts wanted w id =
    (holds_of (is_match wanted.matching) wanted.label (label_of w id)
    && holds_of (is_match (record wanted.matching { is_part = true })) wanted.label_part (label_of w id))
    && (holds_of (is_match wanted.matching) wanted.text (text_of w id)
    && (holds_of (is_match wanted.matching) wanted.value (value_of w id)
    && holds_of (is_match wanted.matching) wanted.description (description_of w id)))

-- whether it has the role and the texts
abbrev pub fits : Wanted → World → FullNodeId → Bool
fits wanted w id = has_role wanted.role w id && has_texts wanted w id

-- a condition that always answers alike for one node: of each node of this world it answers what p says
pub record Meets (answers : NodeRef → Bool → Type 0) (w : World) (p : FullNodeId → Bool) : Type 0 where
  pub at : (n : NodeRef) (r : Bool) → world_at n ≡ w → answers n r → r ≡ p (id_at n)

-- whether a node is sought: it has what is wanted, and meets the condition
abbrev pub is_sought : Wanted → (FullNodeId → Bool) → World → FullNodeId → Bool
is_sought wanted p w id = fits wanted w id && p id

-- what is searched below a node, from a node on, and in a whole state: what the filter shows there, in pre-order
abbrev pub searched_below : (FullNodeId → FilterResult) → World → FullNodeId → List FullNodeId
searched_below f w id = filtered_descendants f w id

abbrev pub searched_from : (FullNodeId → FilterResult) → World → FullNodeId → List FullNodeId
searched_from f w top = (if is_included (f top) then top ∷ [] else []) ++ filtered_descendants f w top

abbrev pub searched_in : (FullNodeId → FilterResult) → World → List FullNodeId
searched_in f w = option_map_or (searched_from f w) (root_of w 0) []

-- the nodes are read in this world, and by each f that the filter follows they are these
pub record AreShown (answers : NodeRef → FilterResult → Type 0) (w : World) (ids : (FullNodeId → FilterResult) → List FullNodeId)
    (nodes : List NodeRef) : Type 0 where
  pub world : All (λ n. world_at n ≡ w) nodes
  pub list : (f : FullNodeId → FilterResult) → Follows answers w f → map id_at nodes ≡ ids f

-- of nodes of this world these are those that are sought, in order, by each p that the condition meets
pub record AreSought (wanted : Wanted) (answers : NodeRef → Bool → Type 0) (w : World) (nodes found : List NodeRef) : Type 0 where
  pub world : All (λ n. world_at n ≡ w) found
  pub list : (p : FullNodeId → Bool) → Meets answers w p → map id_at found ≡ filter (is_sought wanted p w) (map id_at nodes)

-- whether a node is sought, by each p that the condition meets
abbrev pub IsSought : Wanted → (NodeRef → Bool → Type 0) → NodeRef → Bool → Type 0
IsSought wanted answers n is = (p : FullNodeId → Bool) → Meets answers (world_at n) p → is ≡ is_sought wanted p (world_at n) (id_at n)

-- the nodes that a query finds among what is searched, by each f that its filter follows and each p that its condition meets
pub record AreFound (wanted : Wanted) (shows : NodeRef → FilterResult → Type 0) (answers : NodeRef → Bool → Type 0) (w : World)
    (searched : (FullNodeId → FilterResult) → List FullNodeId) (found : List NodeRef) : Type 0 where
  pub world : All (λ n. world_at n ≡ w) found
  pub list : (f : FullNodeId → FilterResult) → Follows shows w f → (p : FullNodeId → Bool) → Meets answers w p
      → map id_at found ≡ filter (is_sought wanted p w) (searched f)
