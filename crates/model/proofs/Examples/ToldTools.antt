-- How the differences of two small worlds are shown, from the entries of each and the children of each node.
use Rattle.std.proofs.Common.{length, slice_get, ◌≡◌, ◌≢◌, ℕ, not, List, [], ◌∷◌, Option, Some, None, ◌⊎◌, inl, inr, refl, sym, ap, subst, ◌∙◌, map}
use Rattle.std.specs.Prelude.{Contains}
use Rattle.std.specs.Option.{option_map_or}
use Rattle.std.specs.List.Sorted.{IsStrictlySortedBy}
use Rattle.schema.specs.NodeData.{NodeData}
use Rattle.schema.specs.declared.NodeId.{NodeId}
use Rattle.model.specs.declared.FullNodeId.{FullNodeId}
use Rattle.model.specs.FullIds.{full_cmp}
use Rattle.model.specs.World.{World, IsNode, data_of, in_tree, listed_ids, Place}
use Rattle.model.specs.State.{Lists}
use Rattle.model.specs.Update.{UpdateData}
use Rattle.model.specs.Work.{HasDepthInTree, IsSumOfDepths, IsChildOfNamed, IsWorkOf, named_ids}
use Rattle.model.specs.Forest.{place_of}
use Rattle.model.specs.Differences.{IsAscendingListOf, IsUpdated}
use Rattle.model.proofs.Differences.HostChanges.{none_ascend}
use Rattle.model.proofs.Members.{contains_cases, contains_none}

-- ---- lists whose members are told one by one

abbrev pub Each : (FullNodeId → Type 0) → List FullNodeId → Type 0
Each P [] = Unit {0}
Each P (x ∷ xs) = P x × Each P xs

pub each_contained : (P : FullNodeId → Type 0) (xs : List FullNodeId) → Each P xs → (y : FullNodeId) → Contains xs y → P y
each_contained P [] h y c = absurd (contains_none y c)
each_contained P (x ∷ xs) h y c = elim (contains_cases x y xs c) [ inl e ↦ subst P e h.0 | inr g ↦ each_contained P xs h.1 y g ]

settled : (P : FullNodeId → Type 0) (ids all : List FullNodeId) → Each (λ x. Contains ids x ⊎ ¬ (P x)) all → (y : FullNodeId) → Contains all y → P y → Contains ids y
settled P ids all h y c p = elim (each_contained (λ x. Contains ids x ⊎ ¬ (P x)) all h y c) [ inl g ↦ g | inr never ↦ absurd (never p) ]

pub listed_so : (P : FullNodeId → Type 0) (ids all : List FullNodeId) → IsStrictlySortedBy full_cmp ids → Each P ids → ((y : FullNodeId) → P y → Contains all y) → Each (λ x. Contains ids x ⊎ ¬ (P x)) all → IsAscendingListOf P ids
listed_so P ids all sorted each within h = record { ascending = sorted; members = λ y. (each_contained P ids each y, λ p. settled P ids all h y (within y p) p) }

-- ---- what differs

abbrev pub children_in : Option NodeData → List NodeId
children_in o = option_map_or (λ d. d.children) o []

-- nodes with other child lists have other data
pub other_children : (o p : Option NodeData) (a b : List NodeId) → children_in o ≡ a → children_in p ≡ b → a ≢ b → o ≢ p
other_children o p a b h g n e = n (sym h ∙ ap children_in e ∙ g)

abbrev pub label_in : Option NodeData → Option (List ℕ)
label_in o = option_map_or (λ d. d.label) o None

pub other_label : (o p : Option NodeData) (a b : Option (List ℕ)) → label_in o ≡ a → label_in p ≡ b → a ≢ b → o ≢ p
other_label o p a b h g n e = n (sym h ∙ ap label_in e ∙ g)

abbrev pub first_of : List NodeId → ℕ
first_of [] = 0
first_of (x ∷ xs) = x.0

pub other_first : (a b : List NodeId) → first_of a ≢ first_of b → a ≢ b
other_first a b n e = n (ap first_of e)

-- places below other parents, by the number of the parent
abbrev parent_of : Option Place → ℕ
parent_of o = option_map_or (λ p. p.0.tree) o 0

pub other_parent : (o p : Option Place) (a b : Place) → o ≡ Some a → p ≡ Some b → a.0.tree ≢ b.0.tree → o ≢ p
other_parent o p a b h g n e = n (sym (ap parent_of h) ∙ ap parent_of e ∙ ap parent_of g)

-- a node that is the same in both worlds, and isn't the told root, isn't updated
pub same_still : (old new : World) (root : Option FullNodeId) (id : FullNodeId) → data_of old id ≡ data_of new id → place_of old id ≡ place_of new id → root ≢ Some id → ¬ (IsUpdated old new root id)
same_still old new root id alike place not h = elim (h.1) [ inl differs ↦ differs alike | inr (inl moved) ↦ moved place | inr (inr told) ↦ not told ]

pub nothing_there : (id : FullNodeId) → None ≢ Some id
nothing_there id e = cc

abbrev pub tree_in : Option FullNodeId → ℕ
tree_in o = option_map_or (λ id. id.tree) o 0

-- ---- the work of an update that names one node, without children before and after

lists_none : (w : World) (id : FullNodeId) (d : NodeData) → data_of w id ≡ Some d → d.children ≡ [] → (p : Place) (c : FullNodeId) → id ≡ p.0 → ¬ (Lists w p c)
lists_none w id d is none p c same at_place =
    let empty : listed_ids w p.0 ≡ [] = subst (λ x. listed_ids w x ≡ []) same (ap (λ o. option_map_or (λ x. map (in_tree id.tree) x.children) o []) is ∙ ap (map (in_tree id.tree)) none) in
    let nothing : slice_get [] p.1 ≡ Some c = subst (λ xs. slice_get xs p.1 ≡ Some c) empty at_place in
    cc

pub leaf_work : (old new : World) (u : UpdateData) (id : FullNodeId) (d e : NodeData) → named_ids old u ≡ id ∷ [] → data_of old id ≡ Some d → data_of new id ≡ Some e → d.children ≡ [] → e.children ≡ []
    → ((x : FullNodeId) → IsNode old x → IsNode new x) → HasDepthInTree new id 1 → IsWorkOf old u new (record { named = length u.nodes; children = 0; removed = 0; depths = 1; known = length new.known })
leaf_work old new u id d e named was is no_old no_new stays depth = record {
  children = [];
  removed = [];
  are_children = none_ascend _ no_children;
  are_removed = none_ascend _ (λ x h. h.1 (stays x h.0));
  count_named = refl;
  count_children = refl;
  count_removed = refl;
  sum_depths = subst (λ ids. IsSumOfDepths new ids 1) (sym named) (1, 0, depth, refl, refl);
  count_known = refl;
}
  where
    no_children : (c : FullNodeId) → ¬ (IsChildOfNamed old u new c)
    no_children c h =
        let same : id ≡ h.0.0 = elim (contains_cases id h.0.0 [] (subst (λ ids. Contains ids h.0.0) named h.1)) [ inl e ↦ e | inr g ↦ absurd (contains_none h.0.0 g) ] in
        elim (h.2) [ inl before ↦ lists_none old id d was no_old h.0 c same before | inr after ↦ lists_none new id e is no_new h.0 c same after ]
