-- Walks over the labels in a node, and the nodes that label it.
use Rattle.std.proofs.Common.{◌≡◌, true, false, List, [], ◌∷◌, ◌++◌, map, cond, sym, ◌∙◌, ap, subst}
use Rattle.std.specs.Prelude.{Option, Some, None, MatchOption, filter_map}
use Rattle.std.specs.Option.{option_map_or}
use Rattle.std.specs.Coded.{Coded-set, coded_list}
use Rattle.std.proofs.lemmas.List.{map-append}
use mathlib.Core.Logic.{∥∥₁_elim, ∥∥₁_map}
use Rattle.schema.specs.NodeData.{NodeData}
use Rattle.model.specs.declared.FullNodeId.{FullNodeId}
use Rattle.model.specs.declared.filters.FilterResult.{FilterResult}
use Rattle.model.specs.declared.filters.FilterResult.TheVariants.{ExcludeSubtree}
use Rattle.model.specs.FullIds.{coded_full}
use Rattle.model.specs.World.{World, HasData, data_of}
use Rattle.model.specs.Frontier.{filtered_children}
use Rattle.model.specs.Upward.{kin}
use Rattle.model.specs.Views.{ids_in_field}
use Rattle.model.specs.Labels.{label_answer, label_filter, looks_within, labelled_by}
use Rattle.views.specs.declared.node.node_ref.NodeRef.{NodeRef}
use Rattle.views.specs.declared.walks.course.Course.{Course}
use Rattle.views.specs.Nodes.{id_at, data_at}
use Rattle.views.specs.PlainWalks.{node_in, node_of}
use Rattle.views.specs.Follows.{Follows}
use Rattle.views.specs.Walks.{walked_world, IsOnCourse, ids_left, WalksOn, TakesFront, TakesBack, HasIdsLeft}
use Rattle.views.specs.LabelCourses.{IsLabelCourse}
use Rattle.views.specs.LabelWalks.{shown_labels}

abbrev answers : NodeRef → FilterResult → Type 0
answers n r = r ≡ label_answer (data_at n).role

follows_labels : (w : World) → Follows answers w (label_filter w)
follows_labels w = record {
  at = λ n r same said.
      let known : data_of w (id_at n) ≡ Some (data_at n) = subst (λ v. data_of v (id_at n) ≡ Some (data_at n)) same n.known in
      said ∙ ap (λ o. option_map_or (λ (d : NodeData). label_answer d.role) o ExcludeSubtree) (sym known);
}

-- ---- where a walk begins

module _ (w : World) (id : FullNodeId) (c : Course) (shows : HasIdsLeft answers w (λ f. filtered_children f w id) c) where
  pub begins_on : IsLabelCourse c
  begins_on = ∣ subst (λ v. IsOnCourse (label_filter v) c) (sym shows.world) (shows.list (label_filter w) (follows_labels w)).0 ∣₁

  pub begins_with : map (node_in (walked_world c)) (shown_labels c) ≡ map (node_in w) (filtered_children (label_filter w) w id)
  begins_with = ap (λ v. map (node_in v) (ids_left (label_filter v) c)) shows.world ∙ ap (map (node_in w)) (shows.list (label_filter w) (follows_labels w)).1

-- ---- how it goes on

-- what is left, by the world that it was in
abbrev left_in : World → Course → List FullNodeId
left_in w c = ids_left (label_filter w) c

abbrev nodes_in : World → Course → List (World × FullNodeId)
nodes_in w c = map (node_in w) (left_in w c)

ids_set : (xs ys : List FullNodeId) → IsProp (xs ≡ ys)
ids_set xs ys = Coded-set (coded_list coded_full) xs ys

module _ (s t : Course) where
  abbrev ids_first : Option NodeRef → Type 0
  ids_first r = MatchOption r ((shown_labels s ≡ []) × (left_in (walked_world s) t ≡ [])) (λ x. shown_labels s ≡ id_at x ∷ left_in (walked_world s) t)

  abbrev ids_last : Option NodeRef → Type 0
  ids_last r = MatchOption r ((shown_labels s ≡ []) × (left_in (walked_world s) t ≡ [])) (λ x. shown_labels s ≡ left_in (walked_world s) t ++ id_at x ∷ [])

  ids_first-prop : (r : Option NodeRef) → IsProp (ids_first r)
  ids_first-prop None a b = λ i. (ids_set (shown_labels s) [] a.0 b.0 i, ids_set (left_in (walked_world s) t) [] a.1 b.1 i)
  ids_first-prop (Some x) a b = ids_set (shown_labels s) (id_at x ∷ left_in (walked_world s) t) a b

  ids_last-prop : (r : Option NodeRef) → IsProp (ids_last r)
  ids_last-prop None a b = λ i. (ids_set (shown_labels s) [] a.0 b.0 i, ids_set (left_in (walked_world s) t) [] a.1 b.1 i)
  ids_last-prop (Some x) a b = ids_set (shown_labels s) (left_in (walked_world s) t ++ id_at x ∷ []) a b

  -- the nodes of the world that a call leaves are those of the world before
  same_nodes : walked_world t ≡ walked_world s → nodes_in (walked_world t) t ≡ nodes_in (walked_world s) t
  same_nodes same = ap (λ w. nodes_in w t) same

  nodes_first : (r : Option NodeRef) → WalksOn s r t → ids_first r →
      MatchOption r ((nodes_in (walked_world s) s ≡ []) × (nodes_in (walked_world t) t ≡ [])) (λ x. nodes_in (walked_world s) s ≡ node_of x ∷ nodes_in (walked_world t) t)
  nodes_first None goes ids = (ap (map (node_in (walked_world s))) ids.0, same_nodes goes.world ∙ ap (map (node_in (walked_world s))) ids.1)
  nodes_first (Some x) goes ids =
      ap (map (node_in (walked_world s))) ids ∙ ap (λ w. (w, id_at x) ∷ nodes_in (walked_world s) t) (sym goes.item) ∙ ap (λ ns. node_of x ∷ ns) (sym (same_nodes goes.world))

  nodes_last : (r : Option NodeRef) → WalksOn s r t → ids_last r →
      MatchOption r ((nodes_in (walked_world s) s ≡ []) × (nodes_in (walked_world t) t ≡ [])) (λ x. nodes_in (walked_world s) s ≡ nodes_in (walked_world t) t ++ node_of x ∷ [])
  nodes_last None goes ids = (ap (map (node_in (walked_world s))) ids.0, same_nodes goes.world ∙ ap (map (node_in (walked_world s))) ids.1)
  nodes_last (Some x) goes ids =
      ap (map (node_in (walked_world s))) ids ∙ map-append (node_in (walked_world s)) (left_in (walked_world s) t) (id_at x ∷ [])
      ∙ ap (λ w. nodes_in (walked_world s) t ++ (w, id_at x) ∷ []) (sym goes.item) ∙ ap (λ ns. ns ++ node_of x ∷ []) (sym (same_nodes goes.world))

module _ (s t : Course) (r : Option NodeRef) (on : IsLabelCourse s) where
  stays : walked_world t ≡ walked_world s → IsOnCourse (label_filter (walked_world s)) t → IsOnCourse (label_filter (walked_world t)) t
  stays same h = subst (λ w. IsOnCourse (label_filter w) t) (sym same) h

  pub first_stays : TakesFront answers s r t → IsLabelCourse t
  first_stays steps = ∥∥₁_map on (λ k. stays steps.goes.world (steps.list (label_filter (walked_world s)) (follows_labels (walked_world s)) k).0)

  pub last_stays : TakesBack answers s r t → IsLabelCourse t
  last_stays steps = ∥∥₁_map on (λ k. stays steps.goes.world (steps.list (label_filter (walked_world s)) (follows_labels (walked_world s)) k).0)

  pub first_taken : TakesFront answers s r t → MatchOption r ((nodes_in (walked_world s) s ≡ []) × (nodes_in (walked_world t) t ≡ [])) (λ x. nodes_in (walked_world s) s ≡ node_of x ∷ nodes_in (walked_world t) t)
  first_taken steps = nodes_first s t r steps.goes (∥∥₁_elim on (ids_first-prop s t r) (λ k. (steps.list (label_filter (walked_world s)) (follows_labels (walked_world s)) k).1))

  pub last_taken : TakesBack answers s r t → MatchOption r ((nodes_in (walked_world s) s ≡ []) × (nodes_in (walked_world t) t ≡ [])) (λ x. nodes_in (walked_world s) s ≡ nodes_in (walked_world t) t ++ node_of x ∷ [])
  last_taken steps = nodes_last s t r steps.goes (∥∥₁_elim on (ids_last-prop s t r) (λ k. (steps.list (label_filter (walked_world s)) (follows_labels (walked_world s)) k).1))

-- ---- the nodes that label a node, by its data

module _ (w : World) (id : FullNodeId) (d : NodeData) (has : HasData w id d) where
  by_data : labelled_by w id ≡ cond (looks_within d) (filtered_children (label_filter w) w id) (ids_in_field (λ e. e.labelled_by) w id)
  unfolding labelled_by
  by_data = ap (λ o. option_map_or (λ (e : NodeData). cond (looks_within e) (filtered_children (label_filter w) w id) (ids_in_field (λ a. a.labelled_by) w id)) o []) has

  pub labelled_within : looks_within d ≡ true → labelled_by w id ≡ filtered_children (label_filter w) w id
  labelled_within e = by_data ∙ ap (λ b. cond b (filtered_children (label_filter w) w id) (ids_in_field (λ a. a.labelled_by) w id)) e

  pub labelled_by_named : looks_within d ≡ false → labelled_by w id ≡ filter_map (kin w id) d.labelled_by
  labelled_by_named e =
      by_data ∙ ap (λ b. cond b (filtered_children (label_filter w) w id) (ids_in_field (λ a. a.labelled_by) w id)) e
      ∙ ap (λ o. option_map_or (λ (a : NodeData). filter_map (kin w id) a.labelled_by) o []) has
