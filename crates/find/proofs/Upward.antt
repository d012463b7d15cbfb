-- The nodes from one up to the root, and their names.
use Rattle.std.proofs.Common.{◌≡◌, ℕ, List, [], ◌∷◌, ◌++◌, Option, Some, None, map, append_assoc, append-nil, refl, sym, ap, subst, ◌∙◌}
use Rattle.std.specs.Prelude.{All, codes, flat_map, reverse}
use Rattle.std.specs.Option.{option_map_or}
use Rattle.std.specs.Io.KnownBytes.{Appends}
use Rattle.std.proofs.KnownBytes.{Appends-nil, Appends-trans}
use Rattle.std.proofs.lemmas.List.{map-append, reverse-append}
use Rattle.std.proofs.lemmas.List.Elements.{All-nil, All-cons, All-head, All-tail}
use Rattle.std.proofs.lemmas.List.Folds.{flat_map-map}
use Rattle.schema.specs.NodeData.{NodeData}
use Rattle.role_names.specs.Names.{shown_name}
use Rattle.model.specs.declared.FullNodeId.{FullNodeId}
use Rattle.model.specs.World.{World}
use Rattle.model.specs.Forest.{IsFormed}
use Rattle.model.specs.Lists.{ancestors}
use Rattle.views.specs.declared.node.node_ref.NodeRef.{NodeRef}
use Rattle.views.specs.Nodes.{world_at, id_at, data_at}
use Rattle.views.specs.PlainWalks.{node_in, node_of}
use Rattle.views.proofs.Climbing.{parent_of, parent_above, nothing_above, data_shown}
use Rattle.views.proofs.Reversed.{map_reverse}
use Rattle.hidden_texts.specs.declared.passwords.Passwords.{Passwords}
use Rattle.hidden_texts.specs.Known.{AreRight}
use Rattle.find.specs.Printed.{label_text, role_at, name_text, names_text}
use Rattle.find.specs.Viewed.{name_seen, later_seen, names_seen, IsKnownOf}

-- ---- the climb

module _ (w : World) (formed : IsFormed w) where
  abbrev pairs : List FullNodeId → List (World × FullNodeId)
  pairs ids = map (node_in w) ids

  pub climbs : (nodes : List NodeRef) (n q : NodeRef) (all : List (World × FullNodeId)) → world_at q ≡ w → Some (id_at q) ≡ parent_of w (id_at n) →
      map node_of nodes ++ pairs (ancestors w (id_at n)) ≡ all → map node_of (nodes ++ q ∷ []) ++ pairs (ancestors w (id_at q)) ≡ all
  climbs nodes n q all same parent so_far =
      ap (λ xs. xs ++ pairs (ancestors w (id_at q))) (map-append node_of nodes (q ∷ []))
      ∙ append_assoc (map node_of nodes) (node_of q ∷ []) (pairs (ancestors w (id_at q)))
      ∙ ap (λ v. map node_of nodes ++ node_in v (id_at q) ∷ pairs (ancestors w (id_at q))) same
      ∙ ap (λ ids. map node_of nodes ++ pairs ids) (sym (parent_above w formed (id_at n) (id_at q) parent))
      ∙ so_far

  pub climbed_all : (nodes : List NodeRef) (n : NodeRef) (all : List (World × FullNodeId)) → None ≡ parent_of w (id_at n) → map node_of nodes ++ pairs (ancestors w (id_at n)) ≡ all → map node_of nodes ≡ all
  climbed_all nodes n all none so_far = sym (append-nil (map node_of nodes)) ∙ ap (λ ids. map node_of nodes ++ pairs ids) (sym (nothing_above w formed (id_at n) none)) ∙ so_far

-- ---- names

role_shown : (n : NodeRef) → shown_name (data_at n).role ≡ role_at (world_at n) (id_at n)
role_shown n = sym (ap (λ o. option_map_or (λ (d : NodeData). shown_name d.role) o []) (data_shown (world_at n) n refl))

pub name_is : (n : NodeRef) → name_seen n ≡ name_text (world_at n) (id_at n)
name_is n = ap (λ r. codes " " ++ r ++ label_text (world_at n) (id_at n)) (role_shown n)

name_of_pair : World × FullNodeId → List ℕ
name_of_pair p = name_text p.0 p.1

later_of_pair : World × FullNodeId → List ℕ
later_of_pair p = codes " >" ++ name_text p.0 p.1

later_are : (w : World) (nodes : List NodeRef) (ids : List FullNodeId) → map node_of nodes ≡ map (node_in w) ids → flat_map later_seen nodes ≡ flat_map (λ id. codes " >" ++ name_text w id) ids
unfolding later_of_pair
later_are w nodes ids e = by_pairs nodes ∙ sym (flat_map-map later_of_pair node_of nodes) ∙ ap (flat_map later_of_pair) e ∙ flat_map-map later_of_pair (node_in w) ids
  where
    by_pairs : (ns : List NodeRef) → flat_map later_seen ns ≡ flat_map (λ n. later_of_pair (node_of n)) ns
    by_pairs [] = refl
    by_pairs (n ∷ ns) = λ i. (codes " >" ++ name_is n i) ++ by_pairs ns i

names_of : (w : World) (nodes : List NodeRef) (ids : List FullNodeId) → map node_of nodes ≡ map (node_in w) ids → names_seen nodes ≡ names_text w ids
unfolding name_of_pair
names_of w [] [] e = refl
names_of w [] (id ∷ ids) e = absurd (let clash : [] ≡ node_in w id ∷ map (node_in w) ids = e in cc)
names_of w (n ∷ nodes) [] e = absurd (let clash : node_of n ∷ map node_of nodes ≡ [] = e in cc)
names_of w (n ∷ nodes) (id ∷ ids) e =
    let same : node_of n ∷ map node_of nodes ≡ node_in w id ∷ map (node_in w) ids = e in
    let first : node_of n ≡ node_in w id = cc in
    let others : map node_of nodes ≡ map (node_in w) ids = cc in
    let here : name_seen n ≡ name_text w id = name_is n ∙ ap name_of_pair first in
    λ i. here i ++ later_are w nodes ids others i

-- from the last view to the first
pub names_down : (w : World) (nodes : List NodeRef) (ids : List FullNodeId) → map node_of nodes ≡ map (node_in w) ids → names_seen (reverse nodes) ≡ names_text w (reverse ids)
names_down w nodes ids e = names_of w (reverse nodes) (reverse ids) (map_reverse node_of nodes ∙ ap reverse e ∙ sym (map_reverse (node_in w) ids))

-- ---- from the end of a list

pub last_taken : {A : Type 0} (old new : List A) (x : A) → old ≡ new ++ x ∷ [] → reverse old ≡ x ∷ reverse new
last_taken old new x e = ap reverse e ∙ reverse-append new (x ∷ [])

-- what holds of each holds of the last and of the others
pub record IsSplit {A : Type 0} (P : A → Type 0) (new : List A) (x : A) : Type 0 where
  pub last : P x
  pub others : All P new

pub last_known : {A : Type 0} (P : A → Type 0) (old new : List A) (x : A) → old ≡ new ++ x ∷ [] → All P old → IsSplit P new x
last_known {A} P old new x e all = go new (subst (All P) e all)
  where
    go : (ys : List A) → All P (ys ++ x ∷ []) → IsSplit P ys x
    go [] h = record { last = All-head P x [] h; others = All-nil P }
    go (y ∷ ys) h = let rest : IsSplit P ys x = go ys (All-tail P y (ys ++ x ∷ []) h) in record { last = rest.last; others = All-cons P y ys (All-head P y (ys ++ x ∷ []) h) rest.others }

-- what is known of a world is known of each of its nodes
pub nodes_known : (passwords : Passwords) (w : World) (nodes : List NodeRef) (ids : List FullNodeId) → map node_of nodes ≡ map (node_in w) ids → AreRight w passwords → All (IsKnownOf passwords) nodes
nodes_known passwords w [] ids e right = All-nil (IsKnownOf passwords)
nodes_known passwords w (n ∷ nodes) [] e right = absurd (let clash : node_of n ∷ map node_of nodes ≡ [] = e in cc)
nodes_known passwords w (n ∷ nodes) (id ∷ ids) e right =
    let same : node_of n ∷ map node_of nodes ≡ node_in w id ∷ map (node_in w) ids = e in
    let first : node_of n ≡ node_in w id = cc in
    let others : map node_of nodes ≡ map (node_in w) ids = cc in
    All-cons (IsKnownOf passwords) n nodes (subst (λ v. AreRight v passwords) (sym (ap (λ (p : World × FullNodeId). p.0) first)) right) (nodes_known passwords w nodes ids others right)

-- what is written of the nodes before those that are left
pub record AreWritten (before now : Option (List ℕ)) (all left : List NodeRef) : Type 0 where
  pub done : List ℕ
  pub written : Appends before now done
  pub whole : done ++ flat_map later_seen (reverse left) ≡ flat_map later_seen (reverse all)

pub none_written : (before : Option (List ℕ)) (all : List NodeRef) → AreWritten before before all all
none_written before all = record { done = []; written = Appends-nil before; whole = refl }

pub next_written : (before now next : Option (List ℕ)) (all old new : List NodeRef) (n : NodeRef) → old ≡ new ++ n ∷ [] → AreWritten before now all old → Appends now next (later_seen n) → AreWritten before next all new
next_written before now next all old new n e way more = record {
  done = way.done ++ later_seen n;
  written = Appends-trans before now next way.done (later_seen n) way.written more;
  whole = append_assoc way.done (later_seen n) (flat_map later_seen (reverse new)) ∙ ap (λ ns. way.done ++ flat_map later_seen ns) (sym (last_taken old new n e)) ∙ way.whole;
}

pub all_written : (before now : Option (List ℕ)) (all left : List NodeRef) → left ≡ [] → AreWritten before now all left → Appends before now (flat_map later_seen (reverse all))
all_written before now all left e way =
    subst (Appends before now) (sym (append-nil way.done) ∙ ap (λ ns. way.done ++ flat_map later_seen (reverse ns)) (sym e) ∙ way.whole) way.written
