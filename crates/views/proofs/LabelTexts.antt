-- A label is written part by part.
use Rattle.std.proofs.Common.{◌≡◌, ℕ, Bool, true, false, cond, List, [], ◌∷◌, ◌++◌, map, refl, sym, ap, ◌∙◌, append-nil}
use Rattle.std.specs.Prelude.{Option, Some, None, is_some, unwrap_or, filter_map, ◌||◌}
use Rattle.std.specs.Option.{option_or, option_map_or, option_and_then}
use Rattle.std.specs.List.{flat_map, join_with_byte, cons_option}
use Rattle.schema.specs.NodeData.{NodeData}
use Rattle.model.specs.declared.FullNodeId.{FullNodeId}
use Rattle.model.specs.World.{World}
use Rattle.model.specs.RoleClasses.{is_label}
use Rattle.model.specs.Values.{value_of}
use Rattle.model.specs.Labels.{own_label, label_part, labelled_by, joined_text, label_of}
use Rattle.views.specs.declared.node.node_ref.NodeRef.{NodeRef}
use Rattle.views.specs.Nodes.{world_at, id_at, data_at}
use Rattle.views.specs.PlainWalks.{node_in, node_of}
use Rattle.views.specs.LabelTexts.{parts_of, spaced, rest_of_label}

-- ---- what a node gives

pub own_label_is : (n : NodeRef) → own_label (world_at n) (id_at n) ≡ (data_at n).label
own_label_is n = ap (λ o. option_and_then (λ (d : NodeData). d.label) o) n.known

module _ (n : NodeRef) where
  abbrev w : World
  w = world_at n

  abbrev id : FullNodeId
  id = id_at n

  part_by_role : label_part w id ≡ cond (is_label (data_at n).role) (value_of w id) (own_label w id)
  part_by_role = ap (λ o. cond (option_map_or (λ (d : NodeData). is_label d.role) o false) (value_of w id) (own_label w id)) n.known

  pub part_is_value : is_label (data_at n).role ≡ true → value_of w id ≡ label_part w id
  part_is_value e = sym (part_by_role ∙ ap (λ b. cond b (value_of w id) (own_label w id)) e)

  pub part_is_label : is_label (data_at n).role ≡ false → (data_at n).label ≡ label_part w id
  part_is_label e = sym (part_by_role ∙ ap (λ b. cond b (value_of w id) (own_label w id)) e ∙ own_label_is n)

-- ---- part after part

pub parts_in : (w : World) (ids : List FullNodeId) → parts_of (map (node_in w) ids) ≡ filter_map (label_part w) ids
parts_in w [] = refl
parts_in w (id ∷ ids) = ap (cons_option (label_part w id)) (parts_in w ids)

later_joined : (t : List ℕ) (ts : List (List ℕ)) → join_with_byte 32 (t ∷ ts) ≡ t ++ flat_map (spaced true) ts
later_joined t [] = sym (append-nil t)
later_joined t (u ∷ ts) = ap (λ xs. t ++ 32 ∷ xs) (later_joined u ts)

-- a part is written, and then the others come after another one
pub next_part : (is_later : Bool) (t : List ℕ) (ts : List (List ℕ)) → rest_of_label is_later (t ∷ ts) ≡ spaced is_later t ++ rest_of_label true ts
next_part true t ts = refl
next_part false t ts = later_joined t ts

pub no_more : (is_later : Bool) → rest_of_label is_later [] ≡ []
no_more true = refl
no_more false = refl

-- what there is comes before the others
pub put_first : {A : Type 0} (o : Option A) (d : A) (xs : List A) → is_some o ≡ true → cons_option o xs ≡ unwrap_or o d ∷ xs
put_first None d xs e = cc
put_first (Some x) d xs e = refl

pub left_out : {A : Type 0} (o : Option A) (xs : List A) → is_some o ≡ false → cons_option o xs ≡ xs
left_out None xs e = refl
left_out (Some x) xs e = cc

module _ (nodes rest : List (World × FullNodeId)) (n : NodeRef) (is : nodes ≡ node_of n ∷ rest) where
  by_part : parts_of nodes ≡ cons_option (label_part (world_at n) (id_at n)) (parts_of rest)
  by_part = ap parts_of is

  -- the node gives a part
  pub given : is_some (label_part (world_at n) (id_at n)) ≡ true → parts_of nodes ≡ unwrap_or (label_part (world_at n) (id_at n)) [] ∷ parts_of rest
  given some = by_part ∙ put_first (label_part (world_at n) (id_at n)) [] (parts_of rest) some

  -- or none
  pub not_given : is_some (label_part (world_at n) (id_at n)) ≡ false → parts_of nodes ≡ parts_of rest
  not_given none = by_part ∙ left_out (label_part (world_at n) (id_at n)) (parts_of rest) none

pub there_already : (b : Bool) → true ≡ (b || true)
there_already true = refl
there_already false = refl

pub there_only : (b : Bool) → b ≡ (b || false)
there_only true = refl
there_only false = refl

-- ---- the label of a node

module _ (n : NodeRef) where
  abbrev all_parts : List (List ℕ)
  all_parts = parts_of (map (node_in (world_at n)) (labelled_by (world_at n) (id_at n)))

  by_own : label_of (world_at n) (id_at n) ≡ option_or (data_at n).label (joined_text all_parts)
  unfolding label_of
  by_own =
      ap (λ o. option_or o (joined_text (filter_map (label_part (world_at n)) (labelled_by (world_at n) (id_at n))))) (own_label_is n)
      ∙ ap (λ parts. option_or (data_at n).label (joined_text parts)) (sym (parts_in (world_at n) (labelled_by (world_at n) (id_at n))))

  pub own_label_there : is_some (data_at n).label ≡ true → true ≡ is_some (label_of (world_at n) (id_at n))
  own_label_there e = go (data_at n).label e ∙ ap is_some (sym by_own)
    where
      go : (o : Option (List ℕ)) → is_some o ≡ true → true ≡ is_some (option_or o (joined_text all_parts))
      go None e = cc
      go (Some t) e = refl

  pub label_is_own : (t : List ℕ) → Some t ≡ (data_at n).label → Some t ≡ label_of (world_at n) (id_at n)
  label_is_own t e = sym (by_own ∙ ap (λ o. option_or o (joined_text all_parts)) (sym e))

  pub label_is_joined : None ≡ (data_at n).label → joined_text all_parts ≡ label_of (world_at n) (id_at n)
  label_is_joined e = sym (by_own ∙ ap (λ o. option_or o (joined_text all_parts)) (sym e))

pub joined_is : (parts : List (List ℕ)) → join_with_byte 32 parts ≡ unwrap_or (joined_text parts) []
joined_is [] = refl
joined_is (t ∷ ts) = refl

pub none_there : (o : Option (List ℕ)) → is_some o ≡ false → None ≡ o
none_there None e = refl
none_there (Some t) e = cc
