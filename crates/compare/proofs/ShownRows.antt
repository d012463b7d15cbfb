-- What is written and kept of the rows of a tree.
use Rattle.std.proofs.Common.{◌≡◌, ℕ, Bool, true, false, List, [], ◌∷◌, ◌++◌, Option, Some, None, map, flat_map, append_assoc, append-nil, refl, sym, ap, subst, true≢false, ◌∙◌}
use Rattle.std.specs.Prelude.{◌≢◌, All, MatchBool, if◌then◌else◌}
use Rattle.std.specs.Option.{option_map_or}
use Rattle.std.specs.Io.KnownBytes.{Appends}
use Rattle.std.specs.Str.{bytes_eq}
use Rattle.std.proofs.KnownBytes.{Appends-nil, Appends-trans}
use Rattle.std.proofs.lemmas.Slice.Eq.{bytes_eq-Decides}
use Rattle.std.proofs.lemmas.List.Elements.{All-head, All-tail, All-cons}
use Rattle.schema.specs.NodeData.{NodeData}
use Rattle.role_names.specs.Names.{shown_name}
use Rattle.model.specs.declared.FullNodeId.{FullNodeId}
use Rattle.model.specs.declared.filters.FilterResult.{FilterResult}
use Rattle.model.specs.Covers.{is_included}
use Rattle.model.specs.Filters.{common_filter}
use Rattle.model.specs.World.{World, root_of}
use Rattle.model.specs.Forest.{IsFormed}
use Rattle.model.specs.Lists.{ancestors}
use Rattle.views.specs.declared.node.node_ref.NodeRef.{NodeRef}
use Rattle.views.specs.Nodes.{world_at, id_at}
use Rattle.views.proofs.Climbing.{parent_of, parent_above, nothing_above, data_shown}
use Rattle.hidden_texts.specs.Hidden.{is_in_password}
use Rattle.compare.specs.Rows.{fields_text, indent, label_text, row_at, row_seen, row_text, rows_from, rows_of, value_text, whole}
use Rattle.compare.specs.declared.rows.Row.{Row}
use Rattle.compare.specs.Compared.{AreNodesOf, text_of}

-- ---- the indentation

-- what is written, and what is left for the nodes above one, is what there is to write of the nodes above another one
pub record IsIndented (w : World) (before now : Option (List ℕ)) (id at : FullNodeId) : Type 0 where
  pub done : List ℕ
  pub written : Appends before now done
  pub whole : done ++ flat_map (indent w) (ancestors w at) ≡ flat_map (indent w) (ancestors w id)

pub none_indented : (w : World) (before : Option (List ℕ)) (id : FullNodeId) → IsIndented w before before id id
none_indented w before id = record { done = []; written = Appends-nil before; whole = refl }

module _ (w : World) (formed : IsFormed w) where
  pub more_indented : (before now next : Option (List ℕ)) (id at q : FullNodeId) → Some q ≡ parent_of w at → IsIndented w before now id at → Appends now next (indent w q) → IsIndented w before next id q
  more_indented before now next id at q parent so_far more = record {
    done = so_far.done ++ indent w q;
    written = Appends-trans before now next so_far.done (indent w q) so_far.written more;
    whole =
        append_assoc so_far.done (indent w q) (flat_map (indent w) (ancestors w q))
        ∙ ap (λ ids. so_far.done ++ flat_map (indent w) ids) (sym (parent_above w formed at q parent))
        ∙ so_far.whole;
  }

  pub all_indented : (before now : Option (List ℕ)) (id at : FullNodeId) → None ≡ parent_of w at → IsIndented w before now id at → Appends before now (flat_map (indent w) (ancestors w id))
  all_indented before now id at none so_far =
      subst (Appends before now) (sym (append-nil so_far.done) ∙ ap (λ ids. so_far.done ++ flat_map (indent w) ids) (sym (nothing_above w formed at none)) ∙ so_far.whole) so_far.written

-- ---- rows

-- the rows of nodes of a world are those of their ids
pub rows_by_ids : (w : World) (nodes : List NodeRef) → All (λ n. world_at n ≡ w) nodes → map row_at nodes ≡ map (row_text w) (map id_at nodes)
rows_by_ids w [] all = refl
rows_by_ids w (n ∷ nodes) all = λ i. row_text (All-head (λ m. world_at m ≡ w) n nodes all i) (id_at n) ∷ rows_by_ids w nodes (All-tail (λ m. world_at m ≡ w) n nodes all) i

pub rows_are : (w : World) (ids : List FullNodeId) (nodes : List NodeRef) → AreNodesOf w ids nodes → map row_at nodes ≡ map (row_text w) ids
rows_are w ids nodes of = rows_by_ids w nodes of.world ∙ ap (map (row_text w)) of.list

-- the top comes first, if it is shown
pub from_top : (w : World) (n : NodeRef) (below : List FullNodeId) (nodes all : List NodeRef) (answer : FilterResult) → world_at n ≡ w → answer ≡ common_filter w (id_at n) → AreNodesOf w below nodes →
    all ≡ (if is_included answer then n ∷ nodes else nodes) → AreNodesOf w ((if is_included (common_filter w (id_at n)) then id_at n ∷ [] else []) ++ below) all
from_top w n below nodes all answer here is of e = by_case (is_included (common_filter w (id_at n))) (e ∙ ap (λ a. if is_included a then n ∷ nodes else nodes) is)
  where
    by_case : (b : Bool) → all ≡ (if b then n ∷ nodes else nodes) → AreNodesOf w ((if b then id_at n ∷ [] else []) ++ below) all
    by_case true h = record {
      world = subst (All (λ m. world_at m ≡ w)) (sym h) (All-cons (λ m. world_at m ≡ w) n nodes here of.world);
      list = ap (map id_at) h ∙ ap (λ ids. id_at n ∷ ids) of.list;
    }
    by_case false h = record { world = subst (All (λ m. world_at m ≡ w)) (sym h) of.world; list = ap (map id_at) h ∙ of.list }

-- what is seen of a node is what there is of it
pub row_is : (n : NodeRef) → row_seen n ≡ row_text (world_at n) (id_at n)
row_is n =
    let w = world_at n in
    let id = id_at n in
    let known = data_shown w n refl in
    λ i. flat_map (indent w) (ancestors w id) ++ sym (ap (λ o. option_map_or (λ (d : NodeData). shown_name d.role) o []) known) i ++ label_text w id ++ value_text w id ++ sym (ap (λ o. option_map_or (fields_text (is_in_password w id)) o []) known) i

-- the rows from a tree's root on are those of the tree
pub root_rows : (w state seen : World) (top : FullNodeId) → state ≡ w → seen ≡ state → root_of state 0 ≡ Some top → rows_from seen top ≡ rows_of (Some w)
root_rows w state seen top is same root =
    ap (λ v. rows_from v top) (same ∙ is) ∙ sym (ap (λ o. option_map_or (rows_from w) o []) (ap (λ v. root_of v 0) (sym is) ∙ root))

-- ---- two texts

pub same_text : (b : Bool) (xs ys : List ℕ) → b ≡ bytes_eq xs ys → MatchBool b (xs ≡ ys) (xs ≢ ys)
same_text true xs ys e = (bytes_eq-Decides xs ys).0 (sym e)
same_text false xs ys e = λ same. true≢false (sym ((bytes_eq-Decides xs ys).1 same) ∙ sym e)

-- a text of rows is all that is shown of a tree, if they are its rows
pub whole_text : (rows seen : List Row) (text read : List ℕ) (all : List (List ℕ)) → seen ≡ rows → map text_of rows ≡ all → text ≡ whole (map text_of seen) → read ≡ text → read ≡ whole all
whole_text rows seen text read all is of made same = same ∙ made ∙ ap (λ r. whole (map text_of r)) is ∙ ap whole of

pub told_equal : (same : Bool) (a b x y : List ℕ) → MatchBool same (a ≡ b) (a ≢ b) → same ≡ true → a ≡ x → b ≡ y → x ≡ y
told_equal same a b x y told is first second = sym first ∙ subst (λ s. MatchBool s (a ≡ b) (a ≢ b)) is told ∙ second

pub told_different : (same : Bool) (a b x y : List ℕ) → MatchBool same (a ≡ b) (a ≢ b) → same ≡ false → a ≡ x → b ≡ y → x ≢ y
told_different same a b x y told is first second = λ e. subst (λ s. MatchBool s (a ≡ b) (a ≢ b)) is told (first ∙ e ∙ sym second)
