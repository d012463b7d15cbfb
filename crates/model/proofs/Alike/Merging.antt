-- Alike updates merge alike.
use Rattle.std.proofs.Common.{◌≡◌, ℕ, Bool, true, false, cond, List, [], ◌∷◌, ◌++◌, Option, Some, inl, inr, refl, sym, ap, ◌∙◌, map}
use Rattle.std.specs.Prelude.{◌==◌, ◌&&◌, ◌↔◌, option_map, if◌then◌else◌}
use Rattle.std.specs.Option.{option_map_or}
use Rattle.std.specs.Ordering.{eq_by_cmp}
use Rattle.std.specs.FinMap.{FinMap, get, insert, get-insert}
use Rattle.schema.specs.NodeData.{NodeData}
use Rattle.schema.specs.Roles.{same_role}
use Rattle.schema.specs.declared.NodeId.{NodeId}
use Rattle.schema.specs.declared.Role.TheVariants.{TextRun}
use Rattle.model.specs.declared.FullNodeId.{FullNodeId}
use Rattle.model.specs.FullIds.{full_cmp, full_total}
use Rattle.model.specs.World.{World, Tree, in_tree}
use Rattle.model.specs.Forest.{is_same}
use Rattle.model.specs.Update.{UpdateData, InfoData, index_for, known_after, overwritten_nodes, merged_world, Fault, Stands}
use Rattle.model.specs.Outline.{without_value, without_text, outline}
use Rattle.model.specs.Shape.{AreAlikeWorlds}
use Rattle.model.specs.AlikeRuns.{unveiled_entry, AreAlikeUpdates}
use Rattle.model.proofs.Alike.Bare as bare
use Rattle.model.proofs.Alike.Bare.{SameBare}
use Rattle.model.proofs.Alike.Faults.{SameOrder, index_same, stands}
use Rattle.model.proofs.Alike.Faults as faults

abbrev Entry : Type 0
Entry = NodeId × NodeData

abbrev bare_entry : Entry → Entry
bare_entry e = (e.0, without_text e.1)

-- ---- entries

bare_by : (e : Entry) (run secret : Bool) → bare_entry (if run then (e.0, without_text e.1) else if secret then (e.0, without_value e.1) else e) ≡ bare_entry e
bare_by e true secret = refl
bare_by e false true = refl
bare_by e false false = refl

bare_entries : (p : FullNodeId) (index : ℕ) (es : List Entry) → map bare_entry (map (unveiled_entry p index) es) ≡ map bare_entry es
bare_entries p index [] = refl
bare_entries p index (e ∷ es) =
    ap (λ x. x ∷ map bare_entry (map (unveiled_entry p index) es)) (bare_by e (index == p.tree && same_role e.1.role TextRun) (is_same (in_tree index e.0) p)) ∙ ap (λ xs. bare_entry e ∷ xs) (bare_entries p index es)

bare_ids : (es : List Entry) → map (λ (e : Entry). e.0) (map bare_entry es) ≡ map (λ (e : Entry). e.0) es
bare_ids [] = refl
bare_ids (e ∷ es) = ap (λ ids. e.0 ∷ ids) (bare_ids es)

-- ---- nodes overwritten alike

abbrev bare_at : FinMap full_cmp NodeData → FullNodeId → Option NodeData
bare_at nodes id = option_map without_text (get nodes id)

bare_insert : (nodes : FinMap full_cmp NodeData) (at : FullNodeId) (d : NodeData) (id : FullNodeId) → bare_at (insert nodes at d) id ≡ cond (eq_by_cmp full_cmp id at) (Some (without_text d)) (bare_at nodes id)
bare_insert nodes at d id = ap (option_map without_text) (get-insert full_total nodes at d id) ∙ by_test (eq_by_cmp full_cmp id at)
  where
    by_test : (b : Bool) → option_map without_text (cond b (Some d) (get nodes id)) ≡ cond b (Some (without_text d)) (bare_at nodes id)
    by_test true = refl
    by_test false = refl

overwritten_alike : (index : ℕ) (es fs : List Entry) (nodes others : FinMap full_cmp NodeData) → map bare_entry es ≡ map bare_entry fs → ((id : FullNodeId) → bare_at nodes id ≡ bare_at others id) →
    (id : FullNodeId) → bare_at (overwritten_nodes nodes index es) id ≡ bare_at (overwritten_nodes others index fs) id
overwritten_alike index [] [] nodes others same h = h
overwritten_alike index [] (f ∷ fs) nodes others same h = absurd (let no : ⊥ = cc in no)
overwritten_alike index (e ∷ es) [] nodes others same h = absurd (let no : ⊥ = cc in no)
overwritten_alike index (e ∷ es) (f ∷ fs) nodes others same h =
    let first : bare_entry e ≡ bare_entry f = cc in
    let rest : map bare_entry es ≡ map bare_entry fs = cc in
    overwritten_alike index es fs (insert nodes (in_tree index e.0) e.1) (insert others (in_tree index f.0) f.1) rest
    (λ id. bare_insert nodes (in_tree index e.0) e.1 id
    ∙ (λ i. cond (eq_by_cmp full_cmp id (in_tree index (first i).0)) (Some (first i).1) (h id i))
    ∙ sym (bare_insert others (in_tree index f.0) f.1 id))

-- ---- merged worlds

pub outlines : (p : FullNodeId) (w v : World) → AreAlikeWorlds p w v → outline w ≡ outline v
outlines p w v (inl e) = ap outline e
outlines p w v (inr e) = e.outlines

module _ (w v : World) (u x : UpdateData) (old : SameBare w v) (name : u.name ≡ x.name) (info : u.info ≡ x.info) (focus : u.focus ≡ x.focus) (nodes : map bare_entry u.nodes ≡ map bare_entry x.nodes) where
  same_index : index_for w u.name ≡ index_for v x.name
  same_index = index_same w v u.name x.name old name

  same_merged : SameBare (merged_world w u) (merged_world v x)
  same_merged = record {
    known = (λ i. option_map_or (λ _. old.known i) (bare.index old u.name i) (old.known i ++ u.name ∷ [])) ∙ ap (known_after v) name;
    trees = λ i. option_map_or (λ root. insert (old.trees i) (same_index i) (record { root = root; focus = focus i })) (option_map_or (λ (t : InfoData). Some t.root) (info i) (option_map (λ (t : Tree). t.root) (get (old.trees i) (same_index i)))) (old.trees i);
    host = old.host;
    bare = λ id. overwritten_alike (index_for w u.name) u.nodes x.nodes w.nodes v.nodes nodes old.bare id ∙ ap (λ k. bare_at (overwritten_nodes v.nodes k x.nodes) id) same_index;
  }

  pub same_order : SameOrder w u v x
  same_order = record { old = old; merged = same_merged; name = name; info = info; ids = sym (bare_ids u.nodes) ∙ ap (map (λ (e : Entry). e.0)) nodes ∙ bare_ids x.nodes }

pub alike_order : (p : FullNodeId) (w v : World) (u x : UpdateData) → AreAlikeWorlds p w v → AreAlikeUpdates p w u x → SameOrder w u v x
alike_order p w v u x worlds updates =
    let index = index_for w u.name in
    same_order w v u x (bare.of_outlines w v (outlines p w v worlds)) updates.name updates.info updates.focus
    (sym (bare_entries p index u.nodes) ∙ ap (map bare_entry) updates.nodes ∙ bare_entries p index x.nodes)

pub fail_alike : (p : FullNodeId) (w v : World) (u x : UpdateData) → AreAlikeWorlds p w v → AreAlikeUpdates p w u x → (f : Fault) → Stands w u f ↔ Stands v x f
fail_alike p w v u x worlds updates f = let s = alike_order p w v u x worlds updates in (stands s f, stands (faults.turned s) f)
