-- What maps that are put together entry by entry have at a key.
use Rattle.std.proofs.Common.{◌≡◌, ℕ, zero, suc, ◌+◌, List, [], ◌∷◌, Bool, true, false, cond, Option, Some, refl, sym, ap, ◌∙◌, arith}
use Rattle.std.specs.Option.{option_map}
use Rattle.std.specs.Cmp.{Equal-is, nat_cmp_total, tied_itself}
use Rattle.std.specs.Ordering.{nat_cmp, eq_by_cmp, is_eq}
use Rattle.std.specs.Map.{lookup}
use Rattle.std.specs.BTreeMap.{is_at}
use Rattle.std.specs.FinSet as set
use Rattle.std.specs.Prelude.{◌||◌, ◌&&◌, not, is_some, slice_get, option_and_then, if◌then◌else◌}
use Rattle.std.specs.FinMap.{get, get-empty}
use Rattle.std.proofs.lemmas.Map.Lookups.{exact_unsigned}
use Rattle.schema.specs.NodeData.{NodeData}
use Rattle.model.specs.declared.FullNodeId.{FullNodeId}
use Rattle.model.specs.FullIds.{full_cmp, full_total}
use Rattle.tree_changes.proofs.Overlays.{get-set_at, get-set_tree}
use Rattle.tree_store.specs.Cells.{Record}
use Rattle.tree_store.specs.declared.records.KnownTree.{KnownTree}
use Rattle.tree_store.specs.Cells.{SlotsView, slot_in, slot_at, record_at, record_in}
use Rattle.tree_store.specs.Stored.{nodes_in, nodes_shown, ids_in, trees_shown, slots_shown, tree_of, tree_in}

-- the data of a record that may be missing
abbrev pub node_in : Option Record → Option NodeData
node_in r = option_map (λ x. x.node) r

node_in-cond : (b : Bool) (see : ℕ → Option (Option Record)) (n : ℕ) (o : Option ℕ) → cond b (node_in (record_in (see n))) (node_in (record_in (option_and_then see o))) ≡ node_in (record_in (option_and_then see (cond b (Some n) o)))
node_in-cond true see n o = refl
node_in-cond false see n o = refl

pub get-nodes_in : (es : List (FullNodeId × ℕ)) (see : ℕ → Option (Option Record)) (q : FullNodeId) → get (nodes_in es see) q ≡ node_in (record_in (option_and_then see (lookup (is_at (full_cmp q)) es)))
get-nodes_in [] see q = get-empty full_cmp q
get-nodes_in (e ∷ es) see q =
    get-set_at (nodes_in es see) e.0 (option_map (λ r. r.node) (record_in (see e.1))) q
    ∙ ap (cond (is_at (full_cmp q) e.0) (option_map (λ r. r.node) (record_in (see e.1)))) (get-nodes_in es see q)
    ∙ node_in-cond (is_at (full_cmp q) e.0) see e.1 (lookup (is_at (full_cmp q)) es)

pub get-nodes_shown : (s : SlotsView) (q : FullNodeId) → get (nodes_shown s) q ≡ node_in (record_at s q)
get-nodes_shown s q = get-nodes_in s.numbers (slot_in s) q

or-some : (b : Bool) (see : ℕ → Option (Option Record)) (n : ℕ) (o : Option ℕ) → is_some (see n) ≡ true → (b || is_some (option_and_then see o)) ≡ is_some (option_and_then see (cond b (Some n) o))
or-some true see n o e = sym e
or-some false see n o e = refl

and-none : (b : Bool) (see : ℕ → Option (Option Record)) (n : ℕ) (o : Option ℕ) → is_some (see n) ≡ false → (not b && is_some (option_and_then see o)) ≡ is_some (option_and_then see (cond b (Some n) o))
and-none true see n o e = sym e
and-none false see n o e = refl

pub contains-ids_in : (es : List (FullNodeId × ℕ)) (see : ℕ → Option (Option Record)) (q : FullNodeId) → set.contains (ids_in es see) q ≡ is_some (option_and_then see (lookup (is_at (full_cmp q)) es))
contains-ids_in [] see q = set.contains-empty full_cmp q
contains-ids_in (e ∷ es) see q = go (is_some (see e.1)) refl (contains-ids_in es see q)
  where
    go : (b : Bool) → is_some (see e.1) ≡ b → set.contains (ids_in es see) q ≡ is_some (option_and_then see (lookup (is_at (full_cmp q)) es))
        → set.contains (if b then set.insert (ids_in es see) e.0 else set.remove (ids_in es see) e.0) q ≡ is_some (option_and_then see (cond (is_at (full_cmp q) e.0) (Some e.1) (lookup (is_at (full_cmp q)) es)))
    go true s rest =
        set.contains-insert full_total (ids_in es see) e.0 q
        ∙ ap (λ b. is_at (full_cmp q) e.0 || b) rest
        ∙ or-some (is_at (full_cmp q) e.0) see e.1 (lookup (is_at (full_cmp q)) es) s
    go false s rest =
        set.contains-remove full_total (ids_in es see) e.0 q
        ∙ ap (λ b. not (is_at (full_cmp q) e.0) && b) rest
        ∙ and-none (is_at (full_cmp q) e.0) see e.1 (lookup (is_at (full_cmp q)) es) s

pub contains-slots_shown : (s : SlotsView) (q : FullNodeId) → set.contains (slots_shown s) q ≡ is_some (slot_at s q)
contains-slots_shown s q = contains-ids_in s.numbers (slot_in s) q

pub tied_same : (i j : ℕ) → i ≡ j → eq_by_cmp nat_cmp j i ≡ true
tied_same i j e = ap (λ k. eq_by_cmp nat_cmp j k) e ∙ ap is_eq (tied_itself nat_cmp_total j)

apart_by : (i j : ℕ) (b : Bool) → eq_by_cmp nat_cmp j i ≡ b → (i ≡ j → ⊥) → b ≡ false
apart_by i j true e h = absurd (h (sym (exact_unsigned j i ((Equal-is (nat_cmp j i)).0 e))))
apart_by i j false e h = refl

pub tied_apart : (i j : ℕ) → (i ≡ j → ⊥) → eq_by_cmp nat_cmp j i ≡ false
tied_apart i j h = apart_by i j (eq_by_cmp nat_cmp j i) refl h

pub get-trees_shown : (ks : List KnownTree) (i j : ℕ) → get (trees_shown i ks) (j + i) ≡ tree_in (slice_get ks j)
get-trees_shown [] i j = get-empty nat_cmp (j + i)
get-trees_shown (k ∷ ks) i zero =
    ap (get (trees_shown i (k ∷ ks))) (omega arith)
    ∙ get-set_tree (trees_shown (suc i) ks) i (option_map tree_of k.tree) i
    ∙ ap (λ b. cond b (option_map tree_of k.tree) (get (trees_shown (suc i) ks) i)) (tied_same i i refl)
get-trees_shown (k ∷ ks) i (suc j) =
    get-set_tree (trees_shown (suc i) ks) i (option_map tree_of k.tree) (suc j + i)
    ∙ ap (λ b. cond b (option_map tree_of k.tree) (get (trees_shown (suc i) ks) (suc j + i))) (tied_apart i (suc j + i) (λ e. absurd (omega arith)))
    ∙ ap (get (trees_shown (suc i) ks)) (omega arith)
    ∙ get-trees_shown ks (suc i) j

pub get-trees : (ks : List KnownTree) (j : ℕ) → get (trees_shown 0 ks) j ≡ tree_in (slice_get ks j)
get-trees ks j = ap (get (trees_shown 0 ks)) (omega arith) ∙ get-trees_shown ks 0 j
