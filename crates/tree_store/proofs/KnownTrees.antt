-- What the known trees show after one is added or changed.
use Rattle.std.proofs.Common.{◌≡◌, ℕ, zero, suc, ◌<◌, length, set, List, [], ◌∷◌, ◌++◌, Bool, true, false, cond, Option, Some, None, refl, sym, ap, subst, ◌∙◌, arith, ⊎_elim}
use Rattle.std.specs.Prelude.{slice_get}
use Rattle.std.specs.Option.{option_map, option_map_or}
use Rattle.std.specs.Cmp.{nat_cmp_total}
use Rattle.std.specs.Ordering.{nat_cmp, eq_by_cmp}
use Rattle.std.specs.FinMap.{get, empty, remove, get-empty, get-remove, same_map}
use Rattle.std.proofs.lemmas.Bool.{cases_eq}
use Rattle.std.proofs.lemmas.Map.Lookups.{exact_unsigned}
use Rattle.model.specs.World.{Tree}
use Rattle.tree_changes.specs.declared.look_ups.TreeRecord.{TreeRecord}
use Rattle.tree_changes.specs.Changes.{tree_from, set_tree, put_tree}
use Rattle.tree_store.specs.declared.records.KnownTree.{KnownTree}
use Rattle.tree_store.specs.declared.records.PresentTree.{PresentTree}
use Rattle.tree_store.specs.Stored.{tree_of, tree_in, trees_shown}
use Rattle.tree_changes.proofs.Overlays.{get-set_tree}
use Rattle.tree_store.proofs.Maps.{get-trees, tied_same, tied_apart}

none_more : (b : Bool) (o : Option Tree) → o ≡ None → cond b None o ≡ None
none_more true o e = refl
none_more false o e = e

pub shown_push : (ks : List KnownTree) (i : ℕ) (k : KnownTree) → k.tree ≡ None → trees_shown i (ks ++ k ∷ []) ≡ trees_shown i ks
shown_push [] i k none =
    ap (λ t. set_tree empty i (option_map tree_of t)) none
    ∙ same_map nat_cmp_total exact_unsigned (remove empty i) empty (λ q. get-remove nat_cmp_total empty i q ∙ none_more (eq_by_cmp nat_cmp q i) (get empty q) (get-empty nat_cmp q) ∙ sym (get-empty nat_cmp q))
shown_push (x ∷ ks) i k none = ap (λ m. set_tree m i (option_map tree_of x.tree)) (shown_push ks (suc i) k none)

get_set_here : (ks : List KnownTree) (i : ℕ) (x : KnownTree) → i < length ks → slice_get (set ks i x) i ≡ Some x
get_set_here [] i x less = absurd (omega (arith, less))
get_set_here (k ∷ ks) zero x less = refl
get_set_here (k ∷ ks) (suc i) x less = get_set_here ks i x (omega (arith, less))

get_set_apart : (ks : List KnownTree) (i q : ℕ) (x : KnownTree) → (i ≡ q → ⊥) → slice_get (set ks i x) q ≡ slice_get ks q
get_set_apart [] i q x other = refl
get_set_apart (k ∷ ks) zero zero x other = absurd (other refl)
get_set_apart (k ∷ ks) zero (suc q) x other = refl
get_set_apart (k ∷ ks) (suc i) zero x other = refl
get_set_apart (k ∷ ks) (suc i) (suc q) x other = get_set_apart ks i q x (λ e. other (ap suc e))

pub shown_set : (ks : List KnownTree) (i : ℕ) (x : KnownTree) → i < length ks → (q : ℕ) → tree_in (slice_get (set ks i x) q) ≡ cond (eq_by_cmp nat_cmp q i) (option_map tree_of x.tree) (tree_in (slice_get ks q))
shown_set ks i x less q =
    ⊎_elim
    (λ e. subst (λ n. tree_in (slice_get (set ks i x) n) ≡ option_map tree_of x.tree) e (ap tree_in (get_set_here ks i x less)) ∙ ap (λ b. cond b (option_map tree_of x.tree) (tree_in (slice_get ks q))) (sym (tied_same i q e)))
    (λ n. ap tree_in (get_set_apart ks i q x n) ∙ ap (λ b. cond b (option_map tree_of x.tree) (tree_in (slice_get ks q))) (sym (tied_apart i q n)))
    (cases_eq i q)

pub shown_put : (ks ls : List KnownTree) (r : TreeRecord) (i : ℕ) (t : Option PresentTree) → r.index ≡ Some i → option_map tree_of t ≡ tree_from r.root r.focus
    → ((q : ℕ) → tree_in (slice_get ls q) ≡ cond (eq_by_cmp nat_cmp q i) (option_map tree_of t) (tree_in (slice_get ks q))) → trees_shown 0 ls ≡ put_tree (trees_shown 0 ks) r
shown_put ks ls r i t at is up =
    same_map nat_cmp_total exact_unsigned _ _ (λ q. get-trees ls q ∙ up q ∙ ap (λ x. cond (eq_by_cmp nat_cmp q i) x (tree_in (slice_get ks q))) is ∙ ap (cond (eq_by_cmp nat_cmp q i) (tree_from r.root r.focus)) (sym (get-trees ks q)) ∙ sym (get-set_tree (trees_shown 0 ks) i (tree_from r.root r.focus) q))
    ∙ ap (λ o. option_map_or (λ index. set_tree (trees_shown 0 ks) index (tree_from r.root r.focus)) o (trees_shown 0 ks)) (sym at)
