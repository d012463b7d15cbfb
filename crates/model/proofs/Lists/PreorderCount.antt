-- The pre-order of a state's root is as long as the state has nodes.
use Rattle.std.proofs.Common.{◌≡◌, Bool, true, false, List, [], ◌∷◌, length, refl, sym, ◌∙◌, ap, map}
use Rattle.std.specs.Prelude.{Some, Contains, T, ◌&&◌, Decides}
use Rattle.std.specs.List.{IsDistinct, AllByRecursion, list_any}
use Rattle.std.specs.Ordering.{is_lt, is_eq}
use Rattle.std.specs.declared.cmp.Ordering.{Ordering}
use Rattle.std.specs.declared.cmp.Ordering.TheVariants.{Less, Equal, Greater}
use Rattle.std.specs.Cmp.{eq_by_cmp_equiv}
use Rattle.std.specs.FinMap.{keys, len, entries, entries_sorted, len-entries, is_sorted, contains_key-keys}
use Rattle.std.specs.FinMap.Entries.{below_all}
use Rattle.std.proofs.lemmas.Bool.Decides.{same_from_decides}
use Rattle.std.proofs.lemmas.List.{length-map}
use Rattle.std.proofs.lemmas.Map.Made.{IsDistinct-from_AllPairs, is_member-Decides, length-from_same_keys}
use Rattle.schema.specs.NodeData.{NodeData}
use Rattle.model.specs.declared.FullNodeId.{FullNodeId}
use Rattle.model.specs.FullIds.{full_cmp, full_total}
use Rattle.model.specs.World.{World, root_of}
use Rattle.model.specs.State.{IsState}
use Rattle.model.specs.Forest.{is_same}
use Rattle.model.specs.Lists.{preorder}
use Rattle.model.proofs.Forest.PlaceOf.{same_from_test, test_self}
use Rattle.model.proofs.Lists.Preorder.{preorder_distinct}
use Rattle.model.proofs.Forest.Rooted.{state_formed}
use Rattle.model.proofs.Lists.StateLists.{in_root_preorder}

same_decides : (a b : FullNodeId) → Decides (is_same a b) (a ≡ b)
same_decides a b = (same_from_test a b, λ e. ap (is_same a) (sym e) ∙ test_self a)

both : (a b : Bool) → T (a && b) → T a × T b
both true b h = (tt, h)
both false b h = absurd h

not_same : (o : Ordering) → T (is_lt o) → is_eq o ≡ false
not_same Less h = refl
not_same Equal h = absurd h
not_same Greater h = refl

apart_below : (x : FullNodeId) (es : List (FullNodeId × NodeData)) → T (below_all full_cmp x es) → AllByRecursion (λ y. is_same x y ≡ false) (map (λ (e : FullNodeId × NodeData). e.0) es)
apart_below x [] h = tt
apart_below x (e ∷ es) h =
    let parts = both (is_lt (full_cmp x e.0)) (below_all full_cmp x es) h in
    (not_same (full_cmp x e.0) parts.0, apart_below x es parts.1)

pub keys_distinct : (es : List (FullNodeId × NodeData)) → T (is_sorted full_cmp es) → IsDistinct is_same (map (λ (e : FullNodeId × NodeData). e.0) es)
unfolding IsDistinct
keys_distinct [] h = tt
keys_distinct (e ∷ es) h =
    let parts = both (below_all full_cmp e.0 es) (is_sorted full_cmp es) h in
    (apart_below e.0 es parts.0, keys_distinct es parts.1)

pub as_many : {w : World} (s : IsState w) (r : FullNodeId) → root_of w 0 ≡ Some r → length (preorder w r) ≡ len w.nodes
as_many {w} s r is =
    length-from_same_keys (eq_by_cmp_equiv full_total) (preorder w r) (keys w.nodes) (IsDistinct-from_AllPairs same_decides (preorder w r) (preorder_distinct w (state_formed s) r)) (keys_distinct (entries w.nodes) (entries_sorted w.nodes))
    (λ q. same_from_decides {P = Contains (preorder w r) q} (list_any (is_same q) (preorder w r)) (list_any (is_same q) (keys w.nodes)) (is_member-Decides same_decides (preorder w r) q)
    (λ h. (in_root_preorder s r is q).1 (contains_key-keys w.nodes q ∙ h), λ c. sym (contains_key-keys w.nodes q) ∙ (in_root_preorder s r is q).0 c))
    ∙ length-map (entries w.nodes) (λ (e : FullNodeId × NodeData). e.0) ∙ sym (len-entries w.nodes)
