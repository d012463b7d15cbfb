-- A named node's data, compared with its old record.
use Rattle.std.proofs.Common.{◌≡◌, ◌≢◌, ◌↔◌, ℕ, Bool, true, List, [], ◌++◌, length, Option, Some, None, IsSome, inl, inr, refl, sym, ap, subst, ◌∙◌}
use Rattle.std.specs.Prelude.{IsTrue}
use Rattle.std.specs.Option.{option_to_list}
use Rattle.std.proofs.lemmas.Option.{same_Some}
use Rattle.schema.specs.NodeData.{NodeData}
use Rattle.schema.specs.declared.TreeId.{TreeId}
use Rattle.model.specs.declared.FullNodeId.{FullNodeId}
use Rattle.model.specs.World.{World, Place, data_of, listed_ids, graft_name}
use Rattle.tree_changes.specs.LookUps.{IsPlaceOf}
use Rattle.tree_plan.specs.declared.passes.Named.{Named}
use Rattle.tree_plan.specs.declared.passes.Comparing.{Comparing}
use Rattle.tree_plan.specs.Passes.{at, at_name}
use Rattle.tree_plan.specs.Comparisons.{Spots, Arrivals, spots_of, Gathers, Leaves, OnlyIn, child_ids, TakesGraft, ChangesGraft, IsEntryOf, ComparesData, ComparesNode}
use Rattle.model.proofs.Update.RulesOrFault.{no_some}
use Rattle.tree_plan.proofs.IdMaps.{Put, some_is}

-- what compared data are, in three steps: the entry, the lists, the grafts
pub data_compared : (id : FullNodeId) (n : Named) (xs : List FullNodeId) (graft now : Option TreeId) (d : NodeData) (a b c : Comparing) (entries : List (FullNodeId × Named))
    → now ≡ d.tree_id → Put id (Some n) (at a.named) (at entries) → (IsSome (at a.named id) → length entries ≡ length a.named)
    → Leaves id xs (child_ids id d) 0 (length xs) a.left b.left a.entered b.entered → Gathers (OnlyIn id (child_ids id d) xs) (spots_of a.entered) (spots_of b.entered)
    → b ≡ record a { named = entries; left = b.left; entered = b.entered }
    → c ≡ record b { lost = c.lost; gained = c.gained }
    → ChangesGraft graft now b c → ComparesData id n xs graft d a c
data_compared id n xs graft now d a b c entries is put count left entered first second grafts = record {
  named = subst (λ m. Put id (Some n) (at a.named) (at m)) (sym map_is) put;
  count_of = λ there. ap (λ (m : List (FullNodeId × Named)). length m) map_is ∙ count there;
  left = subst (λ (m : Spots). Leaves id xs (child_ids id d) 0 (length xs) a.left m a.entered c.entered) (ap (λ (x : Comparing). x.left) (sym second))
      (subst (λ (es : Arrivals). Leaves id xs (child_ids id d) 0 (length xs) a.left b.left a.entered es) (ap (λ (x : Comparing). x.entered) (sym second)) left);
  entered = subst (λ (es : Arrivals). Gathers (OnlyIn id (child_ids id d) xs) (spots_of a.entered) (spots_of es)) (ap (λ (x : Comparing). x.entered) (sym second)) entered;
  regrafted = go grafts;
}
  where
    map_is : c.named ≡ entries
    map_is = ap (λ (x : Comparing). x.named) second ∙ ap (λ (x : Comparing). x.named) first

    lost_is : b.lost ≡ a.lost
    lost_is = ap (λ (x : Comparing). x.lost) first

    gained_is : b.gained ≡ a.gained
    gained_is = ap (λ (x : Comparing). x.gained) first

    go : ChangesGraft graft now b c → ChangesGraft graft d.tree_id a c
    go g = subst (λ x. ChangesGraft graft x a c) is (elim g [
      | inl f ↦ inl (f.0, f.1 ∙ ap (λ x. x.items) lost_is, f.2 ∙ ap (λ x. x.items) gained_is)
      | inr f ↦ inr (f.0, f.1 ∙ ap (λ x. x.items ++ option_to_list graft) lost_is, f.2 ∙ ap (λ x. x.items ++ option_to_list now) gained_is)
    ])

-- a node is compared: its graft first, and then its data
pub node_compared : (w : World) (id : FullNodeId) (entry : ℕ) (d : NodeData) (a b c : Comparing) (n : Named) (xs : List FullNodeId) (graft : Option TreeId)
    → TakesGraft id d (at_name a.grafted) (at_name b.grafted)
    → b ≡ record a { grafted = b.grafted }
    → c.grafted ≡ b.grafted → IsEntryOf w id entry d n → xs ≡ listed_ids w id → graft ≡ graft_name w id → ComparesData id n xs graft d b c → ComparesNode w id entry d a c
node_compared w id entry d a b c n xs graft takes first stays is lists grafts h = record {
  grafted = subst (λ m. TakesGraft id d (at_name a.grafted) (at_name m)) (sym stays) takes;
  n = n;
  is_entry = is;
  compares = subst (λ x. ComparesData id n (listed_ids w id) x d a c) grafts (subst (λ x. ComparesData id n x graft d a c) lists (record {
    named = subst (λ m. Put id (Some n) (at m) (at c.named)) (ap (λ (x : Comparing). x.named) first) h.named;
    count_of = subst (λ (m : List (FullNodeId × Named)). IsSome (at m id) → length c.named ≡ length m) (ap (λ (x : Comparing). x.named) first) h.count_of;
    left = subst (λ (m : Spots). Leaves id xs (child_ids id d) 0 (length xs) m c.left a.entered c.entered) (ap (λ (x : Comparing). x.left) first)
        (subst (λ (es : Arrivals). Leaves id xs (child_ids id d) 0 (length xs) b.left c.left es c.entered) (ap (λ (x : Comparing). x.entered) first) h.left);
    entered = subst (λ (es : Arrivals). Gathers (OnlyIn id (child_ids id d) xs) (spots_of es) (spots_of c.entered)) (ap (λ (x : Comparing). x.entered) first) h.entered;
    regrafted = go h.regrafted;
  }));
}
  where
    lost_is : b.lost ≡ a.lost
    lost_is = ap (λ (x : Comparing). x.lost) first

    gained_is : b.gained ≡ a.gained
    gained_is = ap (λ (x : Comparing). x.gained) first

    go : ChangesGraft graft d.tree_id b c → ChangesGraft graft d.tree_id a c
    go (inl f) = inl (f.0, f.1 ∙ ap (λ x. x.items) lost_is, f.2 ∙ ap (λ x. x.items) gained_is)
    go (inr f) = inr (f.0, f.1 ∙ ap (λ x. x.items ++ option_to_list graft) lost_is, f.2 ∙ ap (λ x. x.items ++ option_to_list d.tree_id) gained_is)

-- the entry of a new node
pub new_entry : (w : World) (id : FullNodeId) (entry : ℕ) (d : NodeData) → data_of w id ≡ None → IsEntryOf w id entry d (record { entry = entry; was = None; is_news = true })
new_entry w id entry d none = record {
  entry_is = refl;
  new = λ _ there. no_some (data_of w id) none there;
  old = λ was is. cc;
  news = ((λ _ is. no_some (data_of w id) none (some_is (data_of w id) d is)), λ _. refl);
}

-- and of an old one
pub old_entry : (w : World) (id : FullNodeId) (entry : ℕ) (d before : NodeData) (place : Option Place) (other : Bool) → data_of w id ≡ Some before → IsPlaceOf w id place → IsTrue other ↔ (before ≢ d)
    → IsEntryOf w id entry d (record { entry = entry; was = Some place; is_news = other })
old_entry w id entry d before place other is stands news = record {
  entry_is = refl;
  new = λ none. cc;
  old = λ was e. (some_is (data_of w id) before is, subst (IsPlaceOf w id) (same_Some place was e) stands);
  news = ((λ t e. news.0 t (same_Some before d (sym is ∙ e))), λ ne. news.1 (λ same. ne (is ∙ ap Some same)));
}

pub old_lists : (w : World) (id : FullNodeId) (d : NodeData) → data_of w id ≡ Some d → child_ids id d ≡ listed_ids w id
old_lists w id d is = rw is refl

pub old_graft : (w : World) (id : FullNodeId) (d : NodeData) → data_of w id ≡ Some d → d.tree_id ≡ graft_name w id
old_graft w id d is = rw is refl

pub new_lists : (w : World) (id : FullNodeId) → data_of w id ≡ None → [] ≡ listed_ids w id
new_lists w id none = rw none refl

pub new_graft : (w : World) (id : FullNodeId) → data_of w id ≡ None → None ≡ graft_name w id
new_graft w id none = rw none refl
