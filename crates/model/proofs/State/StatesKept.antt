-- A ghost field may hold that a world is a state as `∥ IsState w ∥₁`: what that says can all be had again.
use Rattle.std.proofs.Common.{◌≡◌, ◌^◌, length, slice_get, Option, Some, None, inr, ⊎_elim, arith}
use mathlib.Core.Logic.{∥∥₁_elim}
use Rattle.std.proofs.lemmas.Bool.{cases_eq, cases_lt}
use Rattle.std.proofs.lemmas.Option.{same_Some}
use Rattle.std.specs.FinMap.{get}
use Rattle.schema.specs.declared.TreeId.{TreeId}
use Rattle.model.specs.World.{ROOT_NAME, World, data_of, listed_ids, root_named}
use Rattle.model.specs.State.{IsState}
use Rattle.model.proofs.Worlds.Names.{cases_id, cases_place, cases_name, cases_some, certain}
use Rattle.model.proofs.Update.UpdateLeavesState.{no_empty}
use Rattle.model.proofs.Closure.{IsDecided, decide_by}
use Rattle.model.proofs.Update.RebuildIsThere.{decide_reached, decide_kept}

-- what can't be otherwise in a state
pub impossible : {P : Type 0} → ∥ P ∥₁ → (P → ⊥) → ⊥
impossible t f = ∥∥₁_elim t (λ x y. absurd x) f

decide_name : (o : Option TreeId) (name : TreeId) → IsDecided (o ≡ Some name)
decide_name None name = inr (λ e. cc)
decide_name (Some k) name = decide_by (λ e i. Some (e i)) (same_Some k name) (cases_name k name)

pub state_kept : (w : World) → ∥ IsState w ∥₁ → IsState w
state_kept w t = record {
  known_first = certain (decide_name (slice_get w.known 0) ROOT_NAME) (λ n. impossible t (λ s. n s.known_first));
  known_once = λ i j name a b. certain (cases_eq i j) (λ n. impossible t (λ s. n (s.known_once i j name a b)));
  known_fit = ⊎_elim (λ fits. fits) (λ far. absurd (impossible t (λ s. let fits = s.known_fit in omega arith))) (cases_lt (length w.known) (2 ^ 32));
  root_present = certain (cases_some (get w.trees 0)) (λ n. impossible t (λ s. n s.root_present));
  present_known = λ index there. ⊎_elim (λ less. less) (λ more. absurd (impossible t (λ s. let less = s.present_known index there in omega arith))) (cases_lt index (length w.known));
  present_kept = λ index there. certain (decide_kept w index) (λ n. impossible t (λ s. n (s.present_kept index there)));
  node_present = λ id there. certain (cases_some (get w.trees id.tree)) (λ n. impossible t (λ s. n (s.node_present id there)));
  node_reached = λ id there. certain (decide_reached w id) (λ n. impossible t (λ s. n (s.node_reached id there)));
  root_is_node = λ index id is. certain (cases_some (data_of w id)) (λ n. impossible t (λ s. n (s.root_is_node index id is)));
  listed_is_node = λ p child at. certain (cases_some (data_of w child)) (λ n. impossible t (λ s. n (s.listed_is_node p child at)));
  listed_once = λ p q child a b. certain (cases_place p q) (λ n. impossible t (λ s. n (s.listed_once p q child a b)));
  root_unlisted = λ p index id is at. impossible t (λ s. s.root_unlisted p index id is at);
  graft_childless = λ id name grafts. no_empty (listed_ids w id) (λ n. impossible t (λ s. n (s.graft_childless id name grafts)));
  root_ungrafted = λ id grafts. impossible t (λ s. s.root_ungrafted id grafts);
  grafted_once = λ id other name a b. certain (cases_id id other) (λ n. impossible t (λ s. n (s.grafted_once id other name a b)));
  focus_is_node = λ id on. certain (cases_some (data_of w id)) (λ n. impossible t (λ s. n (s.focus_is_node id on)));
  focus_goes_on = λ id name on grafts. certain (cases_some (root_named w name)) (λ n. impossible t (λ s. n (s.focus_goes_on id name on grafts)));
}
