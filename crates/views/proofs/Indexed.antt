-- The index of a node among what is shown below another.
use Rattle.std.proofs.Common.{◌≡◌, ◌∙◌, ◌+◌, ℕ, List, ◌∷◌, Bool, true, false, cond, Option, Some, sym, ap, subst, refl}
use Rattle.std.specs.Prelude.{◌↔◌, position, option_and_then}
use Rattle.std.specs.List.{position_from}
use Rattle.model.specs.declared.FullNodeId.{FullNodeId}
use Rattle.model.specs.declared.filters.FilterResult.{FilterResult}
use Rattle.model.specs.Forest.{is_same}
use Rattle.model.specs.Frontier.{filtered_children}
use Rattle.model.specs.Covers.{filtered_parent}
use Rattle.model.proofs.Forest.PlaceOf.{same_from_test}
use Rattle.views.specs.declared.node.node_ref.NodeRef.{NodeRef}
use Rattle.views.specs.Counted.{filtered_index}
use Rattle.views.specs.FilterValues.{IsBy}
use Rattle.views.specs.Follows.{Follows}
use Rattle.views.specs.Nodes.{world_at, id_at}
use Rattle.views.proofs.Walked.{apart}

differs : (r : Bool) (a b : FullNodeId) → (r ≡ true) ↔ (a ≡ b) → r ≡ false → is_same a b ≡ false
differs r a b says differ = go (is_same a b) refl
  where
    go : (t : Bool) → is_same a b ≡ t → is_same a b ≡ false
    go true h = absurd (apart r a b says differ (same_from_test a b h))
    go false h = h

-- the first node isn't the one, which so has its index among the others
pub passed_over : (r : Bool) (id first : FullNodeId) (rest xs : List FullNodeId) (n m : ℕ) (found : Option ℕ) → (r ≡ true) ↔ (id ≡ first) → r ≡ false → xs ≡ first ∷ rest → m ≡ n + 1 →
    position_from (is_same id) n xs ≡ found → position_from (is_same id) m rest ≡ found
passed_over r id first rest xs n m found says differ is next before =
    ap (λ k. position_from (is_same id) k rest) next
    ∙ sym (ap (λ b. cond b (Some n) (position_from (is_same id) (n + 1) rest)) (differs r id first says differ))
    ∙ sym (ap (position_from (is_same id) n) is)
    ∙ before

-- the index below the filtered parent
pub in_parent : (answers : NodeRef → FilterResult → Type 0) (n p : NodeRef) (found : Option ℕ) → world_at p ≡ world_at n → IsBy answers n filtered_parent (Some (id_at p)) →
    ((f : FullNodeId → FilterResult) → Follows answers (world_at p) f → found ≡ position (is_same (id_at n)) (filtered_children f (world_at p) (id_at p))) → IsBy answers n filtered_index found
in_parent answers n p found same above at = λ f follows.
    at f (subst (λ v. Follows answers v f) (sym same) follows)
    ∙ ap (λ v. position (is_same (id_at n)) (filtered_children f v (id_at p))) same
    ∙ ap (option_and_then (λ q. position (is_same (id_at n)) (filtered_children f (world_at n) q))) (above f follows)
