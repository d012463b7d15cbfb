-- What can be decided of ids and nodes.
use Rattle.std.proofs.Common.{◌≡◌, ◌≢◌, Bool, true, false, List, [], ◌∷◌, Option, Some, None, ◌⊎◌, inl, inr, refl, subst, ap}
use Rattle.std.specs.Prelude.{Contains, IsSome}
use Rattle.std.specs.Coded.{Coded}
use Rattle.std.specs.Bool.{Decides}
use Rattle.schema.specs.SameBy.{same_by, same_by-decides}
use Rattle.schema.specs.NodeData.{NodeData}
use Rattle.schema.specs.Same.{same_node, same_node-decides}
use Rattle.model.specs.declared.FullNodeId.{FullNodeId}
use Rattle.model.specs.FullIds.{coded_full}
use Rattle.model.specs.World.{World, IsNode, data_of}
use Rattle.model.proofs.Members.{contains_cases, contains_first, contains_later, contains_none}

by_test : {P : Type 0} (b : Bool) → Decides b P → P ⊎ ¬ P
by_test true d = inl (d.0 refl)
by_test false d = inr (λ p. let e : false ≡ true = d.1 p in cc)

-- two values of a coded type are equal or not
pub same_or_not : {A : Type 0} (c : Coded A) (x y : A) → (x ≡ y) ⊎ (x ≢ y)
same_or_not c x y = by_test (same_by c x y) (same_by-decides c x y)

pub same_inside : {A : Type 0} (x y : A) → Some x ≡ Some y → x ≡ y
same_inside x y e = cc

option_same_or_not : {A : Type 0} → ((x y : A) → (x ≡ y) ⊎ (x ≢ y)) → (o p : Option A) → (o ≡ p) ⊎ (o ≢ p)
option_same_or_not same None None = inl refl
option_same_or_not same None (Some y) = inr (λ e. cc)
option_same_or_not same (Some x) None = inr (λ e. cc)
option_same_or_not same (Some x) (Some y) = elim (same x y) [ inl e ↦ inl (ap Some e) | inr n ↦ inr (λ e. n (same_inside x y e)) ]

-- two nodes' data, where they are there, are equal or not
pub data_same_or_not : (o p : Option NodeData) → (o ≡ p) ⊎ (o ≢ p)
data_same_or_not o p = option_same_or_not (λ a b. by_test (same_node a b) (same_node-decides a b)) o p

pub same_data_unless : (o p : Option NodeData) → ¬ (o ≢ p) → o ≡ p
same_data_unless o p h = elim (data_same_or_not o p) [ inl e ↦ e | inr n ↦ absurd (h n) ]

-- what isn't unequal is equal
pub same_unless : {A : Type 0} (c : Coded A) (x y : A) → ¬ (x ≢ y) → x ≡ y
same_unless c x y h = elim (same_or_not c x y) [ inl e ↦ e | inr n ↦ absurd (h n) ]

some_or_not : {A : Type 0} (o : Option A) → IsSome o ⊎ ¬ (IsSome o)
some_or_not None = inr (λ h. cc)
some_or_not (Some x) = inl refl

pub node_or_not : (w : World) (id : FullNodeId) → IsNode w id ⊎ ¬ (IsNode w id)
node_or_not w id = some_or_not (data_of w id)

contained_also : (x id : FullNodeId) (ids : List FullNodeId) → (x ≡ id) ⊎ (x ≢ id) → Contains ids id ⊎ ¬ (Contains ids id) → Contains (x ∷ ids) id ⊎ ¬ (Contains (x ∷ ids) id)
contained_also x id ids (inl e) h = inl (subst (λ y. Contains (x ∷ ids) y) e (contains_first x ids))
contained_also x id ids (inr n) (inl h) = inl (contains_later x id ids h)
contained_also x id ids (inr n) (inr h) = inr (λ c. elim (contains_cases x id ids c) [ inl e ↦ n e | inr g ↦ h g ])

pub contained_or_not : (id : FullNodeId) (ids : List FullNodeId) → Contains ids id ⊎ ¬ (Contains ids id)
contained_or_not id [] = inr (contains_none id)
contained_or_not id (x ∷ ids) = contained_also x id ids (same_or_not coded_full x id) (contained_or_not id ids)
