-- What a climb from a node to its ancestors finds.
use Rattle.std.proofs.Common.{◌≡◌, ◌<◌, ℕ, ◌++◌, Bool, true, false, cond, ◌||◌, List, [], ◌∷◌, length, Option, Some, None, refl, sym, ap, subst, ◌∙◌, map, arith, inl, inr}
use Rattle.std.specs.Prelude.{find, is_some, Contains, IsTrue, ◌↔◌}
use Rattle.std.specs.Option.{option_map, option_map_or}
use Rattle.std.specs.List.{list_any}
use Rattle.schema.specs.NodeData.{NodeData}
use Rattle.model.specs.declared.FullNodeId.{FullNodeId}
use Rattle.model.specs.World.{World, Place, IsNode, data_of}
use Rattle.model.specs.Forest.{place_of, above, chain, is_same, IsFormed}
use Rattle.model.proofs.Members.{contains_first, contains_later, contains_none, contains_cases}
use Rattle.model.proofs.Forest.PlaceOf.{same_from_test, test_self}
use Rattle.model.specs.Lists.{ancestors}
use Rattle.model.specs.Upward.{says, upward, is_within}
use Rattle.views.specs.declared.node.node_ref.NodeRef.{NodeRef}
use Rattle.views.specs.Nodes.{world_at, id_at, data_at}

-- the parent, by the place
abbrev pub parent_of : World → FullNodeId → Option FullNodeId
parent_of w id = option_map (λ (p : Place). p.0) (place_of w id)

module _ (w : World) (formed : IsFormed w) where
  by_place : (id : FullNodeId) (o : Option Place) → place_of w id ≡ o → ancestors w id ≡ map (λ (p : Place). p.0) (chain (above w) o)
  by_place id o e = ap (map (λ (p : Place). p.0)) (formed.rooted id ∙ ap (chain (above w)) e)

  -- above a node are its parent and what is above that
  pub parent_above : (id q : FullNodeId) → Some q ≡ parent_of w id → ancestors w id ≡ q ∷ ancestors w q
  parent_above id q e = go (place_of w id) refl
    where
      go : (o : Option Place) → place_of w id ≡ o → ancestors w id ≡ q ∷ ancestors w q
      go None at = let none : Some q ≡ None = e ∙ ap (option_map (λ (p : Place). p.0)) at in cc
      go (Some p) at =
          let is : Some q ≡ Some p.0 = e ∙ ap (option_map (λ (p : Place). p.0)) at in
          let same : p.0 ≡ q = cc in
          by_place id (Some p) at ∙ ap (λ x. x ∷ ancestors w x) same

  -- and above a root is nothing
  pub nothing_above : (id : FullNodeId) → None ≡ parent_of w id → ancestors w id ≡ []
  nothing_above id e = go (place_of w id) refl
    where
      go : (o : Option Place) → place_of w id ≡ o → ancestors w id ≡ []
      go None at = by_place id None at
      go (Some p) at = let none : None ≡ Some p.0 = e ∙ ap (option_map (λ (p : Place). p.0)) at in cc

  -- the first ancestor has the others above it
  pub rest_above : (id q : FullNodeId) (up : List FullNodeId) → ancestors w id ≡ q ∷ up → ancestors w q ≡ up
  rest_above id q up e = go (parent_of w id) refl
    where
      go : (o : Option FullNodeId) → parent_of w id ≡ o → ancestors w q ≡ up
      go None at = let none : [] ≡ q ∷ up = sym (nothing_above id (sym at)) ∙ e in cc
      go (Some p) at =
          let both : p ∷ ancestors w p ≡ q ∷ up = sym (parent_above id p (sym at)) ∙ e in
          let first : p ≡ q = cc in
          let others : ancestors w p ≡ up = cc in
          ap (ancestors w) (sym first) ∙ others

  -- fewer nodes are above an ancestor
  fewer_above : (up : List FullNodeId) (id a : FullNodeId) → ancestors w id ≡ up → Contains up a → length (ancestors w a) < length up
  fewer_above [] id a e m = absurd (contains_none a m)
  fewer_above (q ∷ up) id a e m = elim (contains_cases q a up m) [
    | inl same ↦ omega (arith, ap length (ap (ancestors w) (sym same) ∙ rest_above id q up e))
    | inr later ↦ omega (arith, fewer_above up q a (rest_above id q up e) later)
  ]

  pub ancestor_is_higher : (id a : FullNodeId) → Contains (ancestors w id) a → length (ancestors w a) < length (ancestors w id)
  ancestor_is_higher id a m = fewer_above (ancestors w id) id a refl m

  pub climb_is_shorter : (id q : FullNodeId) → Some q ≡ parent_of w id → length (ancestors w q) < length (ancestors w id)
  climb_is_shorter id q e = omega (arith, ap length (parent_above id q e))

  -- a search finds the parent, or goes on from it, where the parent is read in a world that is the same
  module _ (v : World) (same : v ≡ w) (p : FullNodeId → Bool) (id q : FullNodeId) (parent : Some q ≡ parent_of v id) where
    here : Some q ≡ parent_of w id
    here = parent ∙ ap (λ u. parent_of u id) same

    pub climb_finds : p q ≡ true → find p (ancestors w id) ≡ Some q
    climb_finds e = ap (find p) (parent_above id q here) ∙ ap (λ b. cond b (Some q) (find p (ancestors w q))) e

    pub climb_goes_on : p q ≡ false → find p (ancestors w id) ≡ find p (ancestors w q)
    climb_goes_on e = ap (find p) (parent_above id q here) ∙ ap (λ b. cond b (Some q) (find p (ancestors w q))) e

    pub climb_finds_above : Contains (ancestors w id) q
    climb_finds_above = subst (λ xs. Contains xs q) (sym (parent_above id q here)) (contains_first q (ancestors w q))

    pub climb_stays_above : (a : FullNodeId) → Contains (ancestors w q) a → Contains (ancestors w id) a
    climb_stays_above a m = subst (λ xs. Contains xs a) (sym (parent_above id q here)) (contains_later q a (ancestors w q) m)

  pub climb_ends : (v : World) → v ≡ w → (p : FullNodeId → Bool) (id : FullNodeId) → None ≡ parent_of v id → find p (ancestors w id) ≡ None
  climb_ends v same p id parent = ap (find p) (nothing_above id (parent ∙ ap (λ u. parent_of u id) same))

-- a view's data are those of its node
pub data_shown : (w : World) (n : NodeRef) → world_at n ≡ w → data_of w (id_at n) ≡ Some (data_at n)
data_shown w n e = ap (λ v. data_of v (id_at n)) (sym e) ∙ n.known

pub shown_is_node : (w : World) (n : NodeRef) → world_at n ≡ w → IsNode w (id_at n)
shown_is_node w n e = ap is_some (data_shown w n e)

pub says_shown : (test : NodeData → Bool) (w : World) (n : NodeRef) → world_at n ≡ w → says test w (id_at n) ≡ test (data_at n)
says_shown test w n e = ap (λ o. option_map_or test o false) (data_shown w n e)

-- a search from a node upwards ends there, or goes on from the parent
pub upward_finds : (test : NodeData → Bool) (w : World) (n : NodeRef) → world_at n ≡ w → test (data_at n) ≡ true → find (says test w) (upward w (id_at n)) ≡ Some (id_at n)
upward_finds test w n same e = ap (λ b. cond b (Some (id_at n)) (find (says test w) (ancestors w (id_at n)))) (says_shown test w n same ∙ e)

pub upward_misses : (test : NodeData → Bool) (w : World) (n : NodeRef) → world_at n ≡ w → test (data_at n) ≡ false → find (says test w) (upward w (id_at n)) ≡ find (says test w) (ancestors w (id_at n))
upward_misses test w n same e = ap (λ b. cond b (Some (id_at n)) (find (says test w) (ancestors w (id_at n)))) (says_shown test w n same ∙ e)

module _ (w : World) (formed : IsFormed w) (test : NodeData → Bool) (n : NodeRef) (same : world_at n ≡ w) (fails : test (data_at n) ≡ false) where
  pub upward_goes_on : (q : FullNodeId) → Some q ≡ parent_of (world_at n) (id_at n) → find (says test w) (upward w (id_at n)) ≡ find (says test w) (upward w q)
  upward_goes_on q e = upward_misses test w n same fails ∙ ap (find (says test w)) (parent_above w formed (id_at n) q (e ∙ ap (λ u. parent_of u (id_at n)) same))

  pub upward_ends : None ≡ parent_of (world_at n) (id_at n) → find (says test w) (upward w (id_at n)) ≡ None
  upward_ends e = upward_misses test w n same fails ∙ ap (find (says test w)) (nothing_above w formed (id_at n) (e ∙ ap (λ u. parent_of u (id_at n)) same))

-- a test passes somewhere if a node that passes it is found
pub any_found : {X : Type 0} (p : X → Bool) (xs : List X) → is_some (find p xs) ≡ list_any p xs
any_found p [] = refl
any_found p (x ∷ xs) = by_test (p x) (any_found p xs)
  where
    by_test : (b : Bool) → is_some (find p xs) ≡ list_any p xs → is_some (cond b (Some x) (find p xs)) ≡ (b || list_any p xs)
    by_test true later = refl
    by_test false later = later

pub some_mapped : (found : Option NodeRef) → is_some found ≡ is_some (option_map id_at found)
some_mapped None = refl
some_mapped (Some n) = refl

-- what the test of code says of two ids
pub tested_same : (a b : FullNodeId) (r : Bool) → IsTrue r ↔ (a ≡ b) → r ≡ is_same a b
tested_same a b true h = sym (ap (is_same a) (sym (h.0 refl)) ∙ test_self a)
tested_same a b false h = go (is_same a b) refl
  where
    go : (t : Bool) → is_same a b ≡ t → false ≡ is_same a b
    go true e = h.1 (same_from_test a b e) ∙ sym e
    go false e = sym e

-- a node lies within itself, and else where an ancestor is found
pub within_itself : (w : World) (top id : FullNodeId) → top ≡ id → true ≡ is_within w top id
within_itself w top id e = sym (ap (λ b. b || list_any (is_same top) (ancestors w id)) (ap (is_same top) (sym e) ∙ test_self top))

pub within_where_found : (w : World) (top id : FullNodeId) (found : Option NodeRef) → is_same top id ≡ false → option_map id_at found ≡ find (is_same top) (ancestors w id) → is_some found ≡ is_within w top id
within_where_found w top id found other e =
    some_mapped found ∙ ap is_some e ∙ any_found (is_same top) (ancestors w id) ∙ sym (ap (λ b. b || list_any (is_same top) (ancestors w id)) other)

-- ---- the state of a climb

-- climbed to a node of the same world, at which what is sought is what was sought at the start
pub record IsClimbed {F A : Type 0} (Given : F → Type 0) (value : F → FullNodeId → A) (start now : NodeRef) : Type 0 where
  pub world : world_at now ≡ world_at start
  pub sought : (f : F) → Given f → value f (id_at now) ≡ value f (id_at start)

pub climbs_on : {F A : Type 0} {Given : F → Type 0} {value : F → FullNodeId → A} {start now : NodeRef} → IsClimbed Given value start now → (q : NodeRef) → world_at q ≡ world_at now →
    ((f : F) → Given f → value f (id_at now) ≡ value f (id_at q)) → IsClimbed Given value start q
climbs_on way q there same = record { world = there ∙ way.world; sought = λ f given. sym (same f given) ∙ way.sought f given }

-- the same where the node that was climbed to also meets a condition
pub record IsReached {A : Type 0} (Meets : World → FullNodeId → Type 0) (value : World → FullNodeId → A) (start now : NodeRef) : Type 0 where
  pub world : world_at now ≡ world_at start
  pub meets : Meets (world_at start) (id_at now)
  pub sought : value (world_at start) (id_at now) ≡ value (world_at start) (id_at start)

-- above an ancestor that was found are fewer nodes
pub found_is_higher : (w : World) → IsFormed w → (n q : NodeRef) → world_at n ≡ w → Contains (ancestors (world_at n) (id_at n)) (id_at q) → length (ancestors w (id_at q)) < length (ancestors w (id_at n))
found_is_higher w formed n q same above = ancestor_is_higher w formed (id_at n) (id_at q) (subst (λ v. Contains (ancestors v (id_at n)) (id_at q)) same above)

-- the indexes so far, and those of the places from this node up, are those from the start up
abbrev pub IsPathSoFar : World → FullNodeId → FullNodeId → List ℕ → Type 0
IsPathSoFar w start id path = path ++ map (λ (p : Place). p.1) (above w id) ≡ map (λ (p : Place). p.1) (above w start)
