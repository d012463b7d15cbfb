-- How a count of the nodes of a role goes on.
use Rattle.std.proofs.Common.{◌≡◌, ℕ, ◌+◌, ◌<◌, Bool, true, false, cond, List, [], ◌∷◌, length, drop, suc, zero, sym, ◌∙◌, ap, subst, arith}
use Rattle.std.specs.Prelude.{Some, None, option_and_then, slice_get, count_by, Contains, AllPairs, ◌≢◌}
use Rattle.std.proofs.lemmas.Option.{slice_get_within, get_or_from_slice_get}
use Rattle.std.specs.Option.{option_map, option_map_or, option_or}
use Rattle.schema.specs.NodeData.{NodeData}
use Rattle.schema.specs.Roles.{same_role}
use Rattle.schema.specs.declared.Role.{Role}
use Rattle.model.specs.declared.FullNodeId.{FullNodeId}
use Rattle.model.specs.declared.filters.FilterResult.{FilterResult}
use Rattle.model.specs.World.{World, HasData, data_of}
use Rattle.model.specs.Upward.{says, is_before}
use Rattle.model.specs.Forest.{IsFormed}
use Rattle.model.specs.Frontier.{filtered_children}
use Rattle.model.specs.Views.{set_of, computed_size_of_set, computed_position_in_set}
use Rattle.model.proofs.Walks.WalkLaws.{item_is_in_its_set, position_is_in_set}
use Rattle.views.specs.Follows.{Follows}
use Rattle.views.specs.declared.node.node_ref.NodeRef.{NodeRef}
use Rattle.views.specs.Nodes.{world_at, id_at, data_at}
use Rattle.views.specs.RoleSets.{of_role}

-- a node that is seen has the role that its data have
pub role_seen : (w : World) (role : Role) (n : NodeRef) (b : Bool) → world_at n ≡ w → b ≡ same_role (data_at n).role role → says (λ d. same_role d.role role) w (id_at n) ≡ b
role_seen w role n b same is =
    let known : data_of w (id_at n) ≡ Some (data_at n) = subst (λ v. data_of v (id_at n) ≡ Some (data_at n)) same n.known in
    ap (λ o. option_map_or (λ d. same_role d.role role) o false) known ∙ sym is

pub one_counted : (w : World) (role : Role) (ids rest : List FullNodeId) (id : FullNodeId) (count total : ℕ) → ids ≡ id ∷ rest → says (λ d. same_role d.role role) w id ≡ true →
    count + length (of_role w role ids) ≡ total → count + 1 + length (of_role w role rest) ≡ total
one_counted w role ids rest id count total e is h =
    omega (arith, h, ap (λ xs. length (of_role w role xs)) e, ap (λ b. length (cond b (id ∷ of_role w role rest) (of_role w role rest))) is)

-- a count of what is shown below a node that is seen
pub count_there : {answers : NodeRef → FilterResult → Type 0} (n : NodeRef) (w : World) (id : FullNodeId) (role other : Role) (count : ℕ) → world_at n ≡ w → id_at n ≡ id → other ≡ role →
    ((f : FullNodeId → FilterResult) → Follows answers (world_at n) f → count ≡ length (of_role (world_at n) other (filtered_children f (world_at n) (id_at n)))) →
    (f : FullNodeId → FilterResult) → Follows answers w f → count ≡ length (of_role w role (filtered_children f w id))
count_there {answers = answers} n w id role other count same is alike counted =
    subst (λ v. (f : FullNodeId → FilterResult) → Follows answers v f → count ≡ length (of_role v role (filtered_children f v id))) same
    (λ f follows. counted f follows ∙ ap (λ r. length (of_role (world_at n) r (filtered_children f (world_at n) (id_at n)))) alike ∙ ap (λ i. length (of_role (world_at n) role (filtered_children f (world_at n) i))) is)

pub size_is : (f : FullNodeId → FilterResult) (w : World) (id top : FullNodeId) (d : NodeData) (count : ℕ) → HasData w id d → d.size_of_set ≡ None →
    set_of f w id ≡ Some (of_role w d.role (filtered_children f w top)) → count ≡ length (of_role w d.role (filtered_children f w top)) → Some count ≡ computed_size_of_set f w id
size_is f w id top d count has none set counted =
    sym (ap (λ o. option_or (option_and_then (λ (e : NodeData). e.size_of_set) o) (option_map length (set_of f w id))) has
    ∙ ap (λ o. option_or o (option_map length (set_of f w id))) none ∙ ap (option_map length) set ∙ ap Some (sym counted))

-- ---- the index of a node in its set

pub drop_head : {A : Type 0} (xs : List A) (n : ℕ) (x : A) (rest : List A) → drop n xs ≡ x ∷ rest → (slice_get xs n ≡ Some x) × (drop (suc n) xs ≡ rest)
drop_head [] zero x rest e = cc
drop_head [] (suc n) x rest e = cc
drop_head (y ∷ ys) zero x rest e = (ap (λ zs. slice_get zs 0) e, ap (drop 1) e)
drop_head (y ∷ ys) (suc n) x rest e = drop_head ys n x rest e

pub role_taken : (w : World) (role : Role) (ids rest : List FullNodeId) (id : FullNodeId) (b : Bool) → ids ≡ id ∷ rest → says (λ d. same_role d.role role) w id ≡ b →
    of_role w role ids ≡ cond b (id ∷ of_role w role rest) (of_role w role rest)
role_taken w role ids rest id b e is = ap (of_role w role) e ∙ ap (λ t. cond t (id ∷ of_role w role rest) (of_role w role rest)) is

-- in a list with none twice a node stands at one index
earlier_differs : (xs : List FullNodeId) → AllPairs (λ a b. a ≢ b) xs → (i j : ℕ) (x : FullNodeId) → slice_get xs i ≡ Some x → slice_get xs j ≡ Some x → ¬ (i < j)
earlier_differs xs pairs i j x p q less =
    pairs i j x less (slice_get_within xs j x q) (get_or_from_slice_get xs i x x p ∙ sym (get_or_from_slice_get xs j x x q))

pub one_index : (xs : List FullNodeId) → AllPairs (λ a b. a ≢ b) xs → (i j : ℕ) (x : FullNodeId) → slice_get xs i ≡ Some x → slice_get xs j ≡ Some x → i ≡ j
one_index xs pairs i j x p q = omega (arith, earlier_differs xs pairs i j x p q, earlier_differs xs pairs j i x q p)

pub index_there : {answers : NodeRef → FilterResult → Type 0} (n : NodeRef) (w : World) (id top : FullNodeId) (role other : Role) (index : ℕ) → world_at n ≡ w → id_at n ≡ top → other ≡ role →
    ((f : FullNodeId → FilterResult) → Follows answers (world_at n) f → Contains (of_role (world_at n) other (filtered_children f (world_at n) (id_at n))) id →
    slice_get (of_role (world_at n) other (filtered_children f (world_at n) (id_at n))) index ≡ Some id) →
    (f : FullNodeId → FilterResult) → Follows answers w f → Contains (of_role w role (filtered_children f w top)) id → slice_get (of_role w role (filtered_children f w top)) index ≡ Some id
index_there {answers = answers} n w id top role other index same is alike found =
    subst (λ v. (f : FullNodeId → FilterResult) → Follows answers v f → Contains (of_role v role (filtered_children f v top)) id → slice_get (of_role v role (filtered_children f v top)) index ≡ Some id) same
    (subst (λ i. (f : FullNodeId → FilterResult) → Follows answers (world_at n) f → Contains (of_role (world_at n) role (filtered_children f (world_at n) i)) id → slice_get (of_role (world_at n) role (filtered_children f (world_at n) i)) index ≡ Some id) is
    (subst (λ r. (f : FullNodeId → FilterResult) → Follows answers (world_at n) f → Contains (of_role (world_at n) r (filtered_children f (world_at n) (id_at n))) id → slice_get (of_role (world_at n) r (filtered_children f (world_at n) (id_at n))) index ≡ Some id) alike found))

pub position_is : (f : FullNodeId → FilterResult) (w : World) → IsFormed w → (id top : FullNodeId) (d : NodeData) (index : ℕ) → HasData w id d → d.position_in_set ≡ None →
    set_of f w id ≡ Some (of_role w d.role (filtered_children f w top)) →
    (Contains (of_role w d.role (filtered_children f w top)) id → slice_get (of_role w d.role (filtered_children f w top)) index ≡ Some id) → Some index ≡ computed_position_in_set f w id
position_is f w formed id top d index has none is found =
    let set : List FullNodeId = of_role w d.role (filtered_children f w top) in
    let own = item_is_in_its_set f w formed id set is in
    let at : index ≡ count_by (λ m. is_before w m id) set = one_index set own.1 index (count_by (λ m. is_before w m id) set) id (found own.0) (position_is_in_set f w formed id set is).0 in
    sym (ap (λ o. option_or (option_and_then (λ (e : NodeData). e.position_in_set) o) (option_map (λ set. count_by (λ m. is_before w m id) set) (set_of f w id))) has
    ∙ ap (λ o. option_or o (option_map (λ set. count_by (λ m. is_before w m id) set) (set_of f w id))) none ∙ ap (option_map (λ set. count_by (λ m. is_before w m id) set)) is ∙ ap Some (sym at))
