-- Lists of nodes, and what is printed of them.
use Rattle.std.proofs.Common.{◌≡◌, ℕ, ◌+◌, ◌<◌, Bool, true, false, cond, ◌&&◌, List, [], ◌∷◌, ◌++◌, Option, map, take, length, get_or, flat_map, refl, sym, ap, subst, ◌∙◌, append-nil}
use Rattle.std.specs.Prelude.{All, filter}
use Rattle.std.specs.Io.KnownBytes.{Appends}
use Rattle.std.proofs.KnownBytes.{Appends-trans}
use Rattle.std.proofs.lemmas.Bool.{cond_both}
use Rattle.std.proofs.lemmas.List.{length-map, map_push, map_more}
use Rattle.std.proofs.lemmas.List.Elements.{All-same, All-push, All-cons, All-get_or, filter-append}
use Rattle.std.proofs.lemmas.List.Folds.{flat_map-map}
use Rattle.model.specs.declared.FullNodeId.{FullNodeId}
use Rattle.model.specs.declared.filters.FilterResult.{FilterResult}
use Rattle.model.specs.Covers.{is_included}
use Rattle.model.specs.World.{World}
use Rattle.views.specs.declared.node.node_ref.NodeRef.{NodeRef}
use Rattle.views.specs.Nodes.{world_at, id_at}
use Rattle.find.specs.Found.{found}
use Rattle.find.specs.Near.{hints}
use Rattle.find.specs.Printed.{node_text, nodes_text}
use Rattle.find.specs.Told.{told_with}
use Rattle.find.specs.Viewed.{AreNodes}
use Rattle.find.specs.Wanted.{Sought}

-- ---- lists

-- as many nodes as ids
pub as_many : (w : World) (ids : List FullNodeId) (nodes : List NodeRef) → AreNodes w ids nodes → length nodes ≡ length ids
as_many w ids nodes are = sym (length-map nodes id_at) ∙ ap length are.ids

-- each is in the world
pub node_here : (w : World) (nodes : List NodeRef) (i : ℕ) (n : NodeRef) → i < length nodes → n ≡ get_or nodes i n → All (λ m. world_at m ≡ w) nodes → world_at n ≡ w
node_here w nodes i n within read all = ap world_at read ∙ All-get_or (λ m. world_at m ≡ w) nodes i n within all

added_ids : (nodes : List NodeRef) (n : NodeRef) (is : Bool) → map id_at (cond is (nodes ++ n ∷ []) nodes) ≡ map id_at nodes ++ cond is (id_at n ∷ []) []
added_ids nodes n true = map_push id_at nodes n
added_ids nodes n false = sym (append-nil (map id_at nodes))

-- those that pass a test, and one node more
pub passed_more : (w : World) (test : FullNodeId → Bool) (nodes passed next : List NodeRef) (i : ℕ) (n : NodeRef) (is : Bool) →
    i < length nodes → n ≡ get_or nodes i n → All (λ m. world_at m ≡ w) nodes → is ≡ test (id_at n) → AreNodes w (filter test (map id_at (take i nodes))) passed →
    next ≡ cond is (passed ++ n ∷ []) passed → AreNodes w (filter test (map id_at (take (i + 1) nodes))) next
passed_more w test nodes passed next i n is within read all answer before added =
    let here = node_here w nodes i n within read all in
    let longer : map id_at (take (i + 1) nodes) ≡ map id_at (take i nodes) ++ (id_at n ∷ []) = map_more id_at nodes i n within ∙ ap (λ m. map id_at (take i nodes) ++ (id_at m ∷ [])) (sym read) in
    record {
      world = All-same (λ m. world_at m ≡ w) next (cond is (passed ++ n ∷ []) passed) added
          (cond_both is (passed ++ n ∷ []) passed (All (λ m. world_at m ≡ w)) (λ _. All-push (λ m. world_at m ≡ w) passed n before.world here) (λ _. before.world));
      ids =
          ap (map id_at) added ∙ added_ids passed n is
          ∙ ap (λ ids. ids ++ cond is (id_at n ∷ []) []) before.ids
          ∙ ap (λ b. filter test (map id_at (take i nodes)) ++ cond b (id_at n ∷ []) []) answer
          ∙ sym (filter-append test (map id_at (take i nodes)) (id_at n ∷ []))
          ∙ ap (filter test) (sym longer);
    }

topped_ids : (top : NodeRef) (nodes : List NodeRef) (ids : List FullNodeId) (is : Bool) → map id_at nodes ≡ ids → map id_at (cond is (top ∷ nodes) nodes) ≡ cond is (id_at top ∷ []) [] ++ ids
topped_ids top nodes ids true same = ap (λ xs. id_at top ∷ xs) same
topped_ids top nodes ids false same = same

-- the top, if it is included, and those below it
pub with_the_top : (top : NodeRef) (ids : List FullNodeId) (nodes all : List NodeRef) (answer meant : FilterResult) → answer ≡ meant → AreNodes (world_at top) ids nodes → all ≡ cond (is_included answer) (top ∷ nodes) nodes →
    AreNodes (world_at top) (cond (is_included meant) (id_at top ∷ []) [] ++ ids) all
with_the_top top ids nodes all answer meant same are made =
    let w = world_at top in
    record {
      world = All-same (λ m. world_at m ≡ w) all (cond (is_included answer) (top ∷ nodes) nodes) made
          (cond_both (is_included answer) (top ∷ nodes) nodes (All (λ m. world_at m ≡ w)) (λ _. All-cons (λ m. world_at m ≡ w) top nodes refl are.world) (λ _. are.world));
      ids = ap (map id_at) made ∙ topped_ids top nodes ids (is_included answer) are.ids ∙ ap (λ r. cond (is_included r) (id_at top ∷ []) [] ++ ids) same;
    }

-- ---- what is printed

-- a text of each node is one of each id
pub all_written : (f : FullNodeId → List ℕ) (nodes : List NodeRef) (a b : Option (List ℕ)) → Appends a b (flat_map (λ n. f (id_at n)) nodes) → Appends a b (flat_map f (map id_at nodes))
all_written f nodes a b = subst (Appends a b) (sym (flat_map-map f id_at nodes))

-- of the first and the others
pub some_printed : (w : World) (top : FullNodeId) (nodes : List NodeRef) → (nodes ≡ [] → ⊥) → flat_map (node_text w top) (map id_at nodes) ≡ nodes_text w top (map id_at nodes)
some_printed w top [] some = absurd (some refl)
some_printed w top (n ∷ nodes) some = refl

-- the nodes that are found, and then which come near if that is told
pub told_of : (near : Bool) (sought : Sought) (w : World) (top : FullNodeId) (ids : List FullNodeId) (a b c : Option (List ℕ)) → ids ≡ found sought w top →
    Appends a b (nodes_text w top ids) → Appends b c (cond near (hints sought w top ids) []) → Appends a c (told_with near sought w top)
told_of near sought w top ids a b c same first then =
    subst (λ xs. Appends a c (nodes_text w top xs ++ cond near (hints sought w top xs) [])) same (Appends-trans a b c (nodes_text w top ids) (cond near (hints sought w top ids) []) first then)
