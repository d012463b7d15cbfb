-- Which nodes fit, as a list is gone through.
use Rattle.std.proofs.Common.{◌≡◌, ℕ, ◌+◌, ◌<◌, Bool, true, false, cond, List, [], ◌∷◌, ◌++◌, map, take, length, get_or, refl, sym, ap, subst, ◌∙◌, append-nil}
use Rattle.std.specs.Prelude.{All, filter, Some, IfOk, Result}
use Rattle.std.specs.Global.{Vec}
use Rattle.std.specs.Option.{option_map_or}
use Rattle.std.proofs.lemmas.Bool.{cond_both}
use Rattle.std.proofs.lemmas.Result.{IfOk-weaker}
use Rattle.std.proofs.lemmas.List.{map_push, map_more}
use Rattle.std.proofs.lemmas.List.Elements.{All-same, All-push, All-cons, All-get_or, filter-append}
use Rattle.model.specs.declared.FullNodeId.{FullNodeId}
use Rattle.model.specs.declared.filters.FilterResult.{FilterResult}
use Rattle.model.specs.World.{World, root_of}
use Rattle.model.specs.Covers.{is_included}
use Rattle.views.specs.declared.node.node_ref.NodeRef.{NodeRef}
use Rattle.views.specs.Nodes.{world_at, id_at}
use Rattle.queries.specs.declared.by.Wanted.{Wanted}
use Rattle.queries.specs.declared.error.QueryError.{QueryError}
use Rattle.queries.specs.Outcomes.{IsOne}
use Rattle.queries.proofs.Outcomes.{one_by}
use Rattle.queries.specs.Found.{AreShown, AreSought, AreFound, IsSought, Meets, is_sought, searched_below, searched_from, searched_in}

-- the ids of nodes to which one is added where it passes
added_ids : (found : List NodeRef) (n : NodeRef) (is : Bool) → map id_at (cond is (found ++ n ∷ []) found) ≡ map id_at found ++ cond is (id_at n ∷ []) []
added_ids found n true = map_push id_at found n
added_ids found n false = sym (append-nil (map id_at found))

-- one node more
pub sought_more : {wanted : Wanted} {answers : NodeRef → Bool → Type 0} (w : World) (nodes found next : List NodeRef) (i : ℕ) (n : NodeRef) (is : Bool) →
    i < length nodes → n ≡ get_or nodes i n → All (λ m. world_at m ≡ w) nodes → IsSought wanted answers n is → AreSought wanted answers w (take i nodes) found →
    next ≡ cond is (found ++ n ∷ []) found → AreSought wanted answers w (take (i + 1) nodes) next
sought_more {wanted = wanted} {answers = answers} w nodes found next i n is within read all sought before added =
    let here : world_at n ≡ w = ap world_at read ∙ All-get_or (λ m. world_at m ≡ w) nodes i n within all in
    record {
      world = All-same (λ m. world_at m ≡ w) next (cond is (found ++ n ∷ []) found) added
          (cond_both is (found ++ n ∷ []) found (All (λ m. world_at m ≡ w)) (λ _. All-push (λ m. world_at m ≡ w) found n before.world here) (λ _. before.world));
      list = λ p meets.
          let test = is_sought wanted p w in
          let answer : is ≡ test (id_at n) = sought p (subst (λ v. Meets answers v p) (sym here) meets) ∙ ap (λ v. is_sought wanted p v (id_at n)) here in
          let longer : map id_at (take (i + 1) nodes) ≡ map id_at (take i nodes) ++ (id_at n ∷ []) = map_more id_at nodes i n within ∙ ap (λ m. map id_at (take i nodes) ++ (id_at m ∷ [])) (sym read) in
          ap (map id_at) added ∙ added_ids found n is
          ∙ ap (λ ids. ids ++ cond is (id_at n ∷ []) []) (before.list p meets)
          ∙ ap (λ b. filter test (map id_at (take i nodes)) ++ cond b (id_at n ∷ []) []) answer
          ∙ sym (filter-append test (map id_at (take i nodes)) (id_at n ∷ []))
          ∙ ap (filter test) (sym longer);
    }

-- of what is shown, what fits is found
pub sought_is_found : {wanted : Wanted} {shows : NodeRef → FilterResult → Type 0} {answers : NodeRef → Bool → Type 0} (w : World) (ids : (FullNodeId → FilterResult) → List FullNodeId) (nodes searched found : List NodeRef) →
    nodes ≡ searched → AreShown shows w ids searched → AreSought wanted answers w nodes found → AreFound wanted shows answers w ids found
sought_is_found {wanted = wanted} w ids nodes searched found same shown are = record {
  world = are.world;
  list = λ f follows p meets. are.list p meets ∙ ap (λ xs. filter (is_sought wanted p w) (map id_at xs)) same ∙ ap (filter (is_sought wanted p w)) (shown.list f follows);
}

pub found_among : {E : Type 0} (wanted : Wanted) (shows : NodeRef → FilterResult → Type 0) (answers : NodeRef → Bool → Type 0) (w : World) (ids : (FullNodeId → FilterResult) → List FullNodeId)
    (nodes searched : List NodeRef) (r : Result (Vec NodeRef) E) → nodes ≡ searched → AreShown shows w ids searched → ((v : World) → All (λ m. world_at m ≡ v) nodes → IfOk r (λ found. AreSought wanted answers v nodes found.items)) →
    IfOk r (λ found. AreFound wanted shows answers w ids found.items)
found_among wanted shows answers w ids nodes searched r same shown sought =
    IfOk-weaker r (λ found. AreSought wanted answers w nodes found.items) (λ found. AreFound wanted shows answers w ids found.items)
    (λ found are. sought_is_found w ids nodes searched found.items same shown are)
    (sought w (All-same (λ m. world_at m ≡ w) nodes searched same shown.world))

pub found_one : (wanted : Wanted) (shows : NodeRef → FilterResult → Type 0) (answers : NodeRef → Bool → Type 0) (w : World) (ids : (FullNodeId → FilterResult) → List FullNodeId)
    (nodes searched : List NodeRef) (r : Result NodeRef QueryError) → nodes ≡ searched → AreShown shows w ids searched → ((v : World) → All (λ m. world_at m ≡ v) nodes → IsOne wanted (λ those. those ≡ nodes) (AreSought wanted answers v nodes) r) →
    IsOne wanted (AreShown shows w ids) (AreFound wanted shows answers w ids) r
found_one wanted shows answers w ids nodes searched r same shown sought =
    one_by wanted (λ those. those ≡ nodes) (AreShown shows w ids) (AreSought wanted answers w nodes) (AreFound wanted shows answers w ids)
    (λ those are. subst (AreShown shows w ids) (sym (are ∙ same)) shown)
    (λ found are. sought_is_found w ids nodes searched found same shown are) r
    (sought w (All-same (λ m. world_at m ≡ w) nodes searched same shown.world))

-- the ids of a node that is shown or not, and those below it
topped_ids : (top : NodeRef) (nodes : List NodeRef) (ids : List FullNodeId) (is : Bool) → map id_at nodes ≡ ids → map id_at (cond is (top ∷ nodes) nodes) ≡ cond is (id_at top ∷ []) [] ++ ids
topped_ids top nodes ids true same = ap (λ xs. id_at top ∷ xs) same
topped_ids top nodes ids false same = same

-- from a node on, by what is shown below it and the answer for it
pub shown_with_top : {shows : NodeRef → FilterResult → Type 0} (top : NodeRef) (nodes all : List NodeRef) (answer : FilterResult) → shows top answer →
    AreShown shows (world_at top) (λ f. searched_below f (world_at top) (id_at top)) nodes → all ≡ cond (is_included answer) (top ∷ nodes) nodes →
    AreShown shows (world_at top) (λ f. searched_from f (world_at top) (id_at top)) all
shown_with_top {shows = shows} top nodes all answer says shown made =
    let w = world_at top in
    record {
      world = All-same (λ m. world_at m ≡ w) all (cond (is_included answer) (top ∷ nodes) nodes) made
          (cond_both (is_included answer) (top ∷ nodes) nodes (All (λ m. world_at m ≡ w)) (λ _. All-cons (λ m. world_at m ≡ w) top nodes refl shown.world) (λ _. shown.world));
      list = λ f follows.
          ap (map id_at) made ∙ topped_ids top nodes (searched_below f w (id_at top)) (is_included answer) (shown.list f follows)
          ∙ ap (λ r. cond (is_included r) (id_at top ∷ []) [] ++ searched_below f w (id_at top)) (follows.at top answer refl says);
    }

-- in a whole state, from its root on
pub shown_in_state : {shows : NodeRef → FilterResult → Type 0} (w : World) (top : NodeRef) (nodes : List NodeRef) → world_at top ≡ w → root_of w 0 ≡ Some (id_at top) →
    AreShown shows (world_at top) (λ f. searched_from f (world_at top) (id_at top)) nodes → AreShown shows w (λ f. searched_in f w) nodes
shown_in_state {shows = shows} w top nodes same root shown =
    let there : AreShown shows w (λ f. searched_from f w (id_at top)) nodes = subst (λ v. AreShown shows v (λ f. searched_from f v (id_at top)) nodes) same shown in
    record { world = there.world; list = λ f follows. there.list f follows ∙ ap (λ o. option_map_or (searched_from f w) o []) (sym root) }
