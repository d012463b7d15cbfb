-- An item with a set is in it once, and its position is where it stands in it.
use Rattle.std.proofs.Common.{◌≡◌, ◌≢◌, ◌<◌, Bool, true, false, cond, ◌&&◌, List, [], ◌∷◌, ◌++◌, length, get_or, refl, sym, ◌∙◌, ap, append-nil}
use Rattle.std.specs.Prelude.{Option, Some, None, slice_get, option_and_then, filter, count_by, Contains, AllPairs}
use Rattle.std.specs.Option.{option_map, option_map_or}
use Rattle.std.specs.List.{AllByRecursion}
use Rattle.std.proofs.lemmas.Option.{none-some, same_Some, slice_get_within}
use Rattle.std.proofs.lemmas.List.Elements.{filter-append, Contains-append_right}
use Rattle.std.proofs.lemmas.List.Sums.{length-filter}
use Rattle.std.proofs.lemmas.List.Kept.{AllPairs-filter}
use Rattle.schema.specs.NodeData.{NodeData}
use Rattle.schema.specs.Roles.{same_role, same_role_equivalence}
use Rattle.model.specs.declared.FullNodeId.{FullNodeId}
use Rattle.model.specs.declared.filters.FilterResult.{FilterResult}
use Rattle.model.specs.declared.filters.FilterResult.TheVariants.{Include, ExcludeNode, ExcludeSubtree}
use Rattle.model.specs.World.{World, data_of}
use Rattle.model.specs.Forest.{is_same, IsFormed}
use Rattle.model.specs.Paths.{index_path, IsBefore}
use Rattle.model.specs.RoleClasses.{is_item_like}
use Rattle.model.specs.Upward.{says, is_before}
use Rattle.model.specs.Frontier.{filtered_children}
use Rattle.model.specs.Covers.{is_included, cover}
use Rattle.model.specs.Beside.{after_in, before_in}
use Rattle.model.specs.Views.{set_by_role, set_of}
use Rattle.model.proofs.Members.{contains_first}
use Rattle.model.proofs.Lists.Preorder.{not_before_itself, by_path}
use Rattle.model.proofs.Lists.Ranges.{behind}
use Rattle.model.proofs.Lists.Shown.{shown_rise}
use Rattle.model.proofs.Walks.Beside.{splits_at}
use Rattle.model.proofs.Walks.Siblings.{filter_all, filter_none, cover_leads, before_self, all_before, all_after}

-- ---- lists and tests

kept_all : (P : FullNodeId → Type 0) (p : FullNodeId → Bool) (xs : List FullNodeId) → AllByRecursion P xs → AllByRecursion P (filter p xs)
kept_all P p [] a = tt
kept_all P p (x ∷ xs) a = go (p x) (kept_all P p xs a.1)
  where
    go : (b : Bool) → AllByRecursion P (filter p xs) → AllByRecursion P (cond b (x ∷ filter p xs) (filter p xs))
    go true rest = (a.0, rest)
    go false rest = rest

right_holds : (a b : Bool) → (a && b) ≡ true → b ≡ true
right_holds true b e = e
right_holds false b e = absurd (let both : false ≡ true = e in cc)

included : (r : FilterResult) → is_included r ≡ true → r ≡ Include
included Include e = refl
included ExcludeNode e = absurd (let both : false ≡ true = e in cc)
included ExcludeSubtree e = absurd (let both : false ≡ true = e in cc)

module _ (f : FullNodeId → FilterResult) (w : World) (id : FullNodeId) (set : List FullNodeId) where
  abbrev of_role : NodeData → FullNodeId → Bool
  of_role d m = says (λ e. same_role e.role d.role) w m

  -- what an item with a set is
  record HasSet : Type 0 where
    top : FullNodeId
    data_there : NodeData
    covers : cover f w id ≡ Some top
    kept : f id ≡ Include
    there : data_of w id ≡ Some data_there
    is : filter (of_role data_there) (filtered_children f w top) ≡ set

  by_cover : (d : NodeData) → data_of w id ≡ Some d → f id ≡ Include → (o : Option FullNodeId) → cover f w id ≡ o → option_map (λ c. filter (of_role d) (filtered_children f w c)) o ≡ Some set → HasSet
  by_cover d there kept None e h = absurd (none-some set h)
  by_cover d there kept (Some c) e h = record { top = c; data_there = d; covers = e; kept = kept; there = there; is = same_Some (filter (of_role d) (filtered_children f w c)) set h }

  by_test : (d : NodeData) → data_of w id ≡ Some d → (b : Bool) → (b ≡ true → f id ≡ Include) → cond b (set_by_role d.role f w id) None ≡ Some set → HasSet
  by_test d there true keeps h = by_cover d there (keeps refl) (cover f w id) refl h
  by_test d there false keeps h = absurd (none-some set h)

  by_data : (o : Option NodeData) → data_of w id ≡ o → option_and_then (λ d. cond (is_item_like d.role && is_included (f id)) (set_by_role d.role f w id) None) o ≡ Some set → HasSet
  by_data None e h = absurd (none-some set h)
  by_data (Some d) e h = by_test d e (is_item_like d.role && is_included (f id)) (λ t. included (f id) (right_holds (is_item_like d.role) (is_included (f id)) t)) h

  has_set : set_of f w id ≡ Some set → HasSet
  has_set h = by_data (data_of w id) refl h

  module _ (formed : IsFormed w) (h : set_of f w id ≡ Some set) where
    own_role : of_role (has_set h).data_there id ≡ true
    own_role = ap (λ o. option_map_or (λ (e : NodeData). same_role e.role (has_set h).data_there.role) o false) (has_set h).there ∙ same_role_equivalence.refl (has_set h).data_there.role

    earlier : List FullNodeId
    earlier = filter (of_role (has_set h).data_there) (before_in f w (has_set h).top id)

    later : List FullNodeId
    later = filter (of_role (has_set h).data_there) (after_in f w (has_set h).top id)

    set_splits : set ≡ earlier ++ id ∷ later
    unfolding earlier later
    set_splits =
        sym (has_set h).is
        ∙ ap (filter (of_role (has_set h).data_there)) (sym (splits_at w formed f (has_set h).top id ((has_set h).kept, (cover_leads f w id (has_set h).top (has_set h).covers).0)))
        ∙ filter-append (of_role (has_set h).data_there) (before_in f w (has_set h).top id) (id ∷ after_in f w (has_set h).top id)
        ∙ ap (λ b. earlier ++ cond b (id ∷ later) later) own_role

    pub in_set : Contains set id
    in_set = rw set_splits (Contains-append_right earlier (id ∷ later) id (contains_first id later))

    pub set_has_none_twice : AllPairs (λ a b. a ≢ b) set
    set_has_none_twice i j d less inside same =
        let rises : AllPairs (λ a b. IsBefore (index_path w a) (index_path w b)) set =
        rw (has_set h).is at (AllPairs-filter (λ a b. IsBefore (index_path w a) (index_path w b)) (of_role (has_set h).data_there) (filtered_children f w (has_set h).top) (shown_rise f w formed (has_set h).top)) in
        not_before_itself (index_path w (get_or set i d)) (ap (λ b. by_path w formed (get_or set i d) b) same ∙ rises i j d less inside)

    -- how many of the set come before it is the index at which it stands
    counted_before : count_by (λ m. is_before w m id) set ≡ length earlier
    unfolding earlier later
    counted_before =
        let p : FullNodeId → Bool = λ m. is_before w m id in
        sym (length-filter p set) ∙ ap (λ xs. length (filter p xs)) set_splits
        ∙ ap length (filter-append p earlier (id ∷ later)
        ∙ ap (λ xs. xs ++ filter p (id ∷ later)) (filter_all p earlier (kept_all (λ m. is_before w m id ≡ true) (of_role (has_set h).data_there) (before_in f w (has_set h).top id) (all_before f w formed (is_same (has_set h).top) id)))
        ∙ ap (λ b. earlier ++ cond b (id ∷ filter p later) (filter p later)) (before_self w id)
        ∙ ap (λ xs. earlier ++ xs) (filter_none p later (kept_all (λ m. is_before w m id ≡ false) (of_role (has_set h).data_there) (after_in f w (has_set h).top id) (all_after f w formed (is_same (has_set h).top) id)))
        ∙ append-nil earlier)

    pub stands_in_set : slice_get set (count_by (λ m. is_before w m id) set) ≡ Some id
    stands_in_set = ap (slice_get set) counted_before ∙ ap (λ xs. slice_get xs (length earlier)) set_splits ∙ behind earlier id later

    pub position_below_size : count_by (λ m. is_before w m id) set < length set
    position_below_size = slice_get_within set (count_by (λ m. is_before w m id) set) id stands_in_set
