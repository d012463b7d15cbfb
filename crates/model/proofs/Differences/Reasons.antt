-- Each difference has its reason, each is told once, and in the order of the groups.
use Rattle.std.proofs.Common.{◌≡◌, ◌≢◌, ◌≤◌, ◌<◌, List, [], ◌∷◌, ◌++◌, Option, Some, None, ◌⊎◌, inl, inr, refl, sym, ap, subst, ◌∙◌, map, arith}
use Rattle.std.specs.Prelude.{Contains, AllPairs}
use Rattle.std.specs.List.Sorted.{IsStrictlySortedBy}
use Rattle.std.specs.declared.cmp.Ordering.TheVariants.{Less, Equal}
use Rattle.std.proofs.lemmas.Cmp.{tied_itself}
use Rattle.std.proofs.lemmas.List.Elements.{Contains-append_left, Contains-append_right, Contains-append_cases, Contains-get_or, All-contains}
use Rattle.std.proofs.lemmas.List.Kept.{AllPairs-cons}
use Rattle.std.proofs.lemmas.Map.Keys.{sorted_tail}
use Rattle.std.proofs.lemmas.Map.Views.{All-after_first}
use Rattle.model.specs.declared.FullNodeId.{FullNodeId}
use Rattle.model.specs.FullIds.{full_cmp, full_total}
use Rattle.model.specs.World.{World, data_of}
use Rattle.model.specs.Forest.{place_of}
use Rattle.model.specs.Differences.{PlanEvent, Added, Updated, FocusMoved, Removed, IsInBoth, IsUpdated, IsToldForFocus, AreOfFocus, AreDifferences}
use Rattle.model.specs.Reasons.{FocusGoes, FocusGoesAt, Reason, rank, MayPrecede}
use Rattle.model.proofs.Decisions.{contained_or_not}
use Rattle.model.proofs.Focus.FocusIsOne.{focus_unique}
use Rattle.model.proofs.Members.{contains_cases, contains_first, contains_later, contains_none}

-- ---- members of lists that are mapped and joined

each_of_map : (f : FullNodeId → PlanEvent) (P : PlanEvent → Type 0) (xs : List FullNodeId) → ((x : FullNodeId) → Contains xs x → P (f x)) → (d : PlanEvent) → Contains (map f xs) d → P d
each_of_map f P [] h d c = absurd (contains_none d c)
each_of_map f P (x ∷ xs) h d c = elim (contains_cases (f x) d (map f xs) c) [ inl e ↦ subst P e (h x (contains_first x xs)) | inr g ↦ each_of_map f P xs (λ y m. h y (contains_later x y xs m)) d g ]

of_map : (f : FullNodeId → PlanEvent) (xs : List FullNodeId) (x : FullNodeId) → Contains xs x → Contains (map f xs) (f x)
of_map f [] x c = absurd (contains_none x c)
of_map f (y ∷ ys) x c = elim (contains_cases y x ys c) [ inl e ↦ subst (λ z. Contains (map f (y ∷ ys)) (f z)) e (contains_first (f y) (map f ys)) | inr g ↦ contains_later (f y) (f x) (map f ys) (of_map f ys x g) ]

each_of_append : (P : PlanEvent → Type 0) (xs ys : List PlanEvent) → ((d : PlanEvent) → Contains xs d → P d) → ((d : PlanEvent) → Contains ys d → P d) → (d : PlanEvent) → Contains (xs ++ ys) d → P d
each_of_append P xs ys h g d c = elim (Contains-append_cases xs ys d c) [ inl a ↦ h d a | inr b ↦ g d b ]

each_of_one : (P : PlanEvent → Type 0) (x : PlanEvent) → P x → (d : PlanEvent) → Contains (x ∷ []) d → P d
each_of_one P x h d c = elim (contains_cases x d [] c) [ inl e ↦ subst P e h | inr g ↦ absurd (contains_none d g) ]

-- ---- the part of the focus

-- what is told for a focus is its node, in both worlds and not told before
told_is : (old new : World) (told : List FullNodeId) (focus : Option FullNodeId) (ids : List FullNodeId) → IsToldForFocus old new told focus ids → (x : FullNodeId) → Contains ids x → (focus ≡ Some x) × IsInBoth old new x × ¬ (Contains told x)
told_is old new told None ids h x c = absurd (contains_none x (subst (λ xs. Contains xs x) h c))
told_is old new told (Some id) ids (inl h) x c =
    elim (contains_cases id x [] (subst (λ xs. Contains xs x) h.1 c)) [ inl e ↦ subst (λ y. (Some id ≡ Some y) × IsInBoth old new y × ¬ (Contains told y)) e (refl, h.0.0, h.0.1) | inr g ↦ absurd (contains_none x g) ]
told_is old new told (Some id) ids (inr h) x c = absurd (contains_none x (subst (λ xs. Contains xs x) h.1 c))

is_told : (old new : World) (told : List FullNodeId) (focus : Option FullNodeId) (ids : List FullNodeId) (x : FullNodeId) → IsToldForFocus old new told focus ids → focus ≡ Some x → IsInBoth old new x → ¬ (Contains told x) → Contains ids x
is_told old new told None ids x h e both not = cc
is_told old new told (Some id) ids x (inl h) e both not = let same : id ≡ x = cc in subst (λ xs. Contains xs x) (sym h.1) (subst (λ y. Contains (id ∷ []) y) same (contains_first id []))
is_told old new told (Some id) ids x (inr h) e both not = let same : id ≡ x = cc in absurd (h.0 (subst (λ y. IsInBoth old new y × ¬ (Contains told y)) (sym same) (both, not)))

module _ (old new : World) (root : Option FullNodeId) where
  left_reason : (told : List FullNodeId) (before after : Option FullNodeId) (ids : List FullNodeId) → FocusGoes old new before after → IsToldForFocus old new told before ids → (x : FullNodeId) → Contains ids x → Reason old new root (Updated x)
  left_reason told before after ids goes h x c = let t = told_is old new told before ids h x c in (t.1, inr (inr (inr (before, after, goes, inl t.0))))

  entered_reason : (told : List FullNodeId) (before after : Option FullNodeId) (ids : List FullNodeId) → FocusGoes old new before after → IsToldForFocus old new told after ids → (x : FullNodeId) → Contains ids x → Reason old new root (Updated x)
  entered_reason told before after ids goes h x c = let t = told_is old new told after ids h x c in (t.1, inr (inr (inr (before, after, goes, inr t.0))))

  focus_reason : (told : List FullNodeId) (part : List PlanEvent) → AreOfFocus old new told part → (d : PlanEvent) → Contains part d → Reason old new root d
  focus_reason told part h d c = elim (h.4) [
    | inl same ↦ absurd (contains_none d (subst (λ xs. Contains xs d) same.1 c))
    | inr moved ↦
        let goes : FocusGoes old new h.0 h.1 = (h.2, h.3, moved.0) in
        each_of_append (Reason old new root) (map Updated moved.1 ++ map Updated moved.2) (FocusMoved h.0 h.1 ∷ [])
        (each_of_append (Reason old new root) (map Updated moved.1) (map Updated moved.2)
        (each_of_map Updated (Reason old new root) moved.1 (left_reason told h.0 h.1 moved.1 goes moved.3))
        (each_of_map Updated (Reason old new root) moved.2 (entered_reason told h.0 h.1 moved.2 goes moved.4)))
        (each_of_one (Reason old new root) (FocusMoved h.0 h.1) goes) d (subst (λ xs. Contains xs d) moved.5 c)
  ]

  -- ---- each difference has its reason, and each reason is told

  pub has_reason : (ds : List PlanEvent) → AreDifferences old new root ds → (d : PlanEvent) → Contains ds d → Reason old new root d
  has_reason ds h d c =
      each_of_append (Reason old new root) (map Added h.added ++ map Updated h.updated ++ h.of_focus) (map Removed h.removed)
      (each_of_append (Reason old new root) (map Added h.added ++ map Updated h.updated) h.of_focus
      (each_of_append (Reason old new root) (map Added h.added) (map Updated h.updated)
      (each_of_map Added (Reason old new root) h.added (λ x m. (h.are_added.members x).0 m))
      (each_of_map Updated (Reason old new root) h.updated (λ x m. let u = (h.are_updated.members x).0 m in (u.0, updated_reason x u.1))))
      (focus_reason h.updated h.of_focus h.are_of_focus))
      (each_of_map Removed (Reason old new root) h.removed (λ x m. (h.are_removed.members x).0 m)) d (subst (λ xs. Contains xs d) h.all c)
    where
      updated_reason : (x : FullNodeId) → data_of old x ≢ data_of new x ⊎ place_of old x ≢ place_of new x ⊎ root ≡ Some x → data_of old x ≢ data_of new x ⊎ place_of old x ≢ place_of new x ⊎ root ≡ Some x ⊎ FocusGoesAt old new x
      updated_reason x (inl a) = inl a
      updated_reason x (inr (inl b)) = inr (inl b)
      updated_reason x (inr (inr c)) = inr (inr (inl c))

  module _ (ds : List PlanEvent) (h : AreDifferences old new root ds) where
    in_added : (d : PlanEvent) → Contains (map Added h.added) d → Contains ds d
    in_added d m = subst (λ xs. Contains xs d) (sym h.all) (Contains-append_left _ (map Removed h.removed) d (Contains-append_left _ h.of_focus d (Contains-append_left _ (map Updated h.updated) d m)))

    in_updated : (d : PlanEvent) → Contains (map Updated h.updated) d → Contains ds d
    in_updated d m = subst (λ xs. Contains xs d) (sym h.all) (Contains-append_left _ (map Removed h.removed) d (Contains-append_left _ h.of_focus d (Contains-append_right (map Added h.added) _ d m)))

    in_focus : (d : PlanEvent) → Contains h.of_focus d → Contains ds d
    in_focus d m = subst (λ xs. Contains xs d) (sym h.all) (Contains-append_left _ (map Removed h.removed) d (Contains-append_right (map Added h.added ++ map Updated h.updated) _ d m))

    in_removed : (d : PlanEvent) → Contains (map Removed h.removed) d → Contains ds d
    in_removed d m = subst (λ xs. Contains xs d) (sym h.all) (Contains-append_right (map Added h.added ++ map Updated h.updated ++ h.of_focus) _ d m)

    updated_is_told : (id : FullNodeId) → IsUpdated old new root id → Contains ds (Updated id)
    updated_is_told id u = in_updated (Updated id) (of_map Updated h.updated id ((h.are_updated.members id).1 u))

    -- where the focus goes from the one to the other, the part of the focus is that of these two
    abbrev Part : Option FullNodeId → Option FullNodeId → Type 0
    Part before after = (left entered : List FullNodeId) × IsToldForFocus old new h.updated before left × IsToldForFocus old new h.updated after entered × (h.of_focus ≡ map Updated left ++ map Updated entered ++ FocusMoved before after ∷ [])

    part_of : (before after : Option FullNodeId) → FocusGoes old new before after → Part before after
    part_of before after goes =
        let first : h.are_of_focus.0 ≡ before = focus_unique old h.are_of_focus.0 before h.are_of_focus.2 goes.0 in
        let second : h.are_of_focus.1 ≡ after = focus_unique new h.are_of_focus.1 after h.are_of_focus.3 goes.1 in
        elim (h.are_of_focus.4) [
          | inl same ↦ absurd (goes.2 (sym first ∙ same.0 ∙ second))
          | inr moved ↦ subst (λ a. Part before a) second (subst (λ b. Part b h.are_of_focus.1) first (moved.1, moved.2, moved.3, moved.4, moved.5))
        ]

    focus_is_told : (id : FullNodeId) → IsInBoth old new id → ¬ (Contains h.updated id) → FocusGoesAt old new id → Contains ds (Updated id)
    focus_is_told id both not goes =
        let part = part_of goes.0 goes.1 goes.2 in
        let inside : Contains (map Updated part.0 ++ map Updated part.1) (Updated id) = elim (goes.3) [
          | inl e ↦ Contains-append_left (map Updated part.0) (map Updated part.1) (Updated id) (of_map Updated part.0 id (is_told old new h.updated goes.0 part.0 id part.2 e both not))
          | inr e ↦ Contains-append_right (map Updated part.0) (map Updated part.1) (Updated id) (of_map Updated part.1 id (is_told old new h.updated goes.1 part.1 id part.3 e both not))
        ] in
        in_focus (Updated id) (subst (λ xs. Contains xs (Updated id)) (sym part.4) (Contains-append_left (map Updated part.0 ++ map Updated part.1) (FocusMoved goes.0 goes.1 ∷ []) (Updated id) inside))

    focus_or_updated : (id : FullNodeId) → IsInBoth old new id → Contains h.updated id ⊎ ¬ (Contains h.updated id) → FocusGoesAt old new id → Contains ds (Updated id)
    focus_or_updated id both (inl c) goes = in_updated (Updated id) (of_map Updated h.updated id c)
    focus_or_updated id both (inr not) goes = focus_is_told id both not goes

    move_is_told : (before after : Option FullNodeId) → FocusGoes old new before after → Contains ds (FocusMoved before after)
    move_is_told before after goes =
        let part = part_of before after goes in
        in_focus (FocusMoved before after) (subst (λ xs. Contains xs (FocusMoved before after)) (sym part.4) (Contains-append_right (map Updated part.0 ++ map Updated part.1) (FocusMoved before after ∷ []) (FocusMoved before after) (contains_first (FocusMoved before after) [])))

    pub is_told_for : (d : PlanEvent) → Reason old new root d → Contains ds d
    is_told_for (Added id) r = in_added (Added id) (of_map Added h.added id ((h.are_added.members id).1 r))
    is_told_for (Updated id) r = elim (r.1) [
      | inl a ↦ updated_is_told id (r.0, inl a)
      | inr (inl b) ↦ updated_is_told id (r.0, inr (inl b))
      | inr (inr (inl c)) ↦ updated_is_told id (r.0, inr (inr c))
      | inr (inr (inr goes)) ↦ focus_or_updated id r.0 (contained_or_not id h.updated) goes
    ]
    is_told_for (FocusMoved before after) r = move_is_told before after r
    is_told_for (Removed id) r = in_removed (Removed id) (of_map Removed h.removed id ((h.are_removed.members id).1 r))

-- ---- the order

abbrev InOrder : List PlanEvent → Type 0
InOrder [] = Unit {0}
InOrder (d ∷ ds) = ((e : PlanEvent) → Contains ds e → MayPrecede d e) × InOrder ds

pairs_in_order : (ds : List PlanEvent) → InOrder ds → AllPairs MayPrecede ds
pairs_in_order [] h = λ i j d less within. absurd (omega arith)
pairs_in_order (x ∷ ds) h = AllPairs-cons MayPrecede x ds (λ k d within. h.0 _ (Contains-get_or ds k d within)) (pairs_in_order ds h.1)

order_append : (xs ys : List PlanEvent) → InOrder xs → InOrder ys → ((d e : PlanEvent) → Contains xs d → Contains ys e → MayPrecede d e) → InOrder (xs ++ ys)
order_append [] ys h g across = g
order_append (x ∷ xs) ys h g across =
    (each_of_append (MayPrecede x) xs ys h.0 (λ e c. across x e (contains_first x xs) c), order_append xs ys h.1 g (λ d e c m. across d e (contains_later x d xs c) m))

order_of_map : (f : FullNodeId → PlanEvent) → ((x y : FullNodeId) → x ≢ y → MayPrecede (f x) (f y)) → (ids : List FullNodeId) → IsStrictlySortedBy full_cmp ids → InOrder (map f ids)
order_of_map f h [] sorted = tt
order_of_map f h (x ∷ ids) sorted =
    (each_of_map f (MayPrecede (f x)) ids (λ y c. h x y (λ e. apart x y e (All-contains (λ q. full_cmp x q ≡ Less) ids y (All-after_first full_cmp x ids sorted) c))), order_of_map f h ids (sorted_tail full_cmp x ids sorted))
  where
    apart : (x y : FullNodeId) → x ≡ y → full_cmp x y ≡ Less → ⊥
    apart x y e less = let tied : full_cmp x y ≡ Equal = subst (λ z. full_cmp x z ≡ Equal) e (tied_itself full_total x) in cc

across_maps : (f g : FullNodeId → PlanEvent) (xs ys : List FullNodeId) → ((x y : FullNodeId) → Contains xs x → Contains ys y → MayPrecede (f x) (g y)) → (d e : PlanEvent) → Contains (map f xs) d → Contains (map g ys) e → MayPrecede d e
across_maps f g xs ys h d e c m = each_of_map f (λ a. MayPrecede a e) xs (λ x l. each_of_map g (MayPrecede (f x)) ys (λ y n. h x y l n) e m) d c

one_at_most : (old new : World) (told : List FullNodeId) (focus : Option FullNodeId) (ids : List FullNodeId) → IsToldForFocus old new told focus ids → InOrder (map Updated ids)
one_at_most old new told None ids h = subst (λ xs. InOrder (map Updated xs)) (sym h) tt
one_at_most old new told (Some id) ids (inl h) = subst (λ xs. InOrder (map Updated xs)) (sym h.1) (λ e c. absurd (contains_none e c), tt)
one_at_most old new told (Some id) ids (inr h) = subst (λ xs. InOrder (map Updated xs)) (sym h.1) tt

module _ (old new : World) (told : List FullNodeId) where
  focus_order : (part : List PlanEvent) → AreOfFocus old new told part → InOrder part
  focus_order part h = elim (h.4) [
    | inl same ↦ subst InOrder (sym same.1) tt
    | inr moved ↦ subst InOrder (sym moved.5)
        (order_append (map Updated moved.1 ++ map Updated moved.2) (FocusMoved h.0 h.1 ∷ [])
        (order_append (map Updated moved.1) (map Updated moved.2) (one_at_most old new told h.0 moved.1 moved.3) (one_at_most old new told h.1 moved.2 moved.4)
        (across_maps Updated Updated moved.1 moved.2 (λ x y c m. (
          omega arith,
          λ e.
              let left = told_is old new told h.0 moved.1 moved.3 x c in
              let entered = told_is old new told h.1 moved.2 moved.4 y m in
              moved.0 (left.0 ∙ ap Some (same_id x y e) ∙ sym entered.0),
        ))))
        (λ e c. absurd (contains_none e c), tt)
        (λ d e c m. each_of_one (MayPrecede d) (FocusMoved h.0 h.1) (each_of_append (λ a. MayPrecede a (FocusMoved h.0 h.1)) (map Updated moved.1) (map Updated moved.2)
        (each_of_map Updated (λ a. MayPrecede a (FocusMoved h.0 h.1)) moved.1 (λ x n. before_move x h.0 h.1))
        (each_of_map Updated (λ a. MayPrecede a (FocusMoved h.0 h.1)) moved.2 (λ x n. before_move x h.0 h.1)) d c) e m))
  ]
    where
      same_id : (x y : FullNodeId) → Updated x ≡ Updated y → x ≡ y
      same_id x y e = cc

      before_move : (x : FullNodeId) (before after : Option FullNodeId) → MayPrecede (Updated x) (FocusMoved before after)
      before_move x before after = (omega arith, λ e. cc)

  -- what the part of the focus tells: no addition or removal, and no update of a node that was told
  abbrev IsOfFocus : PlanEvent → Type 0
  IsOfFocus d = (1 ≤ rank d) × (rank d ≤ 2) × ((x : FullNodeId) → Contains told x → Updated x ≢ d)

  one_of_focus : (focus : Option FullNodeId) (ids : List FullNodeId) → IsToldForFocus old new told focus ids → (d : PlanEvent) → Contains (map Updated ids) d → IsOfFocus d
  one_of_focus focus ids h = each_of_map Updated IsOfFocus ids (λ x c. (omega arith, omega arith, λ y m e. (told_is old new told focus ids h x c).2 (subst (Contains told) (same_ids y x e) m)))
    where
      same_ids : (x y : FullNodeId) → Updated x ≡ Updated y → x ≡ y
      same_ids x y e = cc

  all_of_focus : (part : List PlanEvent) → AreOfFocus old new told part → (d : PlanEvent) → Contains part d → IsOfFocus d
  all_of_focus part h d c = elim (h.4) [
    | inl same ↦ absurd (contains_none d (subst (λ xs. Contains xs d) same.1 c))
    | inr moved ↦
        each_of_append IsOfFocus (map Updated moved.1 ++ map Updated moved.2) (FocusMoved h.0 h.1 ∷ [])
        (each_of_append IsOfFocus (map Updated moved.1) (map Updated moved.2) (one_of_focus h.0 moved.1 moved.3) (one_of_focus h.1 moved.2 moved.4))
        (each_of_one IsOfFocus (FocusMoved h.0 h.1) (omega arith, omega arith, λ y m e. cc)) d (subst (λ xs. Contains xs d) moved.5 c)
  ]

-- a lesser rank comes first
by_rank : (d e : PlanEvent) → rank d < rank e → MayPrecede d e
by_rank d e less = (omega arith, λ same. let equal : rank d ≡ rank e = ap rank same in absurd (omega arith))

pub in_order : (old new : World) (root : Option FullNodeId) (ds : List PlanEvent) → AreDifferences old new root ds → AllPairs MayPrecede ds
in_order old new root ds h =
    let added : InOrder (map Added h.added) = order_of_map Added (λ x y n. (omega arith, λ e. n (same_added x y e))) h.added h.are_added.ascending in
    let updated : InOrder (map Updated h.updated) = order_of_map Updated (λ x y n. (omega arith, λ e. n (same_updated x y e))) h.updated h.are_updated.ascending in
    let removed : InOrder (map Removed h.removed) = order_of_map Removed (λ x y n. (omega arith, λ e. n (same_removed x y e))) h.removed h.are_removed.ascending in
    let focus : InOrder h.of_focus = focus_order old new h.updated h.of_focus h.are_of_focus in
    let first : InOrder (map Added h.added ++ map Updated h.updated) =
    order_append _ _ added updated (across_maps Added Updated h.added h.updated (λ x y c m. by_rank (Added x) (Updated y) (omega arith))) in
    let most : InOrder (map Added h.added ++ map Updated h.updated ++ h.of_focus) =
    order_append _ h.of_focus first focus (λ d e c m. each_of_append (λ a. MayPrecede a e) (map Added h.added) (map Updated h.updated)
    (each_of_map Added (λ a. MayPrecede a e) h.added (λ x n. let f = all_of_focus old new h.updated h.of_focus h.are_of_focus e m in by_rank (Added x) e (f.0)))
    (each_of_map Updated (λ a. MayPrecede a e) h.updated (λ x n. let f = all_of_focus old new h.updated h.of_focus h.are_of_focus e m in (f.0, f.2 x n))) d c) in
    let all : InOrder (map Added h.added ++ map Updated h.updated ++ h.of_focus ++ map Removed h.removed) =
    order_append _ (map Removed h.removed) most removed (λ d e c m. each_of_map Removed (MayPrecede d) h.removed (λ x n. by_rank d (Removed x)
    (each_of_append (λ a. rank a < 3) (map Added h.added ++ map Updated h.updated) h.of_focus
    (each_of_append (λ a. rank a < 3) (map Added h.added) (map Updated h.updated) (each_of_map Added (λ a. rank a < 3) h.added (λ y l. omega arith)) (each_of_map Updated (λ a. rank a < 3) h.updated (λ y l. omega arith)))
    (λ a l. let f = all_of_focus old new h.updated h.of_focus h.are_of_focus a l in let small : rank a ≤ 2 = f.1 in omega arith) d c)) e m) in
    pairs_in_order ds (subst InOrder (sym h.all) all)
  where
    same_added : (x y : FullNodeId) → Added x ≡ Added y → x ≡ y
    same_added x y e = cc

    same_updated : (x y : FullNodeId) → Updated x ≡ Updated y → x ≡ y
    same_updated x y e = cc

    same_removed : (x y : FullNodeId) → Removed x ≡ Removed y → x ≡ y
    same_removed x y e = cc
