-- What is told openly of a change of alike worlds.
use Rattle.std.proofs.Common.{◌≡◌, ◌≢◌, Bool, true, false, cond, List, [], ◌∷◌, ◌++◌, Option, Some, None, ◌⊎◌, inl, inr, refl, sym, ap, subst, ◌∙◌, map}
use Rattle.std.specs.Prelude.{Contains, not, ◌||◌, filter, option_map}
use Rattle.std.specs.List.{list_any}
use Rattle.std.specs.Ordering.{is_eq}
use Rattle.std.proofs.lemmas.Bool.{cases_Bool}
use Rattle.std.proofs.lemmas.Cmp.{tied_itself}
use Rattle.std.proofs.lemmas.List.Elements.{filter-append}
use Rattle.std.proofs.lemmas.List.Kept.{IsStrictlySortedBy-filter}
use Rattle.model.specs.declared.FullNodeId.{FullNodeId}
use Rattle.model.specs.FullIds.{full_cmp, full_total}
use Rattle.model.specs.World.{World, data_of}
use Rattle.model.specs.Forest.{is_same, place_of}
use Rattle.model.specs.Events.{Event, seen_in}
use Rattle.model.specs.Differences.{PlanEvent, Added, Updated, FocusMoved, Removed, event, events, IsAdded, IsInBoth, IsUpdated, IsAloneIf, IsToldForFocus, AreOfFocus, AreDifferences}
use Rattle.model.specs.TextRuns.{run_ids}
use Rattle.model.specs.Shape.{AreAlikeWorlds}
use Rattle.model.specs.AlikeRuns.{difference_of, is_of_secret, tells_of_secret, told_openly}
use Rattle.model.proofs.Ascending.{sorted_same}
use Rattle.model.proofs.Members.{contains_none, contains_first, contains_later, contains_cases}
use Rattle.model.proofs.Focus.FocusIsOne.{focus_unique}
use Rattle.model.proofs.Text.Outlines.{agree, runs_same, place_same}
use Rattle.model.proofs.Alike.Bare as bare
use Rattle.model.proofs.Alike.Bare.{SameBare}
use Rattle.model.proofs.Alike.Merging.{outlines}

-- ---- lists that are filtered

kept_of : {X : Type 0} (k : X → Bool) (x : X) (xs : List X) (b : Bool) → k x ≡ b → (y : X) → Contains (cond b (x ∷ filter k xs) (filter k xs)) y → ((x ≡ y) × (k y ≡ true)) ⊎ Contains (filter k xs) y
kept_of k x xs true is y c = elim (contains_cases x y (filter k xs) c) [ inl e ↦ inl (e, subst (λ z. k z ≡ true) e is) | inr g ↦ inr g ]
kept_of k x xs false is y c = inr c

from_filter : {X : Type 0} (k : X → Bool) (xs : List X) (y : X) → Contains (filter k xs) y → Contains xs y × (k y ≡ true)
from_filter k [] y c = absurd (contains_none y c)
from_filter k (x ∷ xs) y c = elim (kept_of k x xs (k x) refl y c) [
  | inl h ↦ (subst (Contains (x ∷ xs)) h.0 (contains_first x xs), h.1)
  | inr g ↦ let rest = from_filter k xs y g in (contains_later x y xs rest.0, rest.1)
]

keep_first : {X : Type 0} (k : X → Bool) (x : X) (xs : List X) (b : Bool) → k x ≡ b → (y : X) → k y ≡ true → (x ≡ y) ⊎ Contains (filter k xs) y → Contains (cond b (x ∷ filter k xs) (filter k xs)) y
keep_first k x xs true is y h (inl e) = subst (Contains (x ∷ filter k xs)) e (contains_first x (filter k xs))
keep_first k x xs true is y h (inr g) = contains_later x y (filter k xs) g
keep_first k x xs false is y h (inl e) = absurd (let no : false ≡ true = sym is ∙ ap k e ∙ h in cc)
keep_first k x xs false is y h (inr g) = g

to_filter : {X : Type 0} (k : X → Bool) (xs : List X) (y : X) → Contains xs y → k y ≡ true → Contains (filter k xs) y
to_filter k [] y c h = absurd (contains_none y c)
to_filter k (x ∷ xs) y c h = keep_first k x xs (k x) refl y h (elim (contains_cases x y xs c) [ inl e ↦ inl e | inr g ↦ inr (to_filter k xs y g h) ])

-- ---- which node is meant

itself : (id : FullNodeId) → is_same id id ≡ true
itself id = ap is_eq (tied_itself full_total id)

apart : (id p : FullNodeId) → is_same id p ≡ false → id ≢ p
apart id p h e = let no : false ≡ true = sym h ∙ ap (is_same id) (sym e) ∙ itself id in cc

neither : (a b : Bool) → not (a || b) ≡ true → (a ≡ false) × (b ≡ false)
neither true b h = absurd (let no : ⊥ = cc in no)
neither false true h = absurd (let no : ⊥ = cc in no)
neither false false h = (refl, refl)

either_not : (a b : Bool) → (a || b) ≡ false → (a ≡ false) × (b ≡ false)
either_not true b h = absurd (let no : ⊥ = cc in no)
either_not false true h = absurd (let no : ⊥ = cc in no)
either_not false false h = (refl, refl)

outside : (id : FullNodeId) (ids : List FullNodeId) → list_any (is_same id) ids ≡ false → ¬ (Contains ids id)
outside id [] h c = contains_none id c
outside id (x ∷ ids) h c =
    let parts = either_not (is_same id x) (list_any (is_same id) ids) h in
    elim (contains_cases x id ids c) [ inl e ↦ apart id x parts.0 (sym e) | inr g ↦ outside id ids parts.1 g ]

-- ---- what is hidden of a change

abbrev is_hidden_in : FullNodeId → World → World → FullNodeId → Bool
is_hidden_in p old new id = is_of_secret p (seen_in old id) || is_of_secret p (seen_in new id)

abbrev is_open : FullNodeId → World → World → FullNodeId → Bool
is_open p old new id = not (is_hidden_in p old new id)

abbrev shows : FullNodeId → World → World → PlanEvent → Bool
shows p old new (Updated id) = is_open p old new id
shows p old new (Added id) = true
shows p old new (FocusMoved before after) = true
shows p old new (Removed id) = true

same_ids : (w : World) (o : Option FullNodeId) → option_map (λ s. s.id) (option_map (seen_in w) o) ≡ o
same_ids w None = refl
same_ids w (Some id) = refl

kind_is : (old new : World) (d : PlanEvent) → difference_of (event old new d) ≡ d
kind_is old new (Added id) = refl
kind_is old new (Updated id) = refl
kind_is old new (FocusMoved before after) = λ i. FocusMoved (same_ids old before i) (same_ids new after i)
kind_is old new (Removed id) = refl

shows_is : (p : FullNodeId) (old new : World) (d : PlanEvent) → not (tells_of_secret p (event old new d)) ≡ shows p old new d
shows_is p old new (Added id) = refl
shows_is p old new (Updated id) = refl
shows_is p old new (FocusMoved before after) = refl
shows_is p old new (Removed id) = refl

one_more : (old new : World) (d : PlanEvent) (later : List Event) (rest : List PlanEvent) → map difference_of later ≡ rest → (b : Bool) → map difference_of (cond b (event old new d ∷ later) later) ≡ cond b (d ∷ rest) rest
one_more old new d later rest h true = λ i. kind_is old new d i ∷ h i
one_more old new d later rest h false = h

pub openly_is : (p : FullNodeId) (old new : World) (ds : List PlanEvent) → told_openly p (events old new ds) ≡ filter (shows p old new) ds
openly_is p old new [] = refl
openly_is p old new (d ∷ ds) =
    let later : List Event = filter (λ e. not (tells_of_secret p e)) (events old new ds) in
    ap (λ b. map difference_of (cond b (event old new d ∷ later) later)) (shows_is p old new d)
    ∙ one_more old new d later (filter (shows p old new) ds) (openly_is p old new ds) (shows p old new d)

-- what is told as updated, and shown
one_more_updated : (id : FullNodeId) (ds : List PlanEvent) (ids : List FullNodeId) → ds ≡ map Updated ids → (b : Bool) → cond b (Updated id ∷ ds) ds ≡ map Updated (cond b (id ∷ ids) ids)
one_more_updated id ds ids h true = ap (λ l. Updated id ∷ l) h
one_more_updated id ds ids h false = h

shown_updated : (p : FullNodeId) (old new : World) (ids : List FullNodeId) → filter (shows p old new) (map Updated ids) ≡ map Updated (filter (is_open p old new) ids)
shown_updated p old new [] = refl
shown_updated p old new (id ∷ ids) =
    one_more_updated id (filter (shows p old new) (map Updated ids)) (filter (is_open p old new) ids) (shown_updated p old new ids) (is_open p old new id)

-- ---- alike changes

runs_alike : (p : FullNodeId) (w v : World) → AreAlikeWorlds p w v → run_ids w p ≡ run_ids v p
runs_alike p w v h = agree (λ u. run_ids u p) w v (λ u. sym (λ i. runs_same u i p)) (outlines p w v h)

place_alike : (p : FullNodeId) (w v : World) → AreAlikeWorlds p w v → (id : FullNodeId) → place_of w id ≡ place_of v id
place_alike p w v h id = agree (λ u. place_of u id) w v (λ u. sym (place_same u id)) (outlines p w v h)

-- the data of a node that is neither the password nor one of its runs
data_alike : (p : FullNodeId) (w v : World) → AreAlikeWorlds p w v → (id : FullNodeId) → is_of_secret p (seen_in w id) ≡ false → data_of w id ≡ data_of v id
data_alike p w v (inl e) id h = ap (λ u. data_of u id) e
data_alike p w v (inr e) id h =
    let parts = either_not (is_same id p) (list_any (is_same id) (run_ids w p)) h in
    e.others id (apart id p parts.0) (outside id (run_ids w p) parts.1)

-- equal shape goes both ways
pub swapped : (p : FullNodeId) (w v : World) → AreAlikeWorlds p w v → AreAlikeWorlds p v w
swapped p w v (inl e) = inl (sym e)
swapped p w v (inr e) =
    let runs : run_ids w p ≡ run_ids v p = runs_alike p w v (inr e) in
    inr (record {
      first = e.second;
      second = e.first;
      outlines = sym e.outlines;
      others = λ id other apart. sym (e.others id other (λ c. apart (subst (λ ids. Contains ids id) runs c)));
      own = sym e.own;
      own_value_is_given = sym e.own_value_is_given;
      faces = sym e.faces;
    })

bare_of : (p : FullNodeId) (w v : World) → AreAlikeWorlds p w v → SameBare w v
bare_of p w v h = bare.of_outlines w v (outlines p w v h)

module _ (p : FullNodeId) (old new other later : World) (before : AreAlikeWorlds p old other) (after : AreAlikeWorlds p new later) where
  hidden_alike : (id : FullNodeId) → is_hidden_in p old new id ≡ is_hidden_in p other later id
  hidden_alike id = λ i. (is_same id p || list_any (is_same id) (runs_alike p old other before i)) || (is_same id p || list_any (is_same id) (runs_alike p new later after i))

  open_alike : is_open p old new ≡ is_open p other later
  open_alike = λ i id. not (hidden_alike id i)

  shows_alike : (d : PlanEvent) → shows p old new d ≡ shows p other later d
  shows_alike (Updated id) = λ i. open_alike i id
  shows_alike (Added id) = refl
  shows_alike (FocusMoved b a) = refl
  shows_alike (Removed id) = refl

  pub all_shows : shows p old new ≡ shows p other later
  all_shows = λ i d. shows_alike d i

  b : SameBare old other
  b = bare_of p old other before

  a : SameBare new later
  a = bare_of p new later after

  added_alike : (id : FullNodeId) → IsAdded old new id → IsAdded other later id
  added_alike id h = (bare.node a id h.0, λ g. h.1 (bare.node (bare.turned b) id g))

  removed_alike : (id : FullNodeId) → IsAdded new old id → IsAdded later other id
  removed_alike id h = (bare.node b id h.0, λ g. h.1 (bare.node (bare.turned a) id g))

  both_alike : (id : FullNodeId) → IsInBoth old new id → IsInBoth other later id
  both_alike id h = (bare.node b id h.0, bare.node a id h.1)

  pub updated_alike : (root : Option FullNodeId) (id : FullNodeId) → is_open p old new id ≡ true → IsUpdated old new root id → IsUpdated other later root id
  updated_alike root id shown h = (both_alike id h.0, by_reason h.1)
    where
      parts : (is_of_secret p (seen_in old id) ≡ false) × (is_of_secret p (seen_in new id) ≡ false)
      parts = neither (is_of_secret p (seen_in old id)) (is_of_secret p (seen_in new id)) shown

      by_reason : data_of old id ≢ data_of new id ⊎ place_of old id ≢ place_of new id ⊎ root ≡ Some id → data_of other id ≢ data_of later id ⊎ place_of other id ≢ place_of later id ⊎ root ≡ Some id
      by_reason (inl differs) = inl (λ e. differs (data_alike p old other before id parts.0 ∙ e ∙ sym (data_alike p new later after id parts.1)))
      by_reason (inr (inl moved)) = inr (inl (λ e. moved (place_alike p old other before id ∙ e ∙ sym (place_alike p new later after id))))
      by_reason (inr (inr told)) = inr (inr told)

-- ---- what is told of the focus

module _ (k : FullNodeId → Bool) where
  single : (id : FullNodeId) → k id ≡ false → filter k (id ∷ []) ≡ []
  single id e = ap (λ b. cond b (id ∷ []) []) e

  hidden_alone : (P : Type 0) (id : FullNodeId) (ids : List FullNodeId) → k id ≡ false → IsAloneIf P id ids → filter k ids ≡ []
  hidden_alone P id ids e (inl h) = ap (filter k) h.1 ∙ single id e
  hidden_alone P id ids e (inr h) = ap (filter k) h.1

  same_alone : (P Q : Type 0) (id : FullNodeId) (xs ys : List FullNodeId) → (P → Q) → (Q → P) → IsAloneIf P id xs → IsAloneIf Q id ys → xs ≡ ys
  same_alone P Q id xs ys to from (inl h) (inl g) = h.1 ∙ sym g.1
  same_alone P Q id xs ys to from (inl h) (inr g) = absurd (g.0 (to h.0))
  same_alone P Q id xs ys to from (inr h) (inl g) = absurd (h.0 (from g.0))
  same_alone P Q id xs ys to from (inr h) (inr g) = h.1 ∙ sym g.1

  -- a focus that is told or not, by what is true of it where it is shown
  shown_alone : (P Q : Type 0) (id : FullNodeId) (xs ys : List FullNodeId) → (k id ≡ true → P → Q) → (k id ≡ true → Q → P) → IsAloneIf P id xs → IsAloneIf Q id ys → filter k xs ≡ filter k ys
  shown_alone P Q id xs ys to from h g = elim (cases_Bool (k id)) [
    | inl e ↦ ap (filter k) (same_alone P Q id xs ys (to e) (from e) h g)
    | inr e ↦ hidden_alone P id xs e h ∙ sym (hidden_alone Q id ys e g)
  ]

module _ (s : PlanEvent → Bool) where
  four : (xs ys zs us : List PlanEvent) → filter s (xs ++ ys ++ zs ++ us) ≡ filter s xs ++ filter s ys ++ filter s zs ++ filter s us
  four xs ys zs us = filter-append s (xs ++ ys ++ zs) us ∙ ap (λ l. l ++ filter s us) (filter-append s (xs ++ ys) zs ∙ ap (λ l. l ++ filter s zs) (filter-append s xs ys))

module _ (p : FullNodeId) (old new other later : World) (before : AreAlikeWorlds p old other) (after : AreAlikeWorlds p new later) where
  abbrev k : FullNodeId → Bool
  k = is_open p old new

  abbrev s : PlanEvent → Bool
  s = shows p old new

  to_open : (id : FullNodeId) → k id ≡ true → is_open p other later id ≡ true
  to_open id e = sym (λ i. open_alike p old new other later before after i id) ∙ e

  both_to : (id : FullNodeId) → IsInBoth old new id → IsInBoth other later id
  both_to id h = both_alike p old new other later before after id h

  both_from : (id : FullNodeId) → IsInBoth other later id → IsInBoth old new id
  both_from id h = both_alike p other later old new (swapped p old other before) (swapped p new later after) id h

  -- these ids were told as updated in the one and in the other
  abbrev ToldAlike : List FullNodeId → List FullNodeId → Type 0
  ToldAlike xs ys = (id : FullNodeId) → k id ≡ true → (Contains xs id → Contains ys id) × (Contains ys id → Contains xs id)

  for_focus : (us vs : List FullNodeId) → ToldAlike us vs → (o : Option FullNodeId) (xs ys : List FullNodeId) → IsToldForFocus old new us o xs → IsToldForFocus other later vs o ys → filter k xs ≡ filter k ys
  for_focus us vs t None xs ys h g = ap (filter k) (h ∙ sym g)
  for_focus us vs t (Some id) xs ys h g =
      shown_alone k _ _ id xs ys (λ e q. (both_to id q.0, λ c. q.1 ((t id e).1 c))) (λ e q. (both_from id q.0, λ c. q.1 ((t id e).0 c))) h g

  abbrev IsMove : World → World → List FullNodeId → Option FullNodeId → Option FullNodeId → List PlanEvent → Type 0
  IsMove w v told x y ds =
      ((x ≡ y) × (ds ≡ []))
      ⊎ ((x ≢ y) × (left entered : List FullNodeId) × IsToldForFocus w v told x left × IsToldForFocus w v told y entered
      × (ds ≡ map Updated left ++ map Updated entered ++ FocusMoved x y ∷ []))

  move_shown : (left entered : List FullNodeId) (x y : Option FullNodeId) → filter s (map Updated left ++ map Updated entered ++ FocusMoved x y ∷ []) ≡ map Updated (filter k left) ++ map Updated (filter k entered) ++ FocusMoved x y ∷ []
  move_shown left entered x y =
      filter-append s (map Updated left ++ map Updated entered) (FocusMoved x y ∷ [])
      ∙ ap (λ l. l ++ FocusMoved x y ∷ []) (filter-append s (map Updated left) (map Updated entered))
      ∙ (λ i. shown_updated p old new left i ++ shown_updated p old new entered i ++ FocusMoved x y ∷ [])

  move_alike : (us vs : List FullNodeId) → ToldAlike us vs → (x y : Option FullNodeId) (ds es : List PlanEvent) → IsMove old new us x y ds → IsMove other later vs x y es → filter s ds ≡ filter s es
  move_alike us vs t x y ds es (inl h) (inl g) = ap (filter s) (h.1 ∙ sym g.1)
  move_alike us vs t x y ds es (inl h) (inr g) = absurd (g.0 h.0)
  move_alike us vs t x y ds es (inr h) (inl g) = absurd (h.0 g.0)
  move_alike us vs t x y ds es (inr h) (inr g) =
      let left : filter k h.1 ≡ filter k g.1 = for_focus us vs t x h.1 g.1 h.3 g.3 in
      let entered : filter k h.2 ≡ filter k g.2 = for_focus us vs t y h.2 g.2 h.4 g.4 in
      ap (filter s) h.5 ∙ move_shown h.1 h.2 x y ∙ (λ i. map Updated (left i) ++ map Updated (entered i) ++ FocusMoved x y ∷ []) ∙ sym (move_shown g.1 g.2 x y) ∙ ap (filter s) (sym g.5)

  focus_alike : (us vs : List FullNodeId) → ToldAlike us vs → (ds es : List PlanEvent) → AreOfFocus old new us ds → AreOfFocus other later vs es → filter s ds ≡ filter s es
  focus_alike us vs t ds es h g =
      let x : h.0 ≡ g.0 = focus_unique other h.0 g.0 (bare.focus (bare_of p old other before) h.0 h.2) g.2 in
      let y : h.1 ≡ g.1 = focus_unique later h.1 g.1 (bare.focus (bare_of p new later after) h.1 h.3) g.3 in
      move_alike us vs t g.0 g.1 ds es (subst (λ o. IsMove old new us o g.1 ds) x (subst (λ o. IsMove old new us h.0 o ds) y h.4)) g.4

  openly : (ds es : List PlanEvent) → filter s ds ≡ filter s es → told_openly p (events old new ds) ≡ told_openly p (events other later es)
  openly ds es h = openly_is p old new ds ∙ h ∙ ap (λ t. filter t es) (all_shows p old new other later before after) ∙ sym (openly_is p other later es)

  none_told : ToldAlike [] []
  none_told id e = (λ c. c, λ c. c)

  -- a change of the host's focus
  pub focus_told_alike : (ds es : List PlanEvent) → AreOfFocus old new [] ds → AreOfFocus other later [] es → told_openly p (events old new ds) ≡ told_openly p (events other later es)
  focus_told_alike ds es h g = openly ds es (focus_alike [] [] none_told ds es h g)

  -- an update
  pub told_alike : (root : Option FullNodeId) (ds es : List PlanEvent) → AreDifferences old new root ds → AreDifferences other later root es → told_openly p (events old new ds) ≡ told_openly p (events other later es)
  told_alike root ds es h g = openly ds es (ap (filter s) h.all ∙ four s (map Added h.added) (map Updated h.updated) h.of_focus (map Removed h.removed) ∙ parts
      ∙ sym (four s (map Added g.added) (map Updated g.updated) g.of_focus (map Removed g.removed)) ∙ ap (filter s) (sym g.all))
    where
      back : AreAlikeWorlds p other old
      back = swapped p old other before

      return : AreAlikeWorlds p later new
      return = swapped p new later after

      added : h.added ≡ g.added
      added = sorted_same full_total h.added g.added h.are_added.ascending g.are_added.ascending
          (λ z c. (g.are_added.members z).1 (added_alike p old new other later before after z ((h.are_added.members z).0 c)))
          (λ z c. (h.are_added.members z).1 (added_alike p other later old new back return z ((g.are_added.members z).0 c)))

      removed : h.removed ≡ g.removed
      removed = sorted_same full_total h.removed g.removed h.are_removed.ascending g.are_removed.ascending
          (λ z c. (g.are_removed.members z).1 (removed_alike p old new other later before after z ((h.are_removed.members z).0 c)))
          (λ z c. (h.are_removed.members z).1 (removed_alike p other later old new back return z ((g.are_removed.members z).0 c)))

      there : ToldAlike h.updated g.updated
      there id e = (
        λ c. (g.are_updated.members id).1 (updated_alike p old new other later before after root id e ((h.are_updated.members id).0 c)),
        λ c. (h.are_updated.members id).1 (updated_alike p other later old new back return root id (to_open id e) ((g.are_updated.members id).0 c)),
      )

      updated : filter k h.updated ≡ filter k g.updated
      updated = sorted_same full_total (filter k h.updated) (filter k g.updated)
          (IsStrictlySortedBy-filter full_cmp k h.updated h.are_updated.ascending)
          (IsStrictlySortedBy-filter full_cmp k g.updated g.are_updated.ascending)
          (λ z c. let f = from_filter k h.updated z c in to_filter k g.updated z ((there z f.1).0 f.0) f.1)
          (λ z c. let f = from_filter k g.updated z c in to_filter k h.updated z ((there z f.1).1 f.0) f.1)

      of_updated : filter s (map Updated h.updated) ≡ filter s (map Updated g.updated)
      of_updated = shown_updated p old new h.updated ∙ ap (map Updated) updated ∙ sym (shown_updated p old new g.updated)

      of_focus : filter s h.of_focus ≡ filter s g.of_focus
      of_focus = focus_alike h.updated g.updated there h.of_focus g.of_focus h.are_of_focus g.are_of_focus

      parts : filter s (map Added h.added) ++ filter s (map Updated h.updated) ++ filter s h.of_focus ++ filter s (map Removed h.removed)
          ≡ filter s (map Added g.added) ++ filter s (map Updated g.updated) ++ filter s g.of_focus ++ filter s (map Removed g.removed)
      parts i = filter s (map Added (added i)) ++ of_updated i ++ of_focus i ++ filter s (map Removed (removed i))
