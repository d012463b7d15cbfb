-- What is known of subtrees while rows are compared from the last to the first.
use Rattle.std.proofs.Common.{◌≡◌, ℕ, suc, ◌+◌, ◌-◌, nat_lt, ◌<◌, Bool, true, false, ◌&&◌, List, [], ◌∷◌, ◌++◌, length, drop, get_or, drop-cons, Option, Some, None, refl, sym, ap, ◌∙◌, arith}
use Rattle.std.specs.Prelude.{◌↔◌, All, is_some, if◌then◌else◌, reverse}
use Rattle.std.specs.List.{list_all}
use Rattle.std.proofs.lemmas.Bool.{lt-ltb, ltb-true}
use Rattle.std.proofs.lemmas.List.{reverse-append}
use Rattle.std.proofs.lemmas.List.Elements.{All-cons, All-head, All-nil, All-tail}
use Rattle.page_states.specs.declared.again.Same.{Same}
use Rattle.page_states.specs.declared.again.Subtree.{Subtree}
use Rattle.page_states.specs.declared.rows.Shown.{Shown}
use Rattle.page_states.specs.Again.{after_deeper, below, deeper, depth_shown, Finds, IsAllIn, IsInAny}
use Rattle.page_states.specs.Subtrees.{if_all, subtree_depth, Tells}

-- ---- tests

and_both : (a b : Bool) → (a && b) ≡ true → (a ≡ true) × (b ≡ true)
and_both true b e = (refl, e)
and_both false b e = cc

and_true : (a b : Bool) → a ≡ true → b ≡ true → (a && b) ≡ true
and_true a b p q = ap (λ x. x && b) p ∙ q

and_assoc : (a b c : Bool) → ((a && b) && c) ≡ (a && (b && c))
and_assoc true b c = refl
and_assoc false b c = refl

and_turned : (a b c : Bool) → (b && (a && c)) ≡ ((a && b) && c)
and_turned true true c = refl
and_turned true false c = refl
and_turned false true c = refl
and_turned false false c = refl

lt_trans : (a b c : ℕ) → nat_lt a b ≡ true → nat_lt b c ≡ true → nat_lt a c ≡ true
lt_trans a b c p q = lt-ltb a c (omega (arith, ltb-true a b p, ltb-true b c q))

-- a state that is there if others are
some_if : (all : Bool) (own : Option ℕ) → is_some (if all then own else None) ≡ (all && is_some own)
some_if true own = refl
some_if false own = refl

-- one more is asked for
pub if_one_more : (has : Subtree → Bool) (child : Subtree) (below : List Subtree) (state : Option ℕ) →
    if_all has below (if has child then state else None) ≡ if_all has (child ∷ below) state
if_one_more has child below state = go (has child) (list_all has below)
  where
    go : (one others : Bool) → (if others then (if one then state else None) else None) ≡ (if one && others then state else None)
    go true true = refl
    go true false = refl
    go false true = refl
    go false false = refl

-- the last of a list is the first of the list from its end
pub reverse_push : {A : Type 0} (xs ys : List A) (x : A) → ys ≡ xs ++ x ∷ [] → reverse ys ≡ x ∷ reverse xs
reverse_push xs ys x e = ap reverse e ∙ reverse-append xs (x ∷ [])

-- the last items, and the one before them
pub one_before : {A : Type 0} (xs : List A) (step : ℕ) (x : A) → step < length xs → x ≡ get_or xs (length xs - 1 - step) x →
    drop (length xs - (step + 1)) xs ≡ x ∷ drop (length xs - step) xs
one_before xs step x within is =
    let first : length xs - (step + 1) ≡ length xs - 1 - step = omega arith in
    let next : suc (length xs - 1 - step) ≡ length xs - step = omega arith in
    ap (λ n. drop n xs) first ∙ drop-cons xs (length xs - 1 - step) x (omega arith) ∙ λ i. sym is i ∷ drop (next i) xs

-- ---- a list by depth

module _ {A : Type 0} (depth_of : A → ℕ) where
  -- the first is deeper, or isn't
  pub first_deeper : (depth : ℕ) (x : A) (xs : List A) → nat_lt depth (depth_of x) ≡ true → deeper depth_of depth (x ∷ xs) ≡ x ∷ deeper depth_of depth xs
  first_deeper depth x xs e = ap (λ b. if b then x ∷ deeper depth_of depth xs else []) e

  pub first_after : (depth : ℕ) (x : A) (xs : List A) → nat_lt depth (depth_of x) ≡ true → after_deeper depth_of depth (x ∷ xs) ≡ after_deeper depth_of depth xs
  first_after depth x xs e = ap (λ b. if b then after_deeper depth_of depth xs else x ∷ xs) e

  module _ (has : A → Bool) where
    -- those deeper than one depth are those deeper than a greater one, and those of the rest
    pub all_split : (upper lower : ℕ) → ((n : ℕ) → nat_lt lower n ≡ true → nat_lt upper n ≡ true) → (items : List A) →
        list_all has (deeper depth_of upper items) ≡ (list_all has (deeper depth_of lower items) && list_all has (deeper depth_of upper (after_deeper depth_of lower items)))
    all_split upper lower deep [] = refl
    all_split upper lower deep (x ∷ xs) = go (nat_lt lower (depth_of x)) refl (all_split upper lower deep xs)
      where
        split : Bool → Bool
        split b = list_all has (if b then x ∷ deeper depth_of lower xs else []) && list_all has (deeper depth_of upper (if b then after_deeper depth_of lower xs else x ∷ xs))

        go : (b : Bool) → nat_lt lower (depth_of x) ≡ b →
            list_all has (deeper depth_of upper xs) ≡ (list_all has (deeper depth_of lower xs) && list_all has (deeper depth_of upper (after_deeper depth_of lower xs))) →
            list_all has (deeper depth_of upper (x ∷ xs)) ≡ split (nat_lt lower (depth_of x))
        go true e others =
            ap (λ b. list_all has (if b then x ∷ deeper depth_of upper xs else [])) (deep (depth_of x) e)
            ∙ ap (λ b. has x && b) others
            ∙ sym (and_assoc (has x) (list_all has (deeper depth_of lower xs)) (list_all has (deeper depth_of upper (after_deeper depth_of lower xs))))
            ∙ sym (ap split e)
        go false e others = sym (ap split e)

-- ---- one more node

module _ (IsIn : Shown → ℕ → Type 0) (has : Subtree → Bool) (next : Shown) (shown : List Shown) (subtrees : List Subtree) (tells : Tells IsIn has shown subtrees) where
  abbrev all_below : Bool
  all_below = list_all has (deeper subtree_depth (depth_shown next) subtrees)

  abbrev rest : List Subtree
  rest = after_deeper subtree_depth (depth_shown next) subtrees

  finds_if : (all : Bool) (own : Option ℕ) → All (IsInAny IsIn) (below next shown) ↔ (all ≡ true) → Finds (IsIn next) own →
      Finds (IsAllIn IsIn shown next) (if all then own else None)
  finds_if true (Some state) says is = (is, says.1 refl)
  finds_if true None says none = λ state both. none state both.0
  finds_if false own says is = λ state both. let e = says.0 both.1 in cc

  -- where it was shown with all below it
  pub finds_all : (own : Option ℕ) → Finds (IsIn next) own → Finds (IsAllIn IsIn shown next) (if_all has (deeper subtree_depth (depth_shown next) subtrees) own)
  finds_all own is = finds_if all_below own (tells (depth_shown next)) is

  found : (own : Option ℕ) → Finds (IsIn next) own → IsInAny IsIn next → is_some own ≡ true
  found None none any = absurd (none any.0 any.1)
  found (Some state) is any = refl

  there : (own : Option ℕ) → Finds (IsIn next) own → is_some own ≡ true → IsInAny IsIn next
  there None none e = cc
  there (Some state) is e = (state, is)

  module _ (own : Option ℕ) (is : Finds (IsIn next) own) (entry : Same) where
    abbrev made : Subtree
    made = record { depth = depth_shown next; same = entry }

    module _ (has_it : has made ≡ is_some (if_all has (deeper subtree_depth (depth_shown next) subtrees) own)) (depth : ℕ) where
      abbrev claim : Bool → Type 0
      claim b = All (IsInAny IsIn) (if b then next ∷ deeper depth_shown depth shown else []) ↔ (list_all has (if b then made ∷ deeper subtree_depth depth rest else []) ≡ true)

      abbrev all_here : Bool
      all_here = list_all has (deeper subtree_depth depth subtrees)

      abbrev all_rest : Bool
      all_rest = list_all has (deeper subtree_depth depth rest)

      whole : nat_lt depth (depth_shown next) ≡ true → (has made && all_rest) ≡ (is_some own && all_here)
      whole e =
          ap (λ b. b && all_rest) (has_it ∙ some_if all_below own)
          ∙ sym (and_turned all_below (is_some own) all_rest)
          ∙ ap (λ b. is_some own && b) (sym (all_split subtree_depth has depth (depth_shown next) (λ n q. lt_trans depth (depth_shown next) n e q) subtrees))

      claims : (b : Bool) → nat_lt depth (depth_shown next) ≡ b → claim b
      claims false e = (λ _. refl, λ _. All-nil (IsInAny IsIn))
      claims true e = (
        λ h.
            whole e
            ∙ and_true (is_some own) all_here (found own is (All-head (IsInAny IsIn) next (deeper depth_shown depth shown) h))
            ((tells depth).0 (All-tail (IsInAny IsIn) next (deeper depth_shown depth shown) h)),
        λ t.
            let both = and_both (is_some own) all_here (sym (whole e) ∙ t) in
            All-cons (IsInAny IsIn) next (deeper depth_shown depth shown) (there own is both.0) ((tells depth).1 both.1),
      )

    -- the subtrees tell of it too
    pub tells_more : has made ≡ is_some (if_all has (deeper subtree_depth (depth_shown next) subtrees) own) → Tells IsIn has (next ∷ shown) (made ∷ rest)
    tells_more has_it depth = claims has_it depth (nat_lt depth (depth_shown next)) refl
