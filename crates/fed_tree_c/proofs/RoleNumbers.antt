-- Roles by their numbers.
use Rattle.std.proofs.Common.{◌≡◌, ◌⊎◌, ℕ, ◌+◌, ◌-◌, ◌<◌, ◌≤◌, ◌^◌, cond, ltb, List, map, length, get_or, Some, None, option_map, Bor, inl, inr, sym, ap, ◌∙◌, arith, eq-eqb}
use Rattle.std.proofs.lemmas.Bool.{cases_lt}
use Rattle.std.proofs.lemmas.Bool.Decides.{nat_tests}
use Rattle.std.proofs.lemmas.List.FromFn.{get_or-range_with_len, length-range_with_len}
use Rattle.std.proofs.lemmas.List.{length-map}
use Rattle.std.proofs.lemmas.Option.{none-some, slice_get-map, slice_get_cases, slice_get_within, get_or_from_slice_get}
use Rattle.std.specs.List.{range_with_len, slice_get}
use Rattle.schema.specs.Roles.{role_number, same_role-decides}
use Rattle.schema.specs.declared.Role.{Role}
use Rattle.schema.specs.declared.Role.TheVariants.{Other}
use Rattle.fed_tree_c.specs.Numbers.{IsRoleNumbered, role_code}

-- two roles of one number are one
one_role : (a b : Role) → role_number a ≡ role_number b → a ≡ b
one_role a b e = (same_role-decides a b).0 (eq-eqb (role_number a) (role_number b) e)

-- a number below 72 stays, and another is counted from 2^16
below : (n : ℕ) → n < 72 → cond (ltb n 72) n (65536 + (n - 72)) ≡ n
below n h = grind (arith, nat_tests)

above : (n : ℕ) → 72 ≤ n → cond (ltb n 72) n (65536 + (n - 72)) ≡ 65536 + (n - 72)
above n h = grind (arith, nat_tests)

-- the role without a name that has this number in its own count
code_of_other : (m : ℕ) → role_code (Other m) ≡ 65536 + m
code_of_other m = above (72 + m) (omega arith) ∙ omega arith

abbrev number_of : Bor (List ℕ) × Role → ℕ
number_of entry = role_number entry.1

module _ (table : List (Bor (List ℕ) × Role)) (roles : map number_of table ≡ range_with_len 0 72) (n : ℕ) where
  -- a role of the table has its place as its number, which isn't that of a role without a name
  pub is_named : (entry : Bor (List ℕ) × Role) → Some entry ≡ slice_get table n → IsRoleNumbered n (Some entry.1)
  is_named entry is =
      let got : slice_get (range_with_len 0 72) n ≡ Some (number_of entry) =
      ap (λ (xs : List ℕ). slice_get xs n) (sym roles) ∙ slice_get-map number_of table n ∙ ap (option_map number_of) (sym is) in
      let within : n < 72 =
      omega (arith, slice_get_within (range_with_len 0 72) n (number_of entry) got, length-range_with_len 0 72) in
      let a = get_or_from_slice_get (range_with_len 0 72) n (number_of entry) 0 got in
      let b = get_or-range_with_len 0 72 n 0 within in
      let its : role_number entry.1 ≡ n = omega (arith, a, b) in
      let small : role_number entry.1 < 72 = omega (arith, its, within) in
      (λ code e. let c = ap role_number e in absurd (omega (arith, c, its, within)), below (role_number entry.1) small ∙ its)

  -- the table has 72
  has_72 : length table ≡ 72
  has_72 = sym (length-map table number_of) ∙ ap length roles ∙ length-range_with_len 0 72

  abbrev IsWithin : Type 0
  IsWithin = (x : Bor (List ℕ) × Role) × (n < length table) × (slice_get table n ≡ Some x) × (get_or table n x ≡ x)

  past_by : slice_get table n ≡ None → IsWithin ⊎ ((length table ≤ n) × (slice_get table n ≡ None)) → 72 ≤ n
  past_by none (inl h) = absurd (none-some h.0 (sym none ∙ h.2))
  past_by none (inr h) = omega (arith, has_72, h.0)

  -- a number past it is no place in it
  pub is_past : None ≡ slice_get table n → 72 ≤ n
  is_past none = past_by (sym none) (slice_get_cases table n).1

-- ---- past the roles with names

module _ (n : ℕ) (past : 72 ≤ n) where
  -- no role is there up to 2^16
  pub is_between : n < 65536 → IsRoleNumbered n None
  is_between small role fits e = by_size (cases_lt (role_number role) 72)
    where
      by_size : (role_number role < 72) ⊎ (72 ≤ role_number role) → ⊥
      by_size (inl h) = let c = below (role_number role) h in absurd (omega (arith, past, c, e, h))
      by_size (inr h) = let c = above (role_number role) h in absurd (omega (arith, small, c, e))

-- and from there on the role without a name that has this number
module _ (n : ℕ) (past : 65536 ≤ n) where
  pub is_other : (m : ℕ) → m ≡ n - 65536 → m < 2 ^ 16 → IsRoleNumbered n (Some (Other m))
  is_other m is fits =
      let c = code_of_other m in
      (λ code e. let d = ap role_number e in omega (arith, d, fits), omega (arith, past, is, c))

  -- there is none where its number has more than 16 bits
  pub is_none : ¬ (n - 65536 < 2 ^ 16) → IsRoleNumbered n None
  is_none big role fits e = by_size (cases_lt (role_number role) 72)
    where
      by_size : (role_number role < 72) ⊎ (72 ≤ role_number role) → ⊥
      by_size (inl h) = let c = below (role_number role) h in absurd (omega (arith, past, c, e, h))
      by_size (inr h) =
          let c = above (role_number role) h in
          let m = role_number role - 72 in
          let same : role_number role ≡ role_number (Other m) = omega (arith, h) in
          let small : m < 2 ^ 16 = fits m (one_role role (Other m) same) in
          big (omega (arith, past, c, e, h, small))
