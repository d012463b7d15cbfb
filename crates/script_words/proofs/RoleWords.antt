-- The names of roles are words, and a role's name in the table stands beside that role alone.
use Rattle.std.proofs.Common.{◌≡◌, ℕ, ◌<◌, ◌≤◌, ◌+◌, List, [], ◌∷◌, ◌++◌, length, drop, map, codes, slice_index_or, Bool, true, false, true≢false, is_none, MatchOption, subst, if◌then◌else◌, Option, Some, None, Bor, ◌⊎◌, inl, inr, ⊎_elim, refl, ap, ap₂, eq-eqb, sym, ◌∙◌, arith}
use Rattle.std.specs.Fmt.{decimal}
use Rattle.std.specs.List.{range_with_len, list_all}
use Rattle.std.specs.Str.{bytes_eq}
use Rattle.std.proofs.lemmas.Bool.{and_parts, cases_Bool, cond-true, cond-false}
use Rattle.std.proofs.lemmas.List.{drop_more}
use Rattle.std.proofs.lemmas.Option.{none-some, same_Some}
use Rattle.std.proofs.lemmas.Slice.Eq.{bytes_eq-Decides}
use Rattle.std.proofs.Math.ListN.{drop_of_length-le}
use Rattle.std.proofs.lemmas.Simd.{map-map}
use Rattle.schema.specs.declared.Role.{Role}
use Rattle.schema.specs.declared.Role.TheVariants as role
use Rattle.schema.specs.RoleNames.{role_name, role_text, other_number, with_number}
use Rattle.schema.specs.Roles.{role_number, same_role-decides}
use Rattle.script_words.specs.NamedIn.{first_named, named_in}
use Rattle.script_words.specs.NameLists.{all_roles}
use Rattle.script_words.specs.Reading.{IsRole, IsShort, IsWord}
use Rattle.script_words.specs.Says.{SaysOther, SaysRole}
use Rattle.script_words.proofs.Decimals.{decimal_lacks}
use Rattle.script_words.proofs.Lacking.{lacks_append, lacks_by}
use Rattle.script_words.proofs.NamedTables.{in_table}

-- ---- what stands beside a word in a table, from an index on

pub named_at : {T : Type 0} (word : List ℕ) (table : List (Bor (List ℕ) × T)) (i : ℕ) (entry : Bor (List ℕ) × T) → i < length table → entry ≡ slice_index_or table i entry → named_in word (drop i table) ≡ named_in word (entry ∷ drop (i + 1) table)
named_at word table i entry low is = ap (named_in word) (drop_more table i entry low ∙ ap (λ e. e ∷ drop (i + 1) table) (sym is))

pub named_here : {T : Type 0} (word : List ℕ) (table : List (Bor (List ℕ) × T)) (i : ℕ) (entry : Bor (List ℕ) × T) → i < length table → entry ≡ slice_index_or table i entry → bytes_eq entry.0.now word ≡ true → named_in word (drop i table) ≡ Some entry.1
unfolding named_in
named_here word table i entry low is e = named_at word table i entry low is ∙ cond-true _ _ _ e

pub named_later : {T : Type 0} (word : List ℕ) (table : List (Bor (List ℕ) × T)) (i : ℕ) (entry : Bor (List ℕ) × T) → i < length table → entry ≡ slice_index_or table i entry → bytes_eq entry.0.now word ≡ false → named_in word (drop i table) ≡ named_in word (drop (i + 1) table)
unfolding named_in
named_later word table i entry low is e = named_at word table i entry low is ∙ cond-false _ _ _ e

pub named_nowhere : {T : Type 0} (word : List ℕ) (table : List (Bor (List ℕ) × T)) (i : ℕ) → length table ≤ i → named_in word (drop i table) ≡ None
unfolding named_in
named_nowhere word table i high = ap (named_in word) (drop_of_length-le table high)

-- ---- the roles by their names

same_numbers : (xs ys : List Role) → map role_number xs ≡ map role_number ys → xs ≡ ys
same_numbers [] [] e = refl
same_numbers [] (y ∷ ys) e = cc
same_numbers (x ∷ xs) [] e = cc
same_numbers (x ∷ xs) (y ∷ ys) e =
    let first : role_number x ≡ role_number y = cc in let rest : map role_number xs ≡ map role_number ys = cc in
    ap₂ (λ r rs. r ∷ rs) ((same_role-decides x y).0 (eq-eqb (role_number x) (role_number y) first)) (same_numbers xs ys rest)

-- a role is found by its name; an other one by none
pub role_found : (r : Role) → (first_named role_name (role_text r) all_roles ≡ Some r) ⊎ ((n : ℕ) × (r ≡ role.Other n) × (first_named role_name (role_text r) all_roles ≡ None))
unfolding first_named all_roles
role_found (role.Other n) = inr (n, refl, refl)
role_found _ = inl refl

pub role_in_table : (table : List (Bor (List ℕ) × Role)) → map (λ e. e.0.now) table ≡ map (λ e. role_name e.1) table → map (λ e. role_number e.1) table ≡ range_with_len 0 72 → (r : Role) → (named_in (role_text r) table ≡ Some r) ⊎ ((n : ℕ) × (r ≡ role.Other n) × (named_in (role_text r) table ≡ None))
unfolding all_roles
role_in_table table names roles r =
    let all : map (λ e. e.1) table ≡ all_roles = same_numbers (map (λ e. e.1) table) all_roles (map-map role_number (λ e. e.1) table ∙ roles) in
    let by : named_in (role_text r) table ≡ first_named role_name (role_text r) all_roles = in_table role_name table names (role_text r) ∙ ap (first_named role_name (role_text r)) all in
    ⊎_elim (λ e. inl (by ∙ e)) (λ k. inr (k.0, k.1, by ∙ k.2)) (role_found r)

-- ---- which role a word says

-- whether a role has no number
plain : Role → Bool
plain r = is_none (other_number r)

no_number : (o : Option ℕ) → is_none o ≡ true → o ≡ None
no_number None t = refl
no_number (Some n) t = absurd (true≢false (sym t))

-- a role that is found is called so
role_by_called : (word : List ℕ) (rs : List Role) (r : Role) → list_all plain rs ≡ true → first_named role_name word rs ≡ Some r → (word ≡ role_name r) × (plain r ≡ true)
unfolding first_named
role_by_called word [] r all e = absurd (none-some r e)
role_by_called word (x ∷ rs) r all e =
    let k = and_parts (plain x) (list_all plain rs) all in
    ⊎_elim
    (λ t. let same : x ≡ r = same_Some x r (sym (cond-true _ _ _ t) ∙ e) in (sym ((bytes_eq-Decides (role_name x) word).0 t) ∙ ap role_name same, ap plain (sym same) ∙ k.0))
    (λ f. role_by_called word rs r k.1 (sym (cond-false _ _ _ f) ∙ e))
    (cases_Bool (bytes_eq (role_name x) word))

all_plain : list_all plain all_roles ≡ true
unfolding plain all_roles
all_plain = refl

plain_is_role : (r : Role) → plain r ≡ true → IsRole r
unfolding plain
plain_is_role r t code e = absurd (true≢false (sym t ∙ ap (λ r. is_none (other_number r)) e))

plain_says : (word : List ℕ) (r : Role) → plain r ≡ true → word ≡ role_name r → SaysRole word r
unfolding plain
plain_says word r t e = subst (λ o. MatchOption o (word ≡ role_name r) (SaysOther word)) (sym (no_number (other_number r) t)) e

pub other_is_role : (n : ℕ) → IsShort n → IsRole (role.Other n)
other_is_role n h code e = let same : n ≡ code = cc in subst IsShort same h

-- no name in the table has a number in brackets
other_not_by_name : (digits : List ℕ) → first_named role_name (codes "Other(" ++ digits ++ codes ")") all_roles ≡ None
unfolding first_named all_roles
other_not_by_name digits = refl

-- the name of a role, as it is said
said_text : (word name : List ℕ) (o : Option ℕ) → MatchOption o (word ≡ name) (SaysOther word) → (word ≡ with_number name o) ⊎ ((n : ℕ) × (o ≡ Some n) × SaysOther word n)
said_text word name None s = inl s
said_text word name (Some n) s = inr (n, refl, s)

module _ (table : List (Bor (List ℕ) × Role)) (names : map (λ e. e.0.now) table ≡ map (λ e. role_name e.1) table) (roles : map (λ e. role_number e.1) table ≡ range_with_len 0 72) where
  pub by_name : (word : List ℕ) → named_in word table ≡ first_named role_name word all_roles
  unfolding all_roles
  by_name word = in_table role_name table names word ∙ ap (first_named role_name word) (same_numbers (map (λ e. e.1) table) all_roles (map-map role_number (λ e. e.1) table ∙ roles))

  -- what the table has beside a word is what the word says
  pub table_says : (word : List ℕ) (r : Role) → named_in word table ≡ Some r → IsRole r × SaysRole word r
  table_says word r e = let k = role_by_called word all_roles r all_plain (sym (by_name word) ∙ e) in (plain_is_role r k.1, plain_says word r k.1 k.0)

  not_in_table : (word : List ℕ) (n : ℕ) → SaysOther word n → named_in word table ≡ None
  not_in_table word n s = ap (λ w. named_in w table) s.1 ∙ by_name (codes "Other(" ++ s.0 ++ codes ")") ∙ other_not_by_name s.0

  -- what a word says, the table has beside it, or it is an other role, and the table has none
  pub said_in_table : (word : List ℕ) (r : Role) → IsRole r → SaysRole word r → (named_in word table ≡ Some r) ⊎ ((n : ℕ) × (r ≡ role.Other n) × (IsShort n × SaysOther word n) × (named_in word table ≡ None))
  unfolding plain
  said_in_table word r h s = ⊎_elim
      (λ there. ⊎_elim (λ w. inl (ap (λ w. named_in w table) w ∙ there))
      (λ k. let none = (role_by_called (role_text r) all_roles r all_plain (sym (by_name (role_text r)) ∙ there)).1 in absurd (true≢false (sym none ∙ ap is_none k.1)))
      (said_text word (role_name r) (other_number r) s))
      (λ k. let o : SaysOther word k.0 = subst (SaysRole word) k.1 s in inr (k.0, k.1, (h k.0 k.1, o), not_in_table word k.0 o))
      (role_in_table table names roles r)

pub role_is_word : (r : Role) → IsRole r → IsWord (role_text r)
role_is_word (role.Other n) h =
    (lacks_append 32 (codes "Other(") (decimal n ++ codes ")") (lacks_by 32 (codes "Other(") refl) (lacks_append 32 (decimal n) (codes ")") (decimal_lacks 32 (omega arith) n (omega (arith, h n refl))) (lacks_by 32 (codes ")") refl)), omega arith)
role_is_word r h = (lacks_by 32 (role_text r) refl, omega arith)
