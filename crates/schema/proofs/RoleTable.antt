-- What stands at a role's number in the table of roles' names.
use Rattle.std.specs.Prelude.{ℕ, ◌<◌, List, [], length, map}
use Rattle.std.specs.List.{range_with_len}
use Rattle.std.proofs.Common.{◌≡◌, ◌∙◌, sym, ap, subst, eq-eqb, get_or, zero-add, Bor}
use Rattle.std.proofs.lemmas.List.{get_or-map, length-map}
use Rattle.std.proofs.lemmas.List.FromFn.{get_or-range_with_len}
use Rattle.schema.specs.declared.Role.{Role}
use Rattle.schema.specs.RoleNames.{role_name}
use Rattle.schema.specs.Roles.{role_number, same_role-decides}

-- the name of a role whose number is in the table
pub table_name : (table : List (Bor (List ℕ) × Role)) (n : ℕ) (d : Bor (List ℕ) × Role) (r : Role) →
    map (λ e. e.0.now) table ≡ map (λ e. role_name e.1) table →
    map (λ e. role_number e.1) table ≡ range_with_len 0 72 →
    n ≡ role_number r → role_number r < 72 → (get_or table n d).0.now ≡ role_name r
table_name table n d r names roles is below =
    sym (get_or-map (λ e. e.0.now) table n d [] within)
    ∙ ap (λ xs. get_or xs n []) names
    ∙ get_or-map (λ e. role_name e.1) table n d [] within
    ∙ ap role_name role
  where
    low : n < 72
    low = subst (λ k. k < 72) (sym is) below

    within : n < length table
    within = subst (λ k. n < k) (sym (sym (length-map table (λ e. role_number e.1)) ∙ ap length roles)) low

    number : role_number (get_or table n d).1 ≡ role_number r
    number = sym (get_or-map (λ e. role_number e.1) table n d 0 within) ∙ ap (λ xs. get_or xs n 0) roles ∙ get_or-range_with_len 0 72 n 0 low ∙ zero-add n ∙ is

    role : (get_or table n d).1 ≡ r
    role = (same_role-decides (get_or table n d).1 r).0 (eq-eqb (role_number (get_or table n d).1) (role_number r) number)
