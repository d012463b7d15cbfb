-- What a query for one node gives, by what is found.
use Rattle.std.proofs.Common.{◌≡◌, ◌≤◌, List, [], ◌∷◌, length, refl, sym, subst, ◌∙◌, arith}
use Rattle.std.specs.Prelude.{Option, Some, None, Result, Ok, Err, slice_get}
use Rattle.views.specs.declared.node.node_ref.NodeRef.{NodeRef}
use Rattle.queries.specs.declared.by.Wanted.{Wanted}
use Rattle.queries.specs.declared.error.QueryError.{QueryError}
use Rattle.queries.specs.declared.error.QueryError.TheVariants.{NotFound, Several, Memory}
use Rattle.queries.specs.Outcomes.{IsOptional, IsOne}

-- the first of at most one
only : (wanted : Wanted) (found : List NodeRef) → length found ≤ 1 → IsOptional wanted (λ those. those ≡ found) (Ok (slice_get found 0))
only wanted [] short = refl
only wanted (n ∷ []) short = refl
only wanted (n ∷ m ∷ rest) short = absurd (omega (arith, short))

pub first_is_only : (wanted : Wanted) (found : List NodeRef) (r : Option NodeRef) → length found ≤ 1 → r ≡ slice_get found 0 → IsOptional wanted (λ those. those ≡ found) (Ok r)
first_is_only wanted found r short is = subst (λ o. IsOptional wanted (λ those. those ≡ found) (Ok o)) (sym is) (only wanted found short)

-- by another thing that holds of what is found
pub optional_by : (wanted : Wanted) (P Q : List NodeRef → Type 0) → ((found : List NodeRef) → P found → Q found) → (r : Result (Option NodeRef) QueryError) → IsOptional wanted P r → IsOptional wanted Q r
optional_by wanted P Q by (Ok None) is = by [] is
optional_by wanted P Q by (Ok (Some n)) is = by (n ∷ []) is
optional_by wanted P Q by (Err (NotFound sought near)) is = is
optional_by wanted P Q by (Err (Several sought ids)) is = (is.0, (is.1.0, by is.1.0 is.1.1, is.1.2, is.1.3))
optional_by wanted P Q by (Err Memory) is = tt

pub one_by : (wanted : Wanted) (R S P Q : List NodeRef → Type 0) → ((nodes : List NodeRef) → R nodes → S nodes) → ((found : List NodeRef) → P found → Q found) → (r : Result NodeRef QueryError) → IsOne wanted R P r → IsOne wanted S Q r
one_by wanted R S P Q among by (Ok n) is = by (n ∷ []) is
one_by wanted R S P Q among by (Err (NotFound sought near)) is = (is.0, by [] is.1, (is.2.0, among is.2.0 is.2.1, is.2.2))
one_by wanted R S P Q among by (Err (Several sought ids)) is = (is.0, (is.1.0, by is.1.0 is.1.1, is.1.2, is.1.3))
one_by wanted R S P Q among by (Err Memory) is = tt

-- an error of the one is an error of the other
pub error_as_one : (wanted : Wanted) (S P : List NodeRef → Type 0) (e : QueryError) → IsOptional wanted P (Err e) → IsOne wanted S P (Err e)
error_as_one wanted S P (NotFound sought near) is = absurd is
error_as_one wanted S P (Several sought ids) is = is
error_as_one wanted S P Memory is = tt

-- where those that were found are known
pub optional_of : (wanted : Wanted) (P : List NodeRef → Type 0) (nodes found : List NodeRef) (r : Result (Option NodeRef) QueryError) → nodes ≡ found → P found → IsOptional wanted (λ those. those ≡ nodes) r → IsOptional wanted P r
optional_of wanted P nodes found r same are is = optional_by wanted (λ those. those ≡ nodes) P (λ those e. subst P (sym (e ∙ same)) are) r is
