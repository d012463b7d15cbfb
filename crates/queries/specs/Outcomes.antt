-- What a query for one node gives, and what its error tells.
use Rattle.std.specs.Prelude.{◌≡◌, ◌<◌, ℕ, ⊤, List, [], ◌∷◌, map, length, Option, Some, None, option_map, string_bytes, String, Result, Ok, Err}
use Rattle.std.specs.Borrow.{Bor}
use Rattle.views.specs.declared.node.node_ref.NodeRef.{NodeRef}
use Rattle.views.specs.Nodes.{id_at}
use Rattle.queries.specs.declared.by.Wanted.{Wanted}
use Rattle.queries.specs.Near.{IsNear}
use Rattle.queries.specs.declared.error.Sought.{Sought}
use Rattle.queries.specs.declared.error.QueryError.{QueryError}
use Rattle.queries.specs.declared.error.QueryError.TheVariants.{NotFound, Several, Memory}

-- a copy of a text that is asked for
abbrev pub IsCopy : {Z : Type 0} → Option (Bor (List ℕ)) → Option (String Z) → Type 0
IsCopy text copy = option_map string_bytes copy ≡ option_map (λ t. t.now) text

-- it tells what is wanted
pub record Tells (wanted : Wanted) (sought : Sought) : Type 0 where
  pub role : sought.role ≡ wanted.role
  pub label : IsCopy wanted.label sought.label
  pub label_part : IsCopy wanted.label_part sought.label_part
  pub text : IsCopy wanted.text sought.text
  pub value : IsCopy wanted.value sought.value
  pub description : IsCopy wanted.description sought.description

-- of nodes of which Found says that they are all that was found: at most one, or an error that lists several in order
abbrev pub IsOptional : Wanted → (List NodeRef → Type 0) → Result (Option NodeRef) QueryError → Type 0
IsOptional wanted Found (Ok None) = Found []
IsOptional wanted Found (Ok (Some n)) = Found (n ∷ [])
IsOptional wanted Found (Err (NotFound sought near)) = ⊥
IsOptional wanted Found (Err (Several sought ids)) =
    Tells wanted sought × ((found : List NodeRef) × Found found × (1 < length found) × (ids.items ≡ map id_at found))
IsOptional wanted Found (Err Memory) = ⊤

-- the same where one has to be found; of nodes of which Searched says that they are all that was searched
abbrev pub IsOne : Wanted → (List NodeRef → Type 0) → (List NodeRef → Type 0) → Result NodeRef QueryError → Type 0
IsOne wanted Searched Found (Ok n) = Found (n ∷ [])
IsOne wanted Searched Found (Err (NotFound sought near)) =
    Tells wanted sought × Found [] × ((nodes : List NodeRef) × Searched nodes × IsNear wanted.role nodes near)
IsOne wanted Searched Found (Err (Several sought ids)) =
    Tells wanted sought × ((found : List NodeRef) × Found found × (1 < length found) × (ids.items ≡ map id_at found))
IsOne wanted Searched Found (Err Memory) = ⊤
