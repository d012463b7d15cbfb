-- What the message of an error says.
use Rattle.std.specs.Prelude.{ℕ, List, [], ◌++◌, codes, decimal, flat_map, length, Option, Some, None, option_map, string_bytes, String}
use Rattle.phrases.specs.Quoted.{quoted}
use Rattle.schema.specs.declared.Role.{Role}
use Rattle.schema.specs.RoleNames.{role_text}
use Rattle.model.specs.declared.FullNodeId.{FullNodeId}
use Rattle.queries.specs.declared.error.Near.{Near}
use Rattle.queries.specs.declared.error.Near.TheVariants.{Labels, Roles}
use Rattle.queries.specs.declared.error.Sought.{Sought}
use Rattle.queries.specs.declared.error.QueryError.{QueryError}
use Rattle.queries.specs.declared.error.QueryError.TheVariants.{NotFound, Several, Memory}

-- the role, or that it is a node
abbrev pub what_text : Option Role → List ℕ
what_text None = codes "node"
what_text (Some role) = role_text role

-- a text in quotes with a word for what it is, after a comma
abbrev pub asked_text : List ℕ → Option (List ℕ) → List ℕ
asked_text what None = []
asked_text what (Some text) = codes ", " ++ what ++ codes " " ++ quoted text

-- what was asked for: the role, and each text
abbrev pub sought_text : Sought → List ℕ
sought_text s =
    what_text s.role
    ++ asked_text (codes "label") (option_map string_bytes s.label)
    ++ asked_text (codes "label with") (option_map string_bytes s.label_part)
    ++ asked_text (codes "text") (option_map string_bytes s.text)
    ++ asked_text (codes "value") (option_map string_bytes s.value)
    ++ asked_text (codes "description") (option_map string_bytes s.description)

abbrev pub spaced_label : {Z : Type 0} → String Z → List ℕ
spaced_label label = codes " " ++ quoted (string_bytes label)

abbrev pub spaced_role : Role → List ℕ
spaced_role role = codes " " ++ role_text role

abbrev pub spaced_id : FullNodeId → List ℕ
spaced_id id = codes " " ++ decimal id.node.0

-- what there is in place of a node: the labels of its role, or the roles
abbrev pub near_text : Near → List ℕ
near_text (Labels labels) = codes "the labels of this role are" ++ flat_map spaced_label labels.items
near_text (Roles roles) = codes "the roles are" ++ flat_map spaced_role roles.items

abbrev pub error_text : QueryError → List ℕ
error_text (NotFound sought near) = codes "no " ++ sought_text sought ++ codes "; " ++ near_text near
error_text (Several sought found) =
    decimal (length found.items) ++ codes " nodes fit " ++ sought_text sought ++ codes ":" ++ flat_map spaced_id found.items
error_text Memory = codes "memory ran out"
