-- What is said where no node is found: which come near.
use Rattle.std.specs.Prelude.{ℕ, true, false, List, [], ◌∷◌, ◌++◌, codes, flat_map, Option, Some, None}
use Rattle.std.specs.Option.{option_or}
use Rattle.model.specs.declared.FullNodeId.{FullNodeId}
use Rattle.model.specs.World.{World}
use Rattle.atree_script.specs.Printed.{id_text}
use Rattle.hidden_texts.specs.Shown.{shown_value}
use Rattle.find.specs.Found.{found}
use Rattle.find.specs.Wanted.{Sought}
use Rattle.find.specs.Printed.{name_text, quoted}
use Rattle.find.specs.declared.wanted.Roles.{Roles}
use Rattle.find.specs.declared.wanted.Roles.TheVariants.{One, Aria, Any}

-- the text that is sought
abbrev pub sought_text : Sought → Option (List ℕ)
sought_text sought = option_or sought.label (option_or sought.text sought.any)

-- what has the text in any of its texts, in part and in any case, with any role
abbrev pub with_text_like : List ℕ → Sought
with_text_like text =
    record {
      roles = Any;
      level = None;
      label = None;
      text = None;
      any = Some text;
      matching = record { is_part = true; ignores_case = true; is_exact = false };
    }

-- what has the role and the level, with any texts
abbrev pub with_role_of : Sought → Sought
with_role_of sought = record sought { label = None; text = None; any = None }

-- the value, if it may be shown
abbrev pub value_text : Option (List ℕ) → List ℕ
value_text None = []
value_text (Some value) = codes " value" ++ quoted (Some value)

-- a line about a node that comes near: how, its id, its role, its label and its value
abbrev pub near_line : List ℕ → World → FullNodeId → List ℕ
near_line how w id = codes "  " ++ how ++ id_text id ++ name_text w id ++ value_text (shown_value w id) ++ codes "\n"

abbrev pub near_lines : List ℕ → World → List FullNodeId → List ℕ
near_lines how w ids = flat_map (near_line how w) ids

-- the nodes with a text like the sought one, if one is sought
abbrev pub like_lines : World → FullNodeId → Option (List ℕ) → List ℕ
like_lines w top None = []
like_lines w top (Some text) = near_lines (codes "like ") w (found (with_text_like text) w top)

-- those with the role and the level, if roles are sought
abbrev pub role_lines : Roles → Sought → World → FullNodeId → List ℕ
role_lines (One role) sought w top = near_lines (codes "role ") w (found (with_role_of sought) w top)
role_lines (Aria name) sought w top = near_lines (codes "role ") w (found (with_role_of sought) w top)
role_lines Any sought w top = []

abbrev pub near_text : Sought → World → FullNodeId → List ℕ
near_text sought w top = like_lines w top (sought_text sought) ++ role_lines sought.roles sought w top

-- that is said of none
abbrev pub hints : Sought → World → FullNodeId → List FullNodeId → List ℕ
hints sought w top [] = near_text sought w top
hints sought w top (id ∷ ids) = []
