-- Whether a node has what is searched for.
use Rattle.std.specs.Prelude.{ℕ, Bool, true, false, ◌&&◌, ◌||◌, ◌==◌, List, Option, Some, None, option_map, if◌then◌else◌}
use Rattle.std.specs.Option.{option_map_or}
use Rattle.std.specs.String.{string_bytes}
use Rattle.matching.specs.Matches.{is_match}
use Rattle.matching.specs.declared.matches.Matching.{Matching}
use Rattle.schema.specs.NodeData.{NodeData}
use Rattle.schema.specs.Roles.{same_role}
use Rattle.schema.specs.declared.Role.{Role}
use Rattle.aria_roles.specs.Names.{has_aria_name}
use Rattle.model.specs.declared.FullNodeId.{FullNodeId}
use Rattle.model.specs.World.{World}
use Rattle.model.specs.Upward.{field_at, says}
use Rattle.hidden_texts.specs.Hidden.{is_in_password}
use Rattle.hidden_texts.specs.Shown.{shown_label, shown_value}
use Rattle.find.specs.declared.wanted.Roles.{Roles}
use Rattle.find.specs.declared.wanted.Roles.TheVariants.{One, Aria, Any}
use Rattle.find.specs.declared.wanted.Wanted.{Wanted}

-- whether a role is sought: it is this one, or has this name in ARIA, or each is
abbrev pub is_role : Roles → Role → Bool
is_role (One sought) role = same_role role sought
is_role (Aria name) role = has_aria_name role name.now
is_role Any role = true

-- whether a level is the sought one, if one is sought
abbrev pub is_level : Option ℕ → Option ℕ → Bool
is_level None own = true
is_level (Some sought) own = option_map_or (λ level. level == sought) own false

-- What is searched for: what a node has to have. Of what isn't asked for it is None.
pub record Sought : Type 0 where
  pub roles : Roles
  pub level : Option ℕ
  pub label : Option (List ℕ)
  pub text : Option (List ℕ)
  pub any : Option (List ℕ)
  pub matching : Matching

abbrev pub sought_of : Wanted → Sought
sought_of wanted =
    record {
      roles = wanted.roles;
      level = wanted.level;
      label = option_map string_bytes wanted.label;
      text = option_map string_bytes wanted.text;
      any = option_map string_bytes wanted.any;
      matching = wanted.matching;
    }

abbrev pub has_role : Sought → NodeData → Bool
has_role sought d = is_role sought.roles d.role && is_level sought.level d.level

-- whether a text that is there is the sought one, if one is sought
abbrev pub is_text : Matching → Option (List ℕ) → Option (List ℕ) → Bool
is_text how None own = true
is_text how (Some sought) own = option_map_or (is_match how sought) own false

-- a text that was sent of a node; none in a password
abbrev pub sent_text : (NodeData → Option (List ℕ)) → World → FullNodeId → Option (List ℕ)
sent_text text w id = if is_in_password w id then None else field_at text w id

-- whether one of the texts of a node is sought
abbrev pub has_any_text : Matching → Option (List ℕ) → World → FullNodeId → Bool
has_any_text how sought w id =
    is_text how sought (shown_label w id) || is_text how sought (shown_value w id) || is_text how sought (sent_text (λ d. d.placeholder) w id)
    || is_text how sought (sent_text (λ d. d.description) w id)

-- whether a node has the texts: what is hidden of it is never found
abbrev pub has_texts : Sought → World → FullNodeId → Bool
has_texts sought w id =
    is_text sought.matching sought.label (shown_label w id) && is_text sought.matching sought.text (shown_value w id)
    && has_any_text sought.matching sought.any w id

-- whether it exists, with the role and the texts
abbrev pub is_wanted : Sought → World → FullNodeId → Bool
is_wanted sought w id = says (has_role sought) w id && has_texts sought w id
