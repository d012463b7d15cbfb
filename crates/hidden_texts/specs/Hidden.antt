-- Which texts, values and labels may show what is typed into a password.
use Rattle.std.specs.Prelude.{Bool, cond, ◌&&◌, ◌||◌, is_none, if◌then◌else◌}
use Rattle.std.specs.List.{list_any}
use Rattle.model.specs.declared.FullNodeId.{FullNodeId}
use Rattle.model.specs.declared.filters.FilterResult.{FilterResult}
use Rattle.model.specs.declared.filters.FilterResult.TheVariants.{Include, ExcludeNode}
use Rattle.model.specs.World.{World}
use Rattle.model.specs.Labels.{own_label, labelled_by}
use Rattle.model.specs.Lists.{ancestors}
use Rattle.model.specs.RoleClasses.{is_label}
use Rattle.model.specs.TextRuns.{has_runs, is_password, sent_runs}
use Rattle.model.specs.Upward.{says}
use Rattle.model.specs.Values.{own_value}
use Rattle.views.specs.Descendants.{descendants}

-- includes password inputs alone
abbrev pub password_filter : World → FullNodeId → FilterResult
password_filter w id = if is_password w id then Include else ExcludeNode

-- an ancestor is a password input
abbrev pub is_in_password : World → FullNodeId → Bool
is_in_password w id = list_any (is_password w) (ancestors w id)

-- a node below it is a password input
abbrev pub has_password_below : World → FullNodeId → Bool
has_password_below w id = list_any (is_password w) (descendants w id)

-- it has runs that may make a text, and those of a password may be among them
abbrev pub holds_password : World → FullNodeId → Bool
holds_password w id = has_runs w id (sent_runs w id) && has_password_below w id

-- the text of its runs: it is in a password, or a password is in it
abbrev pub hides_text : World → FullNodeId → Bool
hides_text w id = is_in_password w id || holds_password w id

-- its value is made of its runs, or may be: it has no value of its own, or is itself a password
abbrev pub is_valued_by_runs : World → FullNodeId → Bool
is_valued_by_runs w id = is_password w id || is_none (own_value w id)

-- its value: it is in a password, or its value is made of runs and a password is in it
abbrev pub hides_value : World → FullNodeId → Bool
hides_value w id = is_in_password w id || (is_valued_by_runs w id && holds_password w id)

-- what it gives to another node's label: a label node its value, another one its own label
abbrev pub hides_part : World → FullNodeId → Bool
hides_part w id = cond (says (λ d. is_label d.role) w id) (hides_value w id) (is_in_password w id)

-- its label: it is in a password, or has no label of its own and a node that labels it hides its part
abbrev pub hides_label : World → FullNodeId → Bool
hides_label w id = is_in_password w id || (is_none (own_label w id) && list_any (hides_part w) (labelled_by w id))
