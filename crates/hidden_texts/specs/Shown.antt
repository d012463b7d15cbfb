-- What may be shown of a node's label and value.
use Rattle.std.specs.Prelude.{ℕ, true, List, length, Option, Some, None, option_map, if◌then◌else◌, chars}
use Rattle.model.specs.declared.FullNodeId.{FullNodeId}
use Rattle.model.specs.World.{World}
use Rattle.model.specs.Labels.{label_of}
use Rattle.model.specs.TextRuns.{is_password, supports_text_ranges}
use Rattle.model.specs.Values.{bullets, own_value, value_of}
use Rattle.views.specs.RunTexts.{shown_text}
use Rattle.hidden_texts.specs.Hidden.{hides_label, hides_value}

-- the value of a password: a bullet for each character of its text, also if all are the same, or else for each scalar of its own value
abbrev pub password_value : World → FullNodeId → Option (List ℕ)
password_value w id =
    if supports_text_ranges w id then Some (shown_text true w id) else option_map (λ v. bullets (length (chars v))) (own_value w id)

-- the value, bullets for a password, and nothing if it is hidden
abbrev pub shown_value : World → FullNodeId → Option (List ℕ)
shown_value w id = if hides_value w id then None else (if is_password w id then password_value w id else value_of w id)

-- the label, and nothing if it is hidden
abbrev pub shown_label : World → FullNodeId → Option (List ℕ)
shown_label w id = if hides_label w id then None else label_of w id
