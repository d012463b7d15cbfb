-- The value of a node as text, and the placeholder shown without one.
use Rattle.std.specs.Prelude.{ℕ, ◌==◌, nat_lt, Bool, true, not, cond, ◌&&◌, ◌||◌, List, [], length, replicate, slice_get, Option, Some, None, is_some, option_map, unwrap_or, if◌then◌else◌, chars}
use Rattle.std.specs.Option.{option_map_or, option_or}
use Rattle.std.specs.List.{concat}
use Rattle.model.specs.declared.FullNodeId.{FullNodeId}
use Rattle.model.specs.World.{World}
use Rattle.model.specs.RoleClasses.{is_text_input, is_multiline}
use Rattle.model.specs.Upward.{field_at, says}
use Rattle.model.specs.TextRuns.{run_ids, is_password, supports_text_ranges}
use Rattle.model.specs.FlatText.{BULLET, are_alike, needs_masking, flat_text}
use Rattle.model.specs.Ranges.{document_range, text_of}

abbrev pub own_value : World → FullNodeId → Option (List ℕ)
own_value w id = field_at (λ d. d.value) w id

abbrev pub bullets : ℕ → List ℕ
bullets n = concat (replicate n BULLET)

-- the text of runs as it is shown
abbrev pub document_text : World → FullNodeId → List ℕ
document_text w id = text_of (flat_text w id) (document_range (flat_text w id))

-- an own value of a password that has no runs: a bullet for each scalar, if two of them differ
abbrev pub shown_alone : List ℕ → List ℕ
shown_alone v = if are_alike (λ a b. a == b) (chars v) then v else bullets (length (chars v))

-- an own value as it is shown: for a password with runs that need masking, the text of the runs as it is shown
abbrev pub shown_value : World → FullNodeId → List ℕ → List ℕ
shown_value w id v =
    if is_password w id
    then (if supports_text_ranges w id then (if needs_masking w id then document_text w id else v) else shown_alone v) else v

-- the text of the runs is the value of a text of one line
abbrev pub has_value_in_runs : World → FullNodeId → Bool
has_value_in_runs w id = supports_text_ranges w id && not (says (λ d. is_multiline d.role) w id)

unfoldable pub value_of : World → FullNodeId → Option (List ℕ)
value_of w id =
    option_or (option_map (shown_value w id) (own_value w id)) (if has_value_in_runs w id then Some (document_text w id) else None)

abbrev pub has_value : World → FullNodeId → Bool
has_value w id = is_some (own_value w id) || has_value_in_runs w id

-- ---- placeholders

-- the run's value is absent or empty
abbrev pub is_blank : World → FullNodeId → Bool
is_blank w id = length (unwrap_or (own_value w id) []) == 0

-- there is no run, or one alone, which is blank
abbrev pub is_without_text : World → FullNodeId → Bool
is_without_text w root = nat_lt (length (run_ids w root)) 2 && option_map_or (is_blank w) (slice_get (run_ids w root) 0) true

abbrev pub placeholder : World → FullNodeId → Option (List ℕ)
placeholder w id = cond (says (λ d. is_text_input d.role) w id && is_without_text w id) (field_at (λ d. d.placeholder) w id) None
