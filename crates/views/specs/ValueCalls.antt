-- By which calls of a writer a value and a label are written.
use Rattle.std.specs.Prelude.{ℕ, ◌==◌, Bool, cond, List, [], ◌∷◌, ◌++◌, length, Option, option_map, unwrap_or, filter_map, if◌then◌else◌, chars}
use Rattle.std.specs.Option.{option_map_or}
use Rattle.std.specs.List.{flat_map}
use Rattle.schema.specs.TextCalls.{TextCall, WithText, WithCharacter}
use Rattle.model.specs.declared.FullNodeId.{FullNodeId}
use Rattle.model.specs.World.{World}
use Rattle.model.specs.FlatText.{are_alike, needs_masking}
use Rattle.model.specs.Labels.{own_label, label_part, labelled_by}
use Rattle.model.specs.RoleClasses.{is_label}
use Rattle.model.specs.TextRuns.{SentRun, sent_runs, run_value, said_count, is_password, supports_text_ranges}
use Rattle.model.specs.Upward.{says}
use Rattle.model.specs.Values.{own_value, has_value_in_runs}
use Rattle.views.specs.Writes.{bullet_calls}

-- one call with a whole text
abbrev pub text_calls : List ℕ → List TextCall
text_calls text = WithText text ∷ []

-- ---- a value

-- a run: one call for each bullet, or else one with its text
abbrev pub run_calls : Bool → SentRun → List TextCall
run_calls masked r = if masked then bullet_calls (said_count r) else text_calls (run_value r)

abbrev pub calls_of_runs : Bool → List SentRun → List TextCall
calls_of_runs masked runs = flat_map (run_calls masked) runs

abbrev pub document_calls : World → FullNodeId → List TextCall
document_calls w id = calls_of_runs (needs_masking w id) (sent_runs w id)

-- an own value of a password that has no runs
abbrev pub alone_calls : List ℕ → List TextCall
alone_calls v = if are_alike (λ a b. a == b) (chars v) then text_calls v else bullet_calls (length (chars v))

-- an own value
abbrev pub own_value_calls : World → FullNodeId → List ℕ → List TextCall
own_value_calls w id v =
    if is_password w id then (if supports_text_ranges w id then (if needs_masking w id then document_calls w id else text_calls v)
    else alone_calls v) else text_calls v

-- the own value, or else the text of the runs; no call, where there is no value
unfoldable pub value_calls : World → FullNodeId → List TextCall
value_calls w id = option_map_or (own_value_calls w id) (own_value w id) (if has_value_in_runs w id then document_calls w id else [])

-- ---- a label

-- what a node gives to another one's label
abbrev pub part_calls : World → FullNodeId → List TextCall
part_calls w id = cond (says (λ d. is_label d.role) w id) (value_calls w id) (text_calls (unwrap_or (own_label w id) []))

-- likewise, where it gives a part
abbrev pub given_calls : World → FullNodeId → Option (List TextCall)
given_calls w id = option_map (λ _. part_calls w id) (label_part w id)

-- a space by a call of its own before a part, where another part stands before it
abbrev pub spaced_calls : Bool → List TextCall → List TextCall
spaced_calls is_later calls = if is_later then WithCharacter 32 ∷ calls else calls

-- the parts, with a space between each two
abbrev pub joined_calls : List (List TextCall) → List TextCall
joined_calls [] = []
joined_calls (part ∷ parts) = part ++ flat_map (λ p. WithCharacter 32 ∷ p) parts

-- the own label, or else the parts that other nodes give
unfoldable pub label_calls : World → FullNodeId → List TextCall
label_calls w id = option_map_or text_calls (own_label w id) (joined_calls (filter_map (given_calls w) (labelled_by w id)))

-- ---- nodes as a walk gives them

abbrev pub calls_of : List (World × FullNodeId) → List (List TextCall)
calls_of nodes = filter_map (λ n. given_calls n.0 n.1) nodes

-- the parts, where another one stands before them or none does
abbrev pub rest_of_calls : Bool → List (List TextCall) → List TextCall
rest_of_calls is_later parts = if is_later then flat_map (spaced_calls is_later) parts else joined_calls parts
