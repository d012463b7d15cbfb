-- Why the runs of a node make no text: the first run in order that breaks a rule, and the first rule that it breaks.
use Rattle.std.specs.Prelude.{ℕ, ◌+◌, ◌^◌, ◌==◌, nat_lt, Bool, true, false, ◌||◌, List, [], ◌∷◌, length, map, slice_get, Option, Some, None, is_some, is_none, option_map, option_and_then, if◌then◌else◌}
use Rattle.std.specs.Option.{option_or, option_map_or}
use Rattle.schema.specs.declared.NodeId.{NodeId}
use Rattle.model.specs.declared.FullNodeId.{FullNodeId}
use Rattle.model.specs.World.{World}
use Rattle.model.specs.RoleClasses.{holds_text}
use Rattle.model.specs.Upward.{says}
use Rattle.schema.specs.RunFits.{is_cut_by}
use Rattle.model.specs.TextRuns.{SentRun, sent_runs, run_value, said_count, is_password, has_rising_words, is_enough, leads_to}
use Rattle.views.specs.declared.runs.defects.RunDefect.{RunDefect}
use Rattle.views.specs.declared.runs.defects.RunDefect.TheVariants.{PreviousLink, PreviousUnanswered, Tree, CharacterLengths, WordStarts, CharacterPositions, CharacterWidths, TooLong, Empty, NextLink, NextUnanswered}
use Rattle.views.specs.declared.runs.defects.TextDefect.{TextDefect}
use Rattle.views.specs.declared.runs.defects.TextDefect.TheVariants.{Role, Run}

-- a run, the one before it, the bytes of all before it, and the one after it
pub record PlacedRun : Type 0 where
  pub before : Option SentRun
  pub size : ℕ
  pub run : SentRun
  pub after : Option SentRun

-- each of these runs, where this one stands before them, and so many bytes
abbrev pub placed_from : Option SentRun → ℕ → List SentRun → List PlacedRun
placed_from before size [] = []
placed_from before size (r ∷ runs) =
    record { before = before; size = size; run = r; after = slice_get runs 0 } ∷ placed_from (Some r) (size + length (run_value r)) runs

-- the first of these that there is
abbrev pub first_of : {X : Type 0} → List (Option X) → Option X
first_of [] = None
first_of (o ∷ os) = option_or o (first_of os)

-- the rule, unless it is kept
abbrev pub broken : Bool → RunDefect → Option RunDefect
broken kept rule = if kept then None else Some rule

-- a link leads to this neighbour, if there is one, and the neighbour has a link itself
abbrev pub link_defect : (NodeId → RunDefect) → RunDefect → Option NodeId → Option SentRun → Option NodeId → Option RunDefect
link_defect elsewhere unanswered None neighbour answer = None
link_defect elsewhere unanswered (Some node) neighbour answer =
    if option_map_or (leads_to (Some node)) neighbour false then broken (is_some answer) unanswered else Some (elsewhere node)

-- what is wrong with the link of a run to the one before it, and to the one after it
abbrev pub back_defect : Option SentRun → SentRun → Option RunDefect
back_defect before r =
    link_defect (λ node. PreviousLink node) PreviousUnanswered r.node.previous_on_line before
    (option_and_then (λ b. b.node.next_on_line) before)

abbrev pub onward_defect : SentRun → Option SentRun → Option RunDefect
onward_defect r after =
    link_defect (λ node. NextLink node) NextUnanswered r.node.next_on_line after (option_and_then (λ b. b.node.previous_on_line) after)

-- what is wrong with a run itself: its positions and widths, if given, are enough for the characters
abbrev pub metrics_defect : Bool → SentRun → Option RunDefect
metrics_defect password r = first_of (
    broken (option_map_or (λ ps. is_enough password (said_count r) (length ps)) r.node.character_positions true) CharacterPositions
    ∷ broken (option_map_or (λ ws. is_enough password (said_count r) (length ws)) r.node.character_widths true) CharacterWidths ∷ [])

abbrev pub own_defect : ℕ → Bool → SentRun → Option RunDefect
own_defect tree password r = first_of (
    broken (r.id.tree == tree) Tree
    ∷ broken (is_cut_by (run_value r) r.node.character_lengths) CharacterLengths
    ∷ broken (has_rising_words r) WordStarts
    ∷ metrics_defect password r ∷ [])

-- the first rule that a run breaks
abbrev pub run_defect : ℕ → Bool → PlacedRun → Option RunDefect
run_defect tree password p = first_of (
    back_defect p.before p.run
    ∷ own_defect tree password p.run
    ∷ broken (nat_lt (p.size + length (run_value p.run)) (2 ^ 64)) TooLong
    ∷ broken (is_none p.after || nat_lt 0 (said_count p.run)) Empty
    ∷ onward_defect p.run p.after ∷ [])

-- that rule, with the run
abbrev pub at_run : SentRun → Option RunDefect → Option TextDefect
at_run r rule = option_map (λ defect. Run r.id defect) rule

-- the first run that breaks a rule
abbrev pub first_defect : ℕ → Bool → List SentRun → Option TextDefect
first_defect tree password runs = first_of (map (λ (p : PlacedRun). at_run p.run (run_defect tree password p)) (placed_from None 0 runs))

-- none without runs; else the role, or the first run that breaks a rule
abbrev pub defect_of_runs : World → FullNodeId → List SentRun → Option TextDefect
defect_of_runs w root [] = None
defect_of_runs w root (r ∷ runs) =
    if says (λ d. holds_text d.role) w root then first_defect root.tree (is_password w root) (r ∷ runs) else Some Role

unfoldable pub text_defect : World → FullNodeId → Option TextDefect
text_defect w root = defect_of_runs w root (sent_runs w root)
