-- Two passwords of one shape: the answers about both, and two sessions that differ in the password alone.
use Rattle.std.specs.Prelude.{codes, ◌≡◌, ℕ, List, [], ◌∷◌, Some, None}
use Rattle.model.specs.declared.queries.Move.TheVariants as move
use Rattle.model.specs.declared.queries.Query.TheVariants as query
use Rattle.model.specs.World.{ROOT_NAME, World}
use Rattle.model.specs.Update.{UpdateData}
use Rattle.model.specs.Events.{Event, NodeUpdated, seen_in}
use Rattle.model.specs.Values.{bullets}
use Rattle.model.specs.Examples.{node, at}
use Rattle.model.specs.Answers as answer
use Rattle.model.specs.Run.{CommandData, ToUpdate, ToQuery, ReplyData, Accepted, Answered, Runs}
use Rattle.model.specs.FlatText.{flat_text, start_at}
use Rattle.model.specs.Moves.{forward_to_paragraph_start, line_range}
use Rattle.model.specs.Shape.{EqualShape}
use Rattle.model.specs.AlikeRuns.{AreAlikeRuns, told_openly}
use Rattle.model.specs.SecretExamples.{run_node, secret, one_secret, other_secret}
use Rattle.model.specs.QueryExamples.{in_root, start_at as place}

-- ---- two lines

-- a letter and a newline, and another letter
abbrev pub one_two_lines : World
one_two_lines = secret (codes "x") (run_node (97 ∷ 10 ∷ []) (1 ∷ 1 ∷ [])) (run_node (codes "b") (1 ∷ []))

-- the same with a letter of two bytes
abbrev pub other_two_lines : World
other_two_lines = secret (codes "y") (run_node (195 ∷ 164 ∷ 10 ∷ []) (2 ∷ 1 ∷ [])) (run_node (codes "c") (1 ∷ []))

-- the first paragraph ends with the first run, and the second line is the second run
pub record HasTwoLines (w : World) : Type 0 where
  pub paragraph : forward_to_paragraph_start (flat_text w (at 0 0)) (start_at 0) ≡ start_at 1
  pub line : line_range (flat_text w (at 0 0)) 1 ≡ Some (start_at 1, record { run = 1; index = 1 })

pub record LinesAreAlike : Type 0 where
  pub shape : EqualShape (at 0 0) one_two_lines other_two_lines
  pub one : HasTwoLines one_two_lines
  pub other : HasTwoLines other_two_lines

-- ---- two sessions

-- the second run is sent with three characters
abbrev pub send_run : List ℕ → UpdateData
send_run value = record { nodes = (node 2, run_node value (1 ∷ 1 ∷ 1 ∷ [])) ∷ []; info = None; name = ROOT_NAME; focus = node 0 }

-- the value, a move by a word, that update, and the indexes of the end
abbrev pub session_of : List ℕ → List CommandData
session_of value =
    ToQuery (query.Value (in_root 0)) ∷ ToQuery (query.Move (in_root 0) (place 0) move.ForwardToWordStart) ∷ ToUpdate (send_run value)
    ∷ ToQuery (query.Indexes (in_root 0) (place 5)) ∷ []

abbrev pub its_replies : List ReplyData
its_replies =
    Answered (answer.Text (Some (bullets 4))) ∷ Answered (answer.Position (Some (record { node = node 2; character_index = 2 })))
    ∷ Accepted ∷ Answered (answer.Indexes 5 5 1) ∷ []

-- the two secrets, after it
abbrev pub one_longer : World
one_longer = secret (codes "secret") (run_node (112 ∷ 195 ∷ 164 ∷ []) (1 ∷ 2 ∷ [])) (run_node (codes "sst") (1 ∷ 1 ∷ 1 ∷ []))

abbrev pub other_longer : World
other_longer = secret (codes "x") (run_node (codes "xy") (1 ∷ 1 ∷ [])) (run_node (codes "zwx") (1 ∷ 1 ∷ 1 ∷ []))

abbrev pub run_told : World → World → List Event
run_told old new = NodeUpdated (seen_in old (at 0 2)) (seen_in new (at 0 2)) ∷ []

-- both are runs, they are alike, and they have the same replies; no event is reported openly
pub record SessionsAreAlike : Type 0 where
  pub first : Runs one_secret (session_of (codes "sst")) one_longer (run_told one_secret one_longer) its_replies
  pub second : Runs other_secret (session_of (codes "zwx")) other_longer (run_told other_secret other_longer) its_replies
  pub alike : AreAlikeRuns (at 0 0) one_secret (session_of (codes "sst")) its_replies other_secret (session_of (codes "zwx")) its_replies
  pub openly : told_openly (at 0 0) (run_told one_secret one_longer) ≡ []
