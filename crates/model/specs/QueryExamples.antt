-- Answers to queries of small worlds.
use Rattle.std.specs.Prelude.{◌≡◌, ℕ, false, [], ◌∷◌, Some, None}
use Rattle.schema.specs.declared.NodeId.{NodeId}
use Rattle.schema.specs.declared.TreeId.{TreeId}
use Rattle.model.specs.declared.queries.At.{At}
use Rattle.model.specs.declared.queries.Side.TheVariants.{Start, End}
use Rattle.model.specs.declared.queries.Move.TheVariants as move
use Rattle.model.specs.declared.queries.NamedFilter.TheVariants.{All}
use Rattle.model.specs.declared.queries.Query.TheVariants as query
use Rattle.model.specs.World.{ROOT_NAME}
use Rattle.model.specs.State.{with_host}
use Rattle.model.specs.Values.{bullets}
use Rattle.model.specs.Examples.{node, at, name}
use Rattle.model.specs.EventExamples.{window_alone, window_with_button}
use Rattle.model.specs.SecretExamples.{one_secret}
use Rattle.model.specs.Answers as answer
use Rattle.model.specs.Queries.{answer_of}

abbrev pub in_root : ℕ → NodeId × TreeId
in_root n = (node n, ROOT_NAME)

abbrev pub start_at : ℕ → At
start_at index = record { index = index; side = Start }

abbrev pub end_at : ℕ → At
end_at index = record { index = index; side = End }

-- a window with a button, and the window alone
pub record OfWindow : Type 0 where
  pub children : answer_of (window_with_button 0) (query.Children (in_root 0)) ≡ answer.Ids (at 0 1 ∷ [])
  pub gone : answer_of window_alone (query.Label (in_root 1)) ≡ answer.NoNode
  pub unknown : answer_of (window_with_button 0) (query.Children (node 0, name 1)) ≡ answer.NoNode
  pub focus : answer_of (window_with_button 0) query.Focus ≡ answer.Node (Some (at 0 0))
  pub no_focus : answer_of (with_host (window_with_button 0) false) query.Focus ≡ answer.Node None
  pub no_set : answer_of (window_with_button 0) (query.Set (in_root 0) All) ≡ answer.Set None None
  pub no_runs : answer_of (window_with_button 0) (query.Text (in_root 0)) ≡ answer.Text None
  pub not_text : answer_of (window_with_button 0) (query.Indexes (in_root 0) (start_at 0)) ≡ answer.NotText

-- a password of two runs with two characters each
pub record OfSecret : Type 0 where
  pub value : answer_of one_secret (query.Value (in_root 0)) ≡ answer.Text (Some (bullets 4))
  pub runs : answer_of one_secret (query.Text (in_root 0)) ≡ answer.Text (Some (bullets 4))
  pub indexes : answer_of one_secret (query.Indexes (in_root 0) (start_at 3)) ≡ answer.Indexes 3 3 1
  pub end_side : answer_of one_secret (query.Indexes (in_root 0) (end_at 2)) ≡ answer.Indexes 2 2 0
  pub no_index : answer_of one_secret (query.Indexes (in_root 0) (start_at 5)) ≡ answer.NotText
  pub moved : answer_of one_secret (query.Move (in_root 0) (start_at 0) move.ForwardToWordStart)
      ≡ answer.Position (Some (record { node = node 2; character_index = 2 }))
  pub last : answer_of one_secret (query.Move (in_root 0) (start_at 4) move.ForwardToCharacterStart) ≡ answer.Position None
  pub range : answer_of one_secret (query.RangeText (in_root 0) (start_at 1) (start_at 3)) ≡ answer.Text (Some (bullets 2))
  pub before : answer_of one_secret (query.RangeText (in_root 0) (start_at 3) (start_at 1)) ≡ answer.Text (Some [])
