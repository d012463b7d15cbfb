-- What is told of nodes in events doesn't depend on what is typed into a password.
use Rattle.std.specs.Prelude.{◌≡◌, ℕ}
use Rattle.model.specs.declared.FullNodeId.{FullNodeId}
use Rattle.model.specs.Forest.{IsFormed}
use Rattle.views.specs.Nodes.{world_at, id_at}
use Rattle.page_states.specs.declared.found.View.{View}
use Rattle.page_states.specs.Differences.{TellsDifferences}
use Rattle.page_states.specs.Found.{IsRight}
use Rattle.page_states.specs.Named.{linked_text, name_text}
use Rattle.page_states.specs.ShownLaws.{MayDiffer}
use Rattle.page_states.specs.WrittenLaws.{Bytes, HaveSame}

-- views of one node, with its facts, in two worlds that differ at most in what is typed into this password
pub record ViewAlike (p : FullNodeId) (a b : View) : Type 0 where
  pub formed : IsFormed (world_at a.node)
  pub worlds : MayDiffer p (world_at a.node) (world_at b.node)
  pub id : id_at a.node ≡ id_at b.node
  pub right : IsRight a
  pub other : IsRight b

-- they have the same name
pub record NamesAlike (a b : View) : Type 0 where
  pub name : name_text a ≡ name_text b
  pub linked : (state : ℕ) → linked_text state a ≡ linked_text state b

abbrev pub TypingNamesTheSame : Type 0
TypingNamesTheSame = (p : FullNodeId) (a b : View) → ViewAlike p a b → NamesAlike a b

-- and the same is told of how they differ from another state of the node
abbrev pub TypingTellsTheSame : Type 0
TypingTellsTheSame =
    (p : FullNodeId) (old new former later : View) → ViewAlike p old former → ViewAlike p new later → (before after heard told : Bytes)
    → HaveSame before heard → TellsDifferences old new before after → TellsDifferences former later heard told → HaveSame after told
