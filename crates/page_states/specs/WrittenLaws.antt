-- What is written of a state doesn't depend on what is typed into a password.
use Rattle.std.specs.Prelude.{◌≡◌, ℕ, List, Option, Some, option_map}
use Rattle.std.specs.BTreeMap.{BTreeMap, get}
use Rattle.model.specs.declared.FullNodeId.{FullNodeId}
use Rattle.model.specs.Forest.{IsFormed}
use Rattle.model.specs.FullIds.{full_cmp}
use Rattle.model.specs.World.{World}
use Rattle.page_states.specs.declared.again.Last.{Last}
use Rattle.page_states.specs.declared.marks.Mark.{Mark}
use Rattle.page_states.specs.ShownLaws.{MayDiffer}
use Rattle.page_states.specs.States.{WritesState}

abbrev pub Bytes : Type 0
Bytes = Option (List ℕ)

-- two outputs have the same bytes, which are known
abbrev pub HaveSame : Bytes → Bytes → Type 0
HaveSame a b = (bytes : List ℕ) × (a ≡ Some bytes) × (b ≡ Some bytes)

-- the same nodes have the same marks
abbrev pub MarkAlike : BTreeMap FullNodeId Mark → BTreeMap FullNodeId Mark → Type 0
MarkAlike marks others = (id : FullNodeId) → get full_cmp marks id ≡ get full_cmp others id

-- what is read of what is kept of a node: its row, its box and its children, and the states that have them
pub record LastText : Type 0 where
  pub row : List ℕ
  pub drawn : List ℕ
  pub children : List FullNodeId
  pub row_state : ℕ
  pub drawn_state : Option ℕ

abbrev pub last_text : Last → LastText
last_text last =
    record {
      row = last.look.row.items;
      drawn = last.look.drawn.items;
      children = last.look.children.items;
      row_state = last.row;
      drawn_state = last.drawn;
    }

-- the same is kept of each node
abbrev pub KeepAlike : BTreeMap FullNodeId Last → BTreeMap FullNodeId Last → Type 0
KeepAlike kept known = (id : FullNodeId) → option_map last_text (get full_cmp kept id) ≡ option_map last_text (get full_cmp known id)

abbrev pub AreSame : BTreeMap FullNodeId Last × Bytes → BTreeMap FullNodeId Last × Bytes → Type 0
AreSame a b = KeepAlike a.0 b.0 × HaveSame a.1 b.1

-- Of two worlds that differ at most in what is typed into a password, the same bytes are written after the same ones, and the same is
-- kept, if that was so before and the same nodes are marked.
abbrev pub TypingWritesTheSame : Type 0
TypingWritesTheSame =
    (p : FullNodeId) (w v : World) → IsFormed w → MayDiffer p w v → (number : ℕ) (marks others : BTreeMap FullNodeId Mark)
    → MarkAlike marks others → (before after former later : BTreeMap FullNodeId Last × Bytes) → AreSame before former
    → WritesState number w marks before after → WritesState number v others former later → AreSame after later
