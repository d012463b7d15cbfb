-- What a page shows of a state doesn't depend on what is typed into a password.
use Rattle.std.specs.Prelude.{◌≡◌, ◌⊎◌, List, Option}
use Rattle.std.specs.BTreeMap.{BTreeMap}
use Rattle.std.specs.List.{AllZip}
use Rattle.model.specs.declared.FullNodeId.{FullNodeId}
use Rattle.model.specs.Forest.{IsFormed}
use Rattle.model.specs.World.{World}
use Rattle.views.specs.Nodes.{world_at, id_at}
use Rattle.hidden_texts.specs.Alike.{DifferInPassword}
use Rattle.page_states.specs.declared.again.Last.{Last}
use Rattle.page_states.specs.declared.boxes.Frame.{Frame}
use Rattle.page_states.specs.declared.marks.Mark.{Mark}
use Rattle.page_states.specs.declared.places.Place.{Place}
use Rattle.page_states.specs.declared.rows.Row.{Row}
use Rattle.page_states.specs.Drawn.{drawn_text}
use Rattle.page_states.specs.Looks.{children_at}
use Rattle.page_states.specs.Places.{box_drawn, IsPlace}
use Rattle.page_states.specs.Rows.{row_text}
use Rattle.page_states.specs.States.{AreRows}

-- the same world, or one that differs at most in what is typed into this password
abbrev pub MayDiffer : FullNodeId → World → World → Type 0
MayDiffer p w v = (w ≡ v) ⊎ DifferInPassword p w v

-- the same is shown of a node in two states: the same row at the same depth, the same box, and where it has the same mark, the same is
-- drawn of it; and it is drawn in both or in neither
pub record LookAlike (a b : Place) : Type 0 where
  pub id : id_at a.node ≡ id_at b.node
  pub depth : a.depth ≡ b.depth
  pub answer : a.answer ≡ b.answer
  pub row : row_text a ≡ row_text b
  pub children : children_at a ≡ children_at b
  pub left_out : a.is_left_out ≡ b.is_left_out
  pub box : box_drawn a ≡ box_drawn b
  pub drawn : (frame : Option Frame) → a.mark ≡ b.mark → drawn_text frame a ≡ drawn_text frame b

-- so it is of a node of two worlds that differ at most in what is typed into a password
abbrev pub TypingLooksTheSame : Type 0
TypingLooksTheSame =
    (p : FullNodeId) (w v : World) → IsFormed w → MayDiffer p w v → (a b : Place) → IsPlace a → IsPlace b
    → world_at a.node ≡ w → world_at b.node ≡ v → id_at a.node ≡ id_at b.node → LookAlike a b

-- the rows of two states have the same texts and children, and the same is drawn of a node that has the same mark in both
pub record RowsAlike (r s : Row) : Type 0 where
  pub alike : LookAlike r.shown.place s.shown.place
  pub row : r.shown.look.row.items ≡ s.shown.look.row.items
  pub children : r.shown.look.children.items ≡ s.shown.look.children.items
  pub drawn : r.shown.place.mark ≡ s.shown.place.mark → r.shown.look.drawn.items ≡ s.shown.look.drawn.items

-- the outlines and the pictures of two such worlds show the same nodes in the same order, and the pictures have the same frame
abbrev pub TypingShowsTheSame : Type 0
TypingShowsTheSame =
    (p : FullNodeId) (w v : World) → IsFormed w → MayDiffer p w v → (marks others : BTreeMap FullNodeId Mark)
    (kept known : BTreeMap FullNodeId Last) (frame field : Option Frame) (rows lines : List Row) → AreRows w marks kept frame rows →
    AreRows v others known field lines → (frame ≡ field) × AllZip RowsAlike rows lines
