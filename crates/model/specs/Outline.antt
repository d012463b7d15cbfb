-- A world without the values of its nodes and the lengths of their characters.
use Rattle.std.specs.Prelude.{◌≡◌, ◌↔◌, [], map, None}
use Rattle.std.specs.FinMap.{entries, from_sorted}
use Rattle.schema.specs.NodeData.{NodeData}
use Rattle.model.specs.World.{World}

abbrev pub without_value : NodeData → NodeData
without_value d = record d { value = None }

abbrev pub without_text : NodeData → NodeData
without_text d = record d { value = None; character_lengths = [] }

-- the world without the values and the character lengths of its nodes
abbrev pub outline : World → World
outline w = record w { nodes = from_sorted (map (λ e. (e.0, without_text e.1)) (entries w.nodes)) }

-- whatever reads the outline alone
abbrev pub ReadsOutline : {A : Type 0} → (World → A) → Type 0
ReadsOutline of = (w : World) → of w ≡ of (outline w)

-- and what holds in a world exactly if it holds in the outline
abbrev pub HoldsByOutline : {A : Type 0} → (World → A → Type 0) → Type 0
HoldsByOutline {A = A} holds = (w : World) (a : A) → holds w a ↔ holds (outline w) a
