-- Two worlds that differ in what is typed into a password alone have one outline.
use Rattle.std.proofs.Common.{◌≡◌}
use Rattle.schema.specs.NodeData.{NodeData}
use Rattle.model.specs.declared.FullNodeId.{FullNodeId}
use Rattle.model.specs.Outline.{outline, without_text}
use Rattle.model.specs.World.{World, HasData}
use Rattle.model.proofs.Alike.Bare as bare
use Rattle.model.proofs.Alike.Bare.{SameBare}
use Rattle.hidden_texts.proofs.HiddenAlike.{one}
use Rattle.speaking.specs.Laws.{AreAlike}

module _ (p : FullNodeId) (w v : World) (alike : AreAlike p w v) where
  pub same : SameBare w v
  same = bare.of_outlines w v alike.typed.outlines

  pub one_of : {A : Type 0} (of : World → A) → ((u : World) → of (outline u) ≡ of u) → of w ≡ of v
  one_of of h = one p w v alike.formed alike.typed of h

  -- the data in the other world, and that they are the same but for the text
  pub there : (id : FullNodeId) (d : NodeData) → HasData w id d → (e : NodeData) × HasData v id e × (without_text e ≡ without_text d)
  there id d h = bare.carried same id d h

  pub back : (id : FullNodeId) (e : NodeData) → HasData v id e → (d : NodeData) × HasData w id d × (without_text d ≡ without_text e)
  back id e h = bare.carried (bare.turned same) id e h
