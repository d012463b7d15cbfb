use Rattle.std.proofs.Common.{refl, sym, subst, ◌∙◌}
use Rattle.model.specs.Events.{NodeAdded}
use Rattle.model.specs.World.{World}
use Rattle.views.specs.Nodes.{seen_node}
use Rattle.speaking.specs.Above.{AreRight}
use Rattle.speaking.proofs.Hearing.{hears_nothing, hears_event, without_error}
use Rattle.speaking.proofs.handler.SpeakerTreeChangeHandler.node_added.Goals as goal

pub returns-then-self : goal.returns-then-self
returns-then-self c = hears_nothing c.args.self.now (NodeAdded (seen_node c.args.node.now)) c.if-self.true

pub returns : goal.returns
returns c =
    let s = c.args.self.now in
    let said = c.note_added-noted in
    hears_event s (NodeAdded (seen_node c.args.node.now)) _ c.if-self.false refl (λ failed. refl) (λ old new of knows loud.
    let right = subst (λ (w : World). AreRight w s.looks.after) (sym of) knows.1 in
    let done = sym c.is_err-self.ensures.value ∙ loud in (
      (refl, without_error said.result done (said.ensures.says right)),
      (
        subst (AreRight old) (sym said.ensures.before) knows.0,
        subst (λ (w : World). AreRight w said.new.looks.after) of (without_error said.result done (said.ensures.known right)),
      ),
    ))
