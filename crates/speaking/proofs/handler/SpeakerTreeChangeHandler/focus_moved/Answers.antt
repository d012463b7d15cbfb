use Rattle.std.proofs.Common.{refl, sym, ◌∙◌}
use Rattle.model.specs.Events.{FocusMoved}
use Rattle.views.specs.Nodes.{seen_through}
use Rattle.speaking.proofs.Hearing.{hears_nothing, hears_event, with_error, without_error}
use Rattle.speaking.proofs.handler.SpeakerTreeChangeHandler.focus_moved.Goals as goal

pub returns-then-self : goal.returns-then-self
returns-then-self c = hears_nothing c.args.self.now (FocusMoved (seen_through c.args.old_node) (seen_through c.args.new_node)) c.if-self.true

pub returns : goal.returns
returns c =
    let said = c.say_whole_move-said in
    hears_event c.args.self.now (FocusMoved (seen_through c.args.old_node) (seen_through c.args.new_node)) _ c.if-self.false refl (λ failed. with_error said.result (sym c.is_err-self.ensures.value ∙ failed) said.ensures.kept) (λ old new of knows loud.
    ((without_error said.result (sym c.is_err-self.ensures.value ∙ loud) said.ensures.says, refl), knows))
