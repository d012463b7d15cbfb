use Rattle.std.proofs.Common.{refl, sym, ◌∙◌}
use Rattle.model.specs.Events.{NodeUpdated}
use Rattle.views.specs.Nodes.{world_at, seen_node}
use Rattle.speaking.proofs.Hearing.{hears_nothing, hears_event, with_error, without_error, ready_in}
use Rattle.speaking.proofs.handler.SpeakerTreeChangeHandler.node_updated.Goals as goal

pub returns-then-self : goal.returns-then-self
returns-then-self c = hears_nothing c.args.self.now (NodeUpdated (seen_node c.args.old_node.now) (seen_node c.args.new_node.now)) c.if-self.true

pub returns : goal.returns
returns c =
    let s = c.args.self.now in
    let o = world_at c.args.old_node.now in
    let n = world_at c.args.new_node.now in
    let said = c.say_updated-said in
    hears_event s (NodeUpdated (seen_node c.args.old_node.now) (seen_node c.args.new_node.now)) _ c.if-self.false refl (λ failed. with_error said.result (sym c.is_err-self.ensures.value ∙ failed) said.ensures.kept) (λ old new of knows loud.
    let ready = ready_in old new o n s.looks (sym of.0) (sym of.1) knows in
    let done = sym c.is_err-self.ensures.value ∙ loud in (
      without_error said.result done (said.ensures.says ready),
      ready_in o n old new said.new.looks of.0 of.1 (without_error said.result done (said.ensures.known ready)),
    ))
