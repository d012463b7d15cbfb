use Rattle.std.proofs.Common.{Ok, Err, Result, Option, refl, sym, ap, subst, ◌∙◌}
use Rattle.std.specs.Prelude.{OnOk, IfSome}
use Rattle.atree_script.proofs.Inputs.{err_is}
use Rattle.model.specs.Mirror.{AreRecordsOf}
use Rattle.model.specs.World.{World}
use Rattle.speak.specs.Numbers.{heading_after}
use Rattle.speak.specs.Steps.{SaysAtEnd}
use Rattle.speak.specs.declared.numbering.Heading.{Heading}
use Rattle.speak.proofs.adapter.speak_step.Goals as goal

pub returns-in_err-report_reply-clause-spoken : goal.returns-in_err-report_reply-clause-spoken
returns-in_err-report_reply-clause-spoken g c =
    let stop = c.in_err-report_reply.field-0.0 in
    record {
      between = c.step-reply.new.told;
      reply = c.step-reply.result;
      heard = c.step-reply.ensures.heard;
      goes_on = Err stop;
      reports = c.in_err-report_reply.ensures;
      says = (refl, err_is c.from_residual.result stop c.from_residual.ensures.1, refl);
    }

pub returns-clause-spoken : goal.returns-clause-spoken
returns-clause-spoken g c =
    let heard = c.step-reply.new.told in
    let said = c.write_said.new.told in
    let before = g.O.Write.contents c.args.output.now in
    let after = g.O.Write.contents c.write_said.new.output in
    let headed = c.heading_after-heading.ensures ∙ ap (λ (h : Option Heading). heading_after h c.step-reply.result) c.heading_of-heading.ensures in
    let at_end = subst (λ (w : World). SaysAtEnd c.heading_after-heading.result w heard.1 heard.0 said.0 c.write_said.result before after) c.view_of.ensures c.write_said.ensures.said in
    record {
      between = heard;
      reply = c.step-reply.result;
      heard = c.step-reply.ensures.heard;
      goes_on = Ok c.in_ok-report_reply.field-0;
      reports = c.in_ok-report_reply.ensures;
      says = (subst (λ (h : Option Heading). SaysAtEnd h c.step-reply.new.session heard.1 heard.0 said.0 c.write_said.result before after) headed at_end, c.write_said.ensures.mirror);
    }

on_ok : {A E P : Type 0} (r : Result A E) → P → OnOk r P
on_ok (Ok x) p = p
on_ok (Err e) p = tt

pub returns-clause-mirrored : goal.returns-clause-mirrored
returns-clause-mirrored g c =
    on_ok c.write_said.result (λ before. subst (λ m. IfSome m (AreRecordsOf c.step-reply.new.session)) (sym c.write_said.ensures.mirror) (c.step-reply.ensures.mirrored before))
