use Rattle.std.proofs.Common.{inr, sym, ap, subst}
use Rattle.std.specs.Io.KnownBytes.{Appends}
use Rattle.atree_script.specs.Replies.{reply_line}
use Rattle.atree_script.specs.Scripts.{end_after}
use Rattle.atree_script.proofs.Stepping.{no_fault, reply_printed}
use Rattle.atree_script.proofs.run.run_command.Goals as goal

pub returns : goal.returns
returns g c =
    let done = c.step_printed-reply.ensures.step in
    let printer = c.step_printed-reply.new.printer in
    let replied = c.in_ok-reply.was in
    let events = no_fault printer.fault c.in_default.is done.2 in
    record {
      events = done.0;
      reply = c.step_printed-reply.result;
      step = done.1;
      printed = inr (
        sym (ap end_after replied),
        reply_printed done.0 c.step_printed-reply.result (g.O.Write.contents c.args.output.now) (g.O.Write.contents c.write_reply.new.out) c.in_ok-reply.field-0 (g.O.Write.contents printer.out.now) replied events.1
            (subst (λ x. Appends (g.O.Write.contents x) (g.O.Write.contents c.write_reply.new.out) (reply_line c.in_ok-reply.field-0)) (c.output-1.given.1 (sym c.step_printed-reply.ensures.output)) c.in_ok-write_reply.ensures),
      );
    }
