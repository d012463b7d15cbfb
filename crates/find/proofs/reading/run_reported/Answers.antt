use Rattle.find.proofs.reading.run_reported.Goals as goal

pub returns : goal.returns
returns g c = record {
  events = c.step_silent-reply.ensures.0;
  reply = c.step_silent-reply.result;
  step = c.step_silent-reply.ensures.1;
  reported = c.report_reply.ensures;
}
