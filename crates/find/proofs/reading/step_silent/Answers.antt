use Rattle.find.proofs.reading.step_silent.Goals as goal

pub returns : goal.returns
returns c =
    let done = c.step.ensures.done in
    (done.0, done.1)
