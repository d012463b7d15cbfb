use Rattle.std.proofs.Common.{Option}
use Rattle.model.specs.Mirror.{Records}
use Rattle.speaking.specs.declared.speaker.Speaker.{Speaker}
use Rattle.speak.proofs.Mirrored.{mirror_follows}
use Rattle.speak.proofs.Rightly.{told_rightly}
use Rattle.speak.proofs.adapter.step.Goals as goal

pub returns-clause-heard : goal.returns-clause-heard
returns-clause-heard c =
    let start : Speaker × Option Records = (c.begin_step.new.self, c.args.told.now.1) in
    let done = c.step.ensures.done in
    record {
      start = c.begin_step.new.self;
      same = c.begin_step.ensures.same;
      events = done.0;
      step = done.1;
      told = told_rightly c.args.session.now c.step.new.self c.args.command start c.step.new.handler done.0 c.step.result done.1 (c.begin_step.ensures.ready c.args.session.now c.step.new.self) done.2;
    }

pub returns-clause-mirrored : goal.returns-clause-mirrored
returns-clause-mirrored c =
    let start : Speaker × Option Records = (c.begin_step.new.self, c.args.told.now.1) in
    let done = c.step.ensures.done in
    λ held. mirror_follows c.args.session.now c.step.new.self c.args.command start c.step.new.handler done.0 c.step.result done.1 done.2 held
