use Rattle.std.proofs.Common.{◌≡◌, ◌++◌, ◌∷◌, [], map, length, arith, subst, sym, rules}
use Rattle.model.specs.Run.{Runs}
use Rattle.model.proofs.Differences.Tellings.{told_append}
use Rattle.session.specs.Replied.{command_said, reply_said}
use Rattle.session.proofs.Running.{run_more, stops, as_many, one_left, others_left, appended}
use Rattle.session.proofs.session.Session.run.Goals as goal

pub returns-in_default-step-clause-run : goal.returns-in_default-step-clause-run
returns-in_default-step-clause-run g c =
    let inv = c.loop-command.invariant in
    let left : c.loop-command.command-iterator.rest.items ≡ c.in-Some.command ∷ c.next.new.self.rest.items = search rules in
    let done : c.len-done.result ≡ length c.loop-command.replies.items = omega (arith, c.len-done.ensures, c.loop-command.replies.ok.0) in
    stops g.H.TreeChangeHandler.steps c.args.self.now c.loop-command.self c.step.new.self c.args.handler.now c.loop-command.handler c.step.new.handler c.len-done.result c.loop-command.yielded c.loop-command.command-iterator.rest.items c.next.new.self.rest.items c.args.commands.items c.in-Some.command inv.told c.loop-command.replies.items inv.runs inv.heard c.in_default-step.ensures.done done inv.all left

pub unwrap-requires : goal.unwrap-requires
unwrap-requires g c =
    let inv = c.loop-command.invariant in
    let many = as_many c.args.self.now c.loop-command.self c.loop-command.yielded inv.told c.loop-command.replies.items inv.runs in
    let left : c.loop-command.command-iterator.rest.items ≡ c.in-Some.command ∷ c.next.new.self.rest.items = search rules in
    let fewer = one_left c.args.commands.items c.loop-command.yielded c.loop-command.command-iterator.rest.items c.next.new.self.rest.items c.in-Some.command inv.all left in
    c.push.ensures.succeeds (omega (arith, many, fewer, inv.room, c.loop-command.replies.ok.0))

pub loop-command-preserved : goal.loop-command-preserved
loop-command-preserved g c =
    let inv = c.loop-command.invariant in
    let one = c.in-Ok-step.ensures.done in
    let many = as_many c.args.self.now c.loop-command.self c.loop-command.yielded inv.told c.loop-command.replies.items inv.runs in
    let left : c.loop-command.command-iterator.rest.items ≡ c.in-Some.command ∷ c.next.new.self.rest.items = search rules in
    let fewer = one_left c.args.commands.items c.loop-command.yielded c.loop-command.command-iterator.rest.items c.next.new.self.rest.items c.in-Some.command inv.all left in
    let pushed = appended c.push.result c.loop-command.replies.items c.push.new.self.items c.in-Ok-step.reply (c.push.ensures.succeeds (omega (arith, many, fewer, inv.room, c.loop-command.replies.ok.0))) c.push.ensures.items in
    record {
      room = search rules;
      told = inv.told ++ one.0;
      runs = subst (λ xs. Runs c.args.self.now (map command_said (c.loop-command.yielded ++ c.in-Some.command ∷ [])) c.step.new.self (inv.told ++ one.0) (map reply_said xs)) (sym pushed) (run_more c.args.self.now c.loop-command.self c.step.new.self c.loop-command.yielded c.in-Some.command inv.told one.0 c.loop-command.replies.items c.in-Ok-step.reply inv.runs one.1);
      heard = told_append g.H.TreeChangeHandler.steps c.args.handler.now c.loop-command.handler c.step.new.handler inv.told one.0 inv.heard one.2;
      all = others_left c.args.commands.items c.loop-command.yielded c.loop-command.command-iterator.rest.items c.next.new.self.rest.items c.in-Some.command inv.all left;
    }
