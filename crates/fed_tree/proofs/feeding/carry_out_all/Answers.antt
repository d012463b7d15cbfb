use Rattle.std.proofs.Common.{◌≡◌, ◌+◌, ◌∷◌, refl, rules}
use Rattle.std.specs.Prelude.{IsSome}
use Rattle.fed_tree.proofs.Carrying.{ends_lost, goes_on}
use Rattle.fed_tree.proofs.feeding.carry_out_all.Goals as goal

pub returns-then-not-are_whole : goal.returns-then-not-are_whole
returns-then-not-are_whole c =
    let one = c.in-Ok.ensures in
    let left : c.loop-command.command-iterator.rest.items ≡ c.in-Some.command ∷ c.next.new.self.rest.items = search rules in
    ends_lost c.args.stage.now c.loop-command.stage c.carry_out.new.self c.args.commands.items c.loop-command.yielded c.loop-command.command-iterator.rest.items c.next.new.self.rest.items c.in-Some.command one.0 c.loop-command.events c.carry_out.new.handler c.loop-command.done c.loop-command.invariant left one.2 (c.loop-command.done + 1) refl one.1

pub loop-command-preserved : goal.loop-command-preserved
loop-command-preserved c =
    let one = c.in-Ok.ensures in
    let left : c.loop-command.command-iterator.rest.items ≡ c.in-Some.command ∷ c.next.new.self.rest.items = search rules in
    let whole : IsSome c.carry_out.new.handler = search rules in
    goes_on c.args.stage.now c.loop-command.stage c.carry_out.new.self c.args.commands.items c.loop-command.yielded c.loop-command.command-iterator.rest.items c.next.new.self.rest.items c.in-Some.command one.0 c.loop-command.events c.carry_out.new.handler c.loop-command.done c.loop-command.invariant left one.2 (c.loop-command.done + 1) refl one.1 whole
