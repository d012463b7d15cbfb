use Rattle.std.proofs.Common.{◌≢◌, rules}
use Rattle.std.specs.Prelude.{IsSome}
use Rattle.tree_changes.specs.declared.error.UpdateError.TheVariants as error
use Rattle.fed_tree.proofs.CarryingOne.{one_done, one_lost, one_refused, one_wanting}
use Rattle.fed_tree.proofs.updating.carry_out_one.Goals as goal

pub returns-then-are_whole : goal.returns-then-are_whole
returns-then-are_whole c =
    let one = c.in-Ok.ensures in
    let whole : IsSome c.carry_out.new.handler = search rules in
    one_done c.args.stage.now c.carry_out.new.self c.args.command one.0 c.args.events.now
    c.carry_out.new.handler c.requires one.2 one.1 whole

pub returns-else-are_whole : goal.returns-else-are_whole
returns-else-are_whole c =
    let one = c.in-Ok.ensures in
    one_lost c.args.stage.now c.carry_out.new.self c.args.command one.0 c.args.events.now
    c.carry_out.new.handler c.requires one.2 one.1

pub returns-in-Err-Memory : goal.returns-in-Err-Memory
returns-in-Err-Memory c =
    let one = c.in-Err-Memory.ensures in
    one_wanting c.args.stage.now c.carry_out.new.self c.args.command one.0 c.args.events.now
    c.carry_out.new.handler c.requires one.2 c.in-Err-Memory.field-0 one.1

pub returns-in-Err : goal.returns-in-Err
returns-in-Err c =
    let one = c.in-Err.ensures in
    let rule : c.in-Err.why ≢ error.Memory = search rules in
    one_refused c.args.stage.now c.carry_out.new.self c.args.command one.0 c.args.events.now
    c.carry_out.new.handler c.requires one.2 c.in-Err.why rule one.1
