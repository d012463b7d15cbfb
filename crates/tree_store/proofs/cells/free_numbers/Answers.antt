use Rattle.std.proofs.Common.{◌<◌, length, arith}
use Rattle.tree_store.proofs.FreeNumbers.{next_number}
use Rattle.tree_store.proofs.cells.free_numbers.Goals as goal

pub loop-number-preserved : goal.loop-number-preserved
loop-number-preserved c =
    let cells = c.args.cells.now.cells in
    let i = c.loop-number.number in
    let low : i < length cells = omega (arith, c.loop-number-test.true, c.len-number-end.ensures) in
    record {
      found = next_number cells c.loop-number.free.items c.push_free.new.free.items i c.is_free.result c.loop-number.invariant.found low c.is_free.ensures c.in_ok-push_free.ensures.ok;
      room = omega (arith, c.loop-number.invariant.room, c.push_free.ensures.room);
    }
