use Rattle.std.proofs.Common.{length, ap, sym, ◌∙◌, arith, length-append}
use Rattle.values_by_id.proofs.Entries.{row_pushed_after, count_pushed}
use Rattle.values_by_id.proofs.row.Row.extend.Goals as goal

pub loop-preserved : goal.loop-preserved
loop-preserved g c =
    let now = c.loop.self-inside.cells.items in
    let new = c.push.new.self.items in
    let pushed = c.in_ok-push.ensures.items in
    record {
      same = row_pushed_after new now c.self.inside.cells.items pushed c.loop.invariant.same;
      count = ap length pushed ∙ grind (arith, length-append);
      used = c.loop.invariant.used ∙ sym (count_pushed new now pushed);
    }
