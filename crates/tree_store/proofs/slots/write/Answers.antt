use Rattle.std.proofs.Common.{rules, ◌<◌, length}
use Rattle.std.specs.BTreeMap.{is_at}
use Rattle.model.specs.FullIds.{full_cmp}
use Rattle.tree_store.specs.Cells.{slot_at, record_at}
use Rattle.tree_store.proofs.WrittenSlots.{tight_put}
use Rattle.tree_store.proofs.slots.write.Goals as goal

pub returns-in-Put-default-Some-clause-tight : goal.returns-in-Put-default-Some-clause-tight
returns-in-Put-default-Some-clause-tight c q =
    let k = c.in-Put-default-Some.entry in
    let fits : k < length c.args.nodes.now.items = search rules in
    tight_put c.args.nodes.now.items k c.in-Put-default-Some.place (record_at c.args.slots.now c.args.id) (is_at (full_cmp c.args.id) q) (slot_at c.put_node.new.self q) (slot_at c.args.slots.now q) (c.put_node.ensures.slots q) fits
