use Rattle.std.proofs.Common.{codes}
use Rattle.std.proofs.KnownBytes.{Appends-trans}
use Rattle.page_states.specs.Named.{linked_text}
use Rattle.page.specs.Reports.{item_begun}
use Rattle.page.proofs.reported.write_updated.Goals as goal

pub returns : goal.returns
returns g c =
    let begun = item_begun c.args.tally (codes "u") (codes "updated") in
    record {
      named = g.O.Write.contents c.write_linked_name.new.out;
      names = Appends-trans _ _ _ begun (linked_text c.args.state c.args.new) c.in_ok-begin_item.ensures c.in_ok-write_linked_name.ensures;
      compared = g.O.Write.contents c.write_differences.new.out;
      differs = c.in_ok-write_differences.ensures;
      ends = c.in_ok-write_all.ensures.bytes;
    }
