use Rattle.std.proofs.Common.{◌++◌, codes}
use Rattle.std.proofs.KnownBytes.{Appends-trans}
use Rattle.page_states.specs.Named.{linked_text}
use Rattle.page.specs.Reports.{item_begun, item_ended}
use Rattle.page.proofs.reported.write_added.Goals as goal

pub returns : goal.returns
returns g c =
    let begun = item_begun c.args.tally (codes "a") (codes "added") in
    let named = linked_text c.args.state c.args.view in
    Appends-trans _ _ _ (begun ++ named) item_ended (Appends-trans _ _ _ begun named c.in_ok-begin_item.ensures c.in_ok-write_linked_name.ensures) c.in_ok-write_all.ensures.bytes
