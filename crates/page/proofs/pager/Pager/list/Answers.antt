use Rattle.std.proofs.Common.{refl}
use Rattle.page.specs.declared.sections.Titled.{Titled}
use Rattle.page.proofs.pager.Pager.list.Goals as goal

pub returns-clause-listed : goal.returns-clause-listed
returns-clause-listed g c =
    let kept : Titled = record { title = c.in_ok-from_slice.field-0; summary = c.args.it } in
    record { state = kept; titled = c.in_ok-from_slice.ensures.items; summary = refl; states = c.in_ok-push.ensures.items }
