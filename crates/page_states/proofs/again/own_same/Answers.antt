use Rattle.std.proofs.Common.{sym, ap, ◌∙◌}
use Rattle.std.specs.BTreeMap.{get}
use Rattle.model.specs.FullIds.{full_cmp}
use Rattle.views.specs.Nodes.{id_at}
use Rattle.page_states.specs.Again.{HasSameBox, HasSameRow}
use Rattle.page_states.proofs.Kept.{found_kept}
use Rattle.page_states.proofs.again.own_same.Goals as goal

pub returns-in-Some-clause-row : goal.returns-in-Some-clause-row
returns-in-Some-clause-row c =
    let kept = c.args.kept.now in let shown = c.args.shown.now in
    let found = ap (get full_cmp kept) (sym c.id.ensures) ∙ sym c.in-Some.ensures.value in
    found_kept kept (id_at shown.place.node) (λ last. HasSameRow shown.look last shown.place.mark) c.in-Some.last.now found c.same_row.result c.same_row.ensures

pub returns-in-Some-clause-drawn : goal.returns-in-Some-clause-drawn
returns-in-Some-clause-drawn c =
    let kept = c.args.kept.now in let shown = c.args.shown.now in
    let found = ap (get full_cmp kept) (sym c.id.ensures) ∙ sym c.in-Some.ensures.value in
    found_kept kept (id_at shown.place.node) (λ last. HasSameBox shown.look last shown.place.mark) c.in-Some.last.now found c.same_box.result c.same_box.ensures
