use Rattle.std.proofs.Common.{◌<◌, refl, sym, ap, subst, ◌∙◌}
use Rattle.values_by_id.specs.Ways.{cell_at, number_of, found, IsEnd, IsOrdered}
use Rattle.values_by_id.proofs.Ways.{same_split, cell_is, blanks, blanks_last, parted_own, parted_others, parted_ordered}
use Rattle.values_by_id.proofs.trie.Trie.split.Goals as goal

pub invariant_of-self-2 : goal.invariant_of-self-2
invariant_of-self-2 c =
    let cells = c.self.inside.cells.items in
    let e = subst (λ l. IsEnd l c.args.id c.args.place) (sym c.self.view_is) c.requires.end in
    let own_fits = subst (λ d. d < 16) c.digit-2.ensures.value c.digit-2.ensures.below in
    let other_fits = subst (λ d. d < 16) c.digit.ensures.value c.digit.ensures.below in
    let s = c.parting-shift.result in
    subst (λ l. IsOrdered l)
    (sym
    (same_split cells (blanks 16) c.args.place s c.args.number c.args.id c.args.other e.within e.last refl (blanks_last 16) c.parting-shift.ensures.differ own_fits other_fits c.in_ok-extend_from_slice.ensures.items c.in_ok-make_room.ensures.items
    (sym (cell_is cells c.args.place c.index.result.now c.index.ensures e.within)) (c.len-first.ensures ∙ c.self.inside.cells.ok.0) c.digit-2.ensures.value c.digit.ensures.value))
    (parted_ordered cells (blanks 16) c.args.place s c.args.number c.args.id c.args.other e.within e.last refl (blanks_last 16) c.parting-shift.ensures.differ own_fits other_fits c.parting-shift.ensures.bound c.self.invariant)

pub returns-clause-own : goal.returns-clause-own
returns-clause-own c =
    let cells = c.self.inside.cells.items in
    let e = subst (λ l. IsEnd l c.args.id c.args.place) (sym c.self.view_is) c.requires.end in
    let own_fits = subst (λ d. d < 16) c.digit-2.ensures.value c.digit-2.ensures.below in
    let other_fits = subst (λ d. d < 16) c.digit.ensures.value c.digit.ensures.below in
    let s = c.parting-shift.result in
    ap (λ l. found l c.args.id)
    (same_split cells (blanks 16) c.args.place s c.args.number c.args.id c.args.other e.within e.last refl (blanks_last 16) c.parting-shift.ensures.differ own_fits other_fits c.in_ok-extend_from_slice.ensures.items c.in_ok-make_room.ensures.items
    (sym (cell_is cells c.args.place c.index.result.now c.index.ensures e.within)) (c.len-first.ensures ∙ c.self.inside.cells.ok.0) c.digit-2.ensures.value c.digit.ensures.value)
    ∙ parted_own cells (blanks 16) c.args.place s c.args.number c.args.id c.args.other e.within e.last refl (blanks_last 16) c.parting-shift.ensures.differ own_fits other_fits e

pub returns-clause-others : goal.returns-clause-others
returns-clause-others c q k h to_other =
    let cells = c.self.inside.cells.items in
    let e = subst (λ l. IsEnd l c.args.id c.args.place) (sym c.self.view_is) c.requires.end in
    let own_fits = subst (λ d. d < 16) c.digit-2.ensures.value c.digit-2.ensures.below in
    let other_fits = subst (λ d. d < 16) c.digit.ensures.value c.digit.ensures.below in
    let s = c.parting-shift.result in
    ap (λ l. found l q)
    (same_split cells (blanks 16) c.args.place s c.args.number c.args.id c.args.other e.within e.last refl (blanks_last 16) c.parting-shift.ensures.differ own_fits other_fits c.in_ok-extend_from_slice.ensures.items c.in_ok-make_room.ensures.items
    (sym (cell_is cells c.args.place c.index.result.now c.index.ensures e.within)) (c.len-first.ensures ∙ c.self.inside.cells.ok.0) c.digit-2.ensures.value c.digit.ensures.value)
    ∙ parted_others cells (blanks 16) c.args.place s c.args.number c.args.id c.args.other e.within e.last refl (blanks_last 16) c.parting-shift.ensures.differ own_fits other_fits q k (ap (λ l. found l q) c.self.view_is ∙ h)
    (λ is. to_other (ap (λ l. number_of (cell_at l c.args.place)) (sym c.self.view_is) ∙ is))
