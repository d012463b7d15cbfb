use Rattle.std.proofs.Common.{Some, sym, ap, subst, ◌∙◌}
use Rattle.std.specs.Prelude.{is_some}
use Rattle.values_by_id.specs.Cells.{value_at}
use Rattle.values_by_id.specs.Found.{HasNo, id_at}
use Rattle.values_by_id.proofs.Led.{not_both, no_id, other_id, none_there, some_value, apart_when_found}
use Rattle.values_by_id.proofs.others.Others.number.Goals as goal

pub returns-in_err-kept-clause-none : goal.returns-in_err-kept-clause-none
returns-in_err-kept-clause-none g c e =
    let es = c.self.inside.entries.items in
    let own = ap (λ l. id_at l c.in_ok-number.number) (sym c.as_slice.ensures.value) ∙ sym c.in_err-kept.ensures in
    subst (λ l. HasNo l c.args.id) c.self.view_is (no_id c.self.inside.trie es c.self.invariant c.args.id c.in_ok-number.number (sym c.in_ok-number.ensures) own)

pub returns-in_err-kept-clause-found : goal.returns-in_err-kept-clause-found
returns-in_err-kept-clause-found g c =
    let es = c.self.inside.entries.items in
    let own = ap (λ l. id_at l c.in_ok-number.number) (sym c.as_slice.ensures.value) ∙ sym c.in_err-kept.ensures in
    ap is_some c.from_residual-in_err-kept.ensures
    ∙ sym (ap is_some (ap (λ l. value_at l c.args.id) (sym c.self.view_is) ∙ none_there es c.args.id (no_id c.self.inside.trie es c.self.invariant c.args.id c.in_ok-number.number (sym c.in_ok-number.ensures) own)))

pub returns-then-is_same-clause-there : goal.returns-then-is_same-clause-there
returns-then-is_same-clause-there g c =
    ap (λ l. id_at l c.in_ok-number.number) (sym c.self.view_is ∙ sym c.as_slice.ensures.value) ∙ sym c.in_ok-kept.ensures ∙ ap Some (c.is_same.ensures.0 c.if-is_same.true)

pub returns-then-is_same-clause-found : goal.returns-then-is_same-clause-found
returns-then-is_same-clause-found g c =
    let es = c.self.inside.entries.items in
    let own = ap (λ l. id_at l c.in_ok-number.number) (sym c.as_slice.ensures.value) ∙ sym c.in_ok-kept.ensures ∙ ap Some (c.is_same.ensures.0 c.if-is_same.true) in
    sym (ap (λ l. is_some (value_at l c.args.id)) (sym c.self.view_is) ∙ some_value es c.in_ok-number.number c.args.id (apart_when_found c.self.inside.trie es c.self.invariant) own)

pub returns-else-is_same-clause-none : goal.returns-else-is_same-clause-none
returns-else-is_same-clause-none g c e =
    let es = c.self.inside.entries.items in
    let own = ap (λ l. id_at l c.in_ok-number.number) (sym c.as_slice.ensures.value) ∙ sym c.in_ok-kept.ensures in
    subst (λ l. HasNo l c.args.id) c.self.view_is
    (other_id c.self.inside.trie es c.self.invariant c.args.id c.in_ok-number.number c.in_ok-kept.kept (sym c.in_ok-number.ensures) own
    (λ same. not_both c.is_same.result (c.is_same.ensures.1 same) c.if-is_same.false))

pub returns-else-is_same-clause-found : goal.returns-else-is_same-clause-found
returns-else-is_same-clause-found g c =
    let es = c.self.inside.entries.items in
    let own = ap (λ l. id_at l c.in_ok-number.number) (sym c.as_slice.ensures.value) ∙ sym c.in_ok-kept.ensures in
    sym
    (ap (λ l. is_some (value_at l c.args.id)) (sym c.self.view_is)
    ∙ ap is_some
    (none_there es c.args.id
    (other_id c.self.inside.trie es c.self.invariant c.args.id c.in_ok-number.number c.in_ok-kept.kept (sym c.in_ok-number.ensures) own
    (λ same. not_both c.is_same.result (c.is_same.ensures.1 same) c.if-is_same.false))))
