use Rattle.std.proofs.Common.{cond, None, refl, sym, ap, subst, ◌∙◌}
use Rattle.std.specs.Prelude.{IsSome}
use Rattle.std.specs.BTreeMap.{is_at}
use Rattle.model.specs.FullIds.{full_cmp}
use Rattle.values_by_id.specs.Cells.{value_at}
use Rattle.values_by_id.proofs.Entries.{at_none, at_some}
use Rattle.values_by_id.proofs.Kept.{both_after, stays}
use Rattle.values_by_id.proofs.index.IdIndex.remove.Goals as goal

pub returns-in-Some-clause-old : goal.returns-in-Some-clause-old
returns-in-Some-clause-old g c =
    sym (at_some c.self.inside.rows c.self.inside.others c.args.id.now c.in-Some.value (sym c.in-Some.ensures.old)) ∙ ap (λ es. value_at es c.args.id.now) c.self.view_is

pub returns-in-Some-clause-updates : goal.returns-in-Some-clause-updates
returns-in-Some-clause-updates g c q =
    let none = c.self.invariant.apart c.args.id.now (subst IsSome c.in-Some.ensures.old refl) in
    both_after c.self.inside.rows c.take.new.self c.self.inside.others c.self.inside.others c.args.id.now None None c.in-Some.ensures.values (stays (value_at c.self.inside.others) c.args.id.now none) q
    ∙ ap (λ es. cond (is_at (full_cmp c.args.id.now) q) None (value_at es q)) c.self.view_is

pub returns-in_err-value-clause-old : goal.returns-in_err-value-clause-old
returns-in_err-value-clause-old g c =
    let none = sym c.take.ensures.old ∙ c.in_default.is in
    c.from_residual.ensures ∙ c.in_err-value.ensures.old ∙ sym (at_none c.self.inside.rows c.self.inside.others c.args.id.now none) ∙ ap (λ es. value_at es c.args.id.now) c.self.view_is

pub returns-in_err-value-clause-updates : goal.returns-in_err-value-clause-updates
returns-in_err-value-clause-updates g c q =
    both_after c.self.inside.rows c.take.new.self c.self.inside.others c.remove.new.self c.args.id.now None None c.take.ensures.values c.in_err-value.ensures.updates q
    ∙ ap (λ es. cond (is_at (full_cmp c.args.id.now) q) None (value_at es q)) c.self.view_is

pub returns-clause-old : goal.returns-clause-old
returns-clause-old g c =
    let none = sym c.take.ensures.old ∙ c.in_default.is in
    c.in_ok-value.ensures.old ∙ sym (at_none c.self.inside.rows c.self.inside.others c.args.id.now none) ∙ ap (λ es. value_at es c.args.id.now) c.self.view_is

pub returns-clause-updates : goal.returns-clause-updates
returns-clause-updates g c q =
    both_after c.self.inside.rows c.take.new.self c.self.inside.others c.remove.new.self c.args.id.now None None c.take.ensures.values c.in_ok-value.ensures.updates q
    ∙ ap (λ es. cond (is_at (full_cmp c.args.id.now) q) None (value_at es q)) c.self.view_is
