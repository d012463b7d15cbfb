use Rattle.std.proofs.Common.{refl, sym, ap, ◌∙◌, None}
use Rattle.std.specs.Prelude.{is_some, option_and_then}
use Rattle.tree_store.specs.KeptNames.{name_at}
use Rattle.tree_store.proofs.NamesKept.{blank_kept, unused, no_blank_index, no_blank_graft, away, fewer}
use Rattle.tree_store.proofs.names.take_name_back.Goals as goal

pub returns-clause-same : goal.returns-clause-same
returns-clause-same c =
    blank_kept (name_at c.args.names.now) (name_at c.remove.new.self) c.args.name.now None refl c.remove.ensures.updates.0
    (unused (name_at c.args.names.now c.args.name.now)
    (ap (λ o. is_some (option_and_then (λ r. r.index) o)) (sym c.name_record-found.ensures) ∙ ap is_some (sym c.index_in.ensures) ∙ sym c.is_some.ensures ∙ c.if-is_some.false)
    (ap (λ o. is_some (option_and_then (λ r. r.graft) o)) (sym c.name_record-found.ensures) ∙ ap is_some (sym c.graft_in.ensures) ∙ sym c.is_some-2.ensures ∙ c.if-is_some-2.false))

pub returns-clause-fewer : goal.returns-clause-fewer
returns-clause-fewer c = fewer (name_at c.args.names.now) (name_at c.remove.new.self) c.args.name.now c.remove.ensures.updates.0

pub returns-clause-taken : goal.returns-clause-taken
returns-clause-taken c = λ _. away (name_at c.args.names.now) (name_at c.remove.new.self) c.args.name.now c.remove.ensures.updates.0

pub returns-then-is_some-clause-taken : goal.returns-then-is_some-clause-taken
returns-then-is_some-clause-taken c =
    no_blank_index (name_at c.args.names.now c.args.name.now)
    (ap (λ o. is_some (option_and_then (λ r. r.index) o)) (sym c.name_record-found.ensures) ∙ ap is_some (sym c.index_in.ensures) ∙ sym c.is_some.ensures ∙ c.if-is_some.true)

pub returns-then-is_some-2-clause-taken : goal.returns-then-is_some-2-clause-taken
returns-then-is_some-2-clause-taken c =
    no_blank_graft (name_at c.args.names.now c.args.name.now)
    (ap (λ o. is_some (option_and_then (λ r. r.graft) o)) (sym c.name_record-found.ensures) ∙ ap is_some (sym c.graft_in.ensures) ∙ sym c.is_some-2.ensures ∙ c.if-is_some-2.true)
