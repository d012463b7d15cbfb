use Rattle.std.proofs.Common.{◌≡◌, ◌<◌, sym, subst, ◌∙◌}
use Rattle.views.proofs.Focusing.{is_not}
use Rattle.texts.proofs.RunOrder.{IsAhead, IsBehind, length_after, first_ahead, first_behind, next_ahead, next_behind, none_ahead, none_behind, met_ahead, met_behind, less_left}
use Rattle.texts.proofs.offsets.is_before.Goals as goal

pub loop-ahead-init : goal.loop-ahead-init
loop-ahead-init c = record {
  ahead = first_ahead c.args.run c.args.other c.requires.world c.requires.root c.next-ahead.result c.next-ahead.ensures;
  behind = first_behind c.args.run c.args.other c.requires.world c.requires.root c.previous-behind.result c.previous-behind.ensures;
}

pub returns-in_default : goal.returns-in_default
returns-in_default c = none_ahead c.args.run c.args.other c.requires.world c.requires.root (subst (IsAhead c.args.run c.args.other) c.in_default.is c.loop-ahead.invariant.ahead)

pub returns-in_default-behind : goal.returns-in_default-behind
returns-in_default-behind c =
    none_behind c.args.run c.args.other c.requires.world c.requires.root c.requires.apart (subst (IsBehind c.args.run c.args.other) c.in_default-behind.is c.loop-ahead.invariant.behind)

pub returns-then-is_same : goal.returns-then-is_same
returns-then-is_same c =
    met_ahead c.args.run c.args.other c.requires.world c.requires.root c.in-Some.next (subst (IsAhead c.args.run c.args.other) c.in-Some.is c.loop-ahead.invariant.ahead)
    (sym c.id.ensures ∙ c.is_same.ensures.0 c.if-is_same.true ∙ c.id-in-loop-ahead.ensures)

pub returns-then-is_same-2 : goal.returns-then-is_same-2
returns-then-is_same-2 c =
    met_behind c.args.run c.args.other c.requires.world c.requires.root c.in-Some-behind.previous (subst (IsBehind c.args.run c.args.other) c.in-Some-behind.is c.loop-ahead.invariant.behind)
    (sym c.id-in-loop-ahead-2.ensures ∙ c.is_same-in-loop-ahead.ensures.0 c.if-is_same-2.true ∙ c.id-in-loop-ahead-3.ensures)

pub loop-ahead-smaller : goal.loop-ahead-smaller
loop-ahead-smaller c = subst (λ o. length_after c.next-ahead-in-loop-ahead.result < length_after o) (sym c.in-Some.is) (less_left c.in-Some.next c.next-ahead-in-loop-ahead.result c.next-ahead-in-loop-ahead.ensures)

pub loop-ahead-preserved : goal.loop-ahead-preserved
loop-ahead-preserved c =
    let n = c.in-Some.next in
    let b = c.in-Some-behind.previous in
    record {
      ahead = next_ahead c.args.run c.args.other c.requires.world c.requires.root n (subst (IsAhead c.args.run c.args.other) c.in-Some.is c.loop-ahead.invariant.ahead)
          (λ e. is_not c.is_same.result (c.id.result ≡ c.id-in-loop-ahead.result) c.is_same.ensures c.if-is_same.false (c.id.ensures ∙ e ∙ sym c.id-in-loop-ahead.ensures))
          c.next-ahead-in-loop-ahead.result c.next-ahead-in-loop-ahead.ensures;
      behind = next_behind c.args.run c.args.other c.requires.world c.requires.root b (subst (IsBehind c.args.run c.args.other) c.in-Some-behind.is c.loop-ahead.invariant.behind)
          (λ e. is_not c.is_same-in-loop-ahead.result (c.id-in-loop-ahead-2.result ≡ c.id-in-loop-ahead-3.result) c.is_same-in-loop-ahead.ensures c.if-is_same-2.false (c.id-in-loop-ahead-2.ensures ∙ e ∙ sym c.id-in-loop-ahead-3.ensures))
          c.previous-behind-in-loop-ahead.result c.previous-behind-in-loop-ahead.ensures;
    }
