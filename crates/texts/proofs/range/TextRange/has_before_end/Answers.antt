use Rattle.texts.proofs.RangeEndTests.{begins_up_to, not_last, end_first, goes_on, position_first, in_one_run}
use Rattle.texts.proofs.range.TextRange.has_before_end.Goals as goal

pub loop-wanted-init : goal.loop-wanted-init
loop-wanted-init c =
    begins_up_to c.args.self c.args.position c.end.result c.biased_to_start-end.result c.requires.root c.requires.side c.end.ensures c.biased_to_start-end.ensures
    c.requires.past c.start.result c.biased_to_start.result c.start.ensures c.biased_to_start.ensures

pub returns-then-is_same : goal.returns-then-is_same
returns-then-is_same c =
    end_first c.args.self c.args.position c.end.result c.biased_to_start-end.result c.requires.root c.requires.side c.end.ensures c.biased_to_start-end.ensures
    c.loop-wanted.run c.loop-wanted.invariant c.id.result c.id-wanted.result c.is_same.result c.id.ensures c.id-wanted.ensures c.is_same.ensures
    c.id-in-loop-wanted.result c.id-last.result c.is_same-in-loop-wanted.result c.id-in-loop-wanted.ensures c.id-last.ensures c.is_same-in-loop-wanted.ensures
    c.loop-wanted-test.true c.if-is_same.true

pub returns-in_default : goal.returns-in_default
returns-in_default c =
    not_last c.args.self c.args.position c.end.result c.biased_to_start-end.result c.requires.root c.requires.side c.end.ensures c.biased_to_start-end.ensures
    c.loop-wanted.run c.loop-wanted.invariant c.id.result c.id-wanted.result c.is_same.result c.id.ensures c.id-wanted.ensures c.is_same.ensures
    c.loop-wanted-test.true c.in_default.ensures

pub loop-wanted-preserved : goal.loop-wanted-preserved
loop-wanted-preserved c =
    goes_on c.args.self c.args.position c.end.result c.biased_to_start-end.result c.requires.root c.requires.side c.end.ensures c.biased_to_start-end.ensures
    c.loop-wanted.run c.loop-wanted.invariant c.id.result c.id-wanted.result c.is_same.result c.id.ensures c.id-wanted.ensures c.is_same.ensures
    c.id-in-loop-wanted.result c.id-last.result c.is_same-in-loop-wanted.result c.id-in-loop-wanted.ensures c.id-last.ensures c.is_same-in-loop-wanted.ensures
    c.loop-wanted-test.true c.if-is_same.false c.in-Some.next c.in-Some.ensures

pub returns-then-is_same-2 : goal.returns-then-is_same-2
returns-then-is_same-2 c =
    in_one_run c.args.self c.args.position c.end.result c.biased_to_start-end.result c.requires.root c.requires.side c.end.ensures c.biased_to_start-end.ensures
    c.loop-wanted.run c.loop-wanted.invariant c.id.result c.id-wanted.result c.is_same.result c.id.ensures c.id-wanted.ensures c.is_same.ensures
    c.id-2.result c.id-last.result c.is_same-2.result c.id-2.ensures c.id-last.ensures c.is_same-2.ensures
    c.loop-wanted-test.false c.if-is_same-2.true

pub returns : goal.returns
returns c =
    position_first c.args.self c.args.position c.end.result c.biased_to_start-end.result c.requires.root c.requires.side c.end.ensures c.biased_to_start-end.ensures
    c.loop-wanted.run c.loop-wanted.invariant c.id.result c.id-wanted.result c.is_same.result c.id.ensures c.id-wanted.ensures c.is_same.ensures
    c.id-2.result c.id-last.result c.is_same-2.result c.id-2.ensures c.id-last.ensures c.is_same-2.ensures
    c.loop-wanted-test.false c.if-is_same-2.false
