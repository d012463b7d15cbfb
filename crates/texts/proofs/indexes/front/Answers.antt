use Rattle.std.proofs.Common.{◌≡◌, ◌+◌, length, take, ap, ◌∙◌, arith}
use Rattle.views.specs.Runs.{sent_of}
use Rattle.texts.proofs.UnitCounts.{sum_next, sum_fits, front_boundary, front_text}
use Rattle.texts.proofs.indexes.front.Goals as goal

pub overflow_add-end : goal.overflow_add-end
overflow_add-end c =
    let r = sent_of c.args.run in
    let first : c.split_at.result.0.now ≡ take c.args.index r.node.character_lengths = c.split_at.ensures.front ∙ ap (take c.args.index) (c.character_lengths.ensures ∙ ap (λ d. d.character_lengths) c.node.ensures) in
    let next = sum_next r c.args.index c.requires.cut c.split_at.result.0.now first c.loop-length.length-index c.from-end.result c.loop-length-test.true c.from-end.ensures in
    let fits = sum_fits r c.args.index c.requires.cut c.split_at.result.0.now first (c.loop-length.length-index + 1) in
    omega (arith, next, fits, c.loop-length.invariant, ap length c.value-value.ensures)

pub loop-length-preserved : goal.loop-length-preserved
loop-length-preserved c =
    let r = sent_of c.args.run in
    let first : c.split_at.result.0.now ≡ take c.args.index r.node.character_lengths = c.split_at.ensures.front ∙ ap (take c.args.index) (c.character_lengths.ensures ∙ ap (λ d. d.character_lengths) c.node.ensures) in
    let next = sum_next r c.args.index c.requires.cut c.split_at.result.0.now first c.loop-length.length-index c.from-end.result c.loop-length-test.true c.from-end.ensures in
    omega (arith, next, c.loop-length.invariant)

pub split_at-requires-2 : goal.split_at-requires-2
split_at-requires-2 c =
    let r = sent_of c.args.run in
    let first : c.split_at.result.0.now ≡ take c.args.index r.node.character_lengths = c.split_at.ensures.front ∙ ap (take c.args.index) (c.character_lengths.ensures ∙ ap (λ d. d.character_lengths) c.node.ensures) in
    front_boundary r c.args.index c.requires.cut c.split_at.result.0.now first c.value-value.result.now c.loop-length.end c.loop-length.length-index c.value-value.ensures c.loop-length.invariant (omega (arith, c.loop-length-test.false)) c.value-value.utf8

pub returns : goal.returns
returns c =
    let r = sent_of c.args.run in
    let first : c.split_at.result.0.now ≡ take c.args.index r.node.character_lengths = c.split_at.ensures.front ∙ ap (take c.args.index) (c.character_lengths.ensures ∙ ap (λ d. d.character_lengths) c.node.ensures) in
    front_text r c.args.index c.requires.cut c.split_at.result.0.now first c.value-value.result.now c.loop-length.end c.loop-length.length-index c.value-value.ensures c.loop-length.invariant (omega (arith, c.loop-length-test.false)) c.split_at-2.result.0.now c.split_at-2.ensures.front
