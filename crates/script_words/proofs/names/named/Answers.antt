use Rattle.std.proofs.Common.{refl, sym, ◌∙◌, arith}
use Rattle.script_words.proofs.RoleWords.{named_here, named_later, named_nowhere}
use Rattle.script_words.proofs.names.named.Goals as goal

pub loop-name-init : goal.loop-name-init
loop-name-init g c = refl

pub returns-then-eq : goal.returns-then-eq
returns-then-eq g c = sym (c.loop-name.invariant ∙ named_here c.args.word.now c.args.table.now c.loop-name.name-index c.loop-name-item.result c.loop-name-test.true c.loop-name-item.is (sym c.eq.ensures ∙ c.if-eq.true))

pub loop-name-preserved : goal.loop-name-preserved
loop-name-preserved g c = c.loop-name.invariant ∙ named_later c.args.word.now c.args.table.now c.loop-name.name-index c.loop-name-item.result c.loop-name-test.true c.loop-name-item.is (sym c.eq.ensures ∙ c.if-eq.false)

pub returns : goal.returns
returns g c = sym (c.loop-name.invariant ∙ named_nowhere c.args.word.now c.args.table.now c.loop-name.name-index (omega (arith, c.loop-name-test.false)))
