use Rattle.std.proofs.Common.{◌<◌, All, arith, length, subst, sym}
use Rattle.std.proofs.lemmas.List.{take_all}
use Rattle.std.proofs.lemmas.List.Elements.{All-more}
use Rattle.script_lines.specs.ReadingBack.{HasSets, IsEntry}
use Rattle.script_lines.proofs.read_back.entries_fit.Goals as goal

pub loop-entry-preserved : goal.loop-entry-preserved
loop-entry-preserved c = λ sets.
    let i = c.loop-entry.entry-index in
    let x = c.entry-item.result in
    let low : i < length c.args.nodes.now = omega (arith, c.loop-entry-test.true) in
    All-more IsEntry c.args.nodes.now i x low (c.loop-entry.invariant sets)
    (subst IsEntry c.entry-item.is (c.entry_fits.ensures.id, c.entry_fits.ensures.node (subst HasSets (sym c.entry-item.is) (sets i x low))))

pub returns : goal.returns
returns c = λ sets. subst (All IsEntry) (take_all c.loop-entry.entry-index c.args.nodes.now (omega (arith, c.loop-entry-test.false))) (c.loop-entry.invariant sets)
