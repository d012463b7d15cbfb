use Rattle.std.proofs.Common.{Some, None, sym}
use Rattle.script_words.proofs.Cuts.{cut_at}
use Rattle.script_words.proofs.WordCuts.{cut_parts}
use Rattle.script_words.proofs.cutting.cut_at.Goals as goal

pub returns-in-Some-clause-reads : goal.returns-in-Some-clause-reads
returns-in-Some-clause-reads c = λ text rest lacks e. let k = cut_at c.args.mark c.requires c.args.line.now text rest (Some (c.in-Some.part, c.in-Some.after)) lacks e c.in-Some.ensures.cases in (k.0, sym k.1)

pub returns-in-None-clause-reads : goal.returns-in-None-clause-reads
returns-in-None-clause-reads c = λ text rest lacks e. let k = cut_at c.args.mark c.requires c.args.line.now text rest None lacks e c.in-None.ensures.cases in (k.1, sym k.0)

pub returns-in-Some-clause-part : goal.returns-in-Some-clause-part
returns-in-Some-clause-part c = (cut_parts c.args.mark c.args.line.now c.in-Some.part.now (Some c.in-Some.after.now) (returns-in-Some-clause-reads c)).0

pub returns-in-Some-clause-behind : goal.returns-in-Some-clause-behind
returns-in-Some-clause-behind c = (cut_parts c.args.mark c.args.line.now c.in-Some.part.now (Some c.in-Some.after.now) (returns-in-Some-clause-reads c)).1

pub returns-in-None-clause-part : goal.returns-in-None-clause-part
returns-in-None-clause-part c = (cut_parts c.args.mark c.args.line.now c.args.line.now None (returns-in-None-clause-reads c)).0

pub returns-in-None-clause-behind : goal.returns-in-None-clause-behind
returns-in-None-clause-behind c = (cut_parts c.args.mark c.args.line.now c.args.line.now None (returns-in-None-clause-reads c)).1
