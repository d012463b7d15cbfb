use Rattle.script_words.proofs.Cuts.{parts_at}
use Rattle.script_words.proofs.WordCuts.{split_parts_are}
use Rattle.script_words.proofs.cutting.parts_at.Goals as goal

pub returns-clause-reads : goal.returns-clause-reads
returns-clause-reads c = λ text rest lacks e. parts_at c.args.mark c.requires c.args.word.now text rest c.split_once.result lacks e c.split_once.ensures.cases

pub returns-clause-parts : goal.returns-clause-parts
returns-clause-parts c = split_parts_are c.args.mark c.requires c.args.word.now c.split_once.result c.split_once.ensures.cases
