use Rattle.std.proofs.Common.{rules, None}
use Rattle.script_words.proofs.Cuts.{begins_last}
use Rattle.script_words.proofs.words.Words.last_word.Goals as goal

pub returns-in_err-word-clause-reads : goal.returns-in_err-word-clause-reads
returns-in_err-word-clause-reads c = λ text w e. let k = c.word.ensures.reads text None w (begins_last _ text e) in search rules

pub returns-in_err-end-clause-reads : goal.returns-in_err-end-clause-reads
returns-in_err-end-clause-reads c = λ text w e. let k = c.in_ok-word.ensures.reads text None w (begins_last _ text e) in search rules

pub returns-clause-reads : goal.returns-clause-reads
returns-clause-reads c = λ text w e. let k = c.in_ok-word.ensures.reads text None w (begins_last _ text e) in search rules
