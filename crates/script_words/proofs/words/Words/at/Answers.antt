use Rattle.std.proofs.Common.{rules, ◌++◌, Some}
use Rattle.std.specs.Fmt.{decimal}
use Rattle.script_words.specs.Names.{side_name}
use Rattle.script_words.specs.Reading.{after}
use Rattle.script_words.proofs.Cuts.{begins_two}
use Rattle.script_words.proofs.words.Words.at.Goals as goal

pub returns-in_err-index-clause-reads : goal.returns-in_err-index-clause-reads
returns-in_err-index-clause-reads c = λ at rest h e.
    let k = c.index.ensures.reads at.index (Some (side_name at.side ++ after rest)) h (begins_two _ (decimal at.index) (side_name at.side) rest e) in search rules

pub returns-in_err-side-clause-reads : goal.returns-in_err-side-clause-reads
returns-in_err-side-clause-reads c = λ at rest h e.
    let k = c.index.ensures.reads at.index (Some (side_name at.side ++ after rest)) h (begins_two _ (decimal at.index) (side_name at.side) rest e) in
    let l = c.side.ensures.reads at.side rest k.1 in search rules

pub returns-clause-reads : goal.returns-clause-reads
returns-clause-reads c = λ at rest h e.
    let k = c.index.ensures.reads at.index (Some (side_name at.side ++ after rest)) h (begins_two _ (decimal at.index) (side_name at.side) rest e) in
    let l = c.side.ensures.reads at.side rest k.1 in search rules
