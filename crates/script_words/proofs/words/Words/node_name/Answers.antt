use Rattle.std.proofs.Common.{rules, ◌++◌, Some}
use Rattle.std.specs.Fmt.{decimal}
use Rattle.script_words.specs.Parts.{tree_text}
use Rattle.script_words.specs.Reading.{after}
use Rattle.script_words.proofs.Cuts.{begins_two}
use Rattle.script_words.proofs.words.Words.node_name.Goals as goal

pub returns-in_err-node-clause-reads : goal.returns-in_err-node-clause-reads
returns-in_err-node-clause-reads c = λ name rest h e.
    let k = c.id.ensures.reads name.0 (Some (tree_text name.1 ++ after rest)) h.0 (begins_two _ (decimal name.0.0) (tree_text name.1) rest e) in search rules

pub returns-in_err-tree-clause-reads : goal.returns-in_err-tree-clause-reads
returns-in_err-tree-clause-reads c = λ name rest h e.
    let k = c.id.ensures.reads name.0 (Some (tree_text name.1 ++ after rest)) h.0 (begins_two _ (decimal name.0.0) (tree_text name.1) rest e) in
    let l = c.tree.ensures.reads name.1 rest h.1 k.1 in search rules

pub returns-clause-reads : goal.returns-clause-reads
returns-clause-reads c = λ name rest h e.
    let k = c.id.ensures.reads name.0 (Some (tree_text name.1 ++ after rest)) h.0 (begins_two _ (decimal name.0.0) (tree_text name.1) rest e) in
    let l = c.tree.ensures.reads name.1 rest h.1 k.1 in search rules
