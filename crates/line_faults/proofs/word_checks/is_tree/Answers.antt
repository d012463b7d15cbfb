use Rattle.std.proofs.Common.{ℕ, List}
use Rattle.schema.specs.declared.TreeId.{TreeId}
use Rattle.script_words.specs.Says.{SaysTree}
use Rattle.line_faults.proofs.KnownNames.{text_known}
use Rattle.line_faults.proofs.word_checks.is_tree.Goals as goal

pub returns : goal.returns
returns c =
    let P : TreeId → List ℕ → Type 0 = λ n text. SaysTree text n in
    text_known c.args.word.now _ c.tree_named.result P c.is_some.result c.in-Ok.ensures.cases.1 c.in-Ok.ensures.cases.0 c.is_some.ensures c.tree_named.ensures.exact
