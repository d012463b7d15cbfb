use Rattle.std.proofs.Common.{rules, ◌≡◌, ℕ, List, true, false, ap, subst, ◌∙◌}
use Rattle.line_text.specs.Words.{next_word, word_at}
use Rattle.line_faults.specs.Faults.{IsAtFirstUnknown, second_word, third_word}
use Rattle.line_faults.specs.Known.{IsTreeWord}
use Rattle.line_faults.specs.declared.reasons.FieldSet.TheVariants.{Update}
use Rattle.line_faults.proofs.LinesFound.{update_field}
use Rattle.line_faults.proofs.explaining.update_fault.Goals as goal

pub returns-clause-field : goal.returns-clause-field
returns-clause-field c = λ set e.
    let line = c.args.line.now in
    let found = c.fields_fault.ensures.field set e in
    let IsATree : List ℕ → Type 0 = λ word. IsTreeWord word in
    let is_tree : c.is_tree.result ≡ true = search rules in
    let at_tree : c.word_at.result.now ≡ word_at line (second_word line) = c.word_at.ensures ∙ ap (λ (at : ℕ). word_at line at) c.next_word-tree_at.ensures in
    let outside : c.args.is_inside ≡ false = search rules in
    let fields : c.next_word.result ≡ third_word line = c.next_word.ensures ∙ ap (λ (at : ℕ). next_word line at) c.next_word-tree_at.ensures in
    update_field c.args.is_inside line c.fields_fault.result outside c.requires (subst IsATree at_tree (c.is_tree.ensures.0 is_tree)) set found.0 (subst (λ (at : ℕ). IsAtFirstUnknown Update line at c.fields_fault.result) fields found.1)
