use Rattle.std.proofs.Common.{rules, ◌≡◌, ℕ, List, true, ap, subst, ◌∙◌}
use Rattle.line_text.specs.Words.{next_word, word_at}
use Rattle.line_faults.specs.Faults.{IsAtFirstUnknown, IsNodeLine, after_third, second_word, third_word}
use Rattle.line_faults.specs.Known.{IsIdWord, IsRoleWord}
use Rattle.line_faults.specs.declared.reasons.FieldSet.TheVariants.{Node}
use Rattle.line_faults.proofs.LinesFound.{node_field}
use Rattle.line_faults.proofs.explaining.node_fault.Goals as goal

pub returns-clause-field : goal.returns-clause-field
returns-clause-field c = λ set e.
    let line = c.args.line.now in
    let found = c.fields_fault.ensures.field set e in
    let IsId : List ℕ → Type 0 = λ word. IsIdWord word in
    let IsARole : List ℕ → Type 0 = λ word. IsRoleWord word in
    let is_id : c.is_id.result ≡ true = search rules in
    let is_role : c.is_role.result ≡ true = search rules in
    let at_id : c.word_at.result.now ≡ word_at line (second_word line) = c.word_at.ensures ∙ ap (λ (at : ℕ). word_at line at) c.next_word-id_at.ensures in
    let third : c.next_word-role_at.result ≡ third_word line = c.next_word-role_at.ensures ∙ ap (λ (at : ℕ). next_word line at) c.next_word-id_at.ensures in
    let at_role : c.word_at-role.result.now ≡ word_at line (third_word line) = c.word_at-role.ensures ∙ ap (λ (at : ℕ). word_at line at) third in
    let begins : IsNodeLine c.args.is_inside line = record {
      inside = search rules;
      word = c.requires;
      id = subst IsId at_id (c.is_id.ensures.0 is_id);
    } in
    let fields : c.next_word.result ≡ after_third line = c.next_word.ensures ∙ ap (λ (at : ℕ). next_word line at) third in
    node_field c.args.is_inside line c.fields_fault.result begins (subst IsARole at_role (c.is_role.ensures.0 is_role)) set found.0 (subst (λ (at : ℕ). IsAtFirstUnknown Node line at c.fields_fault.result) fields found.1)
