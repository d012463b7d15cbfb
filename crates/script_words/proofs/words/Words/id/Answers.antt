use Rattle.std.proofs.Common.{◌≡◌, None, Option, List, ℕ, Some, option_map, ap, rules, sym, ◌∙◌}
use Rattle.script_words.specs.Meaning.{next_as, onward}
use Rattle.script_words.specs.Reading.{unread}
use Rattle.script_words.specs.WordValues.{id_of, node_id}
use Rattle.script_words.proofs.WordCuts.{one_taken}
use Rattle.script_words.proofs.WordMeanings.{number_is}
use Rattle.script_words.proofs.words.Words.id.Goals as goal

pub returns-in_err-number-clause-takes : goal.returns-in_err-number-clause-takes
returns-in_err-number-clause-takes c =
    let word = c.in_ok-word.field-0.now in
    let none : next_as id_of (unread c.args.self.now) ≡ None =
    one_taken id_of _ (unread c.word.new.self) word c.in_ok-word.ensures.takes ∙ ap (λ o. onward (option_map node_id o) (λ v. Some (v, unread c.word.new.self))) (sym (number_is word c.number.result c.number.ensures.exact) ∙ c.in_err-number.ensures.ok_part) in
    search rules

pub returns-clause-takes : goal.returns-clause-takes
returns-clause-takes c =
    let word = c.in_ok-word.field-0.now in
    one_taken id_of _ (unread c.word.new.self) word c.in_ok-word.ensures.takes ∙ ap (λ o. onward (option_map node_id o) (λ v. Some (v, unread c.word.new.self))) (sym (number_is word c.number.result c.number.ensures.exact) ∙ c.in_ok-number.ensures.ok_part)
