use Rattle.texts.proofs.RunWords.{no_words_shown, words_shown}
use Rattle.std.proofs.Common.{sym, ap, ◌∙◌}
use Rattle.model.specs.RoleClasses.{is_password_input}
use Rattle.views.specs.Nodes.{data_at}
use Rattle.texts.proofs.words.shown_words.Goals as goal

pub returns-then-is_password_input : goal.returns-then-is_password_input
returns-then-is_password_input c =
    no_words_shown c.args.run (sym (c.is_password_input.ensures ∙ ap (λ n. is_password_input (data_at n).role) c.root.ensures) ∙ c.if-is_password_input.true)

pub returns : goal.returns
returns c =
    c.word_starts.ensures ∙ ap (λ d. d.word_starts) c.node.ensures
    ∙ words_shown c.args.run (sym (c.is_password_input.ensures ∙ ap (λ n. is_password_input (data_at n).role) c.root.ensures) ∙ c.if-is_password_input.false)
