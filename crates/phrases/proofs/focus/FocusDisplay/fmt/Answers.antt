use Rattle.std.proofs.Common.{◌≡◌, ℕ, List, ◌++◌, codes, append_assoc, option_copied, ap, sym, ◌∙◌}
use Rattle.std.proofs.Output.{has_written_of_eq}
use Rattle.phrases.specs.Focus.{level_text, place_text, texts_said}
use Rattle.phrases.specs.Quoted.{part}
use Rattle.phrases.specs.StateTexts.{state_text}
use Rattle.phrases.specs.States.{after_comma}
use Rattle.phrases.proofs.focus.FocusDisplay.fmt.Goals as goal

six_parts : (a b c d e f : List ℕ) → a ++ (b ++ (c ++ (d ++ (e ++ f)))) ≡ a ++ b ++ c ++ d ++ e ++ f
six_parts a b c d e f =
    sym (append_assoc (a ++ b ++ c ++ d) e f ∙ append_assoc (a ++ b ++ c) d (e ++ f) ∙ append_assoc (a ++ b) c (d ++ (e ++ f)) ∙ append_assoc a b (c ++ (d ++ (e ++ f))))

pub returns-clause-writes : goal.returns-clause-writes
returns-clause-writes g c = λ plain ok.
    let s = c.args.self.now in
    let description = part (codes "description") (option_copied s.description) in
    let parts = six_parts (texts_said s) (state_text s.state) (after_comma (option_copied c.opening-popup.result.0)) (level_text s.level) (place_text s.place) description in
    let popup = ap (λ word. texts_said s ++ state_text s.state ++ after_comma word ++ level_text s.level ++ place_text s.place ++ description) c.opening-popup.ensures in
    has_written_of_eq _ _ _ _ _ (parts ∙ popup) (c.write.ensures.writes plain ok)
