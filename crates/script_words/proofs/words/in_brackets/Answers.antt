use Rattle.std.proofs.Common.{◌≡◌, ◌++◌, [], ◌∷◌, drop, ap, ◌∙◌, arith}
use Rattle.std.proofs.lemmas.Str.Pattern.{strip_suffix_char}
use Rattle.script_words.proofs.Enclosed.{before_bracket}
use Rattle.script_words.proofs.words.in_brackets.Goals as goal

pub returns-clause-reads : goal.returns-clause-reads
returns-clause-reads c = λ inner e.
    let k = c.in_ok-strip_prefix.ensures.cases in
    let rest : c.in_ok-strip_prefix.field-0.now ≡ inner ++ 41 ∷ [] = k.2 ∙ ap (λ n. drop n c.args.word.now) k.1.0 ∙ ap (λ t. drop 6 t) e in
    before_bracket inner c.in_ok-strip_prefix.field-0.now c.strip_suffix.result rest (strip_suffix_char 41 c.in_ok-strip_prefix.field-0.now c.strip_suffix.result c.strip_suffix.ensures.cases (omega arith))
