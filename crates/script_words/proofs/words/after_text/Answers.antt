use Rattle.std.proofs.Common.{None, arith, rules, ap, length, refl, sym}
use Rattle.std.proofs.lemmas.Str.Pattern.{strip_prefix_char}
use Rattle.script_words.proofs.TextSteps.{behind_none}
use Rattle.script_words.proofs.QuotedTexts.{no_space_missed}
use Rattle.script_words.proofs.words.after_text.Goals as goal

pub returns-in_default-clause-reads : goal.returns-in_default-clause-reads
returns-in_default-clause-reads c = λ more e. let none = ap length (no_space_missed c.args.rest.now more e c.in_default.ensures.cases) in search rules

pub returns-in_default-clause-means : goal.returns-in_default-clause-means
returns-in_default-clause-means c = (refl, behind_none c.args.rest.now (sym c.if-is_empty.ensures) (λ rest e. strip_prefix_char 32 c.args.rest.now None c.in_default.ensures.cases (omega arith) rest e))
