use Rattle.script_words.proofs.Numerals.{pair_kept}
use Rattle.std.proofs.Common.{ap, ◌∙◌, option_map}
use Rattle.script_words.specs.PartValues.{shifted_by, translation_of}
use Rattle.script_words.proofs.WordMeanings.{pair_read}
use Rattle.script_words.proofs.words.translation.Goals as goal

pub returns-clause-only : goal.returns-clause-only
returns-clause-only c = let both = pair_kept c.args.word.now c.in_ok-x.x c.in_ok-x.y c.in_ok-x.ensures.only in ((both.0, both.1), both.2)

pub returns-in_err-x-clause-means : goal.returns-in_err-x-clause-means
unfolding translation_of
returns-in_err-x-clause-means c = c.from_residual.ensures ∙ ap (option_map shifted_by) c.in_err-x.ensures.means

pub returns-clause-means : goal.returns-clause-means
unfolding translation_of
returns-clause-means c =
    let both = c.in_ok-x.ensures.only in
    ap (option_map shifted_by) (pair_read c.in_ok-x.x c.in_ok-x.y _ both.0 both.1 c.in_ok-x.ensures.means)
