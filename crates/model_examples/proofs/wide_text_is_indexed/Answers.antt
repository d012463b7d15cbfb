use Rattle.std.proofs.Common.{refl}
use Rattle.std.specs.Str.{chars}
use Rattle.model_examples.proofs.wide_text_is_indexed.Goals as goal

pub returns : goal.returns
unfolding chars
returns c = record { after_it = refl; last = refl; past = refl }
