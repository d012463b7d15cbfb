use Rattle.std.proofs.Common.{refl}
use Rattle.schema.specs.SameBy.{same_by}
use Rattle.model.specs.Styles.{same_style}
use Rattle.model.proofs.laws.texts.styled.Goals as goal

pub returns : goal.returns
unfolding same_by same_style
returns c = record { next = refl; next_end = refl; no_more = refl; own = refl; before = refl; first = refl }
