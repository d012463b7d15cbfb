use Rattle.std.proofs.Common.{ap, sym, ◌∙◌}
use Rattle.std.specs.Ordering.{nat_cmp}
use Rattle.std.specs.Cmp.{nat_cmp_total, tied_itself}
use Rattle.std.specs.FinMap.{nat_cmp-IsAntisymmetric}
use Rattle.model.specs.FlatText.{offset}
use Rattle.model.proofs.laws.texts.equal_at_one_offset.Goals as goal

pub returns : goal.returns
returns c = λ t u p q. (λ e. nat_cmp-IsAntisymmetric (offset t p) (offset u q) e, λ e. ap (λ n. nat_cmp (offset t p) n) (sym e) ∙ tied_itself nat_cmp_total (offset t p))
