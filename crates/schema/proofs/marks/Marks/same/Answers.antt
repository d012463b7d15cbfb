-- Equal bits are equal marks.
use Rattle.std.proofs.Common.{ap, sym, ◌∙◌, eq-eqb}
use Rattle.std.proofs.lemmas.Bool.{eqb-true}
use Rattle.schema.specs.Marks.{mark_data}
use Rattle.schema.proofs.MarkBits.{same_marks}
use Rattle.schema.proofs.marks.Marks.same.Goals as goal

pub returns : goal.returns
returns c =
    let a = c.self.inside.bits in let b = c.other.inside.bits in (
      λ t. sym c.self.view_is ∙ ap mark_data (eqb-true a b t) ∙ c.other.view_is,
      λ e. eq-eqb a b (same_marks a b c.self.invariant c.other.invariant (c.self.view_is ∙ e ∙ sym c.other.view_is)),
    )
