use Rattle.std.proofs.Common.{◌≡◌, sym, subst, ◌∙◌}
use Rattle.std.specs.Prelude.{IfSome}
use Rattle.model.specs.Values.{value_of}
use Rattle.views.specs.Nodes.{world_at}
use Rattle.page_states.specs.Texts.{told_value}
use Rattle.page_states.proofs.shown_texts.tell_shared.Goals as goal

pub returns-then-is_that-clause-value : goal.returns-then-is_that-clause-value
returns-then-is_that-clause-value c =
    let w = world_at c.args.place.now.node in
    let told = c.args.told.now in
    sym (subst (λ o. IfSome o (λ source. value_of w source ≡ told_value told)) (c.is_that.ensures.0 c.if-is_that.true) c.requires.told) ∙ c.requires.shared
