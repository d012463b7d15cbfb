use Rattle.std.proofs.Common.{◌≡◌, ◌∙◌, option_copied}
use Rattle.page_states.specs.Differences.{element_of, field_shown}
use Rattle.page_states.proofs.FieldsTold.{told_of_same}
use Rattle.page_states.proofs.differences.write_field_difference.Goals as goal

pub returns : goal.returns
returns g c =
    let f = c.args.field in
    let was : option_copied c.as_deref.result ≡ field_shown c.args.old.now f = c.as_deref.ensures.value ∙ c.in_ok-was.ensures in
    let is : option_copied c.as_deref-2.result ≡ field_shown c.args.new.now f = c.as_deref-2.ensures.value ∙ c.in_ok-is.ensures in
    told_of_same _ _ _ (element_of f) _ _ _ _ _ _ c.requires c.element_of.ensures was is c.in_ok-write_difference.ensures
