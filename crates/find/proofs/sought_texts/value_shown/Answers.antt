use Rattle.std.proofs.Common.{Some, None, refl, sym, ap, ◌∙◌}
use Rattle.std.specs.Prelude.{option_map, string_bytes}
use Rattle.views.specs.Nodes.{world_at, id_at}
use Rattle.hidden_texts.specs.Hidden.{hides_value}
use Rattle.find.proofs.ShownValues.{none_either_way, own_value_shown}
use Rattle.find.proofs.sought_texts.value_shown.Goals as goal

pub returns-in-Some : goal.returns-in-Some
returns-in-Some c =
    let has = sym (ap (λ o. option_map string_bytes o) c.in-Some.is) ∙ c.in_ok-own.ensures.text in
    c.unless_hidden.ensures ∙ own_value_shown c.args.node c.is_password_input.result (Some (string_bytes c.in-Some.own)) c.is_password_input.ensures c.if-is_password_input.false has

pub returns-in-None : goal.returns-in-None
returns-in-None c =
    let has = sym (ap (λ o. option_map string_bytes o) c.in-None.is) ∙ c.in_ok-own.ensures.text in
    none_either_way (hides_value (world_at c.args.node) (id_at c.args.node)) None refl
    ∙ own_value_shown c.args.node c.is_password_input.result None c.is_password_input.ensures c.if-is_password_input.false has
