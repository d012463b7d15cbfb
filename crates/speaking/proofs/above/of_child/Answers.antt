use Rattle.std.proofs.Common.{◌≡◌, ◌||◌, refl, ap, ◌∙◌}
use Rattle.model.specs.RoleClasses.{is_password_input}
use Rattle.views.specs.Nodes.{world_at, id_at, data_at}
use Rattle.views.proofs.Climbing.{data_shown}
use Rattle.speaking.specs.Holders.{speaks_for_runs}
use Rattle.speaking.specs.declared.above.Above.{Above}
use Rattle.speaking.proofs.Steps.{said_below, child_says}
use Rattle.speaking.proofs.above.of_child.Goals as goal

pub returns : goal.returns
returns c = λ same up is.
    let w = world_at c.args.node in
    let id = id_at c.args.node in
    let d = data_at c.args.node in
    let q = id_at c.args.parent in
    let e = data_at c.args.parent in
    let carried : Above → Above = said_below id d (is_password_input e.role) (speaks_for_runs e) in
    let held = c.either-4.ensures ∙ ap (λ b. b || c.args.above.is_held) c.speaks_for_runs.ensures in
    let secret = c.either-3.ensures ∙ ap (λ b. b || c.args.above.is_in_password) c.is_password_input.ensures in
    let busy = c.either-2.ensures ∙ ap (λ b. b || c.args.above.is_busy) c.is_busy.ensures in
    let hides = c.either.ensures ∙ ap (λ b. b || c.args.above.is_hidden) (c.is_hidden.ensures ∙ λ i. (c.data.ensures.is i).hidden) in
    let made : Above = record { live = c.live_or.result; is_hidden = c.either.result; is_busy = c.either-2.result; is_in_password = c.either-3.result; is_held = c.either-4.result; region = c.region_or.result } in
    let fields : made ≡ carried c.args.above = λ i. record { live = c.live_or.ensures i; is_hidden = hides i; is_busy = busy i; is_in_password = secret i; is_held = held i; region = c.region_or.ensures i } in
    fields ∙ ap carried is ∙ child_says w id d (data_shown w c.args.node refl) q e (data_shown w c.args.parent same) up
