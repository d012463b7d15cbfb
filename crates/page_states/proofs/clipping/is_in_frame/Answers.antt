use Rattle.std.proofs.Common.{◌&&◌, sym, ap, ◌∙◌}
use Rattle.page_states.specs.Known.{is_along}
use Rattle.page_states.proofs.clipping.is_in_frame.Goals as goal

pub returns-then-is_across : goal.returns-then-is_across
returns-then-is_across c =
    let r = c.args.rect in let f = c.args.frame in
    c.is_upright.ensures ∙ sym (ap (λ b. b && is_along r.y0 r.y1 f.y0 f.y1) (sym c.is_across.ensures ∙ c.if-is_across.true))

pub returns-else-is_across : goal.returns-else-is_across
returns-else-is_across c =
    let r = c.args.rect in let f = c.args.frame in
    c.if-is_across.false ∙ sym (ap (λ b. b && is_along r.y0 r.y1 f.y0 f.y1) (sym c.is_across.ensures ∙ c.if-is_across.false))
