use Rattle.std.proofs.lemmas.Bool.Decides.{Decides-at}
use Rattle.page_states.proofs.Told.{options_decide, rectangles_decide, same_rectangle}
use Rattle.page_states.proofs.differences.is_same_box.Goals as goal

pub returns : goal.returns
returns c = Decides-at _ _ c.eq.ensures (options_decide same_rectangle rectangles_decide c.args.a c.args.b)
