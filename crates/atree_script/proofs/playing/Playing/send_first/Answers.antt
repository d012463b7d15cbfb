use Rattle.std.proofs.Common.{refl, inl}
use Rattle.atree_script.proofs.playing.Playing.send_first.Goals as goal

pub returns-in-Ok : goal.returns-in-Ok
returns-in-Ok g c = inl (c.in-Ok.session, c.in-Ok.ensures.ok, refl, c.begin-begun.ensures)
