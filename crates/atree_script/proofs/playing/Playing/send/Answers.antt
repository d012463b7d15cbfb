use Rattle.std.proofs.Common.{refl}
use Rattle.atree_script.proofs.playing.Playing.send.Goals as goal

pub returns-in-Some : goal.returns-in-Some
returns-in-Some g c = rw c.in-Some.is (c.run.new.session, refl, c.run.ensures)
