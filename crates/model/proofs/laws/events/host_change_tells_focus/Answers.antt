use Rattle.model.proofs.Differences.HostChanges.{host_differences, differences_of_host}
use Rattle.model.proofs.laws.events.host_change_tells_focus.Goals as goal

pub returns : goal.returns
returns c = λ w focused ds. (host_differences w focused ds, differences_of_host w focused ds)
