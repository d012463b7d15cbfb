use Rattle.read.proofs.Alike.{typing_reads_the_same as alike}
use Rattle.read.proofs.reading.typing_reads_the_same.Goals as goal

pub returns : goal.returns
returns c = alike
