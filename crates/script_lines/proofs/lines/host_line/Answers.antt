use Rattle.std.proofs.Common.{refl}
use Rattle.script_lines.proofs.PlainLines.{host_none, host_off, host_on}
use Rattle.script_lines.proofs.lines.host_line.Goals as goal

pub returns-in-on-clause-means : goal.returns-in-on-clause-means
returns-in-on-clause-means c = host_on _ c.in_ok-last_word.field-0.now c.in_ok-last_word.ensures.gives c.in-on.is

pub returns-in-off-clause-means : goal.returns-in-off-clause-means
returns-in-off-clause-means c = host_off _ c.in_ok-last_word.field-0.now c.in_ok-last_word.ensures.gives c.in-off.is

pub returns-in_default-clause-means : goal.returns-in_default-clause-means
returns-in_default-clause-means c = (refl, host_none _ c.in_ok-last_word.field-0.now c.in_ok-last_word.ensures.gives c.in_default.not-on c.in_default.not-off)
