use Rattle.std.proofs.Common.{All, take}
use Rattle.script_nodes.specs.NodeReading.{HasActionSets, IsValue}
use Rattle.script_nodes.proofs.fits.node_fits.Given as goal

-- the fields so far are within their bounds
abbrev pub invariant-loop-field : goal.invariant-loop-field
invariant-loop-field l = HasActionSets l.fn.node → All (λ entry. IsValue entry.1 l.fn.node) (take l.field-index l.field-items)
