use Rattle.std.proofs.Common.{◌-◌, ◌≤◌, ℕ, length, length-drop, take, drop, arith, ap, sym, subst}
use Rattle.std.specs.Io.KnownBytes.{Appends, WriteAppends}
use Rattle.std.proofs.KnownBytes.{Appends-kept}
use Rattle.script_lines.proofs.Beginnings.{begun_here, begun_past, more_written, rest_is}
use Rattle.script_lines.proofs.writer.write_bytes.Goals.{in-Ok, in-Err}
use Rattle.script_lines.proofs.writer.write_bytes.Goals as goal

pub loop-preserved : goal.loop-preserved
loop-preserved g c =
    let bytes = c.args.bytes.now in
    let so_far = c.loop.invariant.1 in
    elim c.match-write.branch [
      | in-Ok w ↦ subst (λ (k : ℕ). (k ≤ length bytes) × Appends (g.O.Write.contents c.args.out.now) (g.O.Write.contents c.write.new.self) (take k bytes)) (sym w.written-is)
          (omega (arith, c.loop.invariant.0, w.in-Ok.ensures.bound, ap length (rest_is bytes c.loop.written), length-drop c.loop.written bytes), more_written bytes _ _ _ _ c.loop.written _ (rest_is bytes c.loop.written) so_far w.in-Ok.ensures.bytes)
      | in-Err w ↦ subst (λ (k : ℕ). (k ≤ length bytes) × Appends (g.O.Write.contents c.args.out.now) (g.O.Write.contents c.write.new.self) (take k bytes)) (sym w.written-is)
          (c.loop.invariant.0, Appends-kept _ _ _ _ so_far w.in-Err.ensures.bytes)
    ]

pub returns-after-loop-clause-begun : goal.returns-after-loop-clause-begun
returns-after-loop-clause-begun g c = begun_here c.args.bytes.now _ _ c.loop.written c.loop.invariant.1

pub returns-in-Ok-eq0-clause-begun : goal.returns-in-Ok-eq0-clause-begun
returns-in-Ok-eq0-clause-begun g c =
    let bytes = c.args.bytes.now in
    let rest = take (length bytes - c.loop.written) (drop c.loop.written bytes) in
    begun_past bytes rest _ _ _ c.loop.written _ (rest_is bytes c.loop.written) c.loop.invariant.1 (subst (λ r. WriteAppends (g.O.Write.contents c.loop.out) (g.O.Write.contents c.write.new.self) r rest) c.in-Ok-eq0.is c.write.ensures.bytes)

pub returns-in-Err-2-clause-begun : goal.returns-in-Err-2-clause-begun
returns-in-Err-2-clause-begun g c = begun_here c.args.bytes.now _ _ c.loop.written (Appends-kept _ _ _ _ c.loop.invariant.1 c.in-Err-2.ensures.bytes)
