-- What a step from a run to the next one tells.
use Rattle.std.proofs.Common.{◌≡◌, ◌<◌, Bool, true, false, length, ap, subst, arith}
use Rattle.std.specs.Prelude.{MatchBool}
use Rattle.views.specs.declared.runs.Run.{Run}
use Rattle.views.specs.Runs.{ids_after, IsAfter, StaysLast}

pub stepped : (done : Bool) (r s : Run) → MatchBool done (IsAfter r s) (StaysLast r s) → done ≡ true → IsAfter r s
stepped done r s told e = subst (λ (b : Bool). MatchBool b (IsAfter r s) (StaysLast r s)) e told

pub stayed : (done : Bool) (r s : Run) → MatchBool done (IsAfter r s) (StaysLast r s) → done ≡ false → StaysLast r s
stayed done r s told e = subst (λ (b : Bool). MatchBool b (IsAfter r s) (StaysLast r s)) e told

pub fewer_after : {r s : Run} → IsAfter r s → length (ids_after s) < length (ids_after r)
fewer_after after = let e = ap length after.after in omega (arith, e)
