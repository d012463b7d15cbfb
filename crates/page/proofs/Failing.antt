-- A call that is made where nothing has failed before, and what is kept of its failure.
use Rattle.std.proofs.Common.{◌≡◌, Bool, true, false, not, Option, Some, None, Result, Ok, Err, is_some, refl, ap, ◌∙◌}
use Rattle.std.specs.Prelude.{IfNone, OnOk}
use Rattle.std.specs.Result.{result_err}

-- after a failure there is one
pub stays : {F : Type 0} (A : Type 0) (fault : Option F) (none : Bool) → is_some fault ≡ not none → none ≡ false → IfNone fault A
stays A None none is e = absurd (let clash : false ≡ true = is ∙ ap not e in cc)
stays A (Some fault) none is e = tt

-- where no failure is kept, the call succeeded; and what else it ensures
pub heard : {F O K : Type 0} (A : Type 0) → O → K → (before : Option F) (told : Result Unit F) (after : Option F) (none : Bool) → is_some before ≡ not none → none ≡ true →
    after ≡ result_err told → OnOk told A → O × K × IfNone after ((before ≡ None) × A)
heard A o k None (Ok done) after none is e kept told = (o, k, rw kept (refl, told))
heard A o k None (Err fault) after none is e kept told = (o, k, rw kept tt)
heard A o k (Some fault) told after none is e kept holds = absurd (let clash : true ≡ false = is ∙ ap not e in cc)
