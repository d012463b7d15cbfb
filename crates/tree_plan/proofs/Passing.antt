-- What goes from one step to the next: an error that `?` passes on, and the look-ups so far.
use Rattle.std.proofs.Common.{◌≡◌, ℕ, ◌+◌, subst, sym, ◌∙◌, arith}
use Rattle.std.specs.Prelude.{Result, Ok, Err, IfErr}
use Rattle.std.specs.Result.{IsErrAnd}
use Rattle.model.specs.World.{World}
use Rattle.tree_changes.specs.declared.error.UpdateError.{UpdateError}
use Rattle.tree_plan.specs.Looks.{LooksUpTo}

pub passed_on : {T : Type 0} (P : UpdateError → Type 0) (r : Result T UpdateError) (e : UpdateError) → IsErrAnd r (λ y. y ≡ e) → P e → IfErr r P
passed_on P (Ok x) e is p = absurd is
passed_on P (Err y) e is p = subst P (sym is) p

-- the look-ups of one step after those of another
pub looks_more : {S : Type 0} (world : S → World) (asked : S → ℕ) (a b c : S) (k n m : ℕ) → m ≡ k + n → LooksUpTo world asked a k b → LooksUpTo world asked b n c → LooksUpTo world asked a m c
looks_more world asked a b c k n m sum f g = (g.0 ∙ f.0, (omega (arith, f.1.0, g.1.0), omega (arith, f.1.1, g.1.1)))
