-- What a run finds, from what its steps do.
use Rattle.std.proofs.Common.{◌≡◌, ℕ, List, [], Bool, true, false, Option, Some, None, arith, subst}
use Rattle.std.specs.Prelude.{◌≢◌, IfSome, Ok}
use Rattle.std.specs.Io.KnownBytes.{Keeps}
use Rattle.std.proofs.KnownBytes.{Appends-kept}
use Rattle.model.specs.World.{World}
use Rattle.atree_script.specs.Played.{Bytes}
use Rattle.atree_script.specs.Reports.{ReadsTree}
use Rattle.compare.specs.Answered.{AreLeftBy, Compares, IsLeftBy, IsNoAnswer, Says}
use Rattle.compare.specs.Compared.{IsCompared}
use Rattle.compare.specs.Parts.{IsCut}

-- what is compared stays so where the output keeps its bytes
still_compared : (old new : Option World) (before now after : Bytes) (is_equal : Bool) → IsCompared old new before now is_equal → Keeps now after → IsCompared old new before after is_equal
still_compared old new before now after true h kept = (h.0, Appends-kept before now after [] h.1 kept)
still_compared old new before now after false h kept = (h.0, (h.1.0, h.1.1, Appends-kept before now after h.1.0 h.1.2 kept))

pub compared : (old new : Option World) (before now after : Bytes) (is_equal : Bool) (status : ℕ) → IsCompared old new before now is_equal → Keeps now after → Says (λ answer. is_equal ≡ answer) status → Says (IsCompared old new before after) status
compared old new before now after is_equal status h kept says =
    let still = still_compared old new before now after is_equal h kept in
    (λ zero. subst (IsCompared old new before after) (says.0 zero) still, λ one. subst (IsCompared old new before after) (says.1 one) still)

pub answered : (input before after : Bytes) (old new : Option World) (status : ℕ) → IfSome input (λ bytes. AreLeftBy bytes old new) → Says (IsCompared old new before after) status → Says (Compares input before after) status
answered input before after old new status left says =
    let found : (e : Bool) → IsCompared old new before after e → Compares input before after e = λ e is. record { old = old; new = new; left = left; compared = is } in
    (λ zero. found true (says.0 zero), λ one. found false (says.1 one))

pub says_nothing : (Is : Bool → Type 0) (status : ℕ) → IsNoAnswer status → Says Is status
says_nothing Is status none = (λ zero. absurd (none.0 zero), λ one. absurd (none.1 one))

-- the end of a run that has compared both
pub ends_equal : (is_equal : Bool) (status : ℕ) → is_equal ≡ true → status ≢ 1 → Says (λ answer. is_equal ≡ answer) status
ends_equal is_equal status e other = (λ zero. e, λ one. absurd (other one))

pub ends_different : (is_equal : Bool) → is_equal ≡ false → Says (λ answer. is_equal ≡ answer) 1
ends_different is_equal e = (λ zero. absurd (omega arith), λ one. e)

pub ends_else : (is_equal : Bool) (status : ℕ) → status ≢ 0 → status ≢ 1 → Says (λ answer. is_equal ≡ answer) status
ends_else is_equal status some other = says_nothing (λ answer. is_equal ≡ answer) status (some, other)

-- what is read of a part is what it leaves
pub left_by : (script bytes : List ℕ) (before after : Bytes) (world : Option World) → bytes ≡ script → ReadsTree (Some bytes) before after (Ok world) → IsLeftBy script world
left_by script bytes before after world e reads = (before, (after, subst (λ b. ReadsTree (Some b) before after (Ok world)) e reads))

-- what both parts leave is what the input leaves
pub both_left : (input : Bytes) (first second : List ℕ) (old new : Option World) → IfSome input (λ bytes. IsCut bytes first second) → IsLeftBy first old × IsLeftBy second new → IfSome input (λ bytes. AreLeftBy bytes old new)
both_left None first second old new cut left = tt
both_left (Some bytes) first second old new cut left = record { first = first; second = second; cut = cut; old_left = left.0; new_left = left.1 }
