-- What an export answers of what the library computes.
use Rattle.std.proofs.Common.{◌≡◌, ◌⊎◌, ℕ, ◌-◌, ◌^◌, ◌≤◌, min, List, Option, Some, None, option_map, map, Result, Ok, Err, IfOk, inr, refl, sym, ap, subst, arith}
use Rattle.std.specs.Prelude.{ℤ, pos, negsuc, MatchOption, MatchResult}
use Rattle.std.specs.Global.{Vec}
use Rattle.std.specs.Int.{saturate_signed, w64, w128}
use Rattle.schema.specs.declared.geometry.WideRect.{WideRect}
use Rattle.model.specs.Focus.{IsActiveDialog}
use Rattle.model.specs.declared.FullNodeId.{FullNodeId}
use Rattle.fed_tree.specs.Fed.{Fed}
use Rattle.fed_tree_c.specs.Answers.{Answers, CLOSED, Gives, GivesList, IsNoMemory, NOTHING, nothing}
use Rattle.fed_tree_c.specs.Computing.{IsDialogIn}
use Rattle.fed_tree_c.specs.Records.{bounds_of, id_of}
use Rattle.fed_tree_c.specs.declared.records.AkBounds.{AkBounds}
use Rattle.fed_tree_c.specs.declared.records.AkId.{AkId}

-- the active dialog of the tree of a handle
pub dialog_answered : (handle : Option Fed) (fed : Fed) (found : Option FullNodeId) (status : ℕ) (old new : AkId)
    → Some fed ≡ handle → MatchOption fed.world (found ≡ None) (λ w. IsActiveDialog w found) → Gives NOTHING (option_map id_of found) status old new
    → (f : Option FullNodeId) × IsDialogIn handle f × Answers handle nothing (λ _. option_map id_of f) status old new
dialog_answered handle fed found status old new is dialog gives =
    subst (λ (o : Option Fed). (f : Option FullNodeId) × IsDialogIn o f × Answers o nothing (λ _. option_map id_of f) status old new) is (found, dialog, gives)

pub dialog_closed : (handle : Option Fed) (status : ℕ) (old new : AkId) → handle ≡ None → status ≡ CLOSED → new ≡ old
    → (f : Option FullNodeId) × IsDialogIn handle f × Answers handle nothing (λ _. option_map id_of f) status old new
dialog_closed handle status old new is s e =
    subst (λ (o : Option Fed). (f : Option FullNodeId) × IsDialogIn o f × Answers o nothing (λ _. option_map id_of f) status old new) (sym is) (None, refl, (s, e))

-- ---- numbers within 64 bits

min_twice : (n a b : ℕ) → a ≤ b → min (min n b) a ≡ min n a
min_twice n a b le = omega arith

-- what is within 128 bits first is then the nearest number within 64
pub clamped_twice : (z : ℤ) → saturate_signed w64 (saturate_signed w128 z) ≡ saturate_signed w64 z
clamped_twice (pos n) = ap pos (min_twice n (2 ^ 63 - 1) (2 ^ 127 - 1) (omega arith))
clamped_twice (negsuc n) = ap negsuc (min_twice n (2 ^ 63 - 1) (2 ^ 127 - 1) (omega arith))

-- ---- boxes

boxes_seen : (found : Option (Vec WideRect)) (asked : Option (List WideRect)) → option_map (λ boxes. boxes.items) found ≡ asked → option_map (λ boxes. map bounds_of boxes.items) found ≡ option_map (map bounds_of) asked
boxes_seen None asked is = ap (option_map (map bounds_of)) is
boxes_seen (Some boxes) asked is = ap (option_map (map bounds_of)) is

-- boxes that the text has, or hasn't, or has no memory for
pub boxes_answered : {E : Type 0} (lack : ℕ) (found : Result (Option (Vec WideRect)) E) (asked : Option (List WideRect)) (status : ℕ) (old new : List AkBounds) (old_count new_count : ℕ)
    → IfOk found (λ o. option_map (λ boxes. boxes.items) o ≡ asked)
    → MatchResult found (λ o. GivesList lack (option_map (λ boxes. map bounds_of boxes.items) o) status old new old_count new_count ⊎ IsNoMemory status old new old_count new_count) (λ e. IsNoMemory status old new old_count new_count)
    → GivesList lack (option_map (map bounds_of) asked) status old new old_count new_count ⊎ IsNoMemory status old new old_count new_count
boxes_answered lack (Ok o) asked status old new old_count new_count is given = subst (λ (a : Option (List AkBounds)). GivesList lack a status old new old_count new_count ⊎ IsNoMemory status old new old_count new_count) (boxes_seen o asked is) given
boxes_answered lack (Err e) asked status old new old_count new_count is given = inr given
