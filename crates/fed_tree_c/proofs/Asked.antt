-- What an export answers, from what the tree answers.
use Rattle.std.proofs.Common.{◌≡◌, ◌⊎◌, ℕ, List, Option, Some, None, option_map, map, Result, Ok, Err, IfOk, inl, inr, refl, sym, ap, subst}
use Rattle.std.specs.Prelude.{MatchOption, MatchResult}
use Rattle.std.specs.Global.{Vec}
use Rattle.model.specs.Focus.{IsFocus}
use Rattle.model.specs.declared.FullNodeId.{FullNodeId}
use Rattle.fed_tree.specs.Fed.{Fed}
use Rattle.fed_tree.specs.Feeding.{Feeds}
use Rattle.fed_tree.specs.declared.feeding.FeedError.{FeedError}
use Rattle.fed_tree_c.specs.Answers.{Answers, CLOSED, Gives, GivesList, IsNoMemory, NOTHING, nothing}
use Rattle.fed_tree_c.specs.Questions.{IsFocusIn}
use Rattle.fed_tree_c.specs.Records.{id_of}
use Rattle.fed_tree_c.specs.Stops.{FeedsHeld, status_of, stop_of}
use Rattle.fed_tree_c.specs.declared.records.AkId.{AkId}
use Rattle.fed_tree_c.specs.declared.records.AkStop.{AkStop}

-- a text that the tree has, or hasn't, or has no memory for
pub text_answered : {S E : Type 0} (lack : ℕ) (bytes : S → List ℕ) (found : Result (Option S) E) (asked : Option (List ℕ)) (status : ℕ) (old new : List ℕ) (old_length new_length : ℕ)
    → IfOk found (λ o. option_map bytes o ≡ asked)
    → MatchResult found (λ o. GivesList lack (option_map bytes o) status old new old_length new_length) (λ e. IsNoMemory status old new old_length new_length)
    → GivesList lack asked status old new old_length new_length ⊎ IsNoMemory status old new old_length new_length
text_answered lack bytes (Ok o) asked status old new old_length new_length is given = inl (subst (λ (a : Option (List ℕ)). GivesList lack a status old new old_length new_length) is given)
text_answered lack bytes (Err e) asked status old new old_length new_length is given = inr given

seen_as : (found : Option (Vec FullNodeId)) (asked : Option (List FullNodeId)) → option_map (λ ids. ids.items) found ≡ asked → option_map (λ ids. map id_of ids.items) found ≡ option_map (map id_of) asked
seen_as None asked is = ap (option_map (map id_of)) is
seen_as (Some ids) asked is = ap (option_map (map id_of)) is

-- and so the ids of its nodes
pub ids_answered : {E : Type 0} (lack : ℕ) (found : Result (Option (Vec FullNodeId)) E) (asked : Option (List FullNodeId)) (status : ℕ) (old new : List AkId) (old_count new_count : ℕ)
    → IfOk found (λ o. option_map (λ ids. ids.items) o ≡ asked)
    → MatchResult found (λ o. GivesList lack (option_map (λ ids. map id_of ids.items) o) status old new old_count new_count ⊎ IsNoMemory status old new old_count new_count) (λ e. IsNoMemory status old new old_count new_count)
    → GivesList lack (option_map (map id_of) asked) status old new old_count new_count ⊎ IsNoMemory status old new old_count new_count
ids_answered lack (Ok o) asked status old new old_count new_count is given = subst (λ (a : Option (List AkId)). GivesList lack a status old new old_count new_count ⊎ IsNoMemory status old new old_count new_count) (seen_as o asked is) given
ids_answered lack (Err e) asked status old new old_count new_count is given = inr given

-- the tree of a handle was fed
pub fed_held : (handle new : Option Fed) (old fed : Fed) (lines : List ℕ) (result : Result Unit FeedError) (status : ℕ) (stop stopped : AkStop)
    → Some old ≡ handle → new ≡ Some fed → Feeds old lines result fed → status ≡ status_of result → stopped ≡ stop_of result → FeedsHeld handle lines new status stop stopped
fed_held handle new old fed lines result status stop stopped is e feeds s t =
    subst (λ (o : Option Fed). FeedsHeld o lines new status stop stopped) is (fed, result, e, feeds, s, t)

-- the focus of the tree of a handle
pub focus_answered : (handle : Option Fed) (fed : Fed) (found : Option FullNodeId) (status : ℕ) (old new : AkId)
    → Some fed ≡ handle → MatchOption fed.world (found ≡ None) (λ w. IsFocus w found) → Gives NOTHING (option_map id_of found) status old new
    → (f : Option FullNodeId) × IsFocusIn handle f × Answers handle nothing (λ _. option_map id_of f) status old new
focus_answered handle fed found status old new is focus gives =
    subst (λ (o : Option Fed). (f : Option FullNodeId) × IsFocusIn o f × Answers o nothing (λ _. option_map id_of f) status old new) is (found, focus, gives)

pub focus_closed : (handle : Option Fed) (status : ℕ) (old new : AkId) → handle ≡ None → status ≡ CLOSED → new ≡ old
    → (f : Option FullNodeId) × IsFocusIn handle f × Answers handle nothing (λ _. option_map id_of f) status old new
focus_closed handle status old new is s e =
    subst (λ (o : Option Fed). (f : Option FullNodeId) × IsFocusIn o f × Answers o nothing (λ _. option_map id_of f) status old new) (sym is) (None, refl, (s, e))
