-- What bytes an action's name has.
use Rattle.std.proofs.Common.{◌≡◌, ◌≢◌, ℕ, ◌<◌, ◌≤◌, List, ◌++◌, length, arith, false, refl, subst, codes}
use Rattle.std.specs.Char.{digit_value}
use Rattle.std.specs.Fmt.{decimal}
use Rattle.schema.specs.declared.actions.Action.{Action}
use Rattle.schema.specs.declared.actions.Action.TheVariants.{Click, Focus, Increment, Decrement, Other}
use Rattle.script_words.specs.Parts.{action_text}
use Rattle.script_words.specs.Reading.{IsAction, IsByte, Lacks}
use Rattle.script_words.specs.Says.{SaysAction, SaysOther}
use Rattle.script_words.proofs.Decimals.{decimal_lacks}
use Rattle.script_words.proofs.Lacking.{has, lacks_append, lacks_by}

-- a character that is in no name, and that no number has
action_lacks : (c : ℕ) → 10 ≤ digit_value c → has c (codes "Click") ≡ false → has c (codes "Focus") ≡ false → has c (codes "Increment") ≡ false
    → has c (codes "Decrement") ≡ false → has c (codes "Other(") ≡ false → has c (codes ")") ≡ false
    → (action : Action) → IsAction action → Lacks c (action_text action)
action_lacks c high click focus increment decrement before behind Click h = lacks_by c (codes "Click") click
action_lacks c high click focus increment decrement before behind Focus h = lacks_by c (codes "Focus") focus
action_lacks c high click focus increment decrement before behind Increment h = lacks_by c (codes "Increment") increment
action_lacks c high click focus increment decrement before behind Decrement h = lacks_by c (codes "Decrement") decrement
action_lacks c high click focus increment decrement before behind (Other code) h =
    let low = h code refl in
    lacks_append c (codes "Other(") (decimal code ++ codes ")") (lacks_by c (codes "Other(") before)
    (lacks_append c (decimal code) (codes ")") (decimal_lacks c high code (omega (arith, low))) (lacks_by c (codes ")") behind))

pub action_lacks_comma : (action : Action) → IsAction action → Lacks 44 (action_text action)
action_lacks_comma = action_lacks 44 (omega arith) refl refl refl refl refl refl

pub action_lacks_space : (action : Action) → IsAction action → Lacks 32 (action_text action)
action_lacks_space = action_lacks 32 (omega arith) refl refl refl refl refl refl

-- it isn't empty
pub action_begins : (action : Action) → 0 < length (action_text action)
action_begins Click = omega arith
action_begins Focus = omega arith
action_begins Increment = omega arith
action_begins Decrement = omega arith
action_begins (Other code) = omega arith

-- ---- which action a word says

-- one without a name
pub said_other : (word : List ℕ) (action : Action) → word ≢ codes "Click" → word ≢ codes "Focus" → word ≢ codes "Increment" → word ≢ codes "Decrement" → IsAction action → SaysAction word action → (code : ℕ) × (action ≡ Other code) × (IsByte code × SaysOther word code)
said_other word Click a b c d h s = absurd (a s)
said_other word Focus a b c d h s = absurd (b s)
said_other word Increment a b c d h s = absurd (c s)
said_other word Decrement a b c d h s = absurd (d s)
said_other word (Other code) a b c d h s = (code, refl, (h code refl, s))

pub other_is_action : (code : ℕ) → IsByte code → IsAction (Other code)
other_is_action code h n e = let same : code ≡ n = cc in subst IsByte same h
