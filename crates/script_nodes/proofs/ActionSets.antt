-- A set of actions is the one that the list of its actions gives.
use Rattle.std.proofs.Common.{◌≡◌, ℕ, zero, suc, ◌<◌, ◌≤◌, ◌+◌, ◌*◌, ◌^◌, ◌%◌, ◌-◌, ◌==◌, List, [], ◌∷◌, ◌++◌, All, arith, Bool, true, false, ap, sym, refl, ◌∙◌, length, take, slice_index_or, add-one, codes, flat_map, inl, inr, length-append}
use Rattle.std.specs.Int.{bit_at}
use Rattle.std.specs.Int.RustNames.{bit_or}
use Rattle.std.proofs.Math.Nat.{mod-eq_of_lt}
use Rattle.std.proofs.Math.Numerals.{one-add}
use Rattle.std.proofs.Math.Seq.{take-suc}
use Rattle.std.proofs.lemmas.Bool.{cases_eq, cond_both}
use Rattle.std.proofs.lemmas.Bool.Decides.{nat_tests}
use Rattle.std.proofs.lemmas.Nat.{mod-pow-add, mod_below, pow_pos}
use Rattle.std.proofs.lemmas.Nat.Bits.{bit_at-lt, bit_at-zero}
use Rattle.std.proofs.lemmas.List.Elements.{All-append, All-cons, All-head, All-nil, All-tail}
use Rattle.schema.proofs.ActionBits.{or_high}
use Rattle.schema.specs.Actions.{action_number, has_action, with_action}
use Rattle.schema.specs.declared.actions.Action.{Action}
use Rattle.schema.specs.NodeData.{NodeData}
use Rattle.script_nodes.specs.declared.field_kinds.ActionsField.{ActionsField}
use Rattle.script_nodes.specs.declared.field_kinds.ActionsField.TheVariants as actions
use Rattle.script_nodes.specs.FieldKinds.{actions_at, with_actions_field}
use Rattle.script_nodes.specs.ActionLists.{action_numbered, actions_among, actions_in, chosen, with_actions}
use Rattle.script_words.specs.Parts.{action_list_text, action_text}
use Rattle.script_words.specs.Items.{comma_then}
use Rattle.script_words.specs.Reading.{IsAction, IsWord, Lacks}
use Rattle.script_words.proofs.ActionNames.{action_begins, action_lacks_space}
use Rattle.script_nodes.proofs.ActionSteps.{one_more_action}
use Rattle.script_words.proofs.Lacking.{lacks_append, lacks_by, lacks_nothing}

-- ---- one list after another

pub with_both : (set : ℕ) (xs ys : List Action) → with_actions set (xs ++ ys) ≡ with_actions (with_actions set xs) ys
unfolding with_actions
with_both set [] ys = refl
with_both set (x ∷ xs) ys = with_both (with_action set x) xs ys

pub no_more : (set : ℕ) → with_actions set [] ≡ set
unfolding with_actions
no_more set = refl

pub one_more : (set : ℕ) (xs : List Action) (action : Action) → with_actions set (xs ++ action ∷ []) ≡ with_action (with_actions set xs) action
unfolding with_actions
one_more set xs action = with_both set xs (action ∷ [])

-- the next one of a list
next_action : (set : ℕ) (xs : List Action) (i : ℕ) (d : Action) → i < length xs → with_action (with_actions set (take i xs)) (slice_index_or xs i d) ≡ with_actions set (take (i + 1) xs)
next_action set xs i d low = sym (ap (λ ys. with_actions set ys) (ap (λ k. take k xs) (add-one i) ∙ take-suc xs i d low) ∙ one_more set (take i xs) (slice_index_or xs i d))

-- ---- one of a node's two sets

pub given_same : (which : ActionsField) (n : NodeData) → with_actions_field which (actions_at which n) n ≡ n
given_same actions.Own n = refl
given_same actions.Children n = refl

-- a change of a set that was given
given_twice : (which : ActionsField) (set : ℕ) (change : ℕ → ℕ) (n : NodeData)
    → with_actions_field which (change (actions_at which (with_actions_field which set n))) (with_actions_field which set n) ≡ with_actions_field which (change set) n
given_twice actions.Own set change n = refl
given_twice actions.Children set change n = refl

-- a node that has the first ones of a list gains the next
pub gains_next : (which : ActionsField) (n : NodeData) (xs : List Action) (i : ℕ) (d : Action) (now new : NodeData) → i < length xs
    → now ≡ with_actions_field which (with_actions (actions_at which n) (take i xs)) n
    → new ≡ with_actions_field which (with_action (actions_at which now) (slice_index_or xs i d)) now
    → new ≡ with_actions_field which (with_actions (actions_at which n) (take (i + 1) xs)) n
gains_next which n xs i d now new low so_far next =
    next
    ∙ ap (λ node. with_actions_field which (with_action (actions_at which node) (slice_index_or xs i d)) node) so_far
    ∙ given_twice which (with_actions (actions_at which n) (take i xs)) (λ set. with_action set (slice_index_or xs i d)) n
    ∙ ap (λ set. with_actions_field which set n) (next_action (actions_at which n) xs i d low)

-- ---- what number an action has

number_of_numbered : (n : ℕ) → action_number (action_numbered n) ≡ n
unfolding action_numbered
number_of_numbered n =
    cond_both (n == 0) _ _ (λ a. action_number a ≡ n) (λ t. grind (arith, nat_tests, t)) (λ zeroth.
    cond_both (n == 1) _ _ (λ a. action_number a ≡ n) (λ t. grind (arith, nat_tests, t)) (λ first.
    cond_both (n == 2) _ _ (λ a. action_number a ≡ n) (λ t. grind (arith, nat_tests, t)) (λ second.
    cond_both (n == 3) _ _ (λ a. action_number a ≡ n) (λ t. grind (arith, nat_tests, t)) (λ third. grind (arith, nat_tests, zeroth, first, second, third)))))

is_action_numbered : (n : ℕ) → n < 260 → IsAction (action_numbered n)
unfolding action_numbered
is_action_numbered n low =
    cond_both (n == 0) _ _ IsAction (λ _ code e. cc) (λ _.
    cond_both (n == 1) _ _ IsAction (λ _ code e. cc) (λ _.
    cond_both (n == 2) _ _ IsAction (λ _ code e. cc) (λ _.
    cond_both (n == 3) _ _ IsAction (λ _ code e. cc) (λ _ code e. let same : 4 + (n - 4) ≡ 4 + code = ap action_number e in omega (arith, low, same)))))

-- ---- one more bit

or_top : (n low : ℕ) → low < 2 ^ n → bit_or low (2 ^ n) ≡ 2 ^ n + low
or_top n low fits =
    let a : 0 * 2 ^ n + low ≡ low = omega arith in
    let b : n + 0 ≡ n = omega arith in
    let c : 1 * 2 ^ n + low ≡ 2 ^ n + low = omega arith in
    sym (ap (λ k. bit_or low (2 ^ k)) b) ∙ sym (ap (λ x. bit_or x (2 ^ (n + 0))) a) ∙ sym (or_high n 0 low 0 fits) ∙ c

with_bit : (set n : ℕ) → bit_at set n ≡ 1 → bit_or (set % 2 ^ n) (2 ^ n) ≡ set % 2 ^ (1 + n)
with_bit set n is =
    let one : 1 * 2 ^ n + set % 2 ^ n ≡ 2 ^ n + set % 2 ^ n = omega arith in
    or_top n (set % 2 ^ n) (mod_below set (2 ^ n) (pow_pos n)) ∙ sym (mod-pow-add set 1 n ∙ ap (λ b. b * 2 ^ n + set % 2 ^ n) is ∙ one)

without_bit : (set n : ℕ) → bit_at set n ≡ 0 → set % 2 ^ n ≡ set % 2 ^ (1 + n)
without_bit set n is =
    let none : 0 * 2 ^ n + set % 2 ^ n ≡ set % 2 ^ n = omega arith in
    sym (mod-pow-add set 1 n ∙ ap (λ b. b * 2 ^ n + set % 2 ^ n) is ∙ none)

bit_of : (b : Bool) (set n : ℕ) → b ≡ (bit_at set n == 1) → with_actions (set % 2 ^ n) (chosen b (action_numbered n)) ≡ set % 2 ^ (1 + n)
unfolding with_actions chosen
bit_of true set n e = ap (λ k. bit_or (set % 2 ^ n) (2 ^ k)) (number_of_numbered n) ∙ with_bit set n (grind (arith, nat_tests, e))
bit_of false set n e = without_bit set n (grind (arith, nat_tests, e, bit_at-lt set n))

so_far : (set n : ℕ) → with_actions 0 (actions_among set n) ≡ set % 2 ^ n
unfolding actions_among
so_far set zero = let none : set % 2 ^ 0 ≡ 0 = omega arith in no_more 0 ∙ sym none
so_far set (suc n) =
    with_both 0 (actions_among set n) (chosen (has_action set (action_numbered n)) (action_numbered n))
    ∙ ap (λ s. with_actions s (chosen (has_action set (action_numbered n)) (action_numbered n))) (so_far set n)
    ∙ bit_of (has_action set (action_numbered n)) set n (ap (λ k. bit_at set k == 1) (number_of_numbered n))
    ∙ ap (λ k. set % 2 ^ k) (one-add n)

pub gathered : (set : ℕ) → set < 2 ^ 260 → with_actions 0 (actions_in set) ≡ set
unfolding actions_in
gathered set fits = so_far set 260 ∙ mod-eq_of_lt fits

pub none_there : (set : ℕ) → set < 2 ^ 260 → actions_in set ≡ [] → set ≡ 0
unfolding with_actions
none_there set fits e = sym (gathered set fits) ∙ ap (λ xs. with_actions 0 xs) e

-- ---- they are such as their type has them

chosen_is : (b : Bool) (action : Action) → IsAction action → All IsAction (chosen b action)
unfolding chosen
chosen_is true action h = All-cons IsAction action [] h (All-nil IsAction)
chosen_is false action h = All-nil IsAction

among_are : (set n : ℕ) → n ≤ 260 → All IsAction (actions_among set n)
unfolding actions_among
among_are set zero low = All-nil IsAction
among_are set (suc n) low = All-append IsAction (actions_among set n) (chosen (has_action set (action_numbered n)) (action_numbered n)) (among_are set n (omega (arith, low))) (chosen_is (has_action set (action_numbered n)) (action_numbered n) (is_action_numbered n (omega (arith, low))))

pub all_actions : (set : ℕ) → All IsAction (actions_in set)
unfolding actions_in
all_actions set = among_are set 260 (omega arith)

-- ---- whether there are any

pub nothing_has : (action : Action) → has_action 0 action ≡ false
nothing_has action = ap (λ b. b == 1) (bit_at-zero (action_number action))

pub none_so_far : (set n : ℕ) → actions_among set n ≡ [] → has_action set (action_numbered n) ≡ false → actions_among set (n + 1) ≡ []
unfolding chosen
none_so_far set n e lacking = one_more_action set n ∙ ap (λ xs. xs ++ chosen (has_action set (action_numbered n)) (action_numbered n)) e ∙ ap (λ b. chosen b (action_numbered n)) lacking

back_is_nothing : (xs ys : List Action) → xs ++ ys ≡ [] → ys ≡ []
back_is_nothing [] ys e = e
back_is_nothing (x ∷ xs) ys e = absurd (omega (arith, ap length e))

front_is_nothing : (xs ys : List Action) → xs ++ ys ≡ [] → xs ≡ []
front_is_nothing [] ys e = refl
front_is_nothing (x ∷ xs) ys e = absurd (omega (arith, ap length e))

not_chosen : (b : Bool) (action : Action) → chosen b action ≡ [] → b ≡ false
unfolding chosen
not_chosen true action e = absurd (omega (arith, ap length e))
not_chosen false action e = refl

among_has_none : (set m n : ℕ) → n < m → actions_among set m ≡ [] → has_action set (action_numbered n) ≡ false
unfolding actions_among
among_has_none set zero n low e = absurd (omega (arith, low))
among_has_none set (suc m) n low e = elim (cases_eq n m) [
  | inl same ↦ ap (λ k. has_action set (action_numbered k)) same ∙ not_chosen (has_action set (action_numbered m)) (action_numbered m) (back_is_nothing (actions_among set m) (chosen (has_action set (action_numbered m)) (action_numbered m)) e)
  | inr other ↦ among_has_none set m n (omega (arith, low, other)) (front_is_nothing (actions_among set m) (chosen (has_action set (action_numbered m)) (action_numbered m)) e)
]

-- where the list is empty the set has none of them
pub has_none : (set n : ℕ) → n < 260 → actions_in set ≡ [] → has_action set (action_numbered n) ≡ false
unfolding actions_in
has_none set n low e = among_has_none set 260 n low e

-- ---- the names of a list are a word

names_lack_space : (others : List Action) → All IsAction others → Lacks 32 (flat_map (comma_then action_text) others)
names_lack_space [] hs = lacks_nothing 32
names_lack_space (action ∷ others) hs =
    lacks_append 32 (comma_then action_text action) (flat_map (comma_then action_text) others)
    (lacks_append 32 (codes ",") (action_text action) (lacks_by 32 (codes ",") refl) (action_lacks_space action (All-head IsAction action others hs)))
    (names_lack_space others (All-tail IsAction action others hs))

pub action_list_is_word : (action : Action) (others : List Action) → IsAction action → All IsAction others → IsWord (action_list_text action others)
action_list_is_word action others h hs = (
  lacks_append 32 (action_text action) (flat_map (comma_then action_text) others) (action_lacks_space action h) (names_lack_space others hs),
  omega (arith, action_begins action, length-append (action_text action) (flat_map (comma_then action_text) others)),
)
