-- A set with one more action has that action, and else what it had.
use Rattle.std.proofs.Common.{◌≡◌, ◌≢◌, ℕ, ◌+◌, ◌-◌, ◌^◌, ◌==◌, cond, nat_lt, max, sym, ap, subst, ◌∙◌, refl, arith, inl, inr}
use Rattle.std.specs.Int.{bit_at}
use Rattle.std.specs.Int.RustNames.{bit_or}
use Rattle.std.proofs.Math.Nat.{max-zero, le-add_right}
use Rattle.std.proofs.lemmas.Bool.{cases_eq, le-ltb}
use Rattle.std.proofs.lemmas.Nat.Bits.{bit_at_or, bit_at-pow_same, bit_at-pow_other, bit_at-lt}
use Rattle.schema.specs.Actions.{action_number, with_action, Gains}
use Rattle.schema.specs.declared.actions.Action.{Action}
use Rattle.schema.specs.declared.actions.Action.TheVariants.{Click, Focus, Increment, Decrement, Other}

-- the action of a number
abbrev action_from : ℕ → Action
action_from n = cond (nat_lt n 4) (cond (nat_lt n 2) (cond (nat_lt n 1) Click Focus) (cond (nat_lt n 3) Increment Decrement)) (Other (n - 4))

back : (a : Action) → action_from (action_number a) ≡ a
back Click = refl
back Focus = refl
back Increment = refl
back Decrement = refl
back (Other n) = let e : 4 + n - 4 ≡ n = omega arith in rw (le-ltb (4 + n) 4 (le-add_right 4 n), e)

same_action : (a b : Action) → action_number a ≡ action_number b → a ≡ b
same_action a b e = sym (back a) ∙ ap action_from e ∙ back b

-- the bit of the action itself
bit_gained : (set i : ℕ) → bit_at (bit_or set (2 ^ i)) i ≡ 1
bit_gained set i =
    let small = bit_at-lt set i in let one : max (bit_at set i) 1 ≡ 1 = omega (arith, small) in
    bit_at_or set (2 ^ i) i ∙ ap (λ x. max (bit_at set i) x) (bit_at-pow_same i) ∙ one

-- each other bit
bit_kept : (set i j : ℕ) → j ≢ i → bit_at (bit_or set (2 ^ i)) j ≡ bit_at set j
bit_kept set i j other = bit_at_or set (2 ^ i) j ∙ ap (λ x. max (bit_at set j) x) (bit_at-pow_other i j other) ∙ max-zero _

pub gains : (set : ℕ) (a : Action) → Gains set (with_action set a) a
gains set a b = elim (cases_eq (action_number b) (action_number a)) [
  | inl same ↦ (λ _. inl (same_action b a same), λ _. ap (λ x. x == 1) (ap (λ k. bit_at (with_action set a) k) same ∙ bit_gained set (action_number a)))
  | inr other ↦ (
    λ has. inr (ap (λ x. x == 1) (sym (bit_kept set (action_number a) (action_number b) other)) ∙ has),
    λ cases. elim cases [
      | inl same ↦ absurd (other (ap action_number same))
      | inr had ↦ ap (λ x. x == 1) (bit_kept set (action_number a) (action_number b) other) ∙ had
    ],
  )
]

-- the same where both sets are known by equations
pub gains_after : (old set new : ℕ) (a : Action) → set ≡ old → new ≡ with_action set a → Gains old new a
gains_after old set new a before after = subst (λ o. Gains o new a) before (subst (λ n. Gains set n a) (sym after) (gains set a))
