-- Which values are equal: those of which the keys are.
use Rattle.std.specs.Prelude.{◌≡◌, Bool}
use Rattle.std.specs.Bool.{Decides}
use Rattle.std.specs.Coded.{Coded}
use Rattle.std.specs.Cmp.{IsPartialEquivalence, IsEquivalence, partial_equiv_from_equiv}
use Rattle.schema.specs.SameBy.{same_by, same_by-decides, same_by-equivalence}

module _ {A K : Type 0} (coded : Coded K) (key : A → K) where
  -- whether the keys of two values are equal
  unfoldable pub same_key : A → A → Bool
  same_key a b = same_by coded (key a) (key b)

  pub same_key-equivalence : IsEquivalence same_key
  unfolding same_key
  same_key-equivalence =
      let keys = same_by-equivalence coded in
      record { refl = λ a. keys.refl (key a); symm = λ a b. keys.symm (key a) (key b); congr = λ a b c. keys.congr (key a) (key b) (key c) }

  pub same_key-laws : IsPartialEquivalence same_key
  same_key-laws = partial_equiv_from_equiv same_key-equivalence

  pub same_key-decides : (a b : A) → Decides (same_key a b) (key a ≡ key b)
  unfolding same_key
  same_key-decides a b = same_by-decides coded (key a) (key b)
