-- What becomes of a tree's begun update, by what becomes of the update itself.
use Rattle.std.proofs.Common.{◌≡◌, ◌⊎◌, Option, Some, None, Result, Ok, Err, inl, inr, sym, ap, ◌∙◌, subst}
use Rattle.std.specs.Option.{option_map_or}
use Rattle.std.specs.Prelude.{MatchResult}
use Rattle.schema.specs.UpdateData.{UpdateData}
use Rattle.fed_tree.specs.Begun.{Builds, Changes, WantsMemory}
use Rattle.fed_tree.specs.Fed.{Fed}
use Rattle.fed_tree.specs.declared.updating.BuildError.{BuildError}
use Rattle.fed_tree.specs.declared.updating.BuildError.TheVariants.{OutOfPlace}

abbrev with_begun : Fed → Option UpdateData → Fed
with_begun fed begun = record fed { begun = begun }

-- what becomes of it, by what is wanted
abbrev ByWanted : Fed → Result Unit BuildError → Fed → Result UpdateData BuildError → Type 0
ByWanted old result new wanted =
    MatchResult wanted (λ u. (result ≡ Ok tt) × (new ≡ with_begun old (Some u))) (λ why. (result ≡ Err why) × (new ≡ old))

-- where none is begun
pub builds_none : (change : UpdateData → Result UpdateData BuildError) (old new : Fed) (result : Result Unit BuildError)
    → old.begun ≡ None → result ≡ Err OutOfPlace → new ≡ old → Builds change old result new
builds_none change old new result is e same =
    subst (λ (o : Option UpdateData). ByWanted old result new (option_map_or change o (Err OutOfPlace))) (sym is) (e, same)

pub neither : (change : UpdateData → Result UpdateData BuildError) (old new : Fed) (result : Result Unit BuildError)
    → old.begun ≡ None → result ≡ Err OutOfPlace → new ≡ old → WantsMemory old result new ⊎ Builds change old result new
neither change old new result is e same = inr (builds_none change old new result is e same)

-- and where one is, which becomes this
module _ (change : UpdateData → Result UpdateData BuildError) (old new : Fed) (u v : UpdateData) (result : Result Unit BuildError)
    (is : old.begun ≡ Some u) (becomes : new ≡ record old { begun = Some v }) where
  unchanged : v ≡ u → new ≡ old
  unchanged same = becomes ∙ ap (with_begun old) (ap Some same ∙ sym is)

  by_what : (wanted : Result UpdateData BuildError) → Changes wanted u result v → ByWanted old result new wanted
  by_what (Ok w) changes = (changes.0, becomes ∙ ap (λ (x : UpdateData). with_begun old (Some x)) changes.1)
  by_what (Err why) changes = (changes.0, unchanged changes.1)

  pub builds_some : Changes (change u) u result v → Builds change old result new
  builds_some changes =
      subst (λ (o : Option UpdateData). ByWanted old result new (option_map_or change o (Err OutOfPlace))) (sym is)
      (by_what (change u) changes)

  pub builds_or_wants : WantsMemory u result v ⊎ Changes (change u) u result v
      → WantsMemory old result new ⊎ Builds change old result new
  builds_or_wants (inl wants) = inl (wants.0, unchanged wants.1)
  builds_or_wants (inr changes) = inr (builds_some changes)
