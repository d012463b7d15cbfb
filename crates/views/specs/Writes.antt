-- The effect of a call that writes a text on its writer, and how it calls the writer.
use Rattle.std.specs.Prelude.{◌≡◌, ℕ, ◌+◌, Bool, true, false, List, ◌∷◌, ◌++◌, replicate, Result, OnOk, OnErr}
use Rattle.std.specs.List.{FoldsTo}
use Rattle.schema.specs.TextCalls.{TextCall, WithCharacter}

-- by what a writer received, and the number of its failed calls
module _ {W : Type 0} (received : W → List ℕ) (faults : W → ℕ) where
  -- it has the text, and no call failed
  pub record IsWritten (text : List ℕ) (old new : W) : Type 0 where
    pub has : received new ≡ received old ++ text
    pub failed : faults new ≡ faults old

  -- it has a beginning of the text, and then one call failed
  pub record IsCutShort (text : List ℕ) (old new : W) : Type 0 where
    pub front : List ℕ
    pub missing : List ℕ
    pub whole : front ++ missing ≡ text
    pub has : received new ≡ received old ++ front
    pub failed : faults new ≡ faults old + 1

  -- by the result of a function, it has the text, or it is cut short
  pub record IsWrittenBy {A E : Type 0} (r : Result A E) (text : List ℕ) (old new : W) : Type 0 where
    pub written : OnOk r (IsWritten text old new)
    pub cut_short : OnErr r (IsCutShort text old new)

  -- it has the text except for the rest, and no call failed
  pub record IsUnderWay (text rest : List ℕ) (old new : W) : Type 0 where
    pub front : List ℕ
    pub whole : front ++ rest ≡ text
    pub written : IsWritten front old new

-- one call for each of this many bullets
abbrev pub bullet_calls : ℕ → List TextCall
bullet_calls n = replicate n (WithCharacter 8226)

-- by the effect of one call on a writer
module _ {W : Type 0} (steps : W → TextCall → Bool → W → Type 0) where
  -- these calls were made, one after another, and each succeeded
  abbrev pub IsCalled : List TextCall → W → W → Type 0
  IsCalled calls old new = FoldsTo (λ w call v. steps w call true v) old calls new

  -- the first of these calls were made, and each but the last succeeded
  pub record IsCalledTillFault (calls : List TextCall) (old new : W) : Type 0 where
    pub front : List TextCall
    pub call : TextCall
    pub missing : List TextCall
    pub whole : front ++ (call ∷ missing) ≡ calls
    pub before : W
    pub taken : IsCalled front old before
    pub failed : steps before call false new

  -- by its result, a function made these calls, or the first of them till one failed
  pub record IsCalledBy {A E : Type 0} (r : Result A E) (calls : List TextCall) (old new : W) : Type 0 where
    pub called : OnOk r (IsCalled calls old new)
    pub stopped : OnErr r (IsCalledTillFault calls old new)
