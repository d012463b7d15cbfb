-- Texts that are written part by part, each from the index at which the one before ends.
use Rattle.std.proofs.Common.{◌≡◌, ℕ, suc, ◌+◌, ◌-◌, ◌<◌, List, [], ◌∷◌, ◌++◌, Option, append_assoc, append-nil, arith, refl, sym, ap, subst, ◌∙◌}
use Rattle.std.specs.Io.KnownBytes.{Appends}
use Rattle.std.specs.List.{range_with_len}
use Rattle.std.proofs.KnownBytes.{Appends-nil, Appends-trans}

-- so much is written, and the rest makes it whole
pub record IsUnderWay (before now : Option (List ℕ)) (whole rest : List ℕ) : Type 0 where
  pub done : List ℕ
  pub written : Appends before now done
  pub goal : done ++ rest ≡ whole

pub starts : (before : Option (List ℕ)) (whole : List ℕ) → IsUnderWay before before whole whole
starts before whole = record { done = []; written = Appends-nil before; goal = refl }

pub rest_is : {before now : Option (List ℕ)} {whole rest other : List ℕ} → rest ≡ other → IsUnderWay before now whole rest → IsUnderWay before now whole other
rest_is {before = before} {now = now} {whole = whole} e way = subst (IsUnderWay before now whole) e way

pub goes_on : {before now next : Option (List ℕ)} {whole rest : List ℕ} (part : List ℕ) → IsUnderWay before now whole (part ++ rest) → Appends now next part → IsUnderWay before next whole rest
goes_on {before = before} {now = now} {next = next} {rest = rest} part way more = record {
  done = way.done ++ part;
  written = Appends-trans before now next way.done part way.written more;
  goal = append_assoc way.done part rest ∙ way.goal;
}

pub ends : {before now : Option (List ℕ)} {whole : List ℕ} → IsUnderWay before now whole [] → Appends before now whole
ends {before = before} {now = now} way = subst (Appends before now) (sym (append-nil way.done) ∙ way.goal) way.written

-- numbers up to the last one
pub next_number : (k last : ℕ) → k < last → range_with_len k (last + 1 - k) ≡ k ∷ range_with_len (k + 1) (last + 1 - (k + 1))
next_number k last low = let count : last + 1 - k ≡ suc (last + 1 - (k + 1)) = omega (arith, low) in ap (range_with_len k) count

pub last_number : (last : ℕ) → range_with_len last (last + 1 - last) ≡ last ∷ []
last_number last = let count : last + 1 - last ≡ 1 = omega arith in ap (range_with_len last) count
