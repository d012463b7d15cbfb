-- The raw form of a position.
use Rattle.std.proofs.Common.{◌≡◌, ℕ, zero, suc, arith, [], ◌∷◌, Option, Some, None, refl, sym, ap}
use Rattle.std.specs.Prelude.{◌↔◌, ◌<◌, length, slice_get, option_map, IsSome}
use Rattle.std.proofs.lemmas.Option.{none-some, same_Some}
use Rattle.schema.specs.declared.values.TextPosition.{TextPosition}
use Rattle.model.specs.FlatText.{FlatText, ShownRun, Position, IsPosition}
use Rattle.model.specs.Ranges.{IsRaw}
use Rattle.model.specs.Queries.{raw_of}

abbrev raw_in : Position → ShownRun → TextPosition
raw_in p s = record { node = s.id.node; character_index = p.index }

is_raw : (p : Position) (raw : TextPosition) (o : Option ShownRun) → option_map (λ (s : ShownRun). s.id.node) o ≡ Some raw.node → raw.character_index ≡ p.index → option_map (raw_in p) o ≡ Some raw
is_raw p raw None node index = absurd (none-some raw.node node)
is_raw p raw (Some s) node index =
    let id : s.id.node ≡ raw.node = same_Some s.id.node raw.node node in
    λ i. Some (record { node = id i; character_index = sym index i })

raw_is : (p : Position) (raw : TextPosition) (o : Option ShownRun) → option_map (raw_in p) o ≡ Some raw → (option_map (λ (s : ShownRun). s.id.node) o ≡ Some raw.node) × (raw.character_index ≡ p.index)
raw_is p raw None e = absurd (none-some raw e)
raw_is p raw (Some s) e =
    let same : raw_in p s ≡ raw = same_Some (raw_in p s) raw e in
    (ap (λ (r : TextPosition). Some r.node) same, sym (ap (λ (r : TextPosition). r.character_index) same))

pub raw_is_name : (t : FlatText) (p : Position) (raw : TextPosition) → IsRaw t p raw ↔ (raw_of t p ≡ Some raw)
raw_is_name t p raw = (λ h. is_raw p raw (slice_get t p.run) h.0 h.1, λ e. raw_is p raw (slice_get t p.run) e)

is_there : (p : Position) (o : Option ShownRun) → IsSome o → IsSome (option_map (raw_in p) o)
is_there p None h = h
is_there p (Some s) h = refl

some_within : (xs : FlatText) (k : ℕ) → k < length xs → IsSome (slice_get xs k)
some_within [] k within = absurd (omega (arith, within))
some_within (x ∷ xs) zero within = refl
some_within (x ∷ xs) (suc k) within = some_within xs k (omega (arith, within))

pub position_has_raw : (t : FlatText) (p : Position) → IsPosition t p → IsSome (raw_of t p)
position_has_raw t p h = is_there p (slice_get t p.run) (some_within t p.run h.run)
