-- UTF-8 as a test.
use Rattle.std.proofs.Common.{◌≡◌, ℕ, List, Bool, true, false, refl}
use Rattle.std.proofs.lemmas.Str.{IsUtf8-from_is_utf8, is_utf8-from_IsUtf8}
use Rattle.std.specs.Str.{IsUtf8, is_utf8}

pub passes : (bytes : List ℕ) → IsUtf8 bytes → is_utf8 bytes ≡ true
passes bytes is = is_utf8-from_IsUtf8 bytes is

fails_by : (bytes : List ℕ) (tested : Bool) → is_utf8 bytes ≡ tested → ¬ (IsUtf8 bytes) → tested ≡ false
fails_by bytes false e isnt = refl
fails_by bytes true e isnt = absurd (isnt (IsUtf8-from_is_utf8 bytes e))

pub fails : (bytes : List ℕ) → ¬ (IsUtf8 bytes) → is_utf8 bytes ≡ false
fails bytes isnt = fails_by bytes (is_utf8 bytes) refl isnt
