-- No word is a mark in the text of a password.
use Rattle.std.proofs.Common.{◌≡◌, ℕ, zero, suc, Bool, true, List, [], ◌∷◌, map, refl, ap, ◌∙◌}
use Rattle.model.specs.declared.FullNodeId.{FullNodeId}
use Rattle.model.specs.World.{World}
use Rattle.model.specs.TextRuns.{SentRun, is_password, sent_runs}
use Rattle.model.specs.FlatText.{needs_masking, shown_run, flat_text, words_in}

none_in : (w : World) (root : FullNodeId) (masked : Bool) (rs : List SentRun) (r : ℕ) → words_in (map (shown_run w root true masked) rs) r ≡ []
none_in w root masked [] zero = refl
none_in w root masked [] (suc r) = refl
none_in w root masked (x ∷ rs) zero = refl
none_in w root masked (x ∷ rs) (suc r) = none_in w root masked rs r

pub no_words : (w : World) (root : FullNodeId) → is_password w root ≡ true → (r : ℕ) → words_in (flat_text w root) r ≡ []
unfolding flat_text
no_words w root secret r =
    ap (λ b. words_in (map (shown_run w root b (needs_masking w root)) (sent_runs w root)) r) secret ∙ none_in w root (needs_masking w root) (sent_runs w root) r
