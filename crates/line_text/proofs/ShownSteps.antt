-- What is shown of a text, byte by byte.
use Rattle.std.proofs.Common.{◌≡◌, ◌≤◌, ◌<◌, ◌+◌, ℕ, List, ◌++◌, length, drop, get_or, sym, ap, ◌∙◌, append_assoc, add-one}
use Rattle.std.proofs.Math.Seq.{drop-cons}
use Rattle.std.proofs.lemmas.List.{append-nil, drop_all}
use Rattle.line_text.specs.Shown.{held_after, shown_after, shown_byte}
use Rattle.line_text.specs.declared.shown.Held.{Held}

-- one byte more is shown
pub shown_more : (held : Held) (text written whole : List ℕ) (i : ℕ) → i < length text → written ++ shown_after held (drop i text) ≡ whole → (written ++ shown_byte held (get_or text i 0)) ++ shown_after (held_after held (get_or text i 0)) (drop (i + 1) text) ≡ whole
shown_more held text written whole i h e =
    append_assoc written (shown_byte held (get_or text i 0)) (shown_after (held_after held (get_or text i 0)) (drop (i + 1) text)) ∙ ap (λ rest. written ++ rest) (rw add-one (sym (ap (shown_after held) (drop-cons text i 0 h)))) ∙ e

-- all bytes are shown
pub all_shown : (held : Held) (text written whole : List ℕ) (i : ℕ) → length text ≤ i → written ++ shown_after held (drop i text) ≡ whole → written ≡ whole
all_shown held text written whole i h e = sym (append-nil written) ∙ ap (λ rest. written ++ shown_after held rest) (sym (drop_all i text h)) ∙ e
