-- The rarer texts of a node as plain data: a list with an entry for each that is set.
use Rattle.std.specs.Prelude.{◌≡◌, ℕ, List, Bool, Option, option_map, string_bytes, String, if◌then◌else◌}
use Rattle.std.specs.List.{find}
use Rattle.schema.specs.declared.rare_texts.RareText.{RareText}
use Rattle.schema.specs.contracts.rare_texts.RareTextPartialEq.TheImpl as same

-- an entry as plain data
abbrev pub entry_seen : {Z : Type 0} → RareText × String Z → RareText × List ℕ
entry_seen e = (e.0, string_bytes e.1)

-- whether an entry is under a key
abbrev pub is_under : {A : Type 0} → RareText → RareText × A → Bool
is_under key e = same.ghosts.eq e.0 key

-- the text of the first entry under a key
abbrev pub text_under : RareText → List (RareText × List ℕ) → Option (List ℕ)
text_under key es = option_map (λ e. e.1) (find (is_under key) es)

-- the new entries have the text, or none, under the key, and what the old ones have under each other key
abbrev pub IsSetUnder : RareText → Option (List ℕ) → List (RareText × List ℕ) → List (RareText × List ℕ) → Type 0
IsSetUnder key text old new = (other : RareText) → text_under other new ≡ (if same.ghosts.eq other key then text else text_under other old)
