-- Worlds that differ at most in what is typed into one password.
use Rattle.std.specs.Prelude.{◌≡◌, ◌≢◌, ℕ, List, false, length, map, Contains, option_map, IsTrue, chars}
use Rattle.model.specs.declared.FullNodeId.{FullNodeId}
use Rattle.model.specs.World.{World, data_of}
use Rattle.model.specs.Outline.{outline}
use Rattle.model.specs.Shape.{face}
use Rattle.model.specs.TextRuns.{is_password, run_ids, sent_runs, supports_text_ranges}
use Rattle.model.specs.Values.{own_value}

-- as many scalars
abbrev pub scalar_count : List ℕ → ℕ
scalar_count v = length (chars v)

-- They differ at most in the own value of the password p, and in the values and character lengths of its runs. These make a text in
-- both or in neither. Each run has as many characters in both, and ends with a newline in both or in neither. Without a text, the own
-- value has as many scalars in both, or is set in neither. Whether characters of the password differ doesn't matter.
pub record DifferInPassword (p : FullNodeId) (w v : World) : Type 0 where
  pub password : IsTrue (is_password w p)
  pub outlines : outline w ≡ outline v
  pub others : (id : FullNodeId) → id ≢ p → ¬ (Contains (run_ids w p) id) → data_of w id ≡ data_of v id
  pub texts : supports_text_ranges w p ≡ supports_text_ranges v p
  pub faces : map face (sent_runs w p) ≡ map face (sent_runs v p)
  pub alone : supports_text_ranges w p ≡ false → option_map scalar_count (own_value w p) ≡ option_map scalar_count (own_value v p)
