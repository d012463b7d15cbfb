-- Worlds that differ in the characters of one password alone. A masked text is the same flat text in both, so everything defined
-- on the flat text is the same for both.
use Rattle.std.specs.Prelude.{◌≡◌, ◌≢◌, ℕ, Bool, map, Contains, IsTrue, is_some, option_map, ◌⊎◌}
use Rattle.model.specs.declared.FullNodeId.{FullNodeId}
use Rattle.model.specs.World.{World, data_of}
use Rattle.model.specs.TextRuns.{SentRun, run_ids, sent_runs, said_count, ends_with_newline, supports_text_ranges}
use Rattle.model.specs.FlatText.{needs_masking}
use Rattle.model.specs.Outline.{without_value, outline}
use Rattle.model.specs.Values.{own_value}

-- a text of which only bullets are shown
pub record IsMaskedText (w : World) (root : FullNodeId) : Type 0 where
  pub supported : IsTrue (supports_text_ranges w root)
  pub masked : IsTrue (needs_masking w root)

-- what a masked run shows: its number of characters, and whether a newline ends it
abbrev pub face : SentRun → ℕ × Bool
face r = (said_count r, ends_with_newline r)

-- The password p is masked in both, and they differ at most in its own value, which is set in both or in neither, and in
-- the values and character lengths of its runs, each of which has as many characters in both, and ends with a newline in
-- both or in neither.
pub record EqualShape (p : FullNodeId) (w v : World) : Type 0 where
  pub first : IsMaskedText w p
  pub second : IsMaskedText v p
  pub outlines : outline w ≡ outline v
  pub others : (id : FullNodeId) → id ≢ p → ¬ (Contains (run_ids w p) id) → data_of w id ≡ data_of v id
  pub own : option_map without_value (data_of w p) ≡ option_map without_value (data_of v p)
  pub own_value_is_given : is_some (own_value w p) ≡ is_some (own_value v p)
  pub faces : map face (sent_runs w p) ≡ map face (sent_runs v p)

abbrev pub AreAlikeWorlds : FullNodeId → World → World → Type 0
AreAlikeWorlds p w v = (w ≡ v) ⊎ EqualShape p w v
