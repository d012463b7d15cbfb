-- How a change of a live region is announced.
use Rattle.std.specs.Prelude.{ℕ, List, Option, Some, None}
use Rattle.schema.specs.declared.values.Live.{Live}
use Rattle.schema.specs.declared.values.Live.TheVariants.{Off, Polite, Assertive}
use Rattle.phrases.specs.Sayings.{live_line}
use Rattle.phrases.specs.Voices.{Speech, said_too, said_later}

-- a text of a live region is announced at once, after everything else, or not at all
abbrev pub told : Live → Option (List ℕ) → Speech → Speech
told live None s = s
told Off (Some text) s = s
told Polite (Some text) s = said_later s (live_line Polite text)
told Assertive (Some text) s = said_too s (live_line Assertive text)
