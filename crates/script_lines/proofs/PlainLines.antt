-- Lines without fields, by their first words.
use Rattle.std.proofs.Common.{◌≡◌, ◌≢◌, ℕ, List, codes, false, true, [], ◌∷◌, Option, Some, None, Result, option_map, ap, sym, subst, ◌∙◌}
use Rattle.std.proofs.lemmas.Bool.{cond-false}
use Rattle.std.proofs.lemmas.Option.{none-some, same_Some}
use Rattle.script_lines.specs.LineMeaning.{ReadsPlain, host_means, host_state, is_blank, plain_line_means, plain_means}
use Rattle.script_lines.specs.QuestionMeaning.{question_means}
use Rattle.script_lines.specs.declared.lines.Line.{Line}
use Rattle.script_lines.specs.declared.lines.Line.TheVariants as says
use Rattle.script_lines.proofs.QuestionWords.{is_not}
use Rattle.script_words.specs.Cuts.{part_before, rest_behind}
use Rattle.script_words.specs.Meaning.{Gives, last_word, next_word, onward, some_word}
use Rattle.script_words.specs.NamedIn.{first_named}
use Rattle.script_words.specs.declared.stops.Stop.{Stop}

-- any other word than these begins a query
pub asks : (word : List ℕ) (line : Option (List ℕ)) → word ≢ codes "host" → word ≢ codes "end" → word ≢ codes "print" → plain_means word line ≡ option_map says.Query (question_means word line)
asks word line a b c = cond-false _ _ _ (is_not word (codes "host") a) ∙ cond-false _ _ _ (is_not word (codes "end") b) ∙ cond-false _ _ _ (is_not word (codes "print") c)

-- no other word is a state of the host
pub no_state : (word : List ℕ) → word ≢ codes "on" → word ≢ codes "off" → host_state word ≡ None
unfolding first_named
no_state word a b = cond-false _ _ _ (is_not (codes "on") word (λ e. a (sym e))) ∙ cond-false _ _ _ (is_not (codes "off") word (λ e. b (sym e)))

pub host_on : (line : Option (List ℕ)) (word : List ℕ) → last_word line ≡ Some word → word ≡ codes "on" → host_means line ≡ Some (says.HostFocus true)
unfolding first_named
host_on line word e is = ap (λ o. option_map says.HostFocus (onward o host_state)) e ∙ ap (λ w. option_map says.HostFocus (host_state w)) is

pub host_off : (line : Option (List ℕ)) (word : List ℕ) → last_word line ≡ Some word → word ≡ codes "off" → host_means line ≡ Some (says.HostFocus false)
unfolding first_named
host_off line word e is = ap (λ o. option_map says.HostFocus (onward o host_state)) e ∙ ap (λ w. option_map says.HostFocus (host_state w)) is

pub host_none : (line : Option (List ℕ)) (word : List ℕ) → last_word line ≡ Some word → word ≢ codes "on" → word ≢ codes "off" → host_means line ≡ None
host_none line word e a b = ap (λ o. option_map says.HostFocus (onward o host_state)) e ∙ ap (option_map says.HostFocus) (no_state word a b)

-- the word that comes next begins the line
pub next_begins : (text word : List ℕ) (left : Option (List ℕ)) → next_word (Some text) ≡ Some (word, left) → part_before 32 text ≡ word
next_begins text word left e = by (part_before 32 text) (rest_behind 32 text) e
  where
    by : (part : List ℕ) (behind : Option (List ℕ)) → some_word part behind ≡ Some (word, left) → part ≡ word
    by [] behind e = absurd (none-some (word, left) e)
    by (byte ∷ part) behind e = ap (λ (w : List ℕ × Option (List ℕ)). w.0) (same_Some (byte ∷ part, behind) (word, left) e)

-- a line is read by its first word
pub plain_line : (text word : List ℕ) (left : Option (List ℕ)) (result : Result Line Stop) → is_blank text ≡ false → next_word (Some text) ≡ Some (word, left)
    → (word ≢ codes "update" → word ≢ codes "node" → Gives (plain_means word left) result) → ReadsPlain text result
plain_line text word left result blank e reads = λ no_update no_node.
    let begins = next_begins text word left e in
    let is : plain_line_means text ≡ plain_means word left = cond-false _ _ _ blank ∙ ap (λ o. onward o (λ word. plain_means word.0 word.1)) e in
    subst (λ meant. Gives meant result) (sym is) (reads (λ u. no_update (begins ∙ u)) (λ n. no_node (begins ∙ n)))

-- or has no first word
pub no_line : (text : List ℕ) → is_blank text ≡ false → next_word (Some text) ≡ None → plain_line_means text ≡ None
no_line text blank e = cond-false _ _ _ blank ∙ ap (λ o. onward o (λ word. plain_means word.0 word.1)) e
