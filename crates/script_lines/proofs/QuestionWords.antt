-- The words that a query begins with.
use Rattle.std.proofs.Common.{◌≡◌, ◌≢◌, ℕ, List, codes, bytes_eq, false, Option, None, ⊎_elim, ◌∙◌}
use Rattle.std.proofs.lemmas.Bool.{cases_Bool, cond-false}
use Rattle.std.proofs.lemmas.Slice.Eq.{bytes_eq-Decides}
use Rattle.script_lines.specs.QuestionMeaning.{question_means}

pub is_not : (a b : List ℕ) → a ≢ b → bytes_eq a b ≡ false
is_not a b other = ⊎_elim (λ t. absurd (other ((bytes_eq-Decides a b).0 t))) (λ f. f) (cases_Bool (bytes_eq a b))

-- no query begins with another word
pub none_asked : (word : List ℕ) (line : Option (List ℕ)) → word ≢ codes "children" → word ≢ codes "following" → word ≢ codes "preceding" → word ≢ codes "filtered" → word ≢ codes "following_filtered" → word ≢ codes "preceding_filtered" → word ≢ codes "set" → word ≢ codes "hit" → word ≢ codes "focus" → word ≢ codes "label" → word ≢ codes "value" → word ≢ codes "text" → word ≢ codes "move" → word ≢ codes "indexes" → word ≢ codes "between" → question_means word line ≡ None
none_asked word line a b c d e f g h i j k l m n o =
    cond-false _ _ _ (is_not word (codes "children") a) ∙ cond-false _ _ _ (is_not word (codes "following") b) ∙ cond-false _ _ _ (is_not word (codes "preceding") c) ∙ cond-false _ _ _ (is_not word (codes "filtered") d) ∙ cond-false _ _ _ (is_not word (codes "following_filtered") e) ∙ cond-false _ _ _ (is_not word (codes "preceding_filtered") f) ∙ cond-false _ _ _ (is_not word (codes "set") g) ∙ cond-false _ _ _ (is_not word (codes "hit") h) ∙ cond-false _ _ _ (is_not word (codes "focus") i) ∙ cond-false _ _ _ (is_not word (codes "label") j) ∙ cond-false _ _ _ (is_not word (codes "value") k) ∙ cond-false _ _ _ (is_not word (codes "text") l) ∙ cond-false _ _ _ (is_not word (codes "move") m) ∙ cond-false _ _ _ (is_not word (codes "indexes") n) ∙ cond-false _ _ _ (is_not word (codes "between") o)
