-- What is written part by part.
use Rattle.std.proofs.Common.{◌≡◌, ℕ, List, ◌++◌, Option, Some, append_assoc, sym, ap, subst, ◌∙◌}
use Rattle.std.specs.Prelude.{codes}
use Rattle.std.specs.Fmt.{decimal}
use Rattle.std.specs.Io.KnownBytes.{Appends}
use Rattle.std.proofs.KnownBytes.{Appends-trans}
use Rattle.atree_script.specs.Replies.{text_line}
use Rattle.texts.specs.RangeCuts.{Located}
use Rattle.read.specs.Lines.{Span, ends_line, marks_line, span_line, word_text, words_text}
use Rattle.read.specs.Shown.{index_after, shown_text}

-- two numbers with a space after each
two_indexes : (from to : ℕ) → decimal from ++ codes " " ++ decimal to ++ codes " " ≡ decimal from ++ (codes " " ++ (decimal to ++ codes " "))
two_indexes from to = append_assoc (decimal from ++ codes " ") (decimal to) (codes " ") ∙ append_assoc (decimal from) (codes " ") (decimal to ++ codes " ")

-- two parts, and three
module _ (a b c : Option (List ℕ)) where
  pub span_written : (at after : ℕ) (l : Located) (text : List ℕ) → after ≡ index_after at l → text ≡ shown_text l
      → Appends a b (decimal at ++ (codes " " ++ (decimal after ++ codes " "))) → Appends b c (text_line (Some text)) → Appends a c (span_line at l)
  span_written at after l text past is head tail =
      subst (Appends a c) (λ i. decimal at ++ codes " " ++ decimal (past i) ++ codes " " ++ text_line (Some (is i)))
      (Appends-trans a b c (decimal at ++ codes " " ++ decimal after ++ codes " ") (text_line (Some text)) (subst (Appends a b) (sym (two_indexes at after)) head) tail)

  pub ends_written : (from to : ℕ) (l : Located) (text : List ℕ) → text ≡ shown_text l
      → Appends a b (codes "selection " ++ (decimal from ++ (codes " " ++ (decimal to ++ codes " ")))) → Appends b c (text_line (Some text)) → Appends a c (ends_line from to l)
  ends_written from to l text is head tail =
      subst (Appends a c) (λ i. codes "selection " ++ decimal from ++ codes " " ++ decimal to ++ codes " " ++ text_line (Some (is i)))
      (Appends-trans a b c (codes "selection " ++ decimal from ++ codes " " ++ decimal to ++ codes " ") (text_line (Some text))
      (subst (Appends a b) (ap (λ u. codes "selection " ++ u) (sym (two_indexes from to))) head) tail)

  module _ (d : Option (List ℕ)) (s : Span) (at : ℕ) (l : Located) where
    pub word_written : Appends a b (codes "  word ") → Appends b c (span_line at l) → Appends c d (marks_line s at l) → Appends a d (word_text s at l)
    word_written head span marked =
        Appends-trans a b d (codes "  word ") (span_line at l ++ marks_line s at l) head (Appends-trans b c d (span_line at l) (marks_line s at l) span marked)

    pub marks_written : (ms : List ℕ) → Appends a b (codes "   ") → Appends b c ms → Appends c d (codes "\n") → Appends a d (codes "   " ++ ms ++ codes "\n")
    marks_written ms head marked end = Appends-trans a b d (codes "   ") (ms ++ codes "\n") head (Appends-trans b c d ms (codes "\n") marked end)

    pub line_written : (number : ℕ) (words : List Located) → Appends a b (codes "line " ++ decimal number ++ codes " ") → Appends b c (span_line at l) → Appends c d (words_text s at words)
        → Appends a d (codes "line " ++ decimal number ++ codes " " ++ span_line at l ++ words_text s at words)
    line_written number words head span more =
        Appends-trans a c d (codes "line " ++ decimal number ++ codes " " ++ span_line at l) (words_text s at words) (Appends-trans a b c (codes "line " ++ decimal number ++ codes " ") (span_line at l) head span) more
