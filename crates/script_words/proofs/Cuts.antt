-- A line that is cut after its first word.
use Rattle.std.proofs.Common.{◌≡◌, ◌≢◌, ℕ, ◌<◌, List, [], ◌∷◌, ◌++◌, length, slice_index_or, arith, Bor, Option, Some, None, IsSomeAnd, MatchOption, ap, sym, refl, ◌∙◌, append-nil, append_assoc, codes, length-append, suc, drop}
use Rattle.std.proofs.Math.Seq.{get_or-append_seam}
use Rattle.std.proofs.lemmas.Str.Pattern.{IsSplitOnceResult, split_parts, split_after}
use Rattle.script_words.specs.Reading.{Lacks, Begins, after, behind, IsFieldName}

-- a text that lacks a character isn't cut there
pub lacks_no_cut : (c : ℕ) (text front back : List ℕ) → Lacks c text → text ≢ front ++ c ∷ back
lacks_no_cut c text front back lacks e = lacks (length front) (omega (arith, ap length e, length-append front (c ∷ back))) (ap (λ t. slice_index_or t (length front) 0) e ∙ get_or-append_seam front c back 0)

pub cut_at : (c : ℕ) → c < 128 → (line text : List ℕ) (rest : Option (List ℕ)) (r : Option (Bor (List ℕ) × Bor (List ℕ))) → Lacks c text → line ≡ text ++ behind c rest → IsSplitOnceResult c line r
    → MatchOption r ((rest ≡ None) × (line ≡ text)) (λ x. (x.0.now ≡ text) × (rest ≡ Some x.1.now))
cut_at c low line text None None lacks e h = (refl, e ∙ append-nil text)
cut_at c low line text None (Some x) lacks e h = absurd (lacks_no_cut c text x.0.now x.1.now lacks (sym (e ∙ append-nil text) ∙ (split_parts c line (Some x) h low).0))
cut_at c low line text (Some t) None lacks e h = absurd (split_after c line text t None h low e lacks)
cut_at c low line text (Some t) (Some x) lacks e h = let k = split_after c line text t (Some x) h low e lacks in (k.0, ap Some (sym k.1))

-- the two parts of a text that has the character
pub parts_at : (c : ℕ) → c < 128 → (line text rest : List ℕ) (r : Option (Bor (List ℕ) × Bor (List ℕ))) → Lacks c text → line ≡ text ++ (c ∷ rest) → IsSplitOnceResult c line r → IsSomeAnd r (λ x. (x.0.now ≡ text) × (x.1.now ≡ rest))
parts_at c low line text rest None lacks e h = absurd (split_after c line text rest None h low e lacks)
parts_at c low line text rest (Some x) lacks e h = split_after c line text rest (Some x) h low e lacks

-- nor does a search find it there
pub lacks_not_found : (c : ℕ) (text : List ℕ) (r : Option (Bor (List ℕ) × Bor (List ℕ))) → Lacks c text → IsSplitOnceResult c text r → c < 128 → r ≡ None
lacks_not_found c text None lacks h low = refl
lacks_not_found c text (Some x) lacks h low = absurd (lacks_no_cut c text x.0.now x.1.now lacks (split_parts c text (Some x) h low).0)

-- a name with a value is cut at its equals sign
pub cut_at_equals : (line name more : List ℕ) (r : Option (Bor (List ℕ) × Bor (List ℕ))) → IsFieldName name → line ≡ name ++ codes "=" ++ more → IsSplitOnceResult 61 line r
    → MatchOption r ⊥ (λ x. (x.0.now ≡ name) × (x.1.now ≡ more))
cut_at_equals line name more r h e found = split_after 61 line name more r found (omega arith) (e ∙ append_assoc name (codes "=") more) h.1

-- a text that lacks an equals sign, and a space after it: before the first equals sign there is a space
other_cut : (name front tail back : List ℕ) → Lacks 61 name → Lacks 32 front → name ++ 32 ∷ tail ≢ front ++ 61 ∷ back
other_cut [] [] tail back a b e = let p : 32 ≡ 61 = ap (λ l. slice_index_or l 0 0) e in omega (arith, p)
other_cut [] (y ∷ front) tail back a b e = b 0 (omega arith) (sym (ap (λ l. slice_index_or l 0 0) e))
other_cut (x ∷ name) [] tail back a b e = a 0 (omega arith) (ap (λ l. slice_index_or l 0 0) e)
other_cut (x ∷ name) (y ∷ front) tail back a b e = other_cut name front tail back (λ i l. a (suc i) (omega (arith, l))) (λ i l. b (suc i) (omega (arith, l))) (ap (drop 1) e)

-- so a name with no value is known by that space
pub flag_has_no_cut : (line name front back : List ℕ) (rest : Option (List ℕ)) → Lacks 61 name → Lacks 32 front → line ≡ name ++ after rest → line ≢ front ++ 61 ∷ back
flag_has_no_cut line name front back None a b e cut = lacks_no_cut 61 name front back a (sym (e ∙ append-nil name) ∙ cut)
flag_has_no_cut line name front back (Some tail) a b e cut = other_cut name front tail back a b (sym e ∙ cut)

-- of two words with a space between them the first one comes next, and then the second
pub begins_two : (line : Option (List ℕ)) (first second : List ℕ) (rest : Option (List ℕ)) → Begins line (first ++ codes " " ++ second) rest → Begins line first (Some (second ++ after rest))
begins_two line first second rest e = e ∙ ap Some (append_assoc (first ++ codes " ") second (after rest) ∙ append_assoc first (codes " ") (second ++ after rest))

pub begins_last : (line : Option (List ℕ)) (text : List ℕ) → line ≡ Some text → Begins line text None
begins_last line text e = e ∙ ap Some (sym (append-nil text))
