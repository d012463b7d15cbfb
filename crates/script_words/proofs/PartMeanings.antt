-- The value of a word that has parts.
use Rattle.std.proofs.Common.{◌≡◌, ℕ, ◌==◌, ◌<◌, ◌↔◌, List, [], ◌∷◌, ◌++◌, codes, Bool, true, false, Bor, Option, Some, None, IfSome, IsSomeAnd, inl, inr, option_copied, option_map, if◌then◌else◌, append-nil, append_assoc, arith, ap, drop, slice_index_or, sym, refl, subst, ◌∙◌}
use Rattle.std.proofs.lemmas.Bool.{cases_Bool, cond-true, cond-false}
use Rattle.std.proofs.lemmas.Bool.Decides.{nat_tests}
use Rattle.std.proofs.lemmas.Option.{none-some, same_Some}
use Rattle.script_words.specs.Cuts.{halves, part_before, rest_behind}
use Rattle.script_words.specs.Fields.{begun_by}
use Rattle.script_words.specs.Meaning.{onward}
use Rattle.script_words.specs.PartValues.{before_last, begun_with_value, behind_front, both_of, each_of, in_brackets_of, list_of, other_of, parts_of}
use Rattle.script_words.proofs.WordMeanings.{same_options}

-- ---- two parts

-- there is no such byte
pub no_parts : {T U : Type 0} (mark : ℕ) (first : List ℕ → Option T) (second : List ℕ → Option U) (word : List ℕ) → None ≡ halves mark word → None ≡ both_of mark first second word
no_parts mark first second word e = ap (λ o. onward o (λ parts. onward (first parts.0) (λ x. onward (second parts.1) (λ y. Some (x, y))))) e

module _ {T U : Type 0} (mark : ℕ) (first : List ℕ → Option T) (second : List ℕ → Option U) (word front back : List ℕ) (cut : Some (front, back) ≡ halves mark word) where
  cut_so : onward (first front) (λ x. onward (second back) (λ y. Some (x, y))) ≡ both_of mark first second word
  cut_so = ap (λ o. onward o (λ parts. onward (first parts.0) (λ x. onward (second parts.1) (λ y. Some (x, y))))) cut

  pub no_first : None ≡ first front → None ≡ both_of mark first second word
  no_first e = ap (λ o. onward o (λ x. onward (second back) (λ y. Some (x, y)))) e ∙ cut_so

  pub no_second : None ≡ second back → None ≡ both_of mark first second word
  no_second e = by (first front) ∙ ap (λ o. onward (first front) (λ x. onward o (λ y. Some (x, y)))) e ∙ cut_so
    where
      by : (o : Option T) → None ≡ onward {U = T × U} o (λ x. None)
      by None = refl
      by (Some x) = refl

  pub two_parts : (x : T) (y : U) → Some x ≡ first front → Some y ≡ second back → Some (x, y) ≡ both_of mark first second word
  two_parts x y a b = ap (λ o. onward o (λ y. Some (x, y))) b ∙ ap (λ o. onward o (λ x. onward (second back) (λ y. Some (x, y)))) a ∙ cut_so

-- ---- lists

-- the parts of what is left, if anything is
abbrev pub parts_left : ℕ → Option (List ℕ) → List (List ℕ)
parts_left mark None = []
parts_left mark (Some text) = parts_of mark text

pub parts_cut : (mark : ℕ) (text : List ℕ) → parts_of mark text ≡ part_before mark text ∷ parts_left mark (rest_behind mark text)
unfolding parts_of part_before rest_behind
parts_cut mark [] = refl
parts_cut mark (byte ∷ text) = by (byte == mark) (parts_cut mark text)
  where
    by : (b : Bool) → parts_of mark text ≡ part_before mark text ∷ parts_left mark (rest_behind mark text)
        → (if b then [] ∷ parts_of mark text else begun_by byte (parts_of mark text))
        ≡ (if b then [] else byte ∷ part_before mark text) ∷ parts_left mark (if b then Some text else rest_behind mark text)
    by true h = refl
    by false h = ap (begun_by byte) h

-- these values, and then those of the other parts
abbrev pub and_others : {T : Type 0} → List T → Option (List T) → Option (List T)
and_others done others = option_map (λ more. done ++ more) others

-- what is left means, with the values that were read, what all means
abbrev pub IsReadUpTo : {T : Type 0} → (List ℕ → Option T) → List ℕ → List T → Option (List ℕ) → Type 0
IsReadUpTo meaning word done left = and_others done (each_of meaning (parts_left 44 left)) ≡ list_of meaning word

module _ {T : Type 0} (meaning : List ℕ → Option T) (word : List ℕ) where
  pub none_done : (done : List T) → done ≡ [] → IsReadUpTo meaning word done (Some word)
  unfolding list_of
  none_done done e = ap (λ d. and_others d (each_of meaning (parts_of 44 word))) e ∙ by (each_of meaning (parts_of 44 word))
    where
      by : (o : Option (List T)) → and_others [] o ≡ o
      by None = refl
      by (Some more) = refl

  next_part : (left : Option (List ℕ)) (rest part : List ℕ) (after : Option (List ℕ)) → left ≡ Some rest → part ≡ part_before 44 rest → after ≡ rest_behind 44 rest
      → parts_left 44 left ≡ part ∷ parts_left 44 after
  next_part left rest part after l p a = ap (parts_left 44) l ∙ parts_cut 44 rest ∙ ap (λ q. q ∷ parts_left 44 (rest_behind 44 rest)) (sym p) ∙ ap (λ b. part ∷ parts_left 44 b) (sym a)

  -- a part that stands for nothing
  pub bad_part : (done : List T) (left after : Option (List ℕ)) (rest part : List ℕ) → left ≡ Some rest → part ≡ part_before 44 rest → after ≡ rest_behind 44 rest
      → None ≡ meaning part → IsReadUpTo meaning word done left → list_of meaning word ≡ None
  unfolding each_of
  bad_part done left after rest part l p a none up =
      sym up ∙ ap (λ parts. and_others done (each_of meaning parts)) (next_part left rest part after l p a)
      ∙ ap (λ o. and_others done (onward o (λ value. option_map (begun_with_value value) (each_of meaning (parts_left 44 after))))) (sym none)

  -- one that is read
  pub one_done : (done more : List T) (value : T) (left after : Option (List ℕ)) (rest part : List ℕ) → left ≡ Some rest → part ≡ part_before 44 rest → after ≡ rest_behind 44 rest
      → Some value ≡ meaning part → more ≡ done ++ value ∷ [] → IsReadUpTo meaning word done left → IsReadUpTo meaning word more after
  unfolding each_of
  one_done done more value left after rest part l p a is pushed up =
      ap (λ d. and_others d (each_of meaning (parts_left 44 after))) pushed
      ∙ by (each_of meaning (parts_left 44 after))
      ∙ ap (λ o. and_others done (onward o (λ value. option_map (begun_with_value value) (each_of meaning (parts_left 44 after))))) is
      ∙ sym (ap (λ parts. and_others done (each_of meaning parts)) (next_part left rest part after l p a))
      ∙ up
    where
      by : (o : Option (List T)) → and_others (done ++ value ∷ []) o ≡ and_others done (option_map (begun_with_value value) o)
      by None = refl
      by (Some others) = ap Some (append_assoc done (value ∷ []) others)

  pub all_done : (done : List T) (left : Option (List ℕ)) → left ≡ None → IsReadUpTo meaning word done left → list_of meaning word ≡ Some done
  unfolding each_of
  all_done done left none up = sym up ∙ ap (λ l. and_others done (each_of meaning (parts_left 44 l))) none ∙ ap Some (append-nil done)

-- ---- numbers in place of a name

front_exact : (marks text behind : List ℕ) → (behind_front marks text ≡ Some behind) ↔ (text ≡ marks ++ behind)
front_exact [] text behind = ((λ e. same_Some text behind e), (λ e. ap Some e))
front_exact (mark ∷ marks) [] behind = ((λ e. absurd (none-some behind e)), (λ e. cc))
front_exact (mark ∷ marks) (byte ∷ text) behind = elim (cases_Bool (byte == mark)) [
  | inl t ↦
      let same : byte ≡ mark = grind (arith, nat_tests, t) in
      let is : behind_front (mark ∷ marks) (byte ∷ text) ≡ behind_front marks text = cond-true _ _ _ t in (
        (λ e. ap (λ b. b ∷ text) same ∙ ap (λ w. mark ∷ w) ((front_exact marks text behind).0 (sym is ∙ e))),
        (λ e. is ∙ (front_exact marks text behind).1 (ap (drop 1) e)),
      )
  | inr f ↦
      let is : behind_front (mark ∷ marks) (byte ∷ text) ≡ None = cond-false _ _ _ f in (
        (λ e. absurd (none-some behind (sym is ∙ e))),
        (λ e. let same : byte ≡ mark = ap (λ w. slice_index_or w 0 0) e in absurd (grind (arith, nat_tests, f, same))),
      )
]

last_exact : (mark : ℕ) (text front : List ℕ) → (before_last mark text ≡ Some front) ↔ (text ≡ front ++ mark ∷ [])
last_exact mark [] front = ((λ e. absurd (none-some front e)), (λ e. absurd (no_end front e)))
  where
    no_end : (front : List ℕ) → [] ≡ front ++ mark ∷ [] → ⊥
    no_end [] e = cc
    no_end (x ∷ xs) e = cc
last_exact mark (byte ∷ []) front = elim (cases_Bool (byte == mark)) [
  | inl t ↦
      let same : byte ≡ mark = grind (arith, nat_tests, t) in
      let is : before_last mark (byte ∷ []) ≡ Some [] = cond-true _ _ _ t in (
        (λ e. ap (λ b. b ∷ []) same ∙ ap (λ w. w ++ mark ∷ []) (same_Some [] front (sym is ∙ e))),
        (λ e. is ∙ ap Some (alone front e)),
      )
  | inr f ↦
      let is : before_last mark (byte ∷ []) ≡ None = cond-false _ _ _ f in (
        (λ e. absurd (none-some front (sym is ∙ e))),
        (λ e. let same : byte ≡ mark = other front e in absurd (grind (arith, nat_tests, f, same))),
      )
]
  where
    alone : (front : List ℕ) → byte ∷ [] ≡ front ++ mark ∷ [] → [] ≡ front
    alone [] e = refl
    alone (x ∷ []) e = cc
    alone (x ∷ y ∷ xs) e = cc

    other : (front : List ℕ) → byte ∷ [] ≡ front ++ mark ∷ [] → byte ≡ mark
    other [] e = ap (λ w. slice_index_or w 0 0) e
    other (x ∷ []) e = cc
    other (x ∷ y ∷ xs) e = cc
last_exact mark (byte ∷ next ∷ text) front = (
  (λ e. to (before_last mark (next ∷ text)) (λ inner is. (last_exact mark (next ∷ text) inner).0 is) e),
  (λ e. from front (λ inner is. (last_exact mark (next ∷ text) inner).1 is) e),
)
  where
    to : (o : Option (List ℕ)) → ((inner : List ℕ) → o ≡ Some inner → next ∷ text ≡ inner ++ mark ∷ []) → option_map (begun_with_value byte) o ≡ Some front → byte ∷ next ∷ text ≡ front ++ mark ∷ []
    to None whole e = absurd (none-some front e)
    to (Some inner) whole e = ap (λ w. byte ∷ w) (whole inner refl) ∙ ap (λ w. w ++ mark ∷ []) (same_Some (byte ∷ inner) front e)

    from : (front : List ℕ) → ((inner : List ℕ) → next ∷ text ≡ inner ++ mark ∷ [] → before_last mark (next ∷ text) ≡ Some inner)
        → byte ∷ next ∷ text ≡ front ++ mark ∷ [] → option_map (begun_with_value byte) (before_last mark (next ∷ text)) ≡ Some front
    from [] found e = cc
    from (x ∷ xs) found e =
        let first : byte ≡ x = ap (λ w. slice_index_or w 0 0) e in
        ap (option_map (begun_with_value byte)) (found xs (ap (drop 1) e)) ∙ ap (λ b. Some (b ∷ xs)) first

pub brackets_exact : (word inner : List ℕ) → (in_brackets_of word ≡ Some inner) ↔ (word ≡ codes "Other(" ++ (inner ++ codes ")"))
unfolding in_brackets_of
brackets_exact word inner = (
  (λ e. to (behind_front (codes "Other(") word) refl e),
  (λ e. ap (λ o. onward o (before_last 41)) ((front_exact (codes "Other(") word (inner ++ codes ")")).1 e) ∙ (last_exact 41 (inner ++ codes ")") inner).1 refl),
)
  where
    to : (o : Option (List ℕ)) → behind_front (codes "Other(") word ≡ o → onward o (before_last 41) ≡ Some inner → word ≡ codes "Other(" ++ (inner ++ codes ")")
    to None is e = absurd (none-some inner e)
    to (Some text) is e = (front_exact (codes "Other(") word text).0 is ∙ ap (λ w. codes "Other(" ++ w) ((last_exact 41 text inner).0 e)

-- what is between the brackets is what is read there
pub brackets_are : (word : List ℕ) (r : Option (Bor (List ℕ))) → ((inner : List ℕ) → word ≡ codes "Other(" ++ inner ++ codes ")" → IsSomeAnd r (λ read. read.now ≡ inner))
    → IfSome r (λ read. word ≡ codes "Other(" ++ read.now ++ codes ")") → option_copied r ≡ in_brackets_of word
brackets_are word r reads only = same_options (option_copied r) (in_brackets_of word) (λ inner. word ≡ codes "Other(" ++ inner ++ codes ")") (by r reads only) (brackets_exact word)
  where
    by : (r : Option (Bor (List ℕ))) → ((inner : List ℕ) → word ≡ codes "Other(" ++ inner ++ codes ")" → IsSomeAnd r (λ read. read.now ≡ inner))
        → IfSome r (λ read. word ≡ codes "Other(" ++ read.now ++ codes ")") → (inner : List ℕ) → (option_copied r ≡ Some inner) ↔ (word ≡ codes "Other(" ++ inner ++ codes ")")
    by None reads only inner = ((λ e. absurd (none-some inner e)), (λ e. absurd (reads inner e)))
    by (Some x) reads only inner = ((λ e. only ∙ ap (λ w. codes "Other(" ++ w ++ codes ")") (same_Some x.now inner e)), (λ e. ap Some (reads inner e)))
