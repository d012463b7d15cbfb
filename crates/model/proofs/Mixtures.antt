-- Calls at both ends, in any mixture, take the list from both ends.
use Rattle.std.proofs.Common.{◌≡◌, ℕ, List, [], ◌∷◌, ◌++◌, map, reverse, Option, Some, None, inl, inr, refl, sym, ap, ◌∙◌, arith}
use Rattle.std.specs.Prelude.{Contains}
use Rattle.std.specs.List.{All, AllPairs}
use Rattle.std.specs.Iterator.{YieldsFirst, YieldsLast, YieldsFirstBy, YieldsLastBy}
use Rattle.std.proofs.lemmas.List.{append-nil, append_assoc, reverse-append}
use Rattle.std.proofs.lemmas.List.Elements.{All-nil, All-cons}
use Rattle.std.proofs.lemmas.List.Kept.{AllPairs-cons}
use Rattle.model.specs.Mixtures.{End, front, back, Call, IsCall, AreCalls, items_from, AreTaken, call_seen, MixturesTake, MixturesTakeBy, MixturesAreTaken}
use Rattle.model.specs.MixtureExamples.{three, calls_on_three, ThreeAreTaken}
use Rattle.model.proofs.Members.{contains_none, contains_cases}

-- ---- calls on a list itself

module _ {A : Type 0} where
  abbrev FromList : List A → List (Call A) → List A → Type 0
  FromList = AreCalls (YieldsFirst (λ (xs : List A). xs)) (YieldsLast (λ (xs : List A). xs))

  abbrev AnswersNone : Call A → Type 0
  AnswersNone call = call.1 ≡ None

  last_is_there : (xs : List A) (x : A) → ¬ ([] ≡ xs ++ x ∷ [])
  last_is_there [] x e = absurd (let no : ⊥ = cc in no)
  last_is_there (y ∷ ys) x e = absurd (let no : ⊥ = cc in no)

  -- at its end a list gives nothing more
  at_end : (list left : List A) (calls : List (Call A)) → list ≡ [] → FromList list calls left → (left ≡ []) × All AnswersNone calls
  at_end list left [] over h = (sym h ∙ over, All-nil AnswersNone)
  at_end list left ((front, Some x) ∷ later) over h = absurd (let e : [] ≡ x ∷ h.0 = sym over ∙ h.1 in cc)
  at_end list left ((back, Some x) ∷ later) over h = absurd (last_is_there h.0 x (sym over ∙ h.1))
  at_end list left ((front, None) ∷ later) over h = let rest = at_end h.0 left later h.1.1 h.2 in (rest.0, All-cons AnswersNone (front, None) later refl rest.1)
  at_end list left ((back, None) ∷ later) over h = let rest = at_end h.0 left later h.1.1 h.2 in (rest.0, All-cons AnswersNone (back, None) later refl rest.1)

  all_taken : (list left : List A) (calls : List (Call A)) → FromList list calls left → items_from front calls ++ left ++ reverse (items_from back calls) ≡ list
  all_taken list left [] h = append-nil left ∙ sym h
  all_taken list left ((front, Some x) ∷ later) h = ap (λ xs. x ∷ xs) (all_taken h.0 left later h.2) ∙ sym h.1
  all_taken list left ((back, Some x) ∷ later) h =
      let first : List A = items_from front later in
      let last : List A = items_from back later in
      ap (λ xs. first ++ left ++ xs) (reverse-append (x ∷ []) last)
      ∙ sym (append_assoc (first ++ left) (reverse last) (x ∷ []))
      ∙ ap (λ xs. xs ++ x ∷ []) (all_taken h.0 left later h.2) ∙ sym h.1
  all_taken list left ((front, None) ∷ later) h = all_taken h.0 left later h.2 ∙ h.1.1 ∙ sym h.1.0
  all_taken list left ((back, None) ∷ later) h = all_taken h.0 left later h.2 ∙ h.1.1 ∙ sym h.1.0

  -- after a call that answered `None`
  after_none : (list next left : List A) (end : End) (answer : Option A) (later : List (Call A)) → answer ≡ None → IsCall (YieldsFirst (λ (xs : List A). xs)) (YieldsLast (λ (xs : List A). xs)) list (end, answer) next → FromList next later left →
      (left ≡ []) × All AnswersNone later
  after_none list next left end (Some x) later none h g = absurd (let no : ⊥ = cc in no)
  after_none list next left front None later none h g = at_end next left later h.1 g
  after_none list next left back None later none h g = at_end next left later h.1 g

  ended : (list left : List A) (calls : List (Call A)) → FromList list calls left → (end : End) → Contains calls (end, None) → left ≡ []
  ended list left [] h end c = absurd (contains_none (end, None) c)
  ended list left (call ∷ later) h end c = elim (contains_cases call (end, None) later c) [
    | inl e ↦ (after_none list h.0 left call.0 call.1 later (ap (λ (k : Call A). k.1) e) h.1 h.2).0
    | inr g ↦ ended h.0 left later h.2 end g
  ]

  stays_there : (list left : List A) (calls : List (Call A)) → FromList list calls left → AllPairs (λ earlier later. AnswersNone earlier → AnswersNone later) calls
  stays_there list left [] h = λ i j d less short. absurd (omega (arith, short))
  stays_there list left (call ∷ later) h =
      AllPairs-cons (λ a b. AnswersNone a → AnswersNone b) call later
      (λ k d short none. (after_none list h.0 left call.0 call.1 later none h.1 h.2).1 k d short)
      (stays_there h.0 left later h.2)

  taken : (list left : List A) (calls : List (Call A)) → FromList list calls left → AreTaken list calls left
  taken list left calls h = record { all = all_taken list left calls h; ends = ended list left calls h; stays = stays_there list left calls h }

-- ---- calls on what shows a list

module _ {S A : Type 0} (left : S → List A) where
  of_items : (s t : S) (calls : List (Call A)) → AreCalls (YieldsFirst left) (YieldsLast left) s calls t → FromList (left s) calls (left t)
  of_items s t [] h = ap left h
  of_items s t ((front, answer) ∷ later) h = (left h.0, h.1, of_items h.0 t later h.2)
  of_items s t ((back, answer) ∷ later) h = (left h.0, h.1, of_items h.0 t later h.2)

module _ {S A B : Type 0} (view : A → B) (left : S → List B) where
  of_views : (s t : S) (calls : List (Call A)) → AreCalls (YieldsFirstBy view left) (YieldsLastBy view left) s calls t → FromList (left s) (map (call_seen view) calls) (left t)
  of_views s t [] h = ap left h
  of_views s t ((front, Some x) ∷ later) h = (left h.0, h.1, of_views h.0 t later h.2)
  of_views s t ((front, None) ∷ later) h = (left h.0, h.1, of_views h.0 t later h.2)
  of_views s t ((back, Some x) ∷ later) h = (left h.0, h.1, of_views h.0 t later h.2)
  of_views s t ((back, None) ∷ later) h = (left h.0, h.1, of_views h.0 t later h.2)

pub items_are_taken : {S A : Type 0} (left : S → List A) → MixturesTake (YieldsFirst left) (YieldsLast left) left
items_are_taken left s t calls h = taken (left s) (left t) calls (of_items left s t calls h)

pub views_are_taken : {S A B : Type 0} (view : A → B) (left : S → List B) → MixturesTakeBy (YieldsFirstBy view left) (YieldsLastBy view left) view left
views_are_taken view left s t calls h = taken (left s) (left t) (map (call_seen view) calls) (of_views view left s t calls h)

pub mixtures_are_taken : (S A B : Type 0) → MixturesAreTaken S A B
mixtures_are_taken S A B = record { items = items_are_taken; views = views_are_taken }

-- ---- a list of three items

pub three_are_taken : ThreeAreTaken
three_are_taken = record {
  called = called;
  taken = items_are_taken (λ (left : List ℕ). left) three [] calls_on_three called;
  lost = λ h. absurd (let e : ◌≡◌ {A = List ℕ} (1 ∷ 3 ∷ []) (1 ∷ 2 ∷ 3 ∷ []) = h.all in cc);
}
  where
    called : AreCalls (YieldsFirst (λ (left : List ℕ). left)) (YieldsLast (λ (left : List ℕ). left)) three calls_on_three []
    called = (2 ∷ 3 ∷ [], refl, (2 ∷ [], refl, ([], refl, ([], (refl, refl), ([], (refl, refl), refl)))))
