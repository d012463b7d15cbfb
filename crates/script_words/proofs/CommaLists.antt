-- Lists of which each item but the first stands after a comma, while they are read.
use Rattle.std.proofs.Common.{◌≡◌, ℕ, List, [], ◌∷◌, ◌++◌, All, Option, Some, None, append-nil, append_assoc, ap, sym, refl, ◌∙◌, flat_map}
use Rattle.std.proofs.lemmas.Option.{none-some, same_Some}
use Rattle.std.proofs.lemmas.List.Elements.{All-cons, All-head, All-tail}
use Rattle.script_words.specs.Items.{comma_then}
use Rattle.script_words.specs.Reading.{Lacks, behind}

-- the text of these items, if there are any
abbrev pub listed : {T : Type 0} → (T → List ℕ) → List T → Option (List ℕ)
listed text [] = None
listed text (x ∷ xs) = Some (text x ++ flat_map (comma_then text) xs)

-- some of all items are done, and what is left is the text of the others
abbrev pub IsLeft : {T : Type 0} → (T → List ℕ) → (T → Type 0) → List T → List T → Option (List ℕ) → Type 0
IsLeft {T} text P all done left = (rest : List T) × (done ++ rest ≡ all) × All P rest × (left ≡ listed text rest)

-- what a cut at a comma promises
abbrev pub IsCut : List ℕ → List ℕ → Option (List ℕ) → Type 0
IsCut word part after = (text : List ℕ) (rest : Option (List ℕ)) → Lacks 44 text → word ≡ text ++ behind 44 rest → (part ≡ text) × (after ≡ rest)

pub behind_listed : {T : Type 0} (text : T → List ℕ) (xs : List T) → flat_map (comma_then text) xs ≡ behind 44 (listed text xs)
behind_listed text [] = refl
behind_listed text (x ∷ xs) = refl

pub none_left : {T : Type 0} (text : T → List ℕ) (P : T → Type 0) (all done : List T) → IsLeft text P all done None → done ≡ all
none_left text P all done ([], e, h, f) = sym (append-nil done) ∙ e
none_left text P all done (x ∷ xs, e, h, f) = absurd (none-some (text x ++ flat_map (comma_then text) xs) f)

pub all_left : {T : Type 0} (text : T → List ℕ) (P : T → Type 0) (x : T) (xs done : List T) (word : List ℕ) → done ≡ [] → P x → All P xs → word ≡ text x ++ flat_map (comma_then text) xs → IsLeft text P (x ∷ xs) done (Some word)
all_left text P x xs done word d h hs e = (x ∷ xs, ap (λ ys. ys ++ (x ∷ xs)) d, All-cons P x xs h hs, ap Some e)

-- of what is left the first item is cut off
pub next_left : {T : Type 0} (text : T → List ℕ) (P : T → Type 0) (all done : List T) (before : Option (List ℕ)) (word part : List ℕ) (after : Option (List ℕ))
    → ((x : T) → P x → Lacks 44 (text x)) → IsCut word part after → before ≡ Some word → IsLeft text P all done before
    → (x : T) × P x × (part ≡ text x) × IsLeft text P all (done ++ x ∷ []) after
next_left text P all done before word part after lacks cut b ([], e, h, f) = absurd (none-some word (sym f ∙ b))
next_left text P all done before word part after lacks cut b (x ∷ xs, e, h, f) =
    let k = cut (text x) (listed text xs) (lacks x (All-head P x xs h)) (same_Some word (text x ++ flat_map (comma_then text) xs) (sym b ∙ f) ∙ ap (λ t. text x ++ t) (behind_listed text xs)) in
    (x, All-head P x xs h, k.0, (xs, append_assoc done (x ∷ []) xs ∙ e, All-tail P x xs h, k.1))

-- it is pushed
pub pushed_left : {T : Type 0} (text : T → List ℕ) (P : T → Type 0) (all done more : List T) (x y : T) (after : Option (List ℕ)) → IsLeft text P all (done ++ x ∷ []) after → more ≡ done ++ y ∷ [] → y ≡ x → IsLeft text P all more after
pushed_left text P all done more x y after (rest, e, h, f) m s = (rest, ap (λ ys. ys ++ rest) (m ∙ ap (λ z. done ++ z ∷ []) s) ∙ e, h, f)
