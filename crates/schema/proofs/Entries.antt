-- What a list of entries says, and what it says once one is put in or taken out.
use Rattle.std.proofs.Common.{◌≡◌, ℕ, List, [], ◌∷◌, ◌++◌, map, not, ap, sym, ◌∙◌, refl, inl, inr}
use Rattle.std.specs.Prelude.{Option, Some, None, option_map, string_bytes, String, filter, if◌then◌else◌}
use Rattle.std.specs.List.{find}
use Rattle.std.specs.Option.{option_or}
use Rattle.std.proofs.lemmas.Bool.Decides.{eqb_tells}
use Rattle.std.proofs.lemmas.List.{map-append}
use denote.Enum.Declared.{tag_of}
use Rattle.schema.specs.declared.rare_texts.RareText.{RareText}
use Rattle.schema.specs.contracts.rare_texts.RareText.{the_type}
use Rattle.schema.specs.RareTexts.{entry_seen, is_under, text_under, IsSetUnder}

-- two keys are equal exactly if their numbers are
key_number : RareText → ℕ
key_number = tag_of the_type

or_none : {A : Type 0} (o : Option A) → option_or o None ≡ o
or_none None = refl
or_none (Some x) = refl

text_under-append : (ps qs : List (RareText × List ℕ)) (j : RareText) → text_under j (ps ++ qs) ≡ option_or (text_under j ps) (text_under j qs)
unfolding key_number
text_under-append [] qs j = refl
text_under-append (p ∷ ps) qs j =
    elim (eqb_tells (key_number p.0) (key_number j)) [ inl t ↦ rw t.0 refl | inr f ↦ rw f.0 (text_under-append ps qs j) ]

-- the one new entry counts where nothing else is left under its key
or_new : (key j : RareText) (text : List ℕ) (old : Option (List ℕ)) →
    option_or (if is_under key (j, text) then None else old) (text_under j ((key, text) ∷ [])) ≡ (if is_under key (j, text) then Some text else old)
unfolding key_number
or_new key j text old =
    let k = key_number key in let m = key_number j in
    elim (eqb_tells m k) [
      | inl mk ↦ elim (eqb_tells k m) [ inl km ↦ rw (mk.0, km.0) refl | inr km ↦ absurd (km.1 (sym mk.1)) ]
      | inr mk ↦ elim (eqb_tells k m) [ inl km ↦ absurd (mk.1 (sym km.1)) | inr km ↦ rw (mk.0, km.0) (or_none old) ]
    ]

module _ {Z : Type 0} where
  -- the text of the first entry under a key
  pub text_found : (es : List (RareText × String Z)) (j : RareText) → option_map (λ e. string_bytes e.1) (find (is_under j) es) ≡ text_under j (map entry_seen es)
  unfolding key_number
  text_found [] j = refl
  text_found (e ∷ es) j =
      elim (eqb_tells (key_number e.0) (key_number j)) [ inl t ↦ rw t.0 refl | inr f ↦ rw f.0 (text_found es j) ]

  -- an entry under a key is out, and others stay
  pub texts_without : (es : List (RareText × String Z)) (key : RareText) → IsSetUnder key None (map entry_seen es) (map entry_seen (filter (λ e. not (is_under key e)) es))
  unfolding key_number
  texts_without [] key j = elim (eqb_tells (key_number j) (key_number key)) [ inl t ↦ rw t.0 refl | inr f ↦ rw f.0 refl ]
  texts_without (e ∷ es) key j =
      let n = key_number e.0 in let k = key_number key in let m = key_number j in let rest = texts_without es key j in
      elim (eqb_tells n k) [
        | inl nk ↦ elim (eqb_tells m k) [
          | inl mk ↦ rw (nk.0, mk.0) (rw mk.0 at rest)
          | inr mk ↦ elim (eqb_tells n m) [
            | inl nm ↦ absurd (mk.1 (sym nm.1 ∙ nk.1))
            | inr nm ↦ rw (nk.0, mk.0, nm.0) (rw mk.0 at rest)
          ]
        ]
        | inr nk ↦ elim (eqb_tells n m) [
          | inl nm ↦ elim (eqb_tells m k) [
            | inl mk ↦ absurd (nk.1 (nm.1 ∙ mk.1))
            | inr mk ↦ rw (nk.0, mk.0, nm.0) refl
          ]
          | inr nm ↦ rw (nk.0, nm.0) rest
        ]
      ]

  -- the same, and then there is a new entry under the key
  pub texts_with : (es : List (RareText × String Z)) (key : RareText) (text : String Z) →
      IsSetUnder key (Some (string_bytes text)) (map entry_seen es) (map entry_seen (filter (λ e. not (is_under key e)) es ++ (key, text) ∷ []))
  texts_with es key text j =
      let left = filter (λ e. not (is_under key e)) es in let new = (key, text) ∷ [] in
      ap (text_under j) (map-append entry_seen left new)
      ∙ text_under-append (map entry_seen left) (map entry_seen new) j
      ∙ ap (λ o. option_or o (text_under j (map entry_seen new))) (texts_without es key j)
      ∙ or_new key j (string_bytes text) (text_under j (map entry_seen es))
