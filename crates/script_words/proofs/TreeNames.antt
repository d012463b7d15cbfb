-- The name of a tree, read back.
use Rattle.std.proofs.Common.{◌≡◌, ◌≢◌, ℕ, ◌≤◌, List, codes, bytes_eq, Option, Some, None, Result, Ok, Err, IfOk, IsOk, ap, sym, refl, ◌∙◌, ◌↔◌, ⊎_elim, inl, inr, zero, suc, ◌+◌, ◌-◌, [], ◌∷◌, Bool, true, false, if◌then◌else◌, nat_lt, arith, true≢false}
use Rattle.std.specs.Result.{result_ok}
use Rattle.std.proofs.lemmas.Bool.{cases_Bool, cond-true, cond-false, cond_both}
use Rattle.std.proofs.lemmas.Option.{none-some, same_Some}
use Rattle.std.proofs.lemmas.Slice.Eq.{bytes_eq-Decides}
use Rattle.uuid.specs.Text.{hyphenated_text, lower, parsed, by_index, hex_digit, nibble, digit_place, is_hyphen_place}
use Rattle.uuid.proofs.RoundTrips.{parses_hyphenated}
use Rattle.uuid.proofs.TextLemmas.{by_index_length}
use Rattle.schema.specs.TreeIds.{root_tree_id}
use Rattle.schema.specs.declared.TreeId.{TreeId}
use Rattle.script_words.specs.Parts.{tree_text}
use Rattle.script_words.specs.Reading.{IsTreeName, Lacks, IsWord}
use Rattle.script_words.specs.Says.{SaysTree}
use Rattle.script_words.proofs.Lacking.{lacks_nothing, lacks_cons, lacks_append, lacks_by}

tree_word_at : (tree : TreeId) (text : List ℕ) → IsTreeName tree → text ≡ tree_text tree → (text ≡ codes "root" → tree ≡ root_tree_id) × (text ≢ codes "root" → Some tree.0 ≡ parsed text)
tree_word_at tree text h e = ⊎_elim
    (λ t. ((λ _. ap (λ b. record { 0 = b }) ((bytes_eq-Decides tree.0 root_tree_id.0).0 t)), λ n. absurd (n (e ∙ cond-true _ _ _ t))))
    (λ f. let back : Some tree.0 ≡ parsed text = parses_hyphenated lower tree.0 (inl refl) h.0 h.1 ∙ ap parsed (sym (e ∙ cond-false _ _ _ f)) in ((λ r. let no : Some tree.0 ≡ parsed (codes "root") = back ∙ ap parsed r in cc), λ _. back))
    (cases_Bool (bytes_eq tree.0 root_tree_id.0))

-- as `==` has it
pub tree_word : (tree : TreeId) (text : List ℕ) (b : Bool) → IsTreeName tree → text ≡ tree_text tree → b ≡ bytes_eq text (codes "root") → (b ≡ true → tree ≡ root_tree_id) × (b ≡ false → Some tree.0 ≡ parsed text)
tree_word tree text b h e is = let k = tree_word_at tree text h e in let d = bytes_eq-Decides text (codes "root") in ((λ t. k.0 (d.0 (sym is ∙ t))), λ f. k.1 (λ r. true≢false (sym (d.1 r) ∙ sym is ∙ f)))

-- what `root` says, and what another word
pub root_says : (word : List ℕ) (b : Bool) (root tree : TreeId) → root ≡ root_tree_id → b ≡ bytes_eq word (codes "root") → b ≡ true → (Some root ≡ Some tree) ↔ SaysTree word tree
root_says word b root tree is test t =
    let called : word ≡ codes "root" = (bytes_eq-Decides word (codes "root")).0 (sym test ∙ t) in (
      (λ e. inl (called, sym (same_Some root tree e) ∙ is)),
      (λ s. ⊎_elim (λ k. ap Some (is ∙ sym k.1)) (λ p. let no : Some tree.0 ≡ parsed (codes "root") = sym p ∙ ap parsed called in cc) s),
    )

-- as `parse_str` and `ok` have it
parsed_bytes : {E : Type 0} (r : Result (List ℕ) E) (o : Option (List ℕ)) (bytes : List ℕ) → IfOk r (λ u. Some u ≡ o) → result_ok r ≡ Some bytes → Some bytes ≡ o
parsed_bytes (Ok x) o bytes h e = sym e ∙ h
parsed_bytes (Err x) o bytes h e = absurd (none-some bytes e)

not_parsed : {E : Type 0} (r : Result (List ℕ) E) → result_ok r ≡ None → IsOk r → ⊥
not_parsed (Ok x) e ok = none-some x (sym e)
not_parsed (Err x) e ok = true≢false (sym ok)

pub uuid_says : {E : Type 0} (word : List ℕ) (b : Bool) (r : Result (List ℕ) E) (bytes : List ℕ) (tree : TreeId) → b ≡ bytes_eq word (codes "root") → b ≡ false → IfOk r (λ u. Some u ≡ parsed word) → result_ok r ≡ Some bytes → (Some (record { 0 = bytes }) ≡ Some tree) ↔ SaysTree word tree
uuid_says word b r bytes tree test f h e =
    let is : Some bytes ≡ parsed word = parsed_bytes r (parsed word) bytes h e in (
      (λ e. inr (sym is ∙ ap Some (ap (λ (t : TreeId). t.0) (same_Some (record { 0 = bytes }) tree e)))),
      (λ s. ⊎_elim (λ k. absurd (true≢false (sym ((bytes_eq-Decides word (codes "root")).1 k.0) ∙ sym test ∙ f))) (λ p. ap (λ bs. Some (record { 0 = bs })) (same_Some bytes tree.0 (is ∙ p))) s),
    )

pub other_says_none : {E : Type 0} (word : List ℕ) (b : Bool) (r : Result (List ℕ) E) (tree : TreeId) → b ≡ bytes_eq word (codes "root") → b ≡ false → (IsOk r ↔ ((u : List ℕ) × (parsed word ≡ Some u))) → result_ok r ≡ None → (None ≡ Some tree) ↔ SaysTree word tree
other_says_none word b r tree test f ok e = (
  (λ e. absurd (none-some tree e)),
  (λ s. absurd (⊎_elim (λ k. true≢false (sym ((bytes_eq-Decides word (codes "root")).1 k.0) ∙ sym test ∙ f)) (λ p. not_parsed r e (ok.1 (tree.0, p))) s)),
)

by_index_lacks : (c n : ℕ) (f : ℕ → ℕ) → ((k : ℕ) → f k ≢ c) → Lacks c (by_index n f)
unfolding by_index
by_index_lacks c zero f other = lacks_nothing c
by_index_lacks c (suc n) f other = lacks_append c (by_index n f) (f n ∷ []) (by_index_lacks c n f other) (lacks_cons c (f n) [] (other n) (lacks_nothing c))

if_not : (b : Bool) (x y c : ℕ) → x ≢ c → y ≢ c → (if b then x else y) ≢ c
if_not true x y c p q = p
if_not false x y c p q = q

no_mark : (c d : ℕ) → c ≤ 32 → hex_digit lower d ≢ c
no_mark c d low = if_not (nat_lt d 10) (48 + d) (97 + d - 10) c (λ e. omega (arith, e)) (λ e. omega (arith, e))

pub uuid_lacks : (c : ℕ) → c ≤ 32 → (xs : List ℕ) → Lacks c (hyphenated_text lower xs)
uuid_lacks c low xs = by_index_lacks c 36 _ (λ k. if_not (is_hyphen_place k) 45 _ c (λ e. omega (arith, e)) (no_mark c (nibble xs (digit_place k)) low))

uuid_is_word : (xs : List ℕ) → IsWord (hyphenated_text lower xs)
uuid_is_word xs = (uuid_lacks 32 (omega arith) xs, omega (arith, by_index_length 36 (λ k. if is_hyphen_place k then 45 else hex_digit lower (nibble xs (digit_place k)))))

root_is_word : IsWord (codes "root")
root_is_word = (lacks_by 32 (codes "root") refl, omega arith)

pub tree_is_word : (tree : TreeId) → IsWord (tree_text tree)
tree_is_word tree = cond_both (bytes_eq tree.0 root_tree_id.0) (codes "root") (hyphenated_text lower tree.0) IsWord (λ _. root_is_word) (λ _. uuid_is_word tree.0)
