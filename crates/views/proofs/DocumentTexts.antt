-- The text of a document is what is shown of its runs.
use Rattle.std.proofs.Common.{◌≡◌, ℕ, ◌+◌, ◌-◌, ◌<◌, Bool, true, false, List, [], ◌∷◌, ◌++◌, length, take, drop, map, refl, sym, ap, ◌∙◌, arith}
use Rattle.std.specs.Prelude.{nat_lt, nat_le, not, bytes_eq, ◌&&◌, slice_range}
use Rattle.std.specs.Option.{option_map_or}
use Rattle.std.specs.List.{flat_map, concat}
use Rattle.std.specs.Str.{is_utf8}
use Rattle.std.proofs.lemmas.Bool.{and_parts, eqb-true}
use Rattle.std.proofs.lemmas.List.{take_all, take-append-drop}
use Rattle.std.proofs.lemmas.List.Folds.{concat-append}
use Rattle.schema.specs.NodeData.{NodeData}
use Rattle.model.specs.declared.FullNodeId.{FullNodeId}
use Rattle.model.specs.World.{World}
use Rattle.model.specs.RoleClasses.{is_password_input}
use Rattle.schema.specs.RunFits.{is_cut_by}
use Rattle.model.specs.TextRuns.{SentRun, sent_characters, sent_runs, is_password, run_value, cut_by, are_cut, supports_text_ranges}
use Rattle.model.specs.FlatText.{FlatText, are_alike, shown_character, needs_masking, shown_run, flat_text, characters, start_of, offset, document_end}
use Rattle.model.specs.Ranges.{document_range, text_of}
use Rattle.model.specs.Values.{bullets, document_text}
use Rattle.model.specs.TextLaws.{IsWhole}
use Rattle.model.proofs.Text.TextFacts.{is_text, start_next}
use Rattle.model.proofs.Text.WholeTexts.{whole_text}
use Rattle.model.proofs.Text.Indexes.{start_at_end, total_is}
use Rattle.model.proofs.Text.RangeTexts.{range_text}
use Rattle.views.specs.declared.node.node_ref.NodeRef.{NodeRef}
use Rattle.views.specs.Nodes.{world_at, id_at, data_at}
use Rattle.views.specs.RunTexts.{shown_of, shown_of_all, shown_text}

-- ---- what is shown of a run

masked_run : (bs ns : List ℕ) → concat (map (shown_character true) (cut_by bs ns)) ≡ bullets (length ns)
masked_run bs [] = refl
masked_run bs (n ∷ ns) = ap (λ xs. 226 ∷ 128 ∷ 162 ∷ xs) (masked_run (drop n bs) ns)

no_bytes : (bs : List ℕ) → is_cut_by bs [] ≡ true → [] ≡ bs
no_bytes [] e = refl
no_bytes (b ∷ bs) e = let h : length (b ∷ bs) ≡ 0 = eqb-true (length (b ∷ bs)) 0 e in absurd (omega (arith, h))

plain_run : (bs ns : List ℕ) → is_cut_by bs ns ≡ true → concat (map (shown_character false) (cut_by bs ns)) ≡ bs
plain_run bs [] e = no_bytes bs e
plain_run bs (n ∷ ns) e =
    let a = and_parts (nat_lt 0 n) _ e in
    let b = and_parts (nat_le n (length bs)) _ a.1 in
    let c = and_parts (is_utf8 (take n bs)) _ b.1 in
    ap (λ xs. take n bs ++ xs) (plain_run (drop n bs) ns c.1) ∙ take-append-drop n bs

shown_run_text : (masked : Bool) (r : SentRun) → is_cut_by (run_value r) r.node.character_lengths ≡ true →
    concat (map (shown_character masked) (cut_by (run_value r) r.node.character_lengths)) ≡ shown_of masked r
shown_run_text true r e = masked_run (run_value r) r.node.character_lengths
shown_run_text false r e = plain_run (run_value r) r.node.character_lengths e

-- ---- of all runs

module _ (w : World) (root : FullNodeId) (password masked : Bool) where
  all_shown : (runs : List SentRun) → are_cut runs ≡ true → concat (characters (map (shown_run w root password masked) runs)) ≡ shown_of_all masked runs
  all_shown [] e = refl
  all_shown (r ∷ runs) e =
      let c = and_parts (is_cut_by (run_value r) r.node.character_lengths) _ e in
      concat-append (map (shown_character masked) (cut_by (run_value r) r.node.character_lengths)) (characters (map (shown_run w root password masked) runs))
      ∙ ap (λ xs. xs ++ concat (characters (map (shown_run w root password masked) runs))) (shown_run_text masked r c.0)
      ∙ ap (λ xs. shown_of masked r ++ xs) (all_shown runs c.1)

-- ---- of a document

last_offset : (t : FlatText) → 0 < length t → offset t (document_end t) ≡ start_of t (length t)
last_offset t some = let e : length t - 1 + 1 ≡ length t = omega (arith, some) in sym (start_next t (length t - 1)) ∙ ap (start_of t) e

whole_range : (xs : List (List ℕ)) (n : ℕ) → n ≡ length xs → slice_range xs 0 n ≡ xs
whole_range xs n e = take_all (n - 0) xs (omega (arith, e))

document_is_characters : (t : FlatText) → IsWhole t → text_of t (document_range t) ≡ concat (characters t)
document_is_characters t whole =
    let end : offset t (document_end t) ≡ length (characters t) = last_offset t whole.some ∙ start_at_end t ∙ sym (total_is t) in
    range_text t whole (document_range t) (record { run = whole.some; index = omega arith }) (record { run = omega (arith, whole.some); index = omega arith }) (omega arith)
    ∙ ap concat (whole_range (characters t) (offset t (document_end t)) end)

pub document_is_shown : (w : World) (root : FullNodeId) → supports_text_ranges w root ≡ true → document_text w root ≡ shown_text (needs_masking w root) w root
unfolding flat_text
document_is_shown w root e =
    let text = is_text w root e in
    document_is_characters (flat_text w root) (whole_text w root text) ∙ all_shown w root (is_password w root) (needs_masking w root) (sent_runs w root) text.cut

-- ---- whether it is masked

module _ (n : NodeRef) where
  abbrev differs : Bool
  differs = not (are_alike bytes_eq (flat_map sent_characters (sent_runs (world_at n) (id_at n))))

  by_role : needs_masking (world_at n) (id_at n) ≡ (is_password_input (data_at n).role && differs)
  unfolding needs_masking
  by_role = ap (λ o. option_map_or (λ (d : NodeData). is_password_input d.role) o false && differs) n.known

  pub plain_unmasked : is_password_input (data_at n).role ≡ false → false ≡ needs_masking (world_at n) (id_at n)
  plain_unmasked e = sym (by_role ∙ ap (λ b. b && differs) e)

  pub password_masked : is_password_input (data_at n).role ≡ true → differs ≡ needs_masking (world_at n) (id_at n)
  password_masked e = sym (by_role ∙ ap (λ b. b && differs) e)
