-- A masked password is one text in all worlds of its shape.
use Rattle.std.proofs.Common.{◌≡◌, ℕ, Bool, true, false, List, [], ◌∷◌, length, map, replicate, Option, Some, None, refl, sym, ap, ◌∙◌}
use Rattle.std.proofs.lemmas.Bool.{and_parts}
use Rattle.std.specs.Prelude.{is_some, not, ◌&&◌, if◌then◌else◌, zip, option_map}
use Rattle.std.specs.Option.{option_or}
use Rattle.model.specs.declared.FullNodeId.{FullNodeId}
use Rattle.model.specs.World.{World}
use Rattle.model.specs.RoleClasses.{is_password_input, is_multiline}
use Rattle.model.specs.Upward.{says, inherited_field}
use Rattle.model.specs.Geometry.{transform, transform_within}
use Rattle.model.specs.Styles.{style_of}
use Rattle.model.specs.TextRuns.{is_password, run_ids, sent_run, sent_runs, cut_by, run_value, supports_text_ranges}
use Rattle.model.specs.FlatText.{BULLET, shown_character, needs_masking, ShownRun, FlatText, metrics_of, shown_run, flat_text}
use Rattle.model.specs.Ranges.{text_of, document_range}
use Rattle.model.specs.Values.{own_value, document_text, shown_alone, value_of}
use Rattle.model.specs.Outline.{without_text, outline}
use Rattle.model.specs.Shape.{face, EqualShape}
use Rattle.model.proofs.Text.Outlines.{says_same, inherited_same, transform_same, transform_within_same, style_same, sent_bare, runs_same, agree}

bullets_are : (bs ns : List ℕ) → map (shown_character true) (cut_by bs ns) ≡ replicate (length ns) BULLET
bullets_are bs [] = refl
bullets_are bs (n ∷ ns) = ap (λ cs. BULLET ∷ cs) (bullets_are _ ns)

-- a masked run, made of what the outline and its face tell
abbrev faced : World → FullNodeId → Bool → FullNodeId → ℕ × Bool → ShownRun
faced o root password id f =
    let d = (sent_run o id).node in
    record {
      id = id;
      characters = replicate f.0 BULLET;
      goes_back = is_some d.previous_on_line;
      goes_on = is_some d.next_on_line;
      has_newline = f.1;
      word_starts = if password then [] else d.word_starts;
      style = style_of o id;
      bounds = d.bounds;
      move = transform o id;
      move_in_root = transform_within o root id;
      metrics = metrics_of password d;
      direction = inherited_field (λ e. e.text_direction) o id;
    }

shown_is_faced : (w : World) (root : FullNodeId) (password : Bool) (id : FullNodeId) → shown_run w root password true (sent_run w id) ≡ faced (outline w) root password id (face (sent_run w id))
shown_is_faced w root password id =
    let bare : without_text (sent_run w id).node ≡ (sent_run (outline w) id).node = sym (sent_bare w id) in
    λ i. record {
      id = id;
      characters = bullets_are (run_value (sent_run w id)) (sent_run w id).node.character_lengths i;
      goes_back = is_some (bare i).previous_on_line;
      goes_on = is_some (bare i).next_on_line;
      has_newline = (face (sent_run w id)).1;
      word_starts = if password then [] else (bare i).word_starts;
      style = sym (style_same w) i id;
      bounds = (bare i).bounds;
      move = sym (transform_same w) i id;
      move_in_root = sym (transform_within_same w) i root id;
      metrics = metrics_of password (bare i);
      direction = sym (inherited_same w (λ e. e.text_direction) (λ d. refl)) i id;
    }

abbrev faced_text : World → FullNodeId → Bool → List FullNodeId → List (ℕ × Bool) → FlatText
faced_text o root password ids fs = map (λ q. faced o root password q.0 q.1) (zip ids fs)

runs_are_faced : (w : World) (root : FullNodeId) (password : Bool) (ids : List FullNodeId) →
    map (shown_run w root password true) (map (sent_run w) ids) ≡ faced_text (outline w) root password ids (map face (map (sent_run w) ids))
runs_are_faced w root password [] = refl
runs_are_faced w root password (id ∷ ids) =
    ap (λ r. r ∷ map (shown_run w root password true) (map (sent_run w) ids)) (shown_is_faced w root password id)
    ∙ ap (λ rs. faced (outline w) root password id (face (sent_run w id)) ∷ rs) (runs_are_faced w root password ids)

text_is_faced : (w : World) (p : FullNodeId) → needs_masking w p ≡ true → flat_text w p ≡ faced_text (outline w) p (is_password w p) (run_ids w p) (map face (sent_runs w p))
unfolding flat_text
text_is_faced w p m = ap (λ b. map (shown_run w p (is_password w p) b) (sent_runs w p)) m ∙ runs_are_faced w p (is_password w p) (run_ids w p)

pub one_text : (p : FullNodeId) (w v : World) → EqualShape p w v → flat_text w p ≡ flat_text v p
one_text p w v e =
    let ids : run_ids w p ≡ run_ids v p = agree (λ u. run_ids u p) w v (λ u i. sym (runs_same u) i p) e.outlines in
    let secret : is_password w p ≡ is_password v p = agree (λ u. is_password u p) w v (λ u i. sym (says_same u (λ d. is_password_input d.role) (λ d. refl)) i p) e.outlines in
    text_is_faced w p e.first.masked
    ∙ (λ i. faced_text (e.outlines i) p (secret i) (ids i) (e.faces i))
    ∙ sym (text_is_faced v p e.second.masked)

-- ---- its value

pub masked_is_password : (w : World) (p : FullNodeId) → needs_masking w p ≡ true → is_password w p ≡ true
unfolding needs_masking
masked_is_password w p e = (and_parts (is_password w p) _ e).0

abbrev pub value_by : Bool → Bool → List ℕ → Option (List ℕ)
value_by given multiline doc = if given then Some doc else (if not multiline then Some doc else None)

value_is : (o : Option (List ℕ)) (pw s k m : Bool) (doc : List ℕ) → pw ≡ true → s ≡ true → k ≡ true →
    option_or (option_map (λ v. if pw then (if s then (if k then doc else v) else shown_alone v) else v) o) (if s && not m then Some doc else None) ≡ value_by (is_some o) m doc
value_is None true true true m doc a b c = refl
value_is (Some v) true true true m doc a b c = refl
value_is o false s k m doc a b c = absurd (let no : ⊥ = cc in no)
value_is o true false k m doc a b c = absurd (let no : ⊥ = cc in no)
value_is o true true false m doc a b c = absurd (let no : ⊥ = cc in no)

pub value_is_faced : (w : World) (p : FullNodeId) → supports_text_ranges w p ≡ true → needs_masking w p ≡ true → value_of w p ≡ value_by (is_some (own_value w p)) (says (λ d. is_multiline d.role) w p) (document_text w p)
unfolding value_of
value_is_faced w p s m =
    value_is (own_value w p) (is_password w p) (supports_text_ranges w p) (needs_masking w p) (says (λ d. is_multiline d.role) w p) (document_text w p) (masked_is_password w p m) s m

pub one_value : (p : FullNodeId) (w v : World) → EqualShape p w v → value_of w p ≡ value_of v p
one_value p w v e =
    let many : says (λ d. is_multiline d.role) w p ≡ says (λ d. is_multiline d.role) v p = agree (λ u. says (λ d. is_multiline d.role) u p) w v (λ u i. sym (says_same u (λ d. is_multiline d.role) (λ d. refl)) i p) e.outlines in
    let text : flat_text w p ≡ flat_text v p = one_text p w v e in
    value_is_faced w p e.first.supported e.first.masked
    ∙ (λ i. value_by (e.own_value_is_given i) (many i) (text_of (text i) (document_range (text i))))
    ∙ sym (value_is_faced v p e.second.supported e.second.masked)
