-- What is read of a node is the same, whatever is typed into a password.
use Rattle.std.proofs.Common.{◌≡◌, ◌≢◌, ℕ, ◌+◌, Bool, true, false, not, ◌&&◌, List, [], ◌∷◌, length, map, replicate, Option, Some, None, arith, refl, sym, ap, subst, ◌∙◌}
use Rattle.std.specs.Prelude.{bytes_eq, codes, is_some, nat_lt, option_and_then, option_map, if◌then◌else◌}
use Rattle.std.specs.List.{flat_map, range_with_len}
use Rattle.std.specs.Option.{option_map_or}
use Rattle.std.proofs.lemmas.Bool.{lt-ltb, or_parts}
use Rattle.schema.specs.NodeData.{NodeData}
use Rattle.schema.specs.declared.values.TextPosition.{TextPosition}
use Rattle.schema.specs.declared.values.TextSelection.{TextSelection}
use Rattle.model.specs.declared.FullNodeId.{FullNodeId}
use Rattle.model.specs.World.{World, data_of}
use Rattle.model.specs.FlatText.{BULLET, shown_character, are_alike, needs_masking, FlatText, Position, metrics_of, shown_run, flat_text, document_end}
use Rattle.model.specs.Forest.{IsFormed, is_same}
use Rattle.model.specs.Geometry.{transform, transform_within}
use Rattle.model.specs.Moves.{to_line_index, to_global_utf16_index}
use Rattle.model.specs.Outline.{outline, without_text}
use Rattle.model.specs.Queries.{node_named}
use Rattle.model.specs.Ranges.{Range, range_between, nearest_named, selection, selection_of, selection_anchor, selection_focus, text_of}
use Rattle.model.specs.RoleClasses.{holds_text}
use Rattle.model.specs.Shape.{face}
use Rattle.model.specs.Styles.{style_of}
use Rattle.model.specs.TextRuns.{SentRun, is_password, run_ids, has_runs, sent_run, sent_runs, sent_characters, cut_by, run_value, supports_text_ranges}
use Rattle.model.specs.Upward.{says, inherited_field}
use Rattle.model.specs.Values.{bullets}
use Rattle.model.proofs.Forest.PlaceOf.{same_from_test, test_self}
use Rattle.model.proofs.Text.Outlines.{given_same, inherited_same, named_is, sent_bare, style_same, transform_same, transform_within_same}
use Rattle.texts.specs.Cuts.{character_ranges, word_ranges}
use Rattle.texts.specs.FoundRanges.{range_of_line}
use Rattle.texts.specs.RangeCuts.{located_in}
use Rattle.views.specs.TextDefects.{text_defect, defect_of_runs, first_defect}
use Rattle.views.specs.declared.runs.defects.TextDefect.TheVariants.{Role}
use Rattle.hidden_texts.specs.Alike.{DifferInPassword}
use Rattle.hidden_texts.specs.Hidden.{is_in_password, has_password_below, holds_password, hides_text}
use Rattle.hidden_texts.proofs.HiddenAlike.{one, passwords_one, texts_one}
use Rattle.hidden_texts.proofs.ShownAlike.{runs_one, holders_one, sents_one, supports_one, textless, without_runs, and_false}
use Rattle.read.specs.Asked.{told_of, shows_text}
use Rattle.read.specs.Laws.{DifferInTyping, TypingReadsTheSame}
use Rattle.read.specs.Lines.{read_text}
use Rattle.read.specs.NoText.{no_text_line}
use Rattle.read.specs.Shown.{further, count_before, shown_index, shown_text}
use Rattle.read.proofs.Muted.{mute, characters_cut, words_cut, lines_found, last_line, counted_before, nearest, between, one as same_of}
use Rattle.read.proofs.ReadAlike.{IsReadAlike, read_same}

first_false : (a b : Bool) → (a && b) ≡ false → b ≡ true → a ≡ false
first_false true b e h = sym h ∙ e
first_false false b e h = refl

abbrev raw_selection : World → FullNodeId → Option TextSelection
raw_selection u id = option_and_then (λ (d : NodeData). d.text_selection) (data_of u id)

bullets_are : (m : Bool) (bs ns : List ℕ) → map (λ (c : List ℕ). BULLET) (map (shown_character m) (cut_by bs ns)) ≡ replicate (length ns) BULLET
bullets_are m bs [] = refl
bullets_are m bs (n ∷ ns) = ap (λ cs. BULLET ∷ cs) (bullets_are m _ ns)

module _ (p : FullNodeId) (w v : World) (formed : IsFormed w) (alike : DifferInPassword p w v) where
  read_one : {A : Type 0} (of : World → A) → ((u : World) → of (outline u) ≡ of u) → of w ≡ of v
  read_one = one p w v formed alike

  secrets : is_password w ≡ is_password v
  secrets = passwords_one p w v formed alike

  styles : style_of w ≡ style_of v
  styles = read_one style_of style_same

  moves : transform w ≡ transform v
  moves = read_one transform transform_same

  moves_within : transform_within w ≡ transform_within v
  moves_within = read_one transform_within transform_within_same

  directions : inherited_field (λ d. d.text_direction) w ≡ inherited_field (λ d. d.text_direction) v
  directions = read_one (inherited_field (λ d. d.text_direction)) (λ u. inherited_same u (λ d. d.text_direction) (λ d. refl))

  raw_selections : raw_selection w ≡ raw_selection v
  raw_selections = read_one raw_selection (λ u. given_same u (λ d. d.text_selection) (λ d. refl))

  bare_one : (id : FullNodeId) → without_text (sent_run w id).node ≡ without_text (sent_run v id).node
  bare_one id = sym (sent_bare w id) ∙ (λ i. (sent_run (alike.outlines i) id).node) ∙ sent_bare v id

  -- ---- the password's text, with bullets

  mute_run : (m n : Bool) (id : FullNodeId) → face (sent_run w id) ≡ face (sent_run v id) →
      mute (shown_run w p (is_password w p) m (sent_run w id)) ≡ mute (shown_run v p (is_password v p) n (sent_run v id))
  mute_run m n id e =
      let marks : map (λ (c : List ℕ). BULLET) (map (shown_character m) (sent_characters (sent_run w id))) ≡ map (λ (c : List ℕ). BULLET) (map (shown_character n) (sent_characters (sent_run v id))) =
      bullets_are m (run_value (sent_run w id)) (sent_run w id).node.character_lengths
      ∙ ap (λ (f : ℕ × Bool). replicate f.0 BULLET) e
      ∙ sym (bullets_are n (run_value (sent_run v id)) (sent_run v id).node.character_lengths) in
      let bare = bare_one id in
      λ i. record {
        id = id;
        characters = marks i;
        goes_back = is_some (bare i).previous_on_line;
        goes_on = is_some (bare i).next_on_line;
        has_newline = (e i).1;
        word_starts = if secrets i p then [] else (bare i).word_starts;
        style = styles i id;
        bounds = (bare i).bounds;
        move = moves i id;
        move_in_root = moves_within i p id;
        metrics = metrics_of (secrets i p) (bare i);
        direction = directions i id;
      }

  mute_runs : (m n : Bool) (ids : List FullNodeId) → map face (map (sent_run w) ids) ≡ map face (map (sent_run v) ids) →
      map mute (map (shown_run w p (is_password w p) m) (map (sent_run w) ids)) ≡ map mute (map (shown_run v p (is_password v p) n) (map (sent_run v) ids))
  mute_runs m n [] e = refl
  mute_runs m n (id ∷ ids) e =
      let same : face (sent_run w id) ∷ map face (map (sent_run w) ids) ≡ face (sent_run v id) ∷ map face (map (sent_run v) ids) = e in
      let first : face (sent_run w id) ≡ face (sent_run v id) = cc in
      let others : map face (map (sent_run w) ids) ≡ map face (map (sent_run v) ids) = cc in
      λ i. mute_run m n id first i ∷ mute_runs m n ids others i

  runs_of : run_ids w p ≡ run_ids v p
  runs_of i = runs_one p w v formed alike i p

  muted_one : map mute (flat_text w p) ≡ map mute (flat_text v p)
  unfolding flat_text
  muted_one =
      mute_runs (needs_masking w p) (needs_masking v p) (run_ids w p) (alike.faces ∙ (λ i. map face (map (sent_run v) (sym runs_of i))))
      ∙ (λ i. map mute (map (shown_run v p (is_password v p) (needs_masking v p)) (map (sent_run v) (runs_of i))))

  text_one : {A : Type 0} (of : FlatText → A) → ((x : FlatText) → of (map mute x) ≡ of x) → of (flat_text w p) ≡ of (flat_text v p)
  text_one = same_of (flat_text w p) (flat_text v p) muted_one

  -- ---- the password is read alike

  secret_v : is_password v p ≡ true
  secret_v = (λ i. sym secrets i p) ∙ alike.password

  as_bullets : (u : World) (q : Range) → is_password u p ≡ true → shown_text (located_in u p q) ≡ bullets (length (character_ranges (flat_text u p) q))
  as_bullets u q e = ap (λ b. if b then bullets (length (character_ranges (flat_text u p) q)) else text_of (flat_text u p) q) e

  by_count : (u : World) (q : Position) → is_password u p ≡ true → shown_index u p q ≡ further 0 (count_before (flat_text u p) q)
  by_count u q e = ap (λ b. if b then further 0 (count_before (flat_text u p) q) else to_global_utf16_index (flat_text u p) q) e

  selections_of : selection_of w p ≡ selection_of v p
  selections_of i = if alike.texts i then raw_selections i p else None

  ends : (end : TextSelection → TextPosition) (o : Option TextSelection)
      → option_and_then (λ (s : TextSelection). nearest_named (flat_text w p) (end s)) o ≡ option_and_then (λ (s : TextSelection). nearest_named (flat_text v p) (end s)) o
  ends end None = refl
  ends end (Some s) = text_one (λ t. nearest_named t (end s)) (λ t. nearest t (end s))

  anchors : selection_anchor w p ≡ selection_anchor v p
  anchors = (λ i. option_and_then (λ s. nearest_named (flat_text w p) s.anchor) (selections_of i)) ∙ ends (λ s. s.anchor) (selection_of v p)

  foci : selection_focus w p ≡ selection_focus v p
  foci = (λ i. option_and_then (λ s. nearest_named (flat_text w p) s.focus) (selections_of i)) ∙ ends (λ s. s.focus) (selection_of v p)

  selections : selection w p ≡ selection v p
  selections = (λ i. option_and_then (λ a. option_map (range_between (flat_text w p) a) (foci i)) (anchors i)) ∙ go (selection_anchor v p) (selection_focus v p)
    where
      go : (a f : Option Position) → option_and_then (λ x. option_map (range_between (flat_text w p) x) f) a ≡ option_and_then (λ x. option_map (range_between (flat_text v p) x) f) a
      go None f = refl
      go (Some a) None = refl
      go (Some a) (Some f) = ap Some (text_one (λ t. range_between t a f) (λ t. between t a f))

  password_read : IsReadAlike w v p
  password_read = record {
    shows = λ q. as_bullets w q alike.password ∙ ap (λ rs. bullets (length rs)) (text_one (λ t. character_ranges t q) (λ t. characters_cut t q)) ∙ sym (as_bullets v q secret_v);
    characters = λ q. text_one (λ t. character_ranges t q) (λ t. characters_cut t q);
    words = λ q. text_one (λ t. word_ranges t q) (λ t. words_cut t q);
    lines = λ k. text_one (λ t. range_of_line t k) (λ t. lines_found t k);
    numbers = text_one (λ t. range_with_len 0 (to_line_index t (document_end t) + 1)) (λ t. ap (λ n. range_with_len 0 (n + 1)) (last_line t));
    selections = selections;
    anchors = anchors;
    foci = foci;
    indexes = λ q. by_count w q alike.password ∙ ap (further 0) (text_one (λ t. count_before t q) (λ t. counted_before t q)) ∙ sym (by_count v q secret_v);
  }

  -- ---- another node, whose runs are none of the password's

  module _ (id : FullNodeId) (other : id ≢ p) (out : is_in_password w id ≡ false) where
    module _ (none : has_password_below w id ≡ false) where
      runs_apart : sent_runs w id ≡ sent_runs v id
      runs_apart = sents_one p w v formed alike id other out none

      texts_apart : flat_text w id ≡ flat_text v id
      unfolding flat_text needs_masking
      texts_apart i = map (λ r. shown_at r i) (runs_apart i)
        where
          shown_at : (r : SentRun) → shown_run w id (is_password w id) (needs_masking w id) r ≡ shown_run v id (is_password v id) (needs_masking v id) r
          shown_at r j = record {
            id = r.id;
            characters = map (shown_character (secrets j id && not (are_alike bytes_eq (flat_map sent_characters (runs_apart j))))) (sent_characters r);
            goes_back = is_some r.node.previous_on_line;
            goes_on = is_some r.node.next_on_line;
            has_newline = (face r).1;
            word_starts = if secrets j id then [] else r.node.word_starts;
            style = styles j r.id;
            bounds = r.node.bounds;
            move = moves j r.id;
            move_in_root = moves_within j id r.id;
            metrics = metrics_of (secrets j id) r.node;
            direction = directions j r.id;
          }

      supported_apart : supports_text_ranges w id ≡ supports_text_ranges v id
      supported_apart = supports_one p w v formed alike id other out none

      raw_apart : selection_of w id ≡ selection_of v id
      raw_apart i = if supported_apart i then raw_selections i id else None

      apart_read : IsReadAlike w v id
      apart_read = record {
        shows = λ q i. if secrets i id then bullets (length (character_ranges (texts_apart i) q)) else text_of (texts_apart i) q;
        characters = λ q i. character_ranges (texts_apart i) q;
        words = λ q i. word_ranges (texts_apart i) q;
        lines = λ k i. range_of_line (texts_apart i) k;
        numbers = λ i. range_with_len 0 (to_line_index (texts_apart i) (document_end (texts_apart i)) + 1);
        selections = λ i. option_and_then (λ a. option_map (range_between (texts_apart i) a) (option_and_then (λ s. nearest_named (texts_apart i) s.focus) (raw_apart i))) (option_and_then (λ s. nearest_named (texts_apart i) s.anchor) (raw_apart i));
        anchors = λ i. option_and_then (λ s. nearest_named (texts_apart i) s.anchor) (raw_apart i);
        foci = λ i. option_and_then (λ s. nearest_named (texts_apart i) s.focus) (raw_apart i);
        indexes = λ q i. if secrets i id then further 0 (count_before (texts_apart i) q) else to_global_utf16_index (texts_apart i) q;
      }

      defects_apart : text_defect w id ≡ text_defect v id
      unfolding text_defect
      defects_apart = (λ i. defect_of_runs w id (runs_apart i)) ∙ by_runs (sent_runs v id)
        where
          by_runs : (rs : List SentRun) → defect_of_runs w id rs ≡ defect_of_runs v id rs
          by_runs [] = refl
          by_runs (r ∷ rs) = λ i. if holders_one p w v formed alike i id then first_defect id.tree (secrets i id) (r ∷ rs) else Some Role

      told_apart : (if supports_text_ranges w id then read_text w id else no_text_line (text_defect w id)) ≡ (if supports_text_ranges v id then read_text v id else no_text_line (text_defect v id))
      told_apart i = if supported_apart i then read_same w v id apart_read i else no_text_line (defects_apart i)

    -- one whose runs make no text, since it has none or its role holds none
    module _ (holds : has_runs w id (sent_runs w id) ≡ false) where
      no_text_in_v : supports_text_ranges v id ≡ false
      no_text_in_v = textless p w v formed alike id other out holds

      same_cause : (ids : List FullNodeId) → (says (λ d. holds_text d.role) w id && nat_lt 0 (length (map (sent_run w) ids))) ≡ false → defect_of_runs w id (map (sent_run w) ids) ≡ defect_of_runs v id (map (sent_run v) ids)
      same_cause [] e = refl
      same_cause (r ∷ rs) e =
          let some : nat_lt 0 (length (map (sent_run w) (r ∷ rs))) ≡ true = lt-ltb 0 (length (map (sent_run w) (r ∷ rs))) (omega arith) in
          let roleless : says (λ d. holds_text d.role) w id ≡ false = first_false (says (λ d. holds_text d.role) w id) _ e some in
          ap (λ b. if b then first_defect id.tree (is_password w id) (map (sent_run w) (r ∷ rs)) else Some Role) roleless
          ∙ sym (ap (λ b. if b then first_defect id.tree (is_password v id) (map (sent_run v) (r ∷ rs)) else Some Role) ((λ i. sym (holders_one p w v formed alike) i id) ∙ roleless))

      defects_same : text_defect w id ≡ text_defect v id
      unfolding text_defect
      defects_same = same_cause (run_ids w id) holds ∙ (λ i. defect_of_runs v id (map (sent_run v) (runs_one p w v formed alike i id)))

      told_textless : (if supports_text_ranges w id then read_text w id else no_text_line (text_defect w id)) ≡ (if supports_text_ranges v id then read_text v id else no_text_line (text_defect v id))
      told_textless =
          ap (λ b. if b then read_text w id else no_text_line (text_defect w id)) (without_runs w id holds)
          ∙ ap no_text_line defects_same
          ∙ sym (ap (λ b. if b then read_text v id else no_text_line (text_defect v id)) no_text_in_v)

      supported_textless : supports_text_ranges w id ≡ supports_text_ranges v id
      supported_textless = without_runs w id holds ∙ sym no_text_in_v

-- ---- what is printed

abbrev unhidden : World → FullNodeId → List ℕ
unhidden w id = if supports_text_ranges w id then read_text w id else no_text_line (text_defect w id)

record AreAlikeAt (w v : World) (id : FullNodeId) : Type 0 where
  pub printed : unhidden w id ≡ unhidden v id
  pub supported : supports_text_ranges w id ≡ supports_text_ranges v id

module _ (p : FullNodeId) (w v : World) (formed : IsFormed w) (differ : DifferInTyping p w v) where
  abbrev typed : DifferInPassword p w v
  typed = differ.typed

  at_password : (b : Bool) → supports_text_ranges w p ≡ b → unhidden w p ≡ unhidden v p
  at_password true e =
      ap (λ b. if b then read_text w p else no_text_line (text_defect w p)) e ∙ read_same w v p (password_read p w v formed typed)
      ∙ sym (ap (λ b. if b then read_text v p else no_text_line (text_defect v p)) (sym typed.texts ∙ e))
  at_password false e =
      ap (λ b. if b then read_text w p else no_text_line (text_defect w p)) e ∙ ap no_text_line (differ.defects e)
      ∙ sym (ap (λ b. if b then read_text v p else no_text_line (text_defect v p)) (sym typed.texts ∙ e))

  module _ (id : FullNodeId) (seen : hides_text w id ≡ false) where
    outside : is_in_password w id ≡ false
    outside = (or_parts (is_in_password w id) (holds_password w id) seen).0

    by_runs : id ≢ p → (b : Bool) → has_runs w id (sent_runs w id) ≡ b → AreAlikeAt w v id
    by_runs other true e =
        let none : has_password_below w id ≡ false = and_false (has_runs w id (sent_runs w id)) (has_password_below w id) (or_parts (is_in_password w id) (holds_password w id) seen).1 e in
        record { printed = told_apart p w v formed typed id other outside none; supported = supported_apart p w v formed typed id other outside none }
    by_runs other false e = record { printed = told_textless p w v formed typed id other outside e; supported = supported_textless p w v formed typed id other outside e }

    by_id : (b : Bool) → is_same id p ≡ b → AreAlikeAt w v id
    by_id true same = subst (AreAlikeAt w v) (sym (same_from_test id p same)) (record { printed = at_password (supports_text_ranges w p) refl; supported = typed.texts })
    by_id false differs = by_runs (λ e. (let clash : true ≡ false = sym (test_self id) ∙ ap (is_same id) e ∙ differs in cc)) (has_runs w id (sent_runs w id)) refl

  hidden_one : (id : FullNodeId) → hides_text w id ≡ hides_text v id
  hidden_one id i = texts_one p w v formed typed i id

  told_at : (id : FullNodeId) (b : Bool) → hides_text w id ≡ b → (told_of w id ≡ told_of v id) × (shows_text w id ≡ shows_text v id)
  told_at id true e =
      let there : hides_text v id ≡ true = sym (hidden_one id) ∙ e in (
        ap (λ b. if b then codes "text hidden\n" else unhidden w id) e ∙ sym (ap (λ b. if b then codes "text hidden\n" else unhidden v id) there),
        ap (λ b. not b && supports_text_ranges w id) e ∙ sym (ap (λ b. not b && supports_text_ranges v id) there),
      )
  told_at id false e =
      let same : AreAlikeAt w v id = by_id id e (is_same id p) refl in
      ((λ i. if hidden_one id i then codes "text hidden\n" else same.printed i), (λ i. not (hidden_one id i) && same.supported i))

  names : node_named w ≡ node_named v
  names = one p w v formed typed node_named named_is

  printed_by : (o : Option FullNodeId) → option_map_or (told_of w) o (codes "no node\n") ≡ option_map_or (told_of v) o (codes "no node\n")
  printed_by None = refl
  printed_by (Some id) = (told_at id (hides_text w id) refl).0

  told_by : (o : Option FullNodeId) → option_map_or (shows_text w) o false ≡ option_map_or (shows_text v) o false
  told_by None = refl
  told_by (Some id) = (told_at id (hides_text w id) refl).1

pub typing_reads_the_same : TypingReadsTheSame
typing_reads_the_same p w v formed differ name = record {
  printed = ap (λ o. option_map_or (told_of w) o (codes "no node\n")) (λ i. names p w v formed differ i name) ∙ printed_by p w v formed differ (node_named v name);
  told = ap (λ o. option_map_or (shows_text w) o false) (λ i. names p w v formed differ i name) ∙ told_by p w v formed differ (node_named v name);
}
