-- In two worlds that differ in what is typed into a password alone, the same is said at the end of a step.
use Rattle.std.proofs.Common.{◌≡◌, ℕ, true, false, not, ◌&&◌, Option, Some, None, is_none, ap, sym, subst, ◌∙◌}
use Rattle.std.specs.String.{string_bytes}
use Rattle.std.proofs.lemmas.Bool.{and_parts}
use Rattle.schema.specs.NodeData.{NodeData}
use Rattle.model.specs.declared.FullNodeId.{FullNodeId}
use Rattle.model.specs.RoleClasses.{is_text_input}
use Rattle.model.specs.World.{World}
use Rattle.hidden_texts.specs.Hidden.{hides_text}
use Rattle.phrases.specs.Voices.{Speech, all_said}
use Rattle.speaking.specs.declared.edits.FocusedText.{FocusedText}
use Rattle.speaking.specs.declared.news.News.{News}
use Rattle.speaking.specs.Edits.{SaysLine, SaysText, IsReadOf, SaysMoves, held_of, SaysTextOf, SaysEdited, SaysOf, IsEdited, SaysFocused, SaysEnd}
use Rattle.speaking.specs.Laws.{AreAlike, SettlesAlike}
use Rattle.speaking.specs.NodeTexts.{is_edited}
use Rattle.speaking.proofs.Alike.{edited_is}
use Rattle.speaking.proofs.LinesAlike.{secrets_one, many_is, line_is, edited_text_is, caret_is, caret_place_is, within_is, selected_is}
use Rattle.speaking.proofs.Plain.{not_true}
use Rattle.speaking.proofs.RegionsAlike.{news_one}
use Rattle.speaking.proofs.Same.{there, back}

-- ---- a node whose text isn't hidden

module _ (p : FullNodeId) (w v : World) (alike : AreAlike p w v) (id : FullNodeId) (open' : hides_text w id ≡ false) where
  says_line : (k : Option ℕ) (x y : Speech) → SaysLine w id k x y → SaysLine v id k x y
  says_line None x y h = h
  says_line (Some k) x y h = subst (λ o. SaysText o x y) (line_is p w v alike id open' k) h

  is_read : (t : FocusedText) → IsReadOf w id t → IsReadOf v id t
  is_read t h = record {
    node = h.node;
    kind = h.kind ∙ secrets_one p w v alike id open';
    text = h.text ∙ edited_text_is p w v alike id open';
    line = h.line ∙ caret_is p w v alike id open';
    caret = h.caret ∙ caret_place_is p w v alike id open';
    selected = h.selected ∙ selected_is p w v alike id open';
  }

  says_moves : (before t : FocusedText) (x y : Speech) → IsReadOf w id t → SaysMoves w id before t x y → SaysMoves v id before t x y
  says_moves before t x y read h = record {
    between = h.between;
    caret = record {
      moved = λ far. says_line t.line x h.between (h.caret.moved far);
      stayed = λ e. h.caret.stayed e ∙ within_is p w v alike id open' (string_bytes t.selected) before.caret t.caret x read.caret;
    };
    selection = h.selection;
  }

  says_text_of : (held : Option FocusedText) (t : FocusedText) (x y : Speech) → IsReadOf w id t →
      SaysTextOf w id held t x y → SaysTextOf v id held t x y
  says_text_of None t x y read h =
      let many = many_is p w v alike id open' in
      (λ e. says_line t.line x y (h.0 (many ∙ e)), λ e. h.1 (many ∙ e))
  says_text_of (Some before) t x y read h = record {
    typed = h.typed;
    same = λ e. says_moves before t x y read (h.same e);
  }

  says_edited : (held : Option FocusedText) (t : FocusedText) (x y : Speech) → SaysEdited w id held t x y → SaysEdited v id held t x y
  says_edited held t x y h = (is_read t h.0, says_text_of (held_of id t.is_password held) t x y h.0 h.1)

-- ---- the focused text

module _ (p : FullNodeId) (w v : World) (alike : AreAlike p w v) where
  edited_node : (focus node : Option FullNodeId) → IsEdited w focus node → IsEdited v focus node
  edited_node focus None h = λ id e at has.
      let d = back p w v alike id e has in
      sym (edited_is p w v alike id d.0 e d.2) ∙ h id d.0 at d.1
  edited_node focus (Some id) h =
      let e = there p w v alike id h.1.0 h.1.1 in
      (h.0, (e.0, e.1, sym (edited_is p w v alike id h.1.0 e.0 (sym e.2)) ∙ h.1.2))

  is_shown : (id : FullNodeId) (d : NodeData) → is_edited w id d ≡ true → hides_text w id ≡ false
  is_shown id d e =
      let first = and_parts (is_text_input d.role) (is_none d.numeric_value && not (hides_text w id)) e in
      not_true (hides_text w id) (and_parts (is_none d.numeric_value) (not (hides_text w id)) first.1).1

  says_of : (focus node : Option FullNodeId) (held now : Option FocusedText) (x y : Speech) → IsEdited w focus node → SaysOf w node held now x y → SaysOf v node held now x y
  says_of focus None held now x y edited h = h
  says_of focus (Some id) held None x y edited h = h
  says_of focus (Some id) held (Some t) x y edited h = (says_edited p w v alike id (is_shown id edited.1.0 edited.1.2) held t x y h.0, h.1)

  says_focused : (focus : Option FullNodeId) (held now : Option FocusedText) (x y : Speech) → SaysFocused w focus held now x y → SaysFocused v focus held now x y
  says_focused focus held now x y h =
      record { node = h.node; edited = edited_node focus h.node h.edited; says = says_of focus h.node held now x y h.edited h.says }

  says_end : (focus : Option FullNodeId) (n : News) (held now : Option FocusedText) (x y : Speech) → SaysEnd w focus n held now x y → SaysEnd v focus n held now x y
  says_end focus n held now x y h = record {
    between = h.between;
    text = says_focused focus held now x h.between h.text;
    waited = h.waited ∙ ap all_said (news_one p w v alike n h.between);
  }

pub settles_alike : SettlesAlike
settles_alike p w v focus s t alike h = record { silent = h.silent; says = λ e. let k = h.says e in (says_end p w v alike focus s.news s.text t.text s.voice t.voice k.0, k.1); kept = h.kept }
