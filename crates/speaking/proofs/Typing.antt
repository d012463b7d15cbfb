-- What is typed into a password is no change that is said.
use Rattle.std.proofs.Common.{◌≡◌, Bool, true, false, ◌||◌, bytes_eq, codes, ℕ, List, length, ◌==◌, Option, Some, None, refl, sym, ap, subst, ◌∙◌, if◌then◌else◌}
use Rattle.std.proofs.lemmas.Option.{same_Some}
use Rattle.std.proofs.lemmas.Slice.Eq.{bytes_eq-Decides}
use Rattle.schema.specs.NodeData.{NodeData}
use Rattle.schema.specs.declared.values.Toggled.{Toggled}
use Rattle.schema.specs.declared.values.Toggled.TheVariants.{False, True, Mixed}
use Rattle.model.specs.declared.FullNodeId.{FullNodeId}
use Rattle.model.specs.Events.{seen_in}
use Rattle.model.specs.Outline.{without_text}
use Rattle.model.specs.World.{World, HasData}
use Rattle.hidden_texts.specs.Shown.{shown_label}
use Rattle.hidden_texts.proofs.ShownAlike.{label_shown}
use Rattle.phrases.specs.declared.states.State.{State}
use Rattle.phrases.specs.News.{news}
use Rattle.phrases.specs.Sayings.{label_line, value_line, description_line, state_line}
use Rattle.phrases.specs.States.{new_word, same_flag, same_toggle, flag_word, toggled_word, expanded_word, selected_word}
use Rattle.phrases.specs.Voices.{Speech}
use Rattle.speaking.specs.Changes.{label_said, value_change, description_change, toggles_said, flags_said, change_said}
use Rattle.speaking.specs.Said.{said_if}
use Rattle.speaking.specs.Laws.{AreAlike, TypingSaysNothing, TypingIsNoChange}
use Rattle.speaking.specs.declared.news.News.{News}
use Rattle.speaking.specs.Above.{above_of, region_of}
use Rattle.speaking.specs.LiveTexts.{told_text}
use Rattle.speaking.specs.News.{Notes}
use Rattle.speaking.specs.NodeTexts.{value_said, description_said, state_said, is_edited}
use Rattle.speaking.proofs.Same.{there}
use Rattle.speaking.proofs.Alike.{value_is, description_is, told_text_is}

-- ---- what is the same is no news

same_bytes : (text : List ℕ) → bytes_eq text text ≡ true
same_bytes text = (bytes_eq-Decides text text).1 refl

no_news : (text : Option (List ℕ)) → news text text ≡ None
no_news None = refl
no_news (Some text) = ap (λ b. if (length text == 0) || b then None else Some text) (same_bytes text) ∙ always (length text == 0)
  where
    always : (b : Bool) → (if b || true then None else Some text) ≡ None
    always true = refl
    always false = refl

no_flag : (word : Bool → List ℕ) (b : Option Bool) → new_word same_flag word b b ≡ None
no_flag word None = refl
no_flag word (Some true) = refl
no_flag word (Some false) = refl

no_toggle : (word : Toggled → List ℕ) (b : Option Toggled) → new_word same_toggle word b b ≡ None
no_toggle word None = refl
no_toggle word (Some False) = refl
no_toggle word (Some True) = refl
no_toggle word (Some Mixed) = refl

no_word : (on off : List ℕ) (b : Bool) → flag_word on off b b ≡ None
no_word on off true = refl
no_word on off false = refl

no_toggles : (s : State) (v : Speech) → toggles_said s s v ≡ v
no_toggles s v =
    ap (λ o. said_if state_line o (said_if state_line (new_word same_flag expanded_word s.expanded s.expanded) (said_if state_line (new_word same_toggle (toggled_word s.toggling) s.toggled s.toggled) v))) (no_flag selected_word s.selected)
    ∙ ap (λ o. said_if state_line o (said_if state_line (new_word same_toggle (toggled_word s.toggling) s.toggled s.toggled) v)) (no_flag expanded_word s.expanded)
    ∙ ap (λ o. said_if state_line o v) (no_toggle (toggled_word s.toggling) s.toggled)

no_flags : (s : State) (v : Speech) → flags_said s s v ≡ v
no_flags s v =
    let editable : Option (List ℕ) = flag_word (codes "read-only") (codes "editable") s.is_read_only s.is_read_only in
    let enabled : Option (List ℕ) = flag_word (codes "disabled") (codes "enabled") s.is_disabled s.is_disabled in
    ap (λ o. said_if state_line o (said_if state_line editable (said_if state_line enabled v))) (no_word (codes "required") (codes "not required") s.is_required)
    ∙ ap (λ o. said_if state_line o (said_if state_line enabled v)) (no_word (codes "read-only") (codes "editable") s.is_read_only)
    ∙ ap (λ o. said_if state_line o v) (no_word (codes "disabled") (codes "enabled") s.is_disabled)

not_noted : (id : FullNodeId) (region : Option FullNodeId) (m n : News) → Notes id region None m n → n ≡ m
not_noted id None m n h = h
not_noted id (Some region) m n h = h

-- ---- of a node in two worlds

module _ (p : FullNodeId) (o w : World) (id : FullNodeId) (alike : AreAlike p o w) where
  same_label : (v : Speech) → label_said (seen_in o id) (seen_in w id) v ≡ v
  same_label v = ap (λ t. said_if label_line (news t (shown_label w id)) v) (label_shown p o w alike.formed alike.typed id) ∙ ap (λ t. said_if label_line t v) (no_news (shown_label w id))

  -- data of the node in both are the same but for the text
  alike_data : (d e : NodeData) → HasData o id d → HasData w id e → without_text d ≡ without_text e
  alike_data d e h k =
      let found = there p o w alike id d h in
      sym found.2 ∙ ap without_text (same_Some found.0 e (sym found.1 ∙ k))

  same_value : (d e : NodeData) → without_text d ≡ without_text e → (v : Speech) →
      (if is_edited w id e then v else said_if value_line (news (value_said o id d) (value_said w id e)) v) ≡ v
  same_value d e s v =
      ap (λ t. if is_edited w id e then v else said_if value_line t v) (ap (λ x. news x (value_said w id e)) (value_is p o w alike id d e s) ∙ no_news (value_said w id e)) ∙ either (is_edited w id e)
    where
      either : (b : Bool) → (if b then v else v) ≡ v
      either true = refl
      either false = refl

  same_description : (d e : NodeData) → without_text d ≡ without_text e → (v : Speech) → description_change (seen_in o id) d (seen_in w id) e v ≡ v
  same_description d e s v =
      ap (λ t. said_if description_line t v) (ap (λ x. news x (description_said w id e)) (description_is p o w alike id d e s) ∙ no_news (description_said w id e))

  nothing_changed : (d e : NodeData) → without_text d ≡ without_text e → (v : Speech) → change_said (seen_in o id) d (seen_in w id) e v ≡ v
  nothing_changed d e s v =
      let named : Speech = label_said (seen_in o id) (seen_in w id) v in
      let valued : Speech = value_change (seen_in o id) d (seen_in w id) e named in
      let described : Speech = description_change (seen_in o id) d (seen_in w id) e valued in
      let toggled : Speech = toggles_said (state_said e) (state_said e) described in
      (λ i. flags_said (state_said (s i)) (state_said e) (toggles_said (state_said (s i)) (state_said e) described))
      ∙ no_flags (state_said e) toggled ∙ no_toggles (state_said e) described ∙ same_description d e s valued ∙ same_value d e s named ∙ same_label v

  typing_says_nothing : (v u : Speech) (m n : News) → TypingSaysNothing p o w id v u m n
  typing_says_nothing v u m n = record {
    change = λ h. h.said ∙ nothing_changed h.before h.after (alike_data h.before h.after h.had h.has) v;
    region = λ h.
        let texts = told_text_is p o w alike id h.before h.after h.had h.has (alike_data h.before h.after h.had h.has) in
        not_noted id (region_of w id) m n
        (subst (λ t. Notes id (region_of w id) t m n) (ap (λ x. news x (told_text (above_of w id) h.after)) texts ∙ no_news (told_text (above_of w id) h.after)) h.notes);
  }

pub typing_is_no_change : TypingIsNoChange
typing_is_no_change p o w id v u m n alike = typing_says_nothing p o w id alike v u m n
