-- What a page says of nodes doesn't depend on what is typed into a password.
use Rattle.std.proofs.Common.{◌≡◌, ℕ, Bool, true, false, List, ◌++◌, Option, None, codes, refl, sym, ◌∙◌}
use Rattle.std.specs.Prelude.{if◌then◌else◌}
use Rattle.std.specs.Option.{option_or}
use Rattle.model.specs.declared.FullNodeId.{FullNodeId}
use Rattle.model.specs.World.{World}
use Rattle.model.specs.TextRuns.{is_password}
use Rattle.model.specs.Values.{value_of}
use Rattle.hidden_texts.specs.Hidden.{hides_value}
use Rattle.hidden_texts.specs.Laws.{HidesAlike, ShowsAlike}
use Rattle.hidden_texts.specs.Shown.{password_value, shown_value}
use Rattle.hidden_texts.proofs.HiddenAlike.{typing_hides_the_same}
use Rattle.hidden_texts.proofs.ShownAlike.{typing_shows_the_same}
use Rattle.page_states.proofs.FieldsAlike.{fields_alike}
use Rattle.page_states.specs.Laws.{TextsMayBeShown, TypingSaysTheSame}
use Rattle.page_states.specs.Said.{hidden_label_word, hidden_value_word, node_value}
use Rattle.page_states.specs.Written.{word_text}

-- it doesn't matter which is asked first: whether it is a password, or whether it is hidden
by_cases : (secret hidden : Bool) (bullets value : Option (List ℕ)) →
    (if secret then (if hidden then None else (if secret then bullets else value)) else (if hidden then None else value)) ≡ (if hidden then None else (if secret then bullets else value))
by_cases true hidden bullets value = refl
by_cases false true bullets value = refl
by_cases false false bullets value = refl

as_shown : (w : World) (id : FullNodeId) → node_value w id ≡ shown_value w id
as_shown w id = by_cases (is_password w id) (hides_value w id) (password_value w id) (value_of w id)

pub texts_may_be_shown : TextsMayBeShown
texts_may_be_shown w id = record { label = refl; value = as_shown w id }

pub typing_says_the_same : TypingSaysTheSame
typing_says_the_same p w v formed alike id =
    let hides : HidesAlike w v id = typing_hides_the_same p w v formed alike id in
    let shows : ShowsAlike w v id = typing_shows_the_same p w v formed alike id in
    let value : node_value w id ≡ node_value v id = as_shown w id ∙ shows.value ∙ sym (as_shown v id) in
    record {
      row = λ i.
          (word_text (codes "q") (codes "l") (shows.label i) ++ word_text (codes "i") (codes "w") (hidden_label_word (hides.label i)))
          ++ (word_text (codes "q") (codes "v") (value i) ++ word_text (codes "i") (codes "w") (hidden_value_word (hides.value i)));
      caption = λ i. option_or (shows.label i) (value i);
      word = λ i. hidden_label_word (hides.label i);
      label = shows.label;
      value = value;
      field = λ f plain. fields_alike p w v formed alike f plain id;
    }
