-- What is told of nodes of two worlds that differ in what is typed into a password.
use Rattle.std.proofs.Common.{◌≡◌, ℕ, Bool, true, false, List, [], ◌∷◌, ◌++◌, codes, Some, inl, inr, refl, sym, ap, subst, ◌∙◌}
use Rattle.std.specs.Prelude.{option_map, option_and_then, if◌then◌else◌}
use Rattle.std.specs.List.{FoldsTo}
use Rattle.std.proofs.lemmas.Option.{same_Some}
use Rattle.schema.specs.NodeData.{NodeData}
use Rattle.model.specs.declared.FullNodeId.{FullNodeId}
use Rattle.model.specs.Forest.{place_of, IsFormed}
use Rattle.model.specs.Geometry.{bounding_box}
use Rattle.model.specs.Outline.{without_text}
use Rattle.model.specs.World.{World, data_of}
use Rattle.model.proofs.Alike.Bare as bare
use Rattle.model.proofs.Text.Outlines.{agree, place_same}
use Rattle.views.specs.Nodes.{world_at, id_at, data_at}
use Rattle.views.proofs.Climbing.{data_shown}
use Rattle.hidden_texts.specs.Hidden.{hides_label, is_in_password}
use Rattle.script_nodes.specs.FieldKinds.{all_fields, field_name}
use Rattle.script_nodes.specs.declared.field_kinds.Field.{Field}
use Rattle.page_states.specs.declared.found.View.{View}
use Rattle.page_states.specs.Differences.{box_change, change_text, element_of, field_shown, is_label, is_value, label_of_state, other_field, place_at, place_change, role_change, value_of_state, TellsDifferences, TellsField}
use Rattle.page_states.specs.Laws.{node_field, SaysAlike}
use Rattle.page_states.specs.Named.{link_begun, role_and_text, role_bold}
use Rattle.page_states.specs.Said.{caption_of, caption_shown, hidden_label_word, label_shown, node_label, node_value, row_texts, hidden_at, value_shown, TellsIfOther}
use Rattle.page_states.specs.ShownLaws.{MayDiffer}
use Rattle.page_states.specs.ToldLaws.{NamesAlike, TypingNamesTheSame, TypingTellsTheSame, ViewAlike}
use Rattle.page_states.specs.Written.{small_id, word_text}
use Rattle.page_states.specs.WrittenLaws.{Bytes, HaveSame}
use Rattle.page_states.proofs.SaidAlike.{typing_says_the_same}
use Rattle.page_states.proofs.TypedStates.{boxes_one, outlines_one}
use Rattle.page_states.proofs.WrittenAlike.{appended}

says_alike : (p : FullNodeId) (w v : World) → IsFormed w → MayDiffer p w v → (id : FullNodeId) → SaysAlike w v id
says_alike p w v formed (inr alike) id = typing_says_the_same p w v formed alike id
says_alike p w v formed (inl same) id = record {
  row = λ i. row_texts (hidden_at (same i) id) (same i) id;
  caption = λ i. caption_of (same i) id;
  word = λ i. hidden_label_word (hides_label (same i) id);
  label = λ i. node_label (same i) id;
  value = λ i. node_value (same i) id;
  field = λ f plain i. node_field (same i) id f;
}

module _ (p : FullNodeId) (a b : View) (e : ViewAlike p a b) where
  abbrev w : World
  w = world_at a.node

  abbrev v : World
  v = world_at b.node

  abbrev id : FullNodeId
  id = id_at a.node

  says : SaysAlike w v id
  says = says_alike p w v e.formed e.worlds id

  -- the facts of the one are those of the node, and so are those of the other
  data_is : data_of w id ≡ Some (data_at a.node)
  data_is = data_shown w a.node refl

  other_is : data_of v id ≡ Some (data_at b.node)
  other_is = ap (data_of v) e.id ∙ data_shown v b.node refl

  bare_same : without_text (data_at a.node) ≡ without_text (data_at b.node)
  bare_same =
      same_Some (without_text (data_at a.node)) (without_text (data_at b.node))
      (sym (ap (option_map without_text) data_is) ∙ (bare.of_outlines w v (outlines_one p w v e.worlds)).bare id ∙ ap (option_map without_text) other_is)

  roles_same : (data_at a.node).role ≡ (data_at b.node).role
  roles_same i = (bare_same i).role

  caption_same : caption_shown a.facts.hidden w id ≡ caption_shown b.facts.hidden v (id_at b.node)
  caption_same =
      (λ i. caption_shown (e.right i).hidden w id) ∙ says.caption ∙ (λ i. caption_of v (e.id i)) ∙ sym (λ i. caption_shown (e.other i).hidden v (id_at b.node))

  word_same : hidden_label_word a.facts.hidden.label ≡ hidden_label_word b.facts.hidden.label
  word_same =
      (λ i. hidden_label_word (e.right i).hidden.label) ∙ says.word ∙ (λ i. hidden_label_word (hides_label v (e.id i))) ∙ sym (λ i. hidden_label_word (e.other i).hidden.label)

  text_same : role_and_text a ≡ role_and_text b
  text_same i = role_bold (roles_same i) ++ word_text (codes "q") (codes "l") (caption_same i) ++ word_text (codes "i") (codes "w") (word_same i)

  names_alike : NamesAlike a b
  names_alike = record {
    name = λ i. text_same i ++ codes " " ++ small_id (e.id i);
    linked = λ state i. text_same i ++ codes " " ++ (link_begun state (e.id i) ++ small_id (e.id i) ++ codes "</a>");
  }

  label_same : label_of_state a ≡ label_of_state b
  label_same =
      (λ i. label_shown (e.right i).hidden.label w id) ∙ says.label ∙ (λ i. node_label v (e.id i)) ∙ sym (λ i. label_shown (e.other i).hidden.label v (id_at b.node))

  value_same : value_of_state a ≡ value_of_state b
  value_same =
      (λ i. value_shown (e.right i).hidden.value w id) ∙ says.value ∙ (λ i. node_value v (e.id i)) ∙ sym (λ i. value_shown (e.other i).hidden.value v (id_at b.node))

  others_same : (f : Field) → is_value f ≡ false → other_field a.facts.is_in_password (data_at a.node) f ≡ other_field b.facts.is_in_password (data_at b.node) f
  others_same f plain =
      (λ i. other_field (e.right i).is_in_password (data_at a.node) f)
      ∙ sym (ap (option_and_then (λ (d : NodeData). other_field (is_in_password w id) d f)) data_is)
      ∙ says.field f plain
      ∙ ap (option_and_then (λ (d : NodeData). other_field (is_in_password v id) d f)) other_is
      ∙ (λ i. other_field (is_in_password v (e.id i)) (data_at b.node) f)
      ∙ sym (λ i. other_field (e.other i).is_in_password (data_at b.node) f)

  field_same : (f : Field) → field_shown a f ≡ field_shown b f
  field_same f = by_kind (is_label f) (is_value f) refl
    where
      by_kind : (label value : Bool) → is_value f ≡ value →
          (if label then label_of_state a else if value then value_of_state a else other_field a.facts.is_in_password (data_at a.node) f)
          ≡ (if label then label_of_state b else if value then value_of_state b else other_field b.facts.is_in_password (data_at b.node) f)
      by_kind true value is = label_same
      by_kind false true is = value_same
      by_kind false false is = others_same f is

  places_same : place_at a.node ≡ place_at b.node
  places_same = agree (λ u. place_of u id) w v (λ u. sym (place_same u id)) (outlines_one p w v e.worlds) ∙ ap (place_of v) e.id

  rects_same : a.facts.rect ≡ b.facts.rect
  rects_same = (λ i. (e.right i).rect) ∙ (λ i. boxes_one p w v e.worlds i id) ∙ (λ i. bounding_box v (e.id i)) ∙ sym (λ i. (e.other i).rect)

pub typing_names_the_same : TypingNamesTheSame
typing_names_the_same p a b e = names_alike p a b e

-- ---- differences

if_other : {A : Type 0} (old new former later : A) → old ≡ former → new ≡ later → (told heard : List ℕ) → told ≡ heard → (a b c d : Bytes) → HaveSame a b →
    TellsIfOther old new told a c → TellsIfOther former later heard b d → HaveSame c d
if_other old new former later was is told heard texts a b c d same (inl h) (inl g) = appended a b c d [] [] refl same h.1 g.1
if_other old new former later was is told heard texts a b c d same (inl h) (inr g) = absurd (g.0 (sym was ∙ h.0 ∙ is))
if_other old new former later was is told heard texts a b c d same (inr h) (inl g) = absurd (h.0 (was ∙ g.0 ∙ sym is))
if_other old new former later was is told heard texts a b c d same (inr h) (inr g) = appended a b c d told heard texts same h.1 g.1

module _ (p : FullNodeId) (old new former later : View) (was : ViewAlike p old former) (is : ViewAlike p new later) where
  one_told : (f : Field) (a b c d : Bytes) → HaveSame a b → TellsField old new a f c → TellsField former later b f d → HaveSame c d
  one_told f a b c d same h g =
      let o = field_same p old former was f in
      let n = field_same p new later is f in
      if_other (field_shown old f) (field_shown new f) (field_shown former f) (field_shown later f) o n
      (change_text (field_name f) (element_of f) (field_shown old f) (field_shown new f)) (change_text (field_name f) (element_of f) (field_shown former f) (field_shown later f))
      (λ i. change_text (field_name f) (element_of f) (o i) (n i)) a b c d same h g

  fields_told : (fields : List Field) (a b c d : Bytes) → HaveSame a b → FoldsTo (TellsField old new) a fields c → FoldsTo (TellsField former later) b fields d → HaveSame c d
  fields_told [] a b c d same h g = subst (λ x. HaveSame x d) h (subst (HaveSame a) g same)
  fields_told (f ∷ fs) a b c d same h g = fields_told fs h.0 g.0 c d (one_told f a b h.0 g.0 same h.1 g.1) h.2 g.2

  differences_told : (a b c d : Bytes) → HaveSame a b → TellsDifferences old new a c → TellsDifferences former later b d → HaveSame c d
  differences_told a b c d same h g =
      let role_was = roles_same p old former was in
      let role_is = roles_same p new later is in
      let role = if_other (data_at old.node).role (data_at new.node).role (data_at former.node).role (data_at later.node).role role_was role_is
      (role_change (data_at old.node).role (data_at new.node).role) (role_change (data_at former.node).role (data_at later.node).role) (λ i. role_change (role_was i) (role_is i))
      a b h.of_role g.of_role same h.role g.role in
      let place_was = places_same p old former was in
      let place_is = places_same p new later is in
      let place = if_other (place_at old.node) (place_at new.node) (place_at former.node) (place_at later.node) place_was place_is
      (place_change (place_at old.node) (place_at new.node)) (place_change (place_at former.node) (place_at later.node)) (λ i. place_change (place_was i) (place_is i))
      h.of_role g.of_role h.of_place g.of_place role h.place g.place in
      let fields = fields_told all_fields h.of_place g.of_place h.of_fields g.of_fields place h.fields g.fields in
      let box_was = rects_same p old former was in
      let box_is = rects_same p new later is in
      if_other old.facts.rect new.facts.rect former.facts.rect later.facts.rect box_was box_is (box_change old.facts.rect new.facts.rect) (box_change former.facts.rect later.facts.rect)
      (λ i. box_change (box_was i) (box_is i)) h.of_fields g.of_fields c d fields h.box g.box

pub typing_tells_the_same : TypingTellsTheSame
typing_tells_the_same p old new former later was is before after heard told same h g = differences_told p old new former later was is before heard after told same h g
