-- Lines without fields, as they are written, mean what they were written from.
use Rattle.std.proofs.Common.{◌≡◌, ◌≢◌, ℕ, List, [], ◌∷◌, ◌++◌, codes, bytes_eq, Bool, true, false, true≢false, Option, Some, None, option_map, arith, ap, refl, sym, ◌∙◌}
use Rattle.std.proofs.lemmas.Bool.{cond-false}
use Rattle.std.proofs.lemmas.Slice.Eq.{bytes_eq-Decides}
use Rattle.model.specs.declared.queries.At.{At}
use Rattle.model.specs.declared.queries.Move.{Move}
use Rattle.model.specs.declared.queries.NamedFilter.{NamedFilter}
use Rattle.model.specs.declared.queries.Query.{Query}
use Rattle.model.specs.declared.queries.Query.TheVariants as query
use Rattle.schema.specs.declared.NodeId.{NodeId}
use Rattle.schema.specs.declared.TreeId.{TreeId}
use Rattle.schema.specs.declared.geometry.Point.{Point}
use Rattle.script_lines.specs.LineMeaning.{host_means, is_blank, plain_line_means, plain_means}
use Rattle.script_lines.specs.LineReading.{IsLineWord, host_word}
use Rattle.script_lines.specs.Lines.{host_text}
use Rattle.script_lines.specs.QuestionMeaning.{hit_means, last_name, last_name_and_filter, last_place, last_places, moved_means}
use Rattle.script_lines.specs.Questions.{IsQuery, name_and_filter, question_args, question_text, question_word}
use Rattle.script_lines.specs.declared.lines.Line.{Line}
use Rattle.script_lines.specs.declared.lines.Line.TheVariants as says
use Rattle.script_lines.proofs.LineWords.{end_is_line_word, host_is_line_word, host_line_parts, print_is_line_word, question_is_line_word}
use Rattle.script_lines.proofs.WrittenWords.{at_comes, filter_comes, move_comes, name_comes, point_comes}
use Rattle.script_words.proofs.WrittenValues.{not_eq, part_of, word_comes}
use Rattle.script_words.specs.Arguments.{next_at, next_filter, next_point}
use Rattle.script_words.specs.Cuts.{part_before, rest_behind}
use Rattle.script_words.specs.Meaning.{next_as, only, onward}
use Rattle.script_words.specs.NamedIn.{first_named}
use Rattle.script_words.specs.Names.{filter_name, move_name}
use Rattle.script_words.specs.Parts.{at_text, name_text, point_text}
use Rattle.script_words.specs.Reading.{IsCount, IsName, IsNumber, after}
use Rattle.script_words.specs.WordValues.{move_of}
use Rattle.script_words.proofs.Cuts.{begins_last, begins_two}

-- ---- a line by its first word

not_blank : (word : List ℕ) (args : Option (List ℕ)) → IsLineWord word → is_blank (word ++ after args) ≡ false
not_blank [] args h = absurd (omega (arith, h.0.1))
not_blank (byte ∷ word) args h = not_eq byte 35 h.1

-- the line that is its first word and what stands behind it
pub line_by : (word : List ℕ) (args : Option (List ℕ)) → IsLineWord word → plain_line_means (word ++ after args) ≡ plain_means word args
line_by word args h =
    cond-false _ _ _ (not_blank word args h)
    ∙ ap (λ (o : Option (List ℕ × Option (List ℕ))). onward o (λ word. plain_means word.0 word.1)) (word_comes word args h.0)

pub other_word : (word other : List ℕ) (args : Option (List ℕ)) → IsLineWord word → bytes_eq word other ≡ false → part_before 32 (word ++ after args) ≢ other
other_word word other args h f e = true≢false (sym ((bytes_eq-Decides word other).1 (sym (part_of 32 word args h.0.0) ∙ e)) ∙ f)

-- ---- the arguments of a query

-- of two texts with a space between them the first comes, and then the second is the last
abbrev AndLast : List ℕ → List ℕ → Type 0
AndLast first last = Some (first ++ codes " " ++ last) ≡ Some (first ++ after (Some (last ++ after None)))

and_last : (first last : List ℕ) → AndLast first last
and_last first last = begins_two (Some (first ++ codes " " ++ last)) first last None (begins_last (Some (first ++ codes " " ++ last)) (first ++ codes " " ++ last) refl)

-- and of three
and_two : (first second last : List ℕ) → Some (first ++ codes " " ++ second ++ codes " " ++ last) ≡ Some (first ++ after (Some (second ++ after (Some (last ++ after None)))))
and_two first second last =
    begins_two (Some (first ++ codes " " ++ second ++ codes " " ++ last)) first second (Some (last ++ after None)) (and_last (first ++ codes " " ++ second) last)

name_written : (name : NodeId × TreeId) → IsName name → last_name (Some (name_text name)) ≡ Some name
name_written name h =
    ap last_name (begins_last (Some (name_text name)) (name_text name) refl)
    ∙ ap (λ (o : Option ((NodeId × TreeId) × Option (List ℕ))). onward o (λ name. only name.0 name.1)) (name_comes name None h)

-- behind a name
abbrev filter_behind : (NodeId × TreeId) × Option (List ℕ) → Option ((NodeId × TreeId) × NamedFilter)
filter_behind name = onward (next_filter name.1) (λ filter. only (name.0, filter.0) filter.1)

abbrev and_filter : NodeId × TreeId → NamedFilter × Option (List ℕ) → Option ((NodeId × TreeId) × NamedFilter)
and_filter name filter = only (name, filter.0) filter.1

name_and_filter_written : (name : NodeId × TreeId) (filter : NamedFilter) → IsName name → last_name_and_filter (Some (name_and_filter name filter)) ≡ Some (name, filter)
name_and_filter_written name filter h =
    ap last_name_and_filter (and_last (name_text name) (filter_name filter))
    ∙ ap (λ (o : Option ((NodeId × TreeId) × Option (List ℕ))). onward o filter_behind) (name_comes name (Some (filter_name filter ++ after None)) h)
    ∙ ap (λ (o : Option (NamedFilter × Option (List ℕ))). onward o (and_filter name)) (filter_comes filter None)

abbrev place_behind : (NodeId × TreeId) × Option (List ℕ) → Option ((NodeId × TreeId) × At)
place_behind name = onward (next_at name.1) (λ at. only (name.0, at.0) at.1)

abbrev and_place : NodeId × TreeId → At × Option (List ℕ) → Option ((NodeId × TreeId) × At)
and_place name at = only (name, at.0) at.1

place_written : (name : NodeId × TreeId) (at : At) → IsName name → IsCount at.index → last_place (Some (name_text name ++ codes " " ++ at_text at)) ≡ Some (name, at)
place_written name at h ha =
    ap last_place (and_last (name_text name) (at_text at))
    ∙ ap (λ (o : Option ((NodeId × TreeId) × Option (List ℕ))). onward o place_behind) (name_comes name (Some (at_text at ++ after None)) h)
    ∙ ap (λ (o : Option (At × Option (List ℕ))). onward o (and_place name)) (at_comes at None ha)

abbrev to_behind : NodeId × TreeId → At × Option (List ℕ) → Option ((NodeId × TreeId) × At × At)
to_behind name from = onward (next_at from.1) (λ to. only (name, from.0, to.0) to.1)

abbrev places_behind : (NodeId × TreeId) × Option (List ℕ) → Option ((NodeId × TreeId) × At × At)
places_behind name = onward (next_at name.1) (to_behind name.0)

abbrev both_places : NodeId × TreeId → At → At × Option (List ℕ) → Option ((NodeId × TreeId) × At × At)
both_places name from to = only (name, from, to.0) to.1

places_written : (name : NodeId × TreeId) (from to : At) → IsName name → IsCount from.index → IsCount to.index
    → last_places (Some (name_text name ++ codes " " ++ at_text from ++ codes " " ++ at_text to)) ≡ Some (name, from, to)
places_written name from to h hf ht =
    ap last_places (and_two (name_text name) (at_text from) (at_text to))
    ∙ ap (λ (o : Option ((NodeId × TreeId) × Option (List ℕ))). onward o places_behind) (name_comes name (Some (at_text from ++ after (Some (at_text to ++ after None)))) h)
    ∙ ap (λ (o : Option (At × Option (List ℕ))). onward o (to_behind name)) (at_comes from (Some (at_text to ++ after None)) hf)
    ∙ ap (λ (o : Option (At × Option (List ℕ))). onward o (both_places name from)) (at_comes to None ht)

abbrev hit_filter : NodeId × TreeId → Point × Option (List ℕ) → Option Query
hit_filter name point = onward (next_filter point.1) (λ filter. only (query.Hit name point.0 filter.0) filter.1)

abbrev hit_behind : (NodeId × TreeId) × Option (List ℕ) → Option Query
hit_behind name = onward (next_point name.1) (hit_filter name.0)

hit_written : (name : NodeId × TreeId) (point : Point) (filter : NamedFilter) → IsName name → IsNumber point.x → IsNumber point.y
    → hit_means (Some (name_text name ++ codes " " ++ point_text point ++ codes " " ++ filter_name filter)) ≡ Some (query.Hit name point filter)
hit_written name point filter h hx hy =
    ap hit_means (and_two (name_text name) (point_text point) (filter_name filter))
    ∙ ap (λ (o : Option ((NodeId × TreeId) × Option (List ℕ))). onward o hit_behind) (name_comes name (Some (point_text point ++ after (Some (filter_name filter ++ after None)))) h)
    ∙ ap (λ (o : Option (Point × Option (List ℕ))). onward o (hit_filter name)) (point_comes point (Some (filter_name filter ++ after None)) hx hy)
    ∙ ap (λ (o : Option (NamedFilter × Option (List ℕ))). onward o (λ f. only (query.Hit name point f.0) f.1)) (filter_comes filter None)

abbrev move_behind : NodeId × TreeId → At × Option (List ℕ) → Option Query
move_behind name at = onward (next_as move_of at.1) (λ movement. only (query.Move name at.0 movement.0) movement.1)

abbrev moved_behind : (NodeId × TreeId) × Option (List ℕ) → Option Query
moved_behind name = onward (next_at name.1) (move_behind name.0)

moved_written : (name : NodeId × TreeId) (at : At) (movement : Move) → IsName name → IsCount at.index
    → moved_means (Some (name_text name ++ codes " " ++ at_text at ++ codes " " ++ move_name movement)) ≡ Some (query.Move name at movement)
moved_written name at movement h ha =
    ap moved_means (and_two (name_text name) (at_text at) (move_name movement))
    ∙ ap (λ (o : Option ((NodeId × TreeId) × Option (List ℕ))). onward o moved_behind) (name_comes name (Some (at_text at ++ after (Some (move_name movement ++ after None)))) h)
    ∙ ap (λ (o : Option (At × Option (List ℕ))). onward o (move_behind name)) (at_comes at (Some (move_name movement ++ after None)) ha)
    ∙ ap (λ (o : Option (Move × Option (List ℕ))). onward o (λ m. only (query.Move name at m.0) m.1)) (move_comes movement None)

-- ---- the lines

-- a query and no more
abbrev asks : Option Query → Option Line
asks o = option_map says.Query o

abbrev by_filter : (NodeId × TreeId → NamedFilter → Query) → Option ((NodeId × TreeId) × NamedFilter) → Option Line
by_filter query o = asks (option_map (λ words. query words.0 words.1) o)

abbrev by_place : Option ((NodeId × TreeId) × At) → Option Line
by_place o = asks (option_map (λ place. query.Indexes place.0 place.1) o)

abbrev by_places : Option ((NodeId × TreeId) × At × At) → Option Line
by_places o = asks (option_map (λ places. query.RangeText places.0 places.1 places.2) o)

question_by_word : (q : Query) → IsQuery q → plain_means (question_word q) (question_args q) ≡ Some (says.Query q)
question_by_word (query.Children name) h = ap (λ (o : Option (NodeId × TreeId)). asks (option_map query.Children o)) (name_written name h)
question_by_word (query.FollowingSiblings name) h = ap (λ (o : Option (NodeId × TreeId)). asks (option_map query.FollowingSiblings o)) (name_written name h)
question_by_word (query.PrecedingSiblings name) h = ap (λ (o : Option (NodeId × TreeId)). asks (option_map query.PrecedingSiblings o)) (name_written name h)
question_by_word (query.FilteredChildren name filter) h = ap (by_filter query.FilteredChildren) (name_and_filter_written name filter h)
question_by_word (query.FollowingFiltered name filter) h = ap (by_filter query.FollowingFiltered) (name_and_filter_written name filter h)
question_by_word (query.PrecedingFiltered name filter) h = ap (by_filter query.PrecedingFiltered) (name_and_filter_written name filter h)
question_by_word (query.Label name) h = ap (λ (o : Option (NodeId × TreeId)). asks (option_map query.Label o)) (name_written name h)
question_by_word (query.Value name) h = ap (λ (o : Option (NodeId × TreeId)). asks (option_map query.Value o)) (name_written name h)
question_by_word (query.Set name filter) h = ap (by_filter query.Set) (name_and_filter_written name filter h)
question_by_word (query.Text name) h = ap (λ (o : Option (NodeId × TreeId)). asks (option_map query.Text o)) (name_written name h)
question_by_word (query.Hit name point filter) h = ap asks (hit_written name point filter h.0 h.1 h.2)
question_by_word query.Focus h = refl
question_by_word (query.Move name at movement) h = ap asks (moved_written name at movement h.0 h.1)
question_by_word (query.Indexes name at) h = ap by_place (place_written name at h.0 h.1)
question_by_word (query.RangeText name from to) h = ap by_places (places_written name from to h.0 h.1 h.2)

pub question_written : (q : Query) → IsQuery q → plain_line_means (question_text q) ≡ Some (says.Query q)
question_written q h = line_by (question_word q) (question_args q) (question_is_line_word q) ∙ question_by_word q h

pub end_written : plain_line_means (codes "end") ≡ Some says.End
end_written = line_by (codes "end") None end_is_line_word

pub print_written : plain_line_means (codes "print") ≡ Some says.Print
print_written = line_by (codes "print") None print_is_line_word

host_by_word : (is_focused : Bool) → host_means (Some (host_word is_focused ++ after None)) ≡ Some (says.HostFocus is_focused)
unfolding first_named part_before rest_behind
host_by_word true = refl
host_by_word false = refl

pub host_written : (is_focused : Bool) → plain_line_means (host_text is_focused) ≡ Some (says.HostFocus is_focused)
host_written is_focused =
    ap plain_line_means (host_line_parts is_focused) ∙ line_by (codes "host") (Some (host_word is_focused)) host_is_line_word
    ∙ ap host_means (begins_last (Some (host_word is_focused)) (host_word is_focused) refl) ∙ host_by_word is_focused

-- ---- no such line is that of a node or begins an update

question_other : (q : Query) → (bytes_eq (question_word q) (codes "update") ≡ false) × (bytes_eq (question_word q) (codes "node") ≡ false)
question_other (query.Children name) = (refl, refl)
question_other (query.FollowingSiblings name) = (refl, refl)
question_other (query.PrecedingSiblings name) = (refl, refl)
question_other (query.FilteredChildren name filter) = (refl, refl)
question_other (query.FollowingFiltered name filter) = (refl, refl)
question_other (query.PrecedingFiltered name filter) = (refl, refl)
question_other (query.Label name) = (refl, refl)
question_other (query.Value name) = (refl, refl)
question_other (query.Set name filter) = (refl, refl)
question_other (query.Text name) = (refl, refl)
question_other (query.Hit name point filter) = (refl, refl)
question_other query.Focus = (refl, refl)
question_other (query.Move name at movement) = (refl, refl)
question_other (query.Indexes name at) = (refl, refl)
question_other (query.RangeText name from to) = (refl, refl)

abbrev pub IsPlain : List ℕ → Type 0
IsPlain text = (part_before 32 text ≢ codes "update") × (part_before 32 text ≢ codes "node")

pub question_plain : (q : Query) → IsPlain (question_text q)
question_plain q =
    let k = question_other q in
    (other_word (question_word q) (codes "update") (question_args q) (question_is_line_word q) k.0, other_word (question_word q) (codes "node") (question_args q) (question_is_line_word q) k.1)

pub end_plain : IsPlain (codes "end")
end_plain = (other_word (codes "end") (codes "update") None end_is_line_word refl, other_word (codes "end") (codes "node") None end_is_line_word refl)

pub print_plain : IsPlain (codes "print")
print_plain = (other_word (codes "print") (codes "update") None print_is_line_word refl, other_word (codes "print") (codes "node") None print_is_line_word refl)

pub host_plain : (is_focused : Bool) → IsPlain (host_text is_focused)
host_plain true = (other_word (codes "host") (codes "update") (Some (codes "on")) host_is_line_word refl, other_word (codes "host") (codes "node") (Some (codes "on")) host_is_line_word refl)
host_plain false = (other_word (codes "host") (codes "update") (Some (codes "off")) host_is_line_word refl, other_word (codes "host") (codes "node") (Some (codes "off")) host_is_line_word refl)
