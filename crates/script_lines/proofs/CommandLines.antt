-- What is written of a command, but for its nodes, stands on one line.
use Rattle.std.proofs.Common.{◌≡◌, ℕ, List, ◌∷◌, ◌++◌, Bool, true, false, codes, Option, Some, None, IsUtf8, MatchOption, option_map, refl}
use Rattle.std.specs.Bool.{⊤}
use Rattle.std.specs.Fmt.{decimal, signed_decimal}
use Rattle.schema.specs.UpdateData.{InfoData, UpdateData}
use Rattle.schema.specs.declared.NodeId.{NodeId}
use Rattle.schema.specs.declared.TreeId.{TreeId}
use Rattle.schema.specs.declared.geometry.Point.{Point}
use Rattle.model.specs.declared.queries.At.{At}
use Rattle.model.specs.declared.queries.NamedFilter.{NamedFilter}
use Rattle.model.specs.declared.queries.Query.{Query}
use Rattle.model.specs.declared.queries.Query.TheVariants as query
use Rattle.script_lines.specs.LineReading.{IsHead, IsInfo}
use Rattle.script_lines.specs.Lines.{head_args, host_text, info_or_nothing}
use Rattle.script_words.specs.Parts.{tree_text, word_field, at_text, name_text, point_text}
use Rattle.script_lines.specs.Questions.{IsQuery, name_and_filter, question_text}
use Rattle.script_words.specs.Quoted.{quoted}
use Rattle.script_words.specs.Reading.{IsCount, IsName, IsNumber}
use Rattle.script_words.proofs.LineTexts.{IsLineText, decimal_line, line_append, line_by, line_if_there, line_joined, line_nothing, quoted_line, shows, signed_line}
use Rattle.script_words.proofs.NameLines.{filter_line, move_line, side_line}
use Rattle.script_words.proofs.ValueLines.{tree_line, id_line, word_line}

info_line : (o : Option InfoData) → MatchOption o ⊤ IsInfo → IsLineText (info_or_nothing o)
info_line None h = line_nothing
info_line (Some info) h =
    line_append (codes " root=" ++ decimal info.root.0 ++ word_field (codes "toolkit") (option_map quoted info.toolkit_name)) (word_field (codes "version") (option_map quoted info.toolkit_version))
    (line_append (codes " root=" ++ decimal info.root.0) (word_field (codes "toolkit") (option_map quoted info.toolkit_name))
    (line_append (codes " root=") (decimal info.root.0) (line_by (codes " root=") refl) (id_line info.root h.0))
    (word_line (codes "toolkit") (option_map quoted info.toolkit_name) (line_by (codes "toolkit") refl) (line_if_there IsUtf8 quoted quoted_line info.toolkit_name h.1)))
    (word_line (codes "version") (option_map quoted info.toolkit_version) (line_by (codes "version") refl) (line_if_there IsUtf8 quoted quoted_line info.toolkit_version h.2))

pub head_line : (u : UpdateData) → IsHead u → IsLineText (codes "update " ++ head_args u)
head_line u h =
    line_append (codes "update ") (head_args u) (line_by (codes "update ") refl)
    (line_append (tree_text u.name ++ codes " focus=" ++ decimal u.focus.0) (info_or_nothing u.info)
    (line_joined (tree_text u.name) (codes " focus=") (decimal u.focus.0) (tree_line u.name) (line_by (codes " focus=") refl) (id_line u.focus h.1))
    (info_line u.info h.2))

pub host_text_line : (is_focused : Bool) → IsLineText (host_text is_focused)
host_text_line true = line_by (codes "host on") refl
host_text_line false = line_by (codes "host off") refl

space : IsLineText (codes " ")
space = line_by (codes " ") refl

name_line : (name : NodeId × TreeId) → IsName name → IsLineText (name_text name)
name_line name h = line_joined (decimal name.0.0) (codes " ") (tree_text name.1) (decimal_line name.0.0 h.0) space (tree_line name.1)

at_line : (at : At) → IsCount at.index → IsLineText (at_text at)
at_line at h = line_joined (decimal at.index) (codes " ") _ (decimal_line at.index h) space (side_line at.side)

asked : (word : List ℕ) (args : List ℕ) → shows word ≡ true → IsLineText args → IsLineText (word ++ (32 ∷ args))
asked word args s p = line_append word (32 ∷ args) (line_by word s) (line_append (codes " ") args space p)

filtered : (name : NodeId × TreeId) (filter : NamedFilter) → IsName name → IsLineText (name_and_filter name filter)
filtered name filter h = line_joined (name_text name) (codes " ") _ (name_line name h) space (filter_line filter)

point_line : (point : Point) → IsNumber point.x → IsNumber point.y → IsLineText (point_text point)
unfolding point_text
point_line point hx hy = line_joined (signed_decimal point.x) (codes " ") (signed_decimal point.y) (signed_line point.x hx) space (signed_line point.y hy)

-- a name and a word more, and another
two_more : (name : NodeId × TreeId) (more last : List ℕ) → IsName name → IsLineText more → IsLineText last → IsLineText (name_text name ++ codes " " ++ more ++ codes " " ++ last)
two_more name more last h p q = line_joined (name_text name ++ codes " " ++ more) (codes " ") last (line_joined (name_text name) (codes " ") more (name_line name h) space p) space q

pub question_text_line : (q : Query) → IsQuery q → IsLineText (question_text q)
question_text_line (query.Children name) h = asked (codes "children") (name_text name) refl (name_line name h)
question_text_line (query.FollowingSiblings name) h = asked (codes "following") (name_text name) refl (name_line name h)
question_text_line (query.PrecedingSiblings name) h = asked (codes "preceding") (name_text name) refl (name_line name h)
question_text_line (query.FilteredChildren name filter) h = asked (codes "filtered") (name_and_filter name filter) refl (filtered name filter h)
question_text_line (query.FollowingFiltered name filter) h = asked (codes "following_filtered") (name_and_filter name filter) refl (filtered name filter h)
question_text_line (query.PrecedingFiltered name filter) h = asked (codes "preceding_filtered") (name_and_filter name filter) refl (filtered name filter h)
question_text_line (query.Label name) h = asked (codes "label") (name_text name) refl (name_line name h)
question_text_line (query.Value name) h = asked (codes "value") (name_text name) refl (name_line name h)
question_text_line (query.Set name filter) h = asked (codes "set") (name_and_filter name filter) refl (filtered name filter h)
question_text_line (query.Text name) h = asked (codes "text") (name_text name) refl (name_line name h)
question_text_line (query.Hit name point filter) h = asked (codes "hit") _ refl (two_more name (point_text point) _ h.0 (point_line point h.1 h.2) (filter_line filter))
question_text_line query.Focus h = line_by (codes "focus") refl
question_text_line (query.Move name at movement) h = asked (codes "move") _ refl (two_more name (at_text at) _ h.0 (at_line at h.1) (move_line movement))
question_text_line (query.Indexes name at) h = asked (codes "indexes") _ refl (line_joined (name_text name) (codes " ") (at_text at) (name_line name h.0) space (at_line at h.1))
question_text_line (query.RangeText name start finish) h = asked (codes "between") _ refl (two_more name (at_text start) (at_text finish) h.0 (at_line start h.1) (at_line finish h.2))
