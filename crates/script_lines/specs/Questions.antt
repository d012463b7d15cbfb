-- The written form of a query.
use Rattle.std.specs.Prelude.{ℕ, List, ◌++◌, codes, Option, Some, None, ⊤}
use Rattle.std.specs.Fmt.{decimal, signed_decimal}
use Rattle.schema.specs.declared.NodeId.{NodeId}
use Rattle.schema.specs.declared.TreeId.{TreeId}
use Rattle.schema.specs.declared.geometry.Point.{Point}
use Rattle.model.specs.declared.queries.At.{At}
use Rattle.model.specs.declared.queries.Move.{Move}
use Rattle.model.specs.declared.queries.NamedFilter.{NamedFilter}
use Rattle.model.specs.declared.queries.Query.{Query}
use Rattle.model.specs.declared.queries.Query.TheVariants as query
use Rattle.script_words.specs.Names.{filter_name, move_name}
use Rattle.script_words.specs.Parts.{at_text, name_text, point_text}
use Rattle.script_words.specs.Reading.{IsCount, IsName, IsNumber, after}

abbrev pub asked_line : List ℕ → NodeId × TreeId → List ℕ
asked_line word name = word ++ codes " " ++ name_text name ++ codes "\n"

abbrev pub asked_by_filter_line : List ℕ → NodeId × TreeId → NamedFilter → List ℕ
asked_by_filter_line word name filter = word ++ codes " " ++ name_text name ++ codes " " ++ filter_name filter ++ codes "\n"

abbrev pub hit_line : NodeId × TreeId → Point → NamedFilter → List ℕ
hit_line name point filter =
    codes "hit " ++ name_text name ++ codes " " ++ point_text point ++ codes " " ++ filter_name filter ++ codes "\n"

abbrev pub move_line : NodeId × TreeId → At → Move → List ℕ
move_line name at movement = codes "move " ++ name_text name ++ codes " " ++ at_text at ++ codes " " ++ move_name movement ++ codes "\n"

abbrev pub indexes_line : NodeId × TreeId → At → List ℕ
indexes_line name at = codes "indexes " ++ name_text name ++ codes " " ++ at_text at ++ codes "\n"

abbrev pub between_line : NodeId × TreeId → At → At → List ℕ
between_line name start finish =
    codes "between " ++ name_text name ++ codes " " ++ at_text start ++ codes " " ++ at_text finish ++ codes "\n"

-- the word that a query begins with
abbrev pub question_word : Query → List ℕ
question_word (query.Children name) = codes "children"
question_word (query.FollowingSiblings name) = codes "following"
question_word (query.PrecedingSiblings name) = codes "preceding"
question_word (query.FilteredChildren name filter) = codes "filtered"
question_word (query.FollowingFiltered name filter) = codes "following_filtered"
question_word (query.PrecedingFiltered name filter) = codes "preceding_filtered"
question_word (query.Label name) = codes "label"
question_word (query.Value name) = codes "value"
question_word (query.Set name filter) = codes "set"
question_word (query.Text name) = codes "text"
question_word (query.Hit name point filter) = codes "hit"
question_word query.Focus = codes "focus"
question_word (query.Move name at movement) = codes "move"
question_word (query.Indexes name at) = codes "indexes"
question_word (query.RangeText name start finish) = codes "between"

abbrev pub name_and_filter : NodeId × TreeId → NamedFilter → List ℕ
name_and_filter name filter = name_text name ++ codes " " ++ filter_name filter

-- what comes after that word and a space
abbrev pub question_args : Query → Option (List ℕ)
question_args (query.Children name) = Some (name_text name)
question_args (query.FollowingSiblings name) = Some (name_text name)
question_args (query.PrecedingSiblings name) = Some (name_text name)
question_args (query.FilteredChildren name filter) = Some (name_and_filter name filter)
question_args (query.FollowingFiltered name filter) = Some (name_and_filter name filter)
question_args (query.PrecedingFiltered name filter) = Some (name_and_filter name filter)
question_args (query.Label name) = Some (name_text name)
question_args (query.Value name) = Some (name_text name)
question_args (query.Set name filter) = Some (name_and_filter name filter)
question_args (query.Text name) = Some (name_text name)
question_args (query.Hit name point filter) = Some (name_text name ++ codes " " ++ point_text point ++ codes " " ++ filter_name filter)
question_args query.Focus = None
question_args (query.Move name at movement) = Some (name_text name ++ codes " " ++ at_text at ++ codes " " ++ move_name movement)
question_args (query.Indexes name at) = Some (name_text name ++ codes " " ++ at_text at)
question_args (query.RangeText name start finish) = Some (name_text name ++ codes " " ++ at_text start ++ codes " " ++ at_text finish)

-- a query's line, without its end
abbrev pub question_text : Query → List ℕ
question_text q = question_word q ++ after (question_args q)

abbrev pub question_line : Query → List ℕ
question_line q = question_text q ++ codes "\n"

-- its numbers and names are within the bounds of their types
abbrev pub IsQuery : Query → Type 0
IsQuery (query.Children name) = IsName name
IsQuery (query.FollowingSiblings name) = IsName name
IsQuery (query.PrecedingSiblings name) = IsName name
IsQuery (query.FilteredChildren name filter) = IsName name
IsQuery (query.FollowingFiltered name filter) = IsName name
IsQuery (query.PrecedingFiltered name filter) = IsName name
IsQuery (query.Label name) = IsName name
IsQuery (query.Value name) = IsName name
IsQuery (query.Set name filter) = IsName name
IsQuery (query.Text name) = IsName name
IsQuery (query.Hit name point filter) = IsName name × IsNumber point.x × IsNumber point.y
IsQuery query.Focus = ⊤
IsQuery (query.Move name at movement) = IsName name × IsCount at.index
IsQuery (query.Indexes name at) = IsName name × IsCount at.index
IsQuery (query.RangeText name start finish) = IsName name × IsCount start.index × IsCount finish.index
