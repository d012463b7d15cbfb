-- What a line that asks a query means: its words in order, and no more.
use Rattle.std.specs.Prelude.{ℕ, List, codes, Option, None, option_map, if◌then◌else◌}
use Rattle.std.specs.Str.{bytes_eq}
use Rattle.model.specs.declared.queries.At.{At}
use Rattle.model.specs.declared.queries.NamedFilter.{NamedFilter}
use Rattle.model.specs.declared.queries.Query.{Query}
use Rattle.model.specs.declared.queries.Query.TheVariants as query
use Rattle.schema.specs.declared.NodeId.{NodeId}
use Rattle.schema.specs.declared.TreeId.{TreeId}
use Rattle.script_words.specs.Arguments.{next_at, next_filter, next_name, next_point}
use Rattle.script_words.specs.Meaning.{next_as, only, onward}
use Rattle.script_words.specs.WordValues.{move_of}

-- a node's name
abbrev pub last_name : Option (List ℕ) → Option (NodeId × TreeId)
last_name line = onward (next_name line) (λ name. only name.0 name.1)

-- and a filter
abbrev pub last_name_and_filter : Option (List ℕ) → Option ((NodeId × TreeId) × NamedFilter)
last_name_and_filter line = onward (next_name line) (λ name. onward (next_filter name.1) (λ filter. only (name.0, filter.0) filter.1))

-- and a position in its text, and two of them
abbrev pub last_place : Option (List ℕ) → Option ((NodeId × TreeId) × At)
last_place line = onward (next_name line) (λ name. onward (next_at name.1) (λ at. only (name.0, at.0) at.1))

abbrev pub last_places : Option (List ℕ) → Option ((NodeId × TreeId) × At × At)
last_places line =
    onward (next_name line) (λ name. onward (next_at name.1) (λ from. onward (next_at from.1) (λ to. only (name.0, from.0, to.0) to.1)))

abbrev pub hit_means : Option (List ℕ) → Option Query
hit_means line =
    onward (next_name line) (λ name. onward (next_point name.1) (λ point. onward (next_filter point.1)
    (λ filter. only (query.Hit name.0 point.0 filter.0) filter.1)))

abbrev pub moved_means : Option (List ℕ) → Option Query
moved_means line =
    onward (next_name line) (λ name. onward (next_at name.1) (λ at. onward (next_as move_of at.1)
    (λ movement. only (query.Move name.0 at.0 movement.0) movement.1)))

abbrev pub asked : (NodeId × TreeId → Query) → Option (List ℕ) → Option Query
asked query line = option_map query (last_name line)

abbrev pub asked_by_filter : (NodeId × TreeId → NamedFilter → Query) → Option (List ℕ) → Option Query
asked_by_filter query line = option_map (λ words. query words.0 words.1) (last_name_and_filter line)

-- the query that begins with this word, by the words that come after it
abbrev pub question_means : List ℕ → Option (List ℕ) → Option Query
question_means word line =
    if bytes_eq word (codes "children") then asked query.Children line
    else if bytes_eq word (codes "following") then asked query.FollowingSiblings line
    else if bytes_eq word (codes "preceding") then asked query.PrecedingSiblings line
    else if bytes_eq word (codes "filtered") then asked_by_filter query.FilteredChildren line
    else if bytes_eq word (codes "following_filtered") then asked_by_filter query.FollowingFiltered line
    else if bytes_eq word (codes "preceding_filtered") then asked_by_filter query.PrecedingFiltered line
    else if bytes_eq word (codes "set") then asked_by_filter query.Set line
    else if bytes_eq word (codes "hit") then hit_means line
    else if bytes_eq word (codes "focus") then only query.Focus line
    else if bytes_eq word (codes "label") then asked query.Label line
    else if bytes_eq word (codes "value") then asked query.Value line
    else if bytes_eq word (codes "text") then asked query.Text line
    else if bytes_eq word (codes "move") then moved_means line
    else if bytes_eq word (codes "indexes") then option_map (λ place. query.Indexes place.0 place.1) (last_place line)
    else if bytes_eq word (codes "between") then option_map (λ places. query.RangeText places.0 places.1 places.2) (last_places line)
    else None
