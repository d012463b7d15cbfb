-- What is written of a word or a value comes next in the line, and what stands behind it is left.
use Rattle.std.proofs.Common.{◌≡◌, ℕ, ℤ, List, ◌++◌, codes, Option, Some, ap, refl, ◌∙◌}
use Rattle.std.specs.Fmt.{decimal, signed_decimal}
use Rattle.model.specs.declared.queries.At.{At}
use Rattle.model.specs.declared.queries.Move.{Move}
use Rattle.model.specs.declared.queries.NamedFilter.{NamedFilter}
use Rattle.model.specs.declared.queries.NamedFilter.TheVariants as filter
use Rattle.model.specs.declared.queries.Side.{Side}
use Rattle.model.specs.declared.queries.Side.TheVariants as side
use Rattle.schema.specs.declared.NodeId.{NodeId}
use Rattle.schema.specs.declared.TreeId.{TreeId}
use Rattle.schema.specs.declared.geometry.Point.{Point}
use Rattle.script_words.specs.Arguments.{next_at, next_filter, next_name, next_point}
use Rattle.script_words.specs.Meaning.{next_as, onward}
use Rattle.script_words.specs.NameLists.{all_filters, all_sides}
use Rattle.script_words.specs.NamedIn.{first_named}
use Rattle.script_words.specs.Names.{filter_name, move_name, side_name}
use Rattle.script_words.specs.Parts.{at_text, name_text, point_text, tree_text}
use Rattle.script_words.specs.Reading.{IsCount, IsId, IsName, IsNumber, IsTreeName, after}
use Rattle.script_words.specs.WordValues.{filter_of, id_of, move_of, number_of, side_of, signed_of, tree_of}
use Rattle.script_words.proofs.Cuts.{begins_two}
use Rattle.script_words.proofs.Decimals.{decimal_is_word, signed_is_word}
use Rattle.script_words.proofs.NamedTables.{first_move}
use Rattle.script_words.proofs.NamedWords.{filter_is_word, move_is_word, side_is_word}
use Rattle.script_words.proofs.TreeNames.{tree_is_word}
use Rattle.script_words.proofs.WrittenValues.{id_written, number_written, signed_written, tree_written, value_comes}

-- ---- an id, and a tree

pub id_comes : (id : NodeId) (rest : Option (List ℕ)) → IsId id → next_as id_of (Some (decimal id.0 ++ after rest)) ≡ Some (id, rest)
id_comes id rest h = value_comes id_of (decimal id.0) id rest (decimal_is_word id.0 h) (id_written id h)

pub tree_comes : (tree : TreeId) (rest : Option (List ℕ)) → IsTreeName tree → next_as tree_of (Some (tree_text tree ++ after rest)) ≡ Some (tree, rest)
tree_comes tree rest h = value_comes tree_of (tree_text tree) tree rest (tree_is_word tree) (tree_written tree h)

-- ---- a node's name, a filter, a point and a position

abbrev tree_behind : NodeId × Option (List ℕ) → Option ((NodeId × TreeId) × Option (List ℕ))
tree_behind node = onward (next_as tree_of node.1) (λ tree. Some ((node.0, tree.0), tree.1))

abbrev named : NodeId → TreeId × Option (List ℕ) → Option ((NodeId × TreeId) × Option (List ℕ))
named node tree = Some ((node, tree.0), tree.1)

pub name_comes : (name : NodeId × TreeId) (rest : Option (List ℕ)) → IsName name → next_name (Some (name_text name ++ after rest)) ≡ Some (name, rest)
name_comes name rest h =
    ap next_name (begins_two (Some (name_text name ++ after rest)) (decimal name.0.0) (tree_text name.1) rest refl)
    ∙ ap (λ (o : Option (NodeId × Option (List ℕ))). onward o tree_behind) (id_comes name.0 (Some (tree_text name.1 ++ after rest)) h.0)
    ∙ ap (λ (o : Option (TreeId × Option (List ℕ))). onward o (named name.0)) (tree_comes name.1 rest h.1)

first_filter : (value : NamedFilter) → first_named filter_name (filter_name value) all_filters ≡ Some value
unfolding first_named
first_filter filter.All = refl
first_filter value = refl

pub filter_comes : (value : NamedFilter) (rest : Option (List ℕ)) → next_filter (Some (filter_name value ++ after rest)) ≡ Some (value, rest)
filter_comes value rest = value_comes filter_of (filter_name value) value rest (filter_is_word value) (first_filter value)

pub move_comes : (value : Move) (rest : Option (List ℕ)) → next_as move_of (Some (move_name value ++ after rest)) ≡ Some (value, rest)
move_comes value rest = value_comes move_of (move_name value) value rest (move_is_word value) (first_move value)

first_side : (value : Side) → first_named side_name (side_name value) all_sides ≡ Some value
unfolding first_named
first_side side.Start = refl
first_side value = refl

side_comes : (value : Side) (rest : Option (List ℕ)) → next_as side_of (Some (side_name value ++ after rest)) ≡ Some (value, rest)
side_comes value rest = value_comes side_of (side_name value) value rest (side_is_word value) (first_side value)

count_comes : (n : ℕ) (rest : Option (List ℕ)) → IsCount n → next_as number_of (Some (decimal n ++ after rest)) ≡ Some (n, rest)
count_comes n rest h = value_comes number_of (decimal n) n rest (decimal_is_word n h) (number_written n h)

signed_comes : (z : ℤ) (rest : Option (List ℕ)) → IsNumber z → next_as signed_of (Some (signed_decimal z ++ after rest)) ≡ Some (z, rest)
signed_comes z rest h = value_comes signed_of (signed_decimal z) z rest (signed_is_word z h) (signed_written z h)

abbrev side_behind : ℕ × Option (List ℕ) → Option (At × Option (List ℕ))
side_behind index = onward (next_as side_of index.1) (λ side. Some (record { index = index.0; side = side.0 }, side.1))

abbrev placed : ℕ → Side × Option (List ℕ) → Option (At × Option (List ℕ))
placed index side = Some (record { index = index; side = side.0 }, side.1)

pub at_comes : (at : At) (rest : Option (List ℕ)) → IsCount at.index → next_at (Some (at_text at ++ after rest)) ≡ Some (at, rest)
at_comes at rest h =
    ap next_at (begins_two (Some (at_text at ++ after rest)) (decimal at.index) (side_name at.side) rest refl)
    ∙ ap (λ (o : Option (ℕ × Option (List ℕ))). onward o side_behind) (count_comes at.index (Some (side_name at.side ++ after rest)) h)
    ∙ ap (λ (o : Option (Side × Option (List ℕ))). onward o (placed at.index)) (side_comes at.side rest)

abbrev y_behind : ℤ × Option (List ℕ) → Option (Point × Option (List ℕ))
y_behind x = onward (next_as signed_of x.1) (λ y. Some (record { x = x.0; y = y.0 }, y.1))

abbrev point_of : ℤ → ℤ × Option (List ℕ) → Option (Point × Option (List ℕ))
point_of x y = Some (record { x = x; y = y.0 }, y.1)

pub point_comes : (point : Point) (rest : Option (List ℕ)) → IsNumber point.x → IsNumber point.y → next_point (Some (point_text point ++ after rest)) ≡ Some (point, rest)
unfolding point_text
point_comes point rest hx hy =
    ap next_point (begins_two (Some (point_text point ++ after rest)) (signed_decimal point.x) (signed_decimal point.y) rest refl)
    ∙ ap (λ (o : Option (ℤ × Option (List ℕ))). onward o y_behind) (signed_comes point.x (Some (signed_decimal point.y ++ after rest)) hx)
    ∙ ap (λ (o : Option (ℤ × Option (List ℕ))). onward o (point_of point.x)) (signed_comes point.y rest hy)
