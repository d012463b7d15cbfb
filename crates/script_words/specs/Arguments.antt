-- What the next words of a line mean.
use Rattle.std.specs.Prelude.{ℕ, List, Option, Some, None}
use Rattle.model.specs.declared.queries.At.{At}
use Rattle.model.specs.declared.queries.NamedFilter.{NamedFilter}
use Rattle.model.specs.declared.queries.NamedFilter.TheVariants.{Common}
use Rattle.schema.specs.declared.NodeId.{NodeId}
use Rattle.schema.specs.declared.TreeId.{TreeId}
use Rattle.schema.specs.declared.geometry.Point.{Point}
use Rattle.script_words.specs.Meaning.{next_as, onward}
use Rattle.script_words.specs.WordValues.{filter_of, id_of, number_of, side_of, signed_of, tree_of}

-- a node's name: ID TREE
abbrev pub next_name : Option (List ℕ) → Option ((NodeId × TreeId) × Option (List ℕ))
next_name line = onward (next_as id_of line) (λ node. onward (next_as tree_of node.1) (λ tree. Some ((node.0, tree.0), tree.1)))

-- a point: X Y
abbrev pub next_point : Option (List ℕ) → Option (Point × Option (List ℕ))
next_point line = onward (next_as signed_of line) (λ x. onward (next_as signed_of x.1) (λ y. Some (record { x = x.0; y = y.0 }, y.1)))

-- a position in a text: INDEX SIDE
abbrev pub next_at : Option (List ℕ) → Option (At × Option (List ℕ))
next_at line =
    onward (next_as number_of line) (λ index. onward (next_as side_of index.1)
    (λ side. Some (record { index = index.0; side = side.0 }, side.1)))

-- a filter, which may be left out at the end of the line
abbrev pub next_filter : Option (List ℕ) → Option (NamedFilter × Option (List ℕ))
next_filter None = Some (Common, None)
next_filter (Some text) = next_as filter_of (Some text)
