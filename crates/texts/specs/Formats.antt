-- The format of a text.
use Rattle.model.specs.Styles.{Style, style_of}
use Rattle.views.specs.declared.node.node_ref.NodeRef.{NodeRef}
use Rattle.views.specs.Nodes.{world_at, id_at}

-- the format of the text at a node
abbrev pub style_at : NodeRef → Style
style_at n = style_of (world_at n) (id_at n)
