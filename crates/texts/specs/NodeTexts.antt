-- The text of a node.
use Rattle.views.specs.declared.node.node_ref.NodeRef.{NodeRef}
use Rattle.texts.specs.declared.node_texts.Text.{Text}

-- the node whose text it is
abbrev pub root_of : Text → NodeRef
root_of t = t.root
