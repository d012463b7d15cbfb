-- The selected indexes as code keeps them.
use Rattle.read.specs.declared.selected.Selected.{Selected}
use Rattle.read.specs.Lines.{Span}

abbrev pub span_of : Selected → Span
span_of s = (s.from, s.to)
