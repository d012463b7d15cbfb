-- What a walk over the nodes that label a node has left.
use Rattle.std.specs.Prelude.{List, map}
use Rattle.model.specs.declared.FullNodeId.{FullNodeId}
use Rattle.model.specs.World.{World}
use Rattle.model.specs.Labels.{label_filter}
use Rattle.views.specs.declared.walks.course.Course.{Course}
use Rattle.views.specs.declared.walks.labelled_by.LabelsWithin.{LabelsWithin}
use Rattle.views.specs.declared.walks.labelled_by.LabelSource.{LabelSource}
use Rattle.views.specs.declared.walks.labelled_by.LabelSource.TheVariants.{Named, Within}
use Rattle.views.specs.declared.walks.labelled_by.LabelledBy.{LabelledBy}
use Rattle.views.specs.PlainWalks.{node_in}
use Rattle.views.specs.Walks.{walked_world, ids_left}
use Rattle.views.specs.Controlled.{controls_left}

-- the labels and images from one end of the walk to the other
abbrev pub shown_labels : Course → List FullNodeId
shown_labels c = ids_left (label_filter (walked_world c)) c

abbrev pub within_left : LabelsWithin → List (World × FullNodeId)
within_left s = map (node_in (walked_world s.course)) (shown_labels s.course)

abbrev pub source_left : LabelSource → List (World × FullNodeId)
source_left (Named s) = controls_left s
source_left (Within s) = within_left s

abbrev pub labels_left : LabelledBy → List (World × FullNodeId)
labels_left s = source_left s.source
