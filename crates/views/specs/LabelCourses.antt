-- Walks over the labels and images in a node.
use Rattle.model.specs.Labels.{label_filter}
use Rattle.views.specs.declared.walks.course.Course.{Course}
use Rattle.views.specs.Walks.{walked_world, IsOnCourse}

-- its ends are labels or images
abbrev pub IsLabelCourse : Course → Type 0
IsLabelCourse c = ∥ IsOnCourse (label_filter (walked_world c)) c ∥₁

-- it has one proof at most, so a walk can keep it
pub IsLabelCourse-prop : (c : Course) → IsProp (IsLabelCourse c)
IsLabelCourse-prop c a b = squash₁ a b
