-- A world has one set of records.
use Rattle.std.proofs.Common.{◌≡◌, Option, Some, None, refl, sym, subst, ◌∙◌}
use Rattle.std.specs.Prelude.{IsSome}
use Rattle.std.specs.FinMap.{same_map}
use Rattle.model.specs.declared.FullNodeId.{FullNodeId}
use Rattle.model.specs.FullIds.{full_total, exact_full}
use Rattle.model.specs.World.{World}
use Rattle.model.specs.Mirror.{Mirrored, Records, IsRecordOf, AreRecordsOf}
use Rattle.model.proofs.Focus.FocusIsOne.{focus_unique}
use Rattle.model.proofs.Decisions.{same_inside}

record_unique : (w : World) (id : FullNodeId) (o p : Option Mirrored) → IsRecordOf w id o → IsRecordOf w id p → o ≡ p
record_unique w id None None h g = refl
record_unique w id None (Some m) h g = absurd (h (subst IsSome (sym g.1) refl))
record_unique w id (Some m) None h g = absurd (g (subst IsSome (sym h.1) refl))
record_unique w id (Some m) (Some n) h g =
    let place : m.place ≡ n.place = h.0 ∙ sym g.0 in
    let alike : m.node ≡ n.node = same_inside m.node n.node (sym h.1 ∙ g.1) in
    λ i. Some (record { place = place i; node = alike i })

pub records_unique : (w : World) (r s : Records) → AreRecordsOf w r → AreRecordsOf w s → r ≡ s
records_unique w r s h g =
    let nodes : r.nodes ≡ s.nodes = same_map full_total exact_full r.nodes s.nodes (λ id. record_unique w id _ _ (h.nodes id) (g.nodes id)) in
    let focus : r.focus ≡ s.focus = focus_unique w r.focus s.focus h.focus g.focus in
    λ i. record { nodes = nodes i; focus = focus i }
