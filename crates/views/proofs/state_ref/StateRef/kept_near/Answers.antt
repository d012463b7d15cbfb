use Rattle.std.proofs.Common.{◌≡◌, sym, subst}
use Rattle.std.specs.Prelude.{IfSome}
use Rattle.model.specs.Forest.{place_of}
use Rattle.views.specs.declared.state_ref.Shown.{Shown}
use Rattle.views.specs.ShownWorlds.{world_shown}
use Rattle.views.proofs.Overlaid.{kept_placed}
use Rattle.views.proofs.state_ref.StateRef.kept_near.Goals as goal

pub returns-in-Stored-clause-place : goal.returns-in-Stored-clause-place
returns-in-Stored-clause-place c =
    subst (λ (s : Shown). IfSome c.kept.result (λ r. r.place.now ≡ place_of (world_shown s) c.args.id)) (sym c.in-Stored.is)
    (kept_placed c.in-Stored.base.now.world c.args.id c.kept.result c.kept.ensures.place)
