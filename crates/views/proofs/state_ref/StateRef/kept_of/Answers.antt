use Rattle.std.proofs.Common.{◌≡◌, sym, subst}
use Rattle.model.specs.Forest.{place_of}
use Rattle.views.specs.declared.state_ref.Shown.{Shown}
use Rattle.views.specs.ShownWorlds.{world_shown}
use Rattle.views.proofs.Showing.{place_known}
use Rattle.views.proofs.state_ref.StateRef.kept_of.Goals as goal

pub returns-in-Stored-clause-place : goal.returns-in-Stored-clause-place
returns-in-Stored-clause-place c =
    subst (λ (s : Shown). c.kept_of.result.place.now ≡ place_of (world_shown s) c.args.id) (sym c.in-Stored.is)
    (place_known c.in-Stored.base.now.world c.args.id c.kept_of.result.place.now c.kept_of.ensures.place)
