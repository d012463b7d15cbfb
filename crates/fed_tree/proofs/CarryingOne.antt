-- One command that is carried out alone, and how that ends.
use Rattle.std.proofs.Common.{◌≡◌, ◌≢◌, List, [], ◌∷◌, Option, Some, Ok, Err, refl}
use Rattle.std.specs.Prelude.{IsSome}
use Rattle.model.specs.Events.{Told}
use Rattle.model.specs.Events.{Event as ModelEvent}
use Rattle.tree_changes.specs.declared.error.UpdateError.{UpdateError}
use Rattle.tree_changes.specs.declared.error.UpdateError.TheVariants as error
use Rattle.script_lines.specs.declared.reader.ScriptCommand.{ScriptCommand}
use Rattle.fed_tree.specs.Carried.{CarriesOut}
use Rattle.fed_tree.specs.Events.{Keeps}
use Rattle.fed_tree.specs.Feeding.{CarriesOutAll}
use Rattle.fed_tree.specs.declared.events.Event.{Event}
use Rattle.fed_tree.specs.declared.feeding.FeedError.TheVariants as feed
use Rattle.fed_tree.specs.declared.stage.Stage.{Stage}
use Rattle.fed_tree.proofs.Carrying.{SoFar, begins, goes_on, ends_lost, ends_refused, ends_wanting, ends_well}

module _ (old new : Stage) (c : ScriptCommand) (last : List ModelEvent) (before after : Option (List Event)) (empty : before ≡ Some [])
    (heard : Told Keeps before last after) where
  so_far : SoFar old old (c ∷ []) [] (c ∷ []) before 0
  so_far = begins old (c ∷ []) before empty

  pub one_done : CarriesOut old c (Ok tt) new last → IsSome after → CarriesOutAll old (c ∷ []) (Ok tt) new after
  one_done carries whole =
      ends_well old new (c ∷ []) (c ∷ []) [] after 1
      (goes_on old old new (c ∷ []) [] (c ∷ []) [] c last before after 0 so_far refl heard 1 refl carries whole) refl

  pub one_lost : CarriesOut old c (Ok tt) new last → CarriesOutAll old (c ∷ []) (Err (feed.Memory 1)) new after
  one_lost carries =
      ends_lost old old new (c ∷ []) [] (c ∷ []) [] c last before after 0 so_far refl heard 1 refl carries

  pub one_refused : (why : UpdateError) → why ≢ error.Memory → CarriesOut old c (Err why) new last
      → CarriesOutAll old (c ∷ []) (Err (feed.Refused 0 why)) new after
  one_refused why rule carries =
      ends_refused old old new (c ∷ []) [] (c ∷ []) [] c last before after 0 so_far refl heard why carries rule

  pub one_wanting : (why : UpdateError) → CarriesOut old c (Err why) new last
      → CarriesOutAll old (c ∷ []) (Err (feed.Memory 0)) new after
  one_wanting why carries =
      ends_wanting old old new (c ∷ []) [] (c ∷ []) [] c last before after 0 so_far refl heard why carries
