-- The toolkit's name and version.
use Rattle.std.proofs.Common.{ℕ, List, Bool, Option, if◌then◌else◌, ◌==◌, ◌≢◌, Some, eq-eqb, ne_eqb, ◌∙◌, ◌≡◌, None, codes, unwrap_or, option_and_then, ap}
use Rattle.std.specs.Option.{option_map_or}
use Rattle.model.specs.World.{World, toolkit_name, toolkit_version}
use Rattle.model.specs.Update.{UpdateData, InfoData, index_for, merged_world}

pub toolkit_without_a_name : (w : World) → w.toolkit.0 ≡ None → (toolkit_name w ≡ codes "AccessKit") × (toolkit_version w ≡ None)
toolkit_without_a_name w none = (ap (λ o. unwrap_or o (codes "AccessKit")) none, ap (option_and_then (λ _. w.toolkit.1)) none)

-- tree info for the root tree replaces both texts, and that of another tree neither
pub toolkit_is_the_root_trees : (old : World) (u : UpdateData) (info : InfoData) → u.info ≡ Some info → ((index_for old u.name ≡ 0) → (merged_world old u).toolkit ≡ (info.toolkit_name, info.toolkit_version)) × ((index_for old u.name ≢ 0) → (merged_world old u).toolkit ≡ old.toolkit)
toolkit_is_the_root_trees old u info is = (λ root. given ∙ ap chosen (eq-eqb (index_for old u.name) 0 root), λ other. given ∙ ap chosen (ne_eqb (index_for old u.name) 0 other))
  where
    chosen : Bool → Option (List ℕ) × Option (List ℕ)
    chosen b = if b then (info.toolkit_name, info.toolkit_version) else old.toolkit

    given : (merged_world old u).toolkit ≡ (if index_for old u.name == 0 then (info.toolkit_name, info.toolkit_version) else old.toolkit)
    given = ap (λ o. option_map_or (λ i. if index_for old u.name == 0 then (i.toolkit_name, i.toolkit_version) else old.toolkit) o old.toolkit) is
