-- Ranges without a state: what they are in a state, and which of them are equal.
use Rattle.std.specs.Prelude.{◌≡◌, ℕ, List, Bool, Option, Some, None, IfSome, option_map, if◌then◌else◌, refl}
use Rattle.std.specs.Global.{Vec}
use Rattle.std.specs.Bool.{Decides}
use Rattle.std.specs.Coded.{Coded, code_by, coded×, coded_ℕ, coded_list}
use Rattle.std.specs.Cmp.{IsPartialEquivalence, IsEquivalence, partial_equiv_from_equiv}
use Rattle.schema.specs.SameBy.{same_by, same_by-decides, same_by-equivalence}
use Rattle.schema.specs.declared.values.TextPosition.{TextPosition}
use Rattle.model.specs.FullIds.{coded_full}
use Rattle.model.specs.Ranges.{WeakRange}
use Rattle.model.specs.declared.FullNodeId.{FullNodeId}
use Rattle.model.specs.World.{World}
use Rattle.model.specs.TextRuns.{supports_text_ranges}
use Rattle.views.specs.declared.state_ref.StateRef.{StateRef}
use Rattle.views.specs.declared.node.node_ref.NodeRef.{NodeRef}
use Rattle.views.specs.ShownWorlds.{world_of}
use Rattle.views.specs.Nodes.{world_at, id_at}

-- the node with this id, if it exists and has text ranges
pub record IsNodeFound (w : World) (id : FullNodeId) (found : Option NodeRef) : Type 0 where
  pub world : IfSome found (λ n. world_at n ≡ w)
  pub node : option_map id_at found ≡ (if supports_text_ranges w id then Some id else None)

-- it is so in the world of a view that the state is turned into
abbrev pub IsInView : {S : Type 0} → (S → StateRef → Type 0) → S → (World → Type 0) → Type 0
IsInView converts state IsSo = (view : StateRef) × converts state view × IsSo (world_of view)

abbrev pub coded_raw : Coded TextPosition
coded_raw =
    code_by (ℕ × ℕ) (coded× coded_ℕ coded_ℕ) (λ a. (a.node.0, a.character_index))
    (λ p. record { node = record { 0 = p.0 }; character_index = p.1 }) (λ _. refl)

abbrev pub coded_comparable : Coded (List ℕ × ℕ)
coded_comparable = coded× (coded_list coded_ℕ) coded_ℕ

abbrev pub coded_weak : Coded WeakRange
coded_weak = code_by _ (coded× coded_full (coded× coded_raw (coded× coded_raw (coded× coded_comparable coded_comparable))))
    (λ a. (a.root, (a.start, (a.end, (a.start_comparable, a.end_comparable)))))
    (λ p. record { root = p.0; start = p.1.0; end = p.1.1.0; start_comparable = p.1.1.1.0; end_comparable = p.1.1.1.1 }) (λ _. refl)

-- the comparable form of an end, as plain data
abbrev pub kept_of : Vec ℕ × ℕ → List ℕ × ℕ
kept_of p = (p.0.items, p.1)

-- they are equal in all that is kept
unfoldable pub same_weak : WeakRange → WeakRange → Bool
same_weak a b = same_by coded_weak a b

pub same_weak_equivalence : IsEquivalence same_weak
unfolding same_weak
same_weak_equivalence = same_by-equivalence coded_weak

pub same_weak_laws : IsPartialEquivalence same_weak
same_weak_laws = partial_equiv_from_equiv same_weak_equivalence

pub same_weak-decides : (a b : WeakRange) → Decides (same_weak a b) (a ≡ b)
unfolding same_weak
same_weak-decides a b = same_by-decides coded_weak a b
