-- What is told of two states of a node.
use Rattle.std.proofs.Common.{◌≡◌, ℕ, List, Option, Some, None, inr, refl, ap}
use Rattle.std.specs.Prelude.{Bool, ◌&&◌}
use Rattle.std.specs.Bool.{Decides}
use Rattle.std.specs.Io.KnownBytes.{Appends}
use Rattle.std.specs.Option.{option_eq}
use Rattle.std.specs.Ordering.{int_eq}
use Rattle.std.proofs.lemmas.Bool.Decides.{Decides-int_eq, Decides-like, Decides-and}
use Rattle.std.proofs.lemmas.Option.{same_Some}
use Rattle.schema.specs.declared.geometry.WideRect.{WideRect}
use Rattle.page_states.specs.Said.{TellsIfOther}

-- what differs is told
pub told_if_other : {A : Type 0} (old new : A) (what : List ℕ) (before after : Option (List ℕ)) → (old ≡ new → ⊥) → Appends before after what → TellsIfOther old new what before after
told_if_other old new what before after other written = inr (other, written)

-- a test that decides whether two values are equal decides it of values that may be missing, too
pub options_decide : {T : Type 0} (test : T → T → Bool) → ((x y : T) → Decides (test x y) (x ≡ y)) → (a b : Option T) → Decides (option_eq test a b) (a ≡ b)
options_decide test decides None None = (λ e. refl, λ e. refl)
options_decide test decides None (Some y) = (λ e. absurd (cc), λ e. absurd (cc))
options_decide test decides (Some x) None = (λ e. absurd (cc), λ e. absurd (cc))
options_decide test decides (Some x) (Some y) = (λ e. ap Some ((decides x y).0 e), λ e. (decides x y).1 (same_Some x y e))

abbrev pub same_rectangle : WideRect → WideRect → Bool
same_rectangle a b = int_eq a.x0 b.x0 && (int_eq a.y0 b.y0 && (int_eq a.x1 b.x1 && int_eq a.y1 b.y1))

pub rectangles_decide : (a b : WideRect) → Decides (same_rectangle a b) (a ≡ b)
rectangles_decide a b =
    Decides-like _ (λ e i. record { x0 = e.0 i; y0 = e.1.0 i; x1 = e.1.1.0 i; y1 = e.1.1.1 i })
    (λ (e : a ≡ b). (ap (λ r. r.x0) e, (ap (λ r. r.y0) e, (ap (λ r. r.x1) e, ap (λ r. r.y1) e))))
    (Decides-and _ _ (Decides-int_eq a.x0 b.x0) (Decides-and _ _ (Decides-int_eq a.y0 b.y0) (Decides-and _ _ (Decides-int_eq a.x1 b.x1) (Decides-int_eq a.y1 b.y1))))
