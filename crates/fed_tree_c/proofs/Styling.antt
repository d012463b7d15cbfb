-- Whether a text differs between two positions.
use Rattle.std.proofs.Common.{◌≡◌, ℕ, Bool, Option, Some, None, refl, sym, subst}
use Rattle.std.specs.Prelude.{MatchOption, slice_get}
use Rattle.model.specs.declared.FullNodeId.{FullNodeId}
use Rattle.fed_tree.specs.Fed.{Fed}
use Rattle.fed_tree.specs.Looks.{DiffersBetween}
use Rattle.fed_tree.specs.declared.spots.Spot.{Spot}
use Rattle.fed_tree.specs.declared.styles.Style.{Style}
use Rattle.fed_tree_c.specs.Answers.{CLOSED, Gives}
use Rattle.fed_tree_c.specs.Kinds.{all_styles}
use Rattle.fed_tree_c.specs.Spotting.{spot_said}
use Rattle.fed_tree_c.specs.Styling.{AnswersDiffers, DiffersSaid, lack_between}
use Rattle.fed_tree_c.specs.declared.spots.AkSpot.{AkSpot}

-- where both positions and the property are there
pub differs_said : (from to : AkSpot) (number : ℕ) (id : FullNodeId) (fed : Fed) (p q : Spot) (style : Style) (found : Option Bool)
    → Some p ≡ spot_said from → Some q ≡ spot_said to → Some style ≡ slice_get all_styles number → DiffersBetween fed.world id p q style found
    → DiffersSaid from to number id fed found
differs_said from to number id fed p q style found is_from is_to is_style is =
    subst (λ (a : Option Spot). MatchOption a (found ≡ None) (λ p. MatchOption (spot_said to) (found ≡ None) (λ q. MatchOption (slice_get all_styles number) (found ≡ None) (λ s. DiffersBetween fed.world id p q s found)))) is_from
    (subst (λ (b : Option Spot). MatchOption b (found ≡ None) (λ q. MatchOption (slice_get all_styles number) (found ≡ None) (λ s. DiffersBetween fed.world id p q s found))) is_to
    (subst (λ (o : Option Style). MatchOption o (found ≡ None) (λ s. DiffersBetween fed.world id p q s found)) is_style is))

pub differs_answered : (handle : Option Fed) (fed : Fed) (from to : AkSpot) (number : ℕ) (id : FullNodeId) (found : Option Bool) (status : ℕ) (old new : Bool)
    → Some fed ≡ handle → DiffersSaid from to number id fed found → Gives (lack_between from to number id fed) found status old new → AnswersDiffers handle from to number id status old new
differs_answered handle fed from to number id found status old new is said gives =
    subst (λ (o : Option Fed). AnswersDiffers o from to number id status old new) is (found, said, gives)

pub differs_closed : (handle : Option Fed) (from to : AkSpot) (number : ℕ) (id : FullNodeId) (status : ℕ) (old new : Bool)
    → handle ≡ None → status ≡ CLOSED → new ≡ old → AnswersDiffers handle from to number id status old new
differs_closed handle from to number id status old new is s e =
    subst (λ (o : Option Fed). AnswersDiffers o from to number id status old new) (sym is) (s, e)
