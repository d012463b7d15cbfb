-- The frame of a picture.
use Rattle.std.proofs.Common.{◌≡◌, ℕ, ◌+◌, ◌<◌, List, [], ◌∷◌, ◌++◌, length, get_or, take, Option, None, sym, ap, ◌∙◌}
use Rattle.std.specs.List.{fold}
use Rattle.std.proofs.lemmas.List.{take_more}
use Rattle.std.proofs.lemmas.List.Sums.{fold-append}
use Rattle.page_states.specs.declared.boxes.Frame.{Frame}
use Rattle.page_states.specs.declared.places.Place.{Place}
use Rattle.page_states.specs.Boxes.{all_around, grown}

-- around one more
pub around_more : (box : Place → Option Frame) (places : List Place) (i : ℕ) (x : Place) → i < length places → x ≡ get_or places i x →
    grown (all_around box (take i places)) (box x) ≡ all_around box (take (i + 1) places)
around_more box places i x within is =
    let step : Option Frame → Place → Option Frame = λ so_far place. grown so_far (box place) in
    sym (fold-append step None (take i places) (x ∷ []))
    ∙ ap (fold step None) (ap (λ (n : Place). take i places ++ n ∷ []) is ∙ sym (take_more places i x within))
