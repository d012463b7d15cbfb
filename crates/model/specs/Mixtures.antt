-- Calls at both ends of an iterator, in any mixture, and what they take of a list.
use Rattle.std.specs.Prelude.{◌≡◌, List, [], ◌∷◌, ◌++◌, map, reverse, filter_map, Option, None, option_map, Contains}
use Rattle.std.specs.List.{AllPairs}
use Rattle.std.specs.Iterator.{YieldsFirst, YieldsLast, YieldsFirstBy, YieldsLastBy}

pub data End : Type 0 where
  front : End
  back : End

-- a call at an end, and its result
abbrev pub Call : Type 0 → Type 0
Call A = End × Option A

-- the item of a call at this end
abbrev pub given_at : {A : Type 0} → End → Call A → Option A
given_at front (front, answer) = answer
given_at front (back, answer) = None
given_at back (front, answer) = None
given_at back (back, answer) = answer

-- the items that came from this end, in turn
abbrev pub items_from : {A : Type 0} → End → List (Call A) → List A
items_from end calls = filter_map (given_at end) calls

-- The calls took all of the list but what is left: what came from the front, what is left, and what came from the back
-- reversed are the list. A call that returned `None` left nothing, and each later one returned `None` too.
pub record AreTaken {A : Type 0} (list : List A) (calls : List (Call A)) (left : List A) : Type 0 where
  pub all : items_from front calls ++ left ++ reverse (items_from back calls) ≡ list
  pub ends : (end : End) → Contains calls (end, None) → left ≡ []
  pub stays : AllPairs (λ earlier later. earlier.1 ≡ None → later.1 ≡ None) calls

-- a call, by what `view` reads of its item
abbrev pub call_seen : {A B : Type 0} → (A → B) → Call A → Call B
call_seen view call = (call.0, option_map view call.1)

-- by what `next` and `next_back` ensure
module _ {S A : Type 0} (next next_back : S → Option A → S → Type 0) where
  abbrev pub IsCall : S → Call A → S → Type 0
  IsCall s (front, answer) t = next s answer t
  IsCall s (back, answer) t = next_back s answer t

  -- calls in turn lead from one state to another
  abbrev pub AreCalls : S → List (Call A) → S → Type 0
  AreCalls s [] t = s ≡ t
  AreCalls s (call ∷ later) t = (u : S) × IsCall s call u × AreCalls u later t

  -- however calls at both ends are mixed, they take what is left
  abbrev pub MixturesTake : (S → List A) → Type 0
  MixturesTake left = (s t : S) (calls : List (Call A)) → AreCalls s calls t → AreTaken (left s) calls (left t)

  -- the same of a list that has what `view` reads of each item
  abbrev pub MixturesTakeBy : {B : Type 0} → (A → B) → (S → List B) → Type 0
  MixturesTakeBy view left =
      (s t : S) (calls : List (Call A)) → AreCalls s calls t → AreTaken (left s) (map (call_seen view) calls) (left t)

-- It is enough that each call takes the first or the last of what is left.
pub record MixturesAreTaken (S A B : Type 0) : Type 0 where
  pub items : (left : S → List A) → MixturesTake (YieldsFirst left) (YieldsLast left) left
  pub views : (view : A → B) (left : S → List B) → MixturesTakeBy (YieldsFirstBy view left) (YieldsLastBy view left) view left
