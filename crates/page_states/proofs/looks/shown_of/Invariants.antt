use Rattle.std.proofs.Common.{◌≡◌, map, take}
use Rattle.std.specs.Prelude.{All}
use Rattle.views.specs.ShownWorlds.{world_of}
use Rattle.page_states.specs.Looks.{place_shown, IsShownIn}
use Rattle.page_states.specs.Texts.{IsTold}
use Rattle.page_states.proofs.looks.shown_of.Given as goal

-- the value that was told is one of this world, and these are the nodes so far
abbrev pub invariant-loop-place : goal.invariant-loop-place
invariant-loop-place l = record {
  told : IsTold (world_of l.fn.state) l.told;
  places : map place_shown l.shown.items ≡ take l.place-index l.fn.places;
  looks : All (IsShownIn l.fn.frame) l.shown.items;
}
