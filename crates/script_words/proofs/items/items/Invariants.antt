use Rattle.std.proofs.Common.{◌≡◌, ◌∷◌, ◌++◌, Some, List, All, option_copied}
use Rattle.script_words.specs.Items.{list_text}
use Rattle.script_words.specs.SaysParts.{SaysItems}
use Rattle.script_words.specs.Words.{left}
use Rattle.script_words.proofs.CommaLists.{IsLeft}
use Rattle.script_words.proofs.PartMeanings.{IsReadUpTo}
use Rattle.script_words.proofs.items.items.Given as goal

abbrev pub decreases-loop-left : goal.decreases-loop-left
decreases-loop-left g l = left (option_copied l.left)

abbrev pub invariant-loop-left : goal.invariant-loop-left
invariant-loop-left g l = record {
  reads : (item : _) (others : List _) → g.T.Item.is_item item → All g.T.Item.is_item others → l.fn.word ≡ list_text g.T.Item.item_text item others → IsLeft g.T.Item.item_text g.T.Item.is_item (item ∷ others) l.items.items (option_copied l.left);
  only : (more : List _) → SaysItems g.T.Item.says (option_copied l.left) more → SaysItems g.T.Item.says (Some l.fn.word) (l.items.items ++ more);
  means : IsReadUpTo g.T.Item.value_of l.fn.word l.items.items (option_copied l.left);
}
