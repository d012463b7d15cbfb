use Rattle.std.proofs.Common.{sym, subst}
use Rattle.values_by_id.specs.Found.{AreApart}
use Rattle.values_by_id.proofs.Led.{apart_when_found}
use Rattle.values_by_id.proofs.others.Others.tidy.Goals as goal

pub trie_of-requires : goal.trie_of-requires
trie_of-requires g c = subst (λ l. AreApart l) (sym c.as_slice.ensures.value) (apart_when_found c.self.inside.trie c.self.inside.entries.items c.self.invariant)
