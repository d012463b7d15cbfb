use Rattle.std.proofs.Common.{◌≡◌, [], ◌∷◌, ◌++◌, append-nil, flat_map, refl, sym, ap, ◌∙◌, map-id, rules}
use Rattle.std.specs.Str.{chars}
use Rattle.std.proofs.Output.{has_written_append, has_written_of_eq}
use Rattle.std.proofs.lemmas.Grind.{flat_map-append}
use Rattle.std.proofs.lemmas.Iterator.{YieldsList-from_chars}
use Rattle.std.proofs.lemmas.Iterator.Consumers.{YieldsList-end}
use Rattle.phrases.specs.Quoted.{quoted_char}
use Rattle.phrases.proofs.quoted.InnerDisplay.fmt.Goals as goal

pub returns-clause-writes : goal.returns-clause-writes
returns-clause-writes g c =
    let end = YieldsList-end (YieldsList-from_chars c.text.result.now c.text.utf8 (search rules)) c.loop-c.yielded _ c.loop-c.yielded_by _ _ c.in-None.is c.next.ensures.steps in
    let same : c.loop-c.yielded ≡ chars c.args.self.now.0.now = sym (map-id c.loop-c.yielded) ∙ end.0 ∙ ap chars c.text.ensures in
    λ plain _. has_written_of_eq _ _ _ _ _ (ap (flat_map quoted_char) same) (c.loop-c.invariant plain)

pub loop-c-preserved : goal.loop-c-preserved
loop-c-preserved g c = λ plain.
    let before = c.loop-c.invariant plain in
    let next = c.in_ok-write.ensures.writes before.plain refl in
    let more = flat_map-append quoted_char c.loop-c.yielded (c.in-Some.c ∷ []) ∙ ap (λ text. flat_map quoted_char c.loop-c.yielded ++ text) (append-nil (quoted_char c.in-Some.c)) in
    has_written_of_eq _ _ _ _ _ (sym more) (has_written_append _ _ _ _ _ _ before next)
