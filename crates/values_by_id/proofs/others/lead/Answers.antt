use Rattle.std.proofs.Common.{◌<◌, length, get_or, refl, arith}
use Rattle.std.proofs.lemmas.Option.{slice_get-get_or}
use Rattle.values_by_id.specs.Ways.{cell_at, number_of}
use Rattle.values_by_id.proofs.Led.{below_kept, below_set, split_by}
use Rattle.values_by_id.proofs.others.lead.Goals as goal

pub returns-in-None-clause-known : goal.returns-in-None-clause-known
returns-in-None-clause-known g c =
    let es = c.args.entries.now in
    let n = c.args.number in
    let now = c.make_first.new.self in
    below_set now c.set.new.self es n (below_kept c.args.trie.now now es n c.requires.known (λ q k h. c.in_ok-make_first.ensures.kept q k h))
    (number_of (cell_at now c.end-place.result)) (λ q k h o. c.set.ensures.others q k h o) (λ k less. c.in-None.ensures.none refl k less)

pub returns-in-Some-clause-known : goal.returns-in-Some-clause-known
returns-in-Some-clause-known g c =
    let es = c.args.entries.now in
    let n = c.args.number in
    let now = c.make_first.new.self in
    let within : c.in-Some.other < length es = omega (arith, c.in-Some.ensures.below, c.requires.within) in
    split_by c.split.result now c.split.new.self es n (below_kept c.args.trie.now now es n c.requires.known (λ q k h. c.in_ok-make_first.ensures.kept q k h))
    (number_of (cell_at now c.end-place.result)) c.in-Some.other (get_or es c.in-Some.other c.index-entries-other.result) c.split.ensures.others c.split.ensures.err c.in-Some.ensures.there
    (slice_get-get_or es c.in-Some.other c.index-entries-other.result within)
