use Rattle.std.proofs.Common.{rules, refl, ◌∙◌, None, Some}
use Rattle.std.specs.Fmt.{decimal}
use Rattle.script_words.proofs.CommaWords.{byte_lacks_comma}
use Rattle.script_words.specs.PartValues.{two_bytes_of}
use Rattle.script_words.specs.WordValues.{byte_of}
use Rattle.script_words.proofs.PartMeanings.{no_first, no_parts, no_second, two_parts}
use Rattle.script_words.proofs.WordMeanings.{byte_is}
use Rattle.script_words.proofs.word_lists.two_bytes.Goals as goal

pub returns-in_err-first-clause-reads : goal.returns-in_err-first-clause-reads
returns-in_err-first-clause-reads c = λ first second h hs e. absurd (c.in_err-first.ensures.reads (decimal first) (decimal second) (byte_lacks_comma first h) e)

pub returns-in_err-byte-clause-reads : goal.returns-in_err-byte-clause-reads
returns-in_err-byte-clause-reads c = λ first second h hs e.
    let k = c.in_ok-first.ensures.reads (decimal first) (decimal second) (byte_lacks_comma first h) e in
    let l = c.in_err-byte.ensures.reads first h k.0 in cc

pub returns-in_err-byte-2-clause-reads : goal.returns-in_err-byte-2-clause-reads
returns-in_err-byte-2-clause-reads c = λ first second h hs e.
    let k = c.in_ok-first.ensures.reads (decimal first) (decimal second) (byte_lacks_comma first h) e in
    let l = c.in_err-byte-2.ensures.reads second hs k.1 in cc

pub returns-clause-reads : goal.returns-clause-reads
returns-clause-reads c = λ first second h hs e.
    let k = c.in_ok-first.ensures.reads (decimal first) (decimal second) (byte_lacks_comma first h) e in
    let l = c.in_ok-byte.ensures.reads first h k.0 in
    let m = c.in_ok-byte-2.ensures.reads second hs k.1 in search rules

pub returns-clause-only : goal.returns-clause-only
returns-clause-only c =
    let first = (c.in_ok-byte.ensures.exact c.in_ok-byte.field-0).0 refl in
    let second = (c.in_ok-byte-2.ensures.exact c.in_ok-byte-2.field-0).0 refl in
    (first.0, second.0, (c.in_ok-first.first.now, c.in_ok-first.second.now, c.in_ok-first.ensures.only, first.1, second.1))

pub returns-in_err-first-clause-means : goal.returns-in_err-first-clause-means
unfolding two_bytes_of
returns-in_err-first-clause-means c = c.from_residual.ensures ∙ no_parts 44 byte_of byte_of c.args.word.now c.in_err-first.ensures.parts

pub returns-in_err-byte-clause-means : goal.returns-in_err-byte-clause-means
unfolding two_bytes_of
returns-in_err-byte-clause-means c = c.from_residual-in_err-byte.ensures ∙ no_first 44 byte_of byte_of c.args.word.now c.in_ok-first.first.now c.in_ok-first.second.now c.in_ok-first.ensures.parts (byte_is c.in_ok-first.first.now None c.in_err-byte.ensures.exact)

pub returns-in_err-byte-2-clause-means : goal.returns-in_err-byte-2-clause-means
unfolding two_bytes_of
returns-in_err-byte-2-clause-means c = c.from_residual-in_err-byte-2.ensures ∙ no_second 44 byte_of byte_of c.args.word.now c.in_ok-first.first.now c.in_ok-first.second.now c.in_ok-first.ensures.parts (byte_is c.in_ok-first.second.now None c.in_err-byte-2.ensures.exact)

pub returns-clause-means : goal.returns-clause-means
unfolding two_bytes_of
returns-clause-means c = two_parts 44 byte_of byte_of c.args.word.now c.in_ok-first.first.now c.in_ok-first.second.now c.in_ok-first.ensures.parts _ _ (byte_is c.in_ok-first.first.now (Some c.in_ok-byte.field-0) c.in_ok-byte.ensures.exact) (byte_is c.in_ok-first.second.now (Some c.in_ok-byte-2.field-0) c.in_ok-byte-2.ensures.exact)
