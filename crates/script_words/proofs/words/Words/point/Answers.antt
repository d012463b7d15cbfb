use Rattle.std.proofs.Common.{rules, ◌++◌, Some}
use Rattle.std.specs.Fmt.{signed_decimal}
use Rattle.script_words.specs.Parts.{point_text}
use Rattle.script_words.specs.Reading.{after}
use Rattle.script_words.proofs.Cuts.{begins_two}
use Rattle.script_words.proofs.words.Words.point.Goals as goal

pub returns-in_err-x-clause-reads : goal.returns-in_err-x-clause-reads
unfolding point_text
returns-in_err-x-clause-reads c = λ point rest hx hy e.
    let k = c.signed.ensures.reads point.x (Some (signed_decimal point.y ++ after rest)) hx (begins_two _ (signed_decimal point.x) (signed_decimal point.y) rest e) in search rules

pub returns-in_err-y-clause-reads : goal.returns-in_err-y-clause-reads
unfolding point_text
returns-in_err-y-clause-reads c = λ point rest hx hy e.
    let k = c.signed.ensures.reads point.x (Some (signed_decimal point.y ++ after rest)) hx (begins_two _ (signed_decimal point.x) (signed_decimal point.y) rest e) in
    let l = c.signed-2.ensures.reads point.y rest hy k.1 in search rules

pub returns-clause-reads : goal.returns-clause-reads
unfolding point_text
returns-clause-reads c = λ point rest hx hy e.
    let k = c.signed.ensures.reads point.x (Some (signed_decimal point.y ++ after rest)) hx (begins_two _ (signed_decimal point.x) (signed_decimal point.y) rest e) in
    let l = c.signed-2.ensures.reads point.y rest hy k.1 in search rules
