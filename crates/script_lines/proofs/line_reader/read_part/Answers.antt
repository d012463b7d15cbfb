use Rattle.std.proofs.Common.{◌≡◌, ◌≢◌, ℕ, List, All, sym, subst}
use Rattle.std.proofs.Transfers.{drop-appended}
use Rattle.std.specs.Io.{IsEmptyOrEndsWith, StopsAt, appended_bytes}
use Rattle.script_lines.proofs.line_reader.read_part.Given
use Rattle.script_lines.proofs.line_reader.read_part.Goals as goal

-- the bytes that are added are those of the part
added : (g : Given.Over) (c : goal.After-consume g) → appended_bytes c.args.bytes.now.items c.extend_from_slice.new.self.items ≡ c.line_part-is_done.result.0.now
added g c = drop-appended c.args.bytes.now.items c.extend_from_slice.new.self.items c.line_part-is_done.result.0.now c.in_ok-extend_from_slice.ensures.items

pub returns-clause-ended : goal.returns-clause-ended
returns-clause-ended g c = λ e.
    let Ended : List ℕ → Type 0 = λ bytes. StopsAt bytes 10 × IsEmptyOrEndsWith bytes 10 in
    subst Ended (sym (added g c)) (c.line_part-is_done.ensures.ended cc)

pub returns-clause-goes_on : goal.returns-clause-goes_on
returns-clause-goes_on g c = λ e.
    let NoEnd : List ℕ → Type 0 = λ bytes. All (λ byte. byte ≢ 10) bytes in
    subst NoEnd (sym (added g c)) (c.line_part-is_done.ensures.goes_on cc)
