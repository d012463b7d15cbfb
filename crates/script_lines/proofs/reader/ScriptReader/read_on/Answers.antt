use Rattle.std.proofs.Common.{◌≡◌, List, ℕ, Err, IfSome, None, Ok, Option, Result, Some, ap, arith, inl, inr, option_map, refl, rules, subst, sym, ◌∙◌}
use Rattle.std.specs.Io.BufRead.{take_through}
use Rattle.std.specs.Global.{Vec}
use Rattle.schema.specs.UpdateData.{UpdateData, update_data}
use Rattle.schema.specs.declared.update.TreeUpdate.{TreeUpdate}
use Rattle.script_lines.specs.Commands.{said}
use Rattle.script_lines.specs.Comments.{comment_after}
use Rattle.script_lines.specs.InputLines.{CountsLine, ReadsNext, without_end}
use Rattle.script_lines.specs.Taking.{TakesAs, begun_of, comment_of, number_of, taken}
use Rattle.script_lines.specs.declared.line_reader.LineReader.{LineReader}
use Rattle.script_lines.specs.declared.lines.Line.{Line}
use Rattle.script_lines.specs.declared.reader.ScriptCommand.{ScriptCommand}
use Rattle.script_lines.specs.declared.reader.ScriptReader.{ScriptReader}
use Rattle.script_words.specs.declared.stops.Stop.{Stop}
use Rattle.script_words.specs.declared.stops.Stop.TheVariants.{Memory, ReadFault}
use Rattle.script_lines.proofs.Places.{Answers, at_first, comes_whole, ended, err_is, gave, given_up, no_memory, refused, stopped_at, took, went_on}
use Rattle.script_lines.proofs.InputFaults.{end_stops, later_failed, take_stops}
use Rattle.script_lines.proofs.ReadingBack.{reads_back}
use Rattle.script_lines.proofs.reader.ScriptReader.read_on.Goals as goal

-- a line is read where the answer is one
read_line : (left : Option (List ℕ)) (o : Option Line) (line : Line) → o ≡ Some line → IfSome left (λ bytes. ReadsNext bytes (Ok o)) → IfSome left (λ bytes. ReadsNext bytes (Ok (Some line)))
read_line left o line is reads = subst (λ p. IfSome left (λ bytes. ReadsNext bytes (Ok p))) is reads

count_line : (before after : ℕ) (o : Option Line) (line : Line) → o ≡ Some line → CountsLine before (Ok o) after → CountsLine before (Ok (Some line)) after
count_line before after o line is counts = subst (λ p. CountsLine before (Ok p) after) is counts

-- an update that is begun is so also after the comment
takes_so : (line : Line) (result : Result (Option ScriptCommand) Stop) (after : Option UpdateData) {begun before : Option TreeUpdate} → begun ≡ before → TakesAs (taken (option_map update_data begun) line) result after → TakesAs (taken (option_map update_data before) line) result after
takes_so line result after same takes = subst (λ (b : Option TreeUpdate). TakesAs (taken (option_map update_data b) line) result after) same takes

-- what the line is to the comment, where its bytes are known
heard : (left : Option (List ℕ)) (line comment : List ℕ) (begun : Option UpdateData) (before : List ℕ) → IfSome left (λ bytes. line ≡ take_through 10 bytes) → comment ≡ comment_after begun before (without_end line)
    → IfSome left (λ bytes. comment ≡ comment_after begun before (without_end (take_through 10 bytes)))
heard None line comment begun before is noted = tt
heard (Some bytes) line comment begun before is noted = noted ∙ ap (λ l. comment_after begun before (without_end l)) is

pub reading-init : goal.reading-init
reading-init g c = (at_first (g.R.Read.remaining c.args.input.now) c.args.self.now, refl)

pub reading-preserved : goal.reading-preserved
reading-preserved g c =
    let none : c.in_ok-command.field-0 ≡ None = search rules in
    let line = c.in-Some.line in (
      went_on (g.R.Read.remaining c.args.input.now) c.args.self.now (g.R.Read.remaining c.reading.input) (g.R.Read.remaining c.next.new.input) c.reading.self c.take.new.self c.reading.invariant.0 line
          (read_line (g.R.Read.remaining c.reading.input) c.in_ok-line.field-0 line c.in-Some.is c.in_ok-line.ensures.reads)
          c.in_ok-line.ensures.rest
          (ap (λ (x : LineReader). x.number) (c.take.ensures.lines ∙ c.note_comment.ensures.lines) ∙ count_line _ _ c.in_ok-line.field-0 line c.in-Some.is c.in_ok-line.ensures.counts)
          (heard (g.R.Read.remaining c.reading.input) c.next.new.self.bytes.items (comment_of c.take.new.self) (begun_of c.reading.self) (comment_of c.reading.self) c.in_ok-line.ensures.bytes (ap (λ (x : Vec ℕ). x.items) c.take.ensures.comment ∙ c.in_ok-note_comment.ensures.noted))
          (took (taken (begun_of c.reading.self) line) (Ok c.in_ok-command.field-0) (begun_of c.take.new.self) None (takes_so _ _ _ c.note_comment.ensures.begun c.in_ok-command.ensures.takes) (ap Ok none)),
      ap (λ (x : LineReader). x.looks.failures) (c.take.ensures.lines ∙ c.note_comment.ensures.lines) ∙ c.in_ok-line.ensures.faults.1 (λ e. cc) ∙ c.reading.invariant.1,
    )

pub reading-smaller : goal.reading-smaller
reading-smaller g c =
    let line = c.in-Some.line in
    let k = ap (λ (x : LineReader). x.number) (c.take.ensures.lines ∙ c.note_comment.ensures.lines) ∙ count_line _ _ c.in_ok-line.field-0 line c.in-Some.is c.in_ok-line.ensures.counts in
    omega (arith, k, c.reading-test.true)

pub returns-in_err-line-clause-fault : goal.returns-in_err-line-clause-fault
returns-in_err-line-clause-fault g c = λ e.
    let both = sym (err_is c.from_residual.result c.in_err-line.field-0.0 c.from_residual.ensures.1) ∙ e in
    let fault : c.in_err-line.field-0.0 ≡ ReadFault = cc in
    inl (later_failed c.args.self.now.lines.looks c.reading.self.lines.looks c.next.new.self.looks c.reading.invariant.1 (c.in_err-line.ensures.faults.0 (ap Err fault)))

pub returns-in_default-clause-fault : goal.returns-in_default-clause-fault
returns-in_default-clause-fault g c = λ e. absurd (end_stops (begun_of c.reading.self) c.end.result c.end.ensures e)

pub returns-in_err-note_comment-clause-fault : goal.returns-in_err-note_comment-clause-fault
returns-in_err-note_comment-clause-fault g c = λ e.
    let memory : c.from_residual-in_err-note_comment.result ≡ Err Memory = err_is c.from_residual-in_err-note_comment.result c.in_err-note_comment.field-0.0 c.from_residual-in_err-note_comment.ensures.1 ∙ ap Err c.in_err-note_comment.ensures.noted in cc

pub returns-in_err-command-clause-fault : goal.returns-in_err-command-clause-fault
returns-in_err-command-clause-fault g c = λ e.
    absurd (take_stops _ _ _ c.in_err-command.ensures.takes (sym (err_is c.from_residual-in_err-command.result c.in_err-command.field-0.0 c.from_residual-in_err-command.ensures.1) ∙ e))

pub returns-clause-fault : goal.returns-clause-fault
returns-clause-fault g c = λ e. inr (omega (arith, c.reading-test.false))

pub returns-in-Some-2-clause-reads : goal.returns-in-Some-2-clause-reads
returns-in-Some-2-clause-reads g c =
    let line = c.in-Some.line in
    gave (g.R.Read.remaining c.args.input.now) c.args.self.now (g.R.Read.remaining c.reading.input) (g.R.Read.remaining c.next.new.input) c.reading.self c.take.new.self c.reading.invariant.0 line c.in-Some-2.command
    (read_line (g.R.Read.remaining c.reading.input) c.in_ok-line.field-0 line c.in-Some.is c.in_ok-line.ensures.reads)
    c.in_ok-line.ensures.rest
    (ap (λ (x : LineReader). x.number) (c.take.ensures.lines ∙ c.note_comment.ensures.lines) ∙ count_line _ _ c.in_ok-line.field-0 line c.in-Some.is c.in_ok-line.ensures.counts)
    (heard (g.R.Read.remaining c.reading.input) c.next.new.self.bytes.items (comment_of c.take.new.self) (begun_of c.reading.self) (comment_of c.reading.self) c.in_ok-line.ensures.bytes (ap (λ (x : Vec ℕ). x.items) c.take.ensures.comment ∙ c.in_ok-note_comment.ensures.noted))
    (took (taken (begun_of c.reading.self) line) (Ok c.in_ok-command.field-0) (begun_of c.take.new.self) (Some c.in-Some-2.command) (takes_so _ _ _ c.note_comment.ensures.begun c.in_ok-command.ensures.takes) (ap Ok c.in-Some-2.is))

pub returns-in_err-command-clause-reads : goal.returns-in_err-command-clause-reads
returns-in_err-command-clause-reads g c =
    let line = c.in-Some.line in
    let next = c.take.new.self in
    subst (λ (r : Result (Option ScriptCommand) Stop). Answers (g.R.Read.remaining c.args.input.now) c.args.self.now r next (g.R.Read.remaining c.next.new.input)) (sym (err_is c.from_residual-in_err-command.result c.in_err-command.field-0.0 c.from_residual-in_err-command.ensures.1))
    (refused (g.R.Read.remaining c.args.input.now) c.args.self.now (g.R.Read.remaining c.reading.input) (g.R.Read.remaining c.next.new.input) c.reading.self next c.reading.invariant.0 line c.in_err-command.field-0.0
    (read_line (g.R.Read.remaining c.reading.input) c.in_ok-line.field-0 line c.in-Some.is c.in_ok-line.ensures.reads)
    (ap (λ (x : LineReader). x.number) (c.take.ensures.lines ∙ c.note_comment.ensures.lines) ∙ count_line _ _ c.in_ok-line.field-0 line c.in-Some.is c.in_ok-line.ensures.counts)
    (takes_so _ _ _ c.note_comment.ensures.begun c.in_err-command.ensures.takes))

pub returns-in_err-line-clause-reads : goal.returns-in_err-line-clause-reads
returns-in_err-line-clause-reads g c =
    let next : ScriptReader = record { lines = c.next.new.self; begun = c.reading.self.begun; comment = c.reading.self.comment } in
    subst (λ (r : Result (Option ScriptCommand) Stop). Answers (g.R.Read.remaining c.args.input.now) c.args.self.now r next (g.R.Read.remaining c.next.new.input)) (sym (err_is c.from_residual.result c.in_err-line.field-0.0 c.from_residual.ensures.1))
    (stopped_at (g.R.Read.remaining c.args.input.now) c.args.self.now (g.R.Read.remaining c.reading.input) (g.R.Read.remaining c.next.new.input) c.reading.self next c.reading.invariant.0 c.in_err-line.field-0.0 c.in_err-line.ensures.reads c.in_err-line.ensures.counts)

pub returns-in_default-clause-reads : goal.returns-in_default-clause-reads
returns-in_default-clause-reads g c =
    let none : c.in_ok-line.field-0 ≡ None = search rules in
    let next : ScriptReader = record { lines = c.next.new.self; begun = c.reading.self.begun; comment = c.reading.self.comment } in
    let left = g.R.Read.remaining c.reading.input in
    ended (g.R.Read.remaining c.args.input.now) c.args.self.now (g.R.Read.remaining c.reading.input) (g.R.Read.remaining c.next.new.input) c.reading.self next c.reading.invariant.0 c.end.result
    (subst (λ (o : Option Line). IfSome left (λ bytes. ReadsNext bytes (Ok o))) none c.in_ok-line.ensures.reads)
    c.in_ok-line.ensures.rest
    (subst (λ (o : Option Line). CountsLine (number_of c.reading.self) (Ok o) (number_of next)) none c.in_ok-line.ensures.counts)
    refl refl c.end.ensures

pub returns-clause-reads : goal.returns-clause-reads
returns-clause-reads g c = given_up (g.R.Read.remaining c.args.input.now) c.args.self.now (g.R.Read.remaining c.reading.input) (g.R.Read.remaining c.reading.input) c.reading.self c.reading.self c.reading.invariant.0

pub returns-in_err-line-clause-reads_back : goal.returns-in_err-line-clause-reads_back
returns-in_err-line-clause-reads_back g c = reads_back (g.R.Read.remaining c.args.input.now) (g.R.Read.remaining c.next.new.input) c.args.self.now (record { lines = c.next.new.self; begun = c.reading.self.begun; comment = c.reading.self.comment }) c.from_residual.result (returns-in_err-line-clause-reads g c)

pub returns-in_default-clause-reads_back : goal.returns-in_default-clause-reads_back
returns-in_default-clause-reads_back g c = reads_back (g.R.Read.remaining c.args.input.now) (g.R.Read.remaining c.next.new.input) c.args.self.now (record { lines = c.next.new.self; begun = c.reading.self.begun; comment = c.reading.self.comment }) c.end.result (returns-in_default-clause-reads g c)

pub returns-in_err-command-clause-reads_back : goal.returns-in_err-command-clause-reads_back
returns-in_err-command-clause-reads_back g c = reads_back (g.R.Read.remaining c.args.input.now) (g.R.Read.remaining c.next.new.input) c.args.self.now c.take.new.self c.from_residual-in_err-command.result (returns-in_err-command-clause-reads g c)

pub returns-in-Some-2-clause-reads_back : goal.returns-in-Some-2-clause-reads_back
returns-in-Some-2-clause-reads_back g c = reads_back (g.R.Read.remaining c.args.input.now) (g.R.Read.remaining c.next.new.input) c.args.self.now c.take.new.self (Ok (Some c.in-Some-2.command)) (returns-in-Some-2-clause-reads g c)

pub returns-clause-reads_back : goal.returns-clause-reads_back
returns-clause-reads_back g c = reads_back (g.R.Read.remaining c.args.input.now) (g.R.Read.remaining c.reading.input) c.args.self.now c.reading.self (Err ReadFault) (returns-clause-reads g c)

pub returns-in-Some-2-clause-whole : goal.returns-in-Some-2-clause-whole
returns-in-Some-2-clause-whole g c =
    let begun = begun_of c.note_comment.new.self in
    let line = c.in-Some.line in
    comes_whole begun line (said c.in-Some-2.command) (begun_of c.take.new.self)
    (took (taken begun line) (Ok c.in_ok-command.field-0) (begun_of c.take.new.self) (Some c.in-Some-2.command) c.in_ok-command.ensures.takes (ap Ok c.in-Some-2.is))

pub returns-in_err-note_comment-clause-reads : goal.returns-in_err-note_comment-clause-reads
returns-in_err-note_comment-clause-reads g c =
    let next = c.note_comment.new.self in
    let memory : c.from_residual-in_err-note_comment.result ≡ Err Memory = err_is c.from_residual-in_err-note_comment.result c.in_err-note_comment.field-0.0 c.from_residual-in_err-note_comment.ensures.1 ∙ ap Err c.in_err-note_comment.ensures.noted in
    subst (λ (r : Result (Option ScriptCommand) Stop). Answers (g.R.Read.remaining c.args.input.now) c.args.self.now r next (g.R.Read.remaining c.next.new.input)) (sym memory)
    (no_memory (g.R.Read.remaining c.args.input.now) c.args.self.now (g.R.Read.remaining c.reading.input) (g.R.Read.remaining c.next.new.input) c.reading.self next c.reading.invariant.0)
