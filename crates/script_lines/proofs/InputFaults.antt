-- What stops a reading, and why.
use Rattle.std.proofs.Common.{◌≡◌, ◌≢◌, ℕ, List, Option, Some, None, Result, Ok, Err, IfSome, MatchOption, codes, [], ◌⊎◌, ⊎_elim, inl, inr, ap, refl, subst, sym, ◌∙◌}
use Rattle.schema.specs.UpdateData.{UpdateData}
use Rattle.std.specs.Io.BufRead.{take_through}
use Rattle.std.specs.Str.{IsUtf8}
use Rattle.script_lines.specs.InputLines.{HasFailed, ReadsAs, ReadsLine, ReadsNext, next_number, without_end}
use Rattle.script_lines.specs.HeadMeaning.{update_means}
use Rattle.script_lines.specs.LineReading.{BeginsUpdate}
use Rattle.script_lines.specs.NodeMeaning.{IsNodeLine}
use Rattle.script_lines.specs.Taking.{Taken, TakesAs}
use Rattle.script_nodes.specs.FieldMeaning.{node_means}
use Rattle.script_lines.specs.declared.line_reader.Looks.{Looks}
use Rattle.script_lines.specs.declared.lines.Line.{Line}
use Rattle.script_lines.specs.declared.lines.Line.TheVariants as says
use Rattle.script_lines.specs.declared.reader.ScriptCommand.{ScriptCommand}
use Rattle.script_words.specs.declared.stops.Stop.{Stop}
use Rattle.script_words.specs.declared.stops.Stop.TheVariants.{BadLine, Memory, ReadFault, WriteFault}
use Rattle.script_lines.proofs.FirstWords.{refused_by_word}
use Rattle.script_lines.proofs.LineWords.{node_is_line_word, update_is_line_word}

-- an input that had not failed before has failed since
pub later_failed : (before mid after : Looks) → mid.failures ≡ before.failures → HasFailed mid after → HasFailed before after
later_failed before mid after same failed = ⊎_elim (λ f. inl (f ∙ ap next_number same)) (λ l. inr l) failed

-- a line that is taken stops the reading for want of memory alone, or as a bad one
pub take_stops : (o : Option Taken) (r : Result (Option ScriptCommand) Stop) (begun : Option UpdateData) → TakesAs o r begun → r ≢ Err ReadFault
take_stops None r begun takes e = cc
take_stops (Some t) (Ok command) begun takes e = cc
take_stops (Some t) (Err stop) begun takes e = cc

pub end_stops : (begun : Option UpdateData) (r : Result (Option ScriptCommand) Stop) → MatchOption begun (r ≡ Ok None) (λ u. r ≡ Err BadLine) → r ≢ Err ReadFault
end_stops None r h e = cc
end_stops (Some u) r h e = cc

-- a line that stops its reading for another reason than want of memory is a bad one
pub refused_too : (text : List ℕ) (stop : Stop) → stop ≢ Memory → ReadsAs text (Err stop) → ReadsAs text (Err BadLine)
refused_too text stop other h = record {
  nothing = ((λ e. cc), (λ b. let no : Err stop ≡ Ok says.Nothing = h.nothing.1 b in cc));
  node = refused_by_word (codes "node") node_is_line_word node_means IsNodeLine text stop other h.node;
  plain = λ u n. let k = h.plain u n in (refl, k.1);
  update = refused_by_word (codes "update") update_is_line_word update_means BeginsUpdate text stop other h.update;
}

is_memory : (stop : Stop) → (stop ≡ Memory) ⊎ (stop ≢ Memory)
is_memory BadLine = inr (λ e. cc)
is_memory Memory = inl refl
is_memory ReadFault = inr (λ e. cc)
is_memory WriteFault = inr (λ e. cc)

-- so is what is made of that reason
pub line_stopped : (text : List ℕ) (stop made : Stop) → (stop ≡ Memory → made ≡ Memory) → (stop ≢ Memory → made ≡ BadLine) → ReadsAs text (Err stop) → ReadsAs text (Err made)
line_stopped text stop made memory bad h = ⊎_elim
    (λ m. subst (λ s. ReadsAs text (Err s)) (m ∙ sym (memory m)) h)
    (λ other. subst (λ s. ReadsAs text (Err s)) (sym (bad other)) (refused_too text stop other h))
    (is_memory stop)

pub no_read_fault : (stop made : Stop) → (stop ≡ Memory → made ≡ Memory) → (stop ≢ Memory → made ≡ BadLine) → made ≢ ReadFault
no_read_fault stop made memory bad = λ e. ⊎_elim
    (λ m. let wrong : Memory ≡ ReadFault = sym (memory m) ∙ e in cc)
    (λ other. let wrong : BadLine ≡ ReadFault = sym (bad other) ∙ e in cc)
    (is_memory stop)

-- a line with its end is read as it is without
pub line_reads : (bytes text line : List ℕ) (result : Result Line Stop) → IsUtf8 bytes → text ≡ bytes → line ≡ without_end text → ReadsAs line result → ReadsLine bytes result
line_reads bytes text line result utf8 is end reads = inr (utf8, subst (λ t. ReadsAs t result) (end ∙ ap without_end is) reads)

-- the line that the input begins with
pub next_reads : (before : Option (List ℕ)) (items line : List ℕ) (read : Line) → IfSome before (λ left. items ≡ take_through 10 left) → items ≢ [] → line ≡ items → ReadsLine line (Ok read)
    → IfSome before (λ bytes. ReadsNext bytes (Ok (Some read)))
next_reads None items line read is some same reads = tt
next_reads (Some bytes) items line read is some same reads = (λ none. some (is ∙ ap (take_through 10) none), subst (λ t. ReadsLine t (Ok read)) (same ∙ is) reads)
