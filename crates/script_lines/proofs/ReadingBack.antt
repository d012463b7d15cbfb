-- A script reads back as its commands: a reader before a line that is written goes on past it as it says.
use Rattle.std.proofs.Common.{◌≡◌, ◌≢◌, ℕ, List, [], ◌∷◌, ◌++◌, All, Bool, codes, flat_map, Option, Some, None, option_map, Result, Ok, Err, ⊎_elim, refl, sym, ap, subst, ◌∙◌, append_assoc, append-nil}
use Rattle.std.specs.Io.BufRead.{drop_through, strip_last, take_through}
use Rattle.std.proofs.BufReadLemmas.{drop_through-append, take_through-append}
use Rattle.std.proofs.lemmas.List.Elements.{All-from_get_or, All-head, All-tail}
use Rattle.std.proofs.lemmas.Option.{none-some, same_Some}
use Rattle.std.proofs.lemmas.Str.{IsUtf8-append}
use Rattle.std.specs.Str.{IsUtf8}
use Rattle.model.specs.declared.queries.Query.{Query}
use Rattle.schema.specs.NodeData.{NodeData}
use Rattle.schema.specs.UpdateData.{UpdateData}
use Rattle.schema.specs.declared.NodeId.{NodeId}
use Rattle.script_lines.specs.Commands.{Said, Sends, Turns, Prints, Asks, said}
use Rattle.script_lines.specs.InputLines.{ReadsAs, ReadsLine, without_end}
use Rattle.script_lines.specs.LineReading.{BeginsUpdate, IsHead}
use Rattle.script_lines.specs.Lines.{entry_line, head_args, host_text, said_lines}
use Rattle.script_lines.specs.NodeMeaning.{IsNodeLine}
use Rattle.script_nodes.specs.FieldMeaning.{node_means}
use Rattle.script_nodes.specs.NodeReading.{IsNode, node_args}
use Rattle.script_nodes.specs.NodeText.{node_line, node_text}
use Rattle.script_lines.specs.Questions.{IsQuery, question_text}
use Rattle.script_words.specs.Reading.{IsId, Lacks}
use Rattle.script_lines.specs.ReadingBack.{IsEntry, IsSaid, ReadsBack, script_text}
use Rattle.script_lines.specs.ScriptReading.{GoesTo, IsBadNext, IsPlace, Passes, Place, Steps, place}
use Rattle.script_lines.specs.Taking.{Taken, begun_of, goes_on, taken, with_entry}
use Rattle.script_lines.specs.declared.lines.Line.{Line}
use Rattle.script_lines.specs.declared.lines.Line.TheVariants as says
use Rattle.script_lines.specs.declared.reader.ScriptCommand.{ScriptCommand}
use Rattle.script_lines.specs.declared.reader.ScriptReader.{ScriptReader}
use Rattle.script_words.specs.declared.stops.Stop.{Stop}
use Rattle.script_words.specs.declared.stops.Stop.TheVariants.{BadLine, Memory, ReadFault, WriteFault}
use Rattle.script_lines.proofs.Places.{Answers as PlaceAnswers}
use Rattle.script_lines.proofs.WrittenHeads.{head_written}
use Rattle.script_lines.proofs.WrittenLines.{IsPlain, end_plain, end_written, host_plain, host_written, print_plain, print_written, question_plain, question_written}
use Rattle.script_lines.specs.LineMeaning.{plain_line_means}
use Rattle.script_words.specs.Cuts.{part_before, rest_behind}
use Rattle.script_words.specs.Meaning.{Answers}
use Rattle.script_lines.proofs.LineEnds.{strip_kept, strip_pushed}
use Rattle.script_lines.proofs.LineWords.{node_is_line_word, node_line_parts}
use Rattle.script_words.proofs.LineTexts.{IsLineText, line_by, newline_utf8}
use Rattle.script_nodes.proofs.NodeLines.{node_text_line}
use Rattle.script_nodes.proofs.WrittenNodes.{node_written}
use Rattle.script_words.proofs.WrittenValues.{part_of, rest_of}
use Rattle.script_lines.proofs.CommandLines.{head_line, host_text_line, question_text_line}

-- ---- the line before a reader

first_line : (text rest left : List ℕ) → Lacks 10 text → left ≡ text ++ 10 ∷ rest → take_through 10 left ≡ text ++ 10 ∷ []
first_line text rest left lacks e = ap (take_through 10) e ∙ take_through-append 10 text (10 ∷ rest) (All-from_get_or (λ x. x ≢ 10) text 0 lacks)

after_line : (text rest left : List ℕ) → Lacks 10 text → left ≡ text ++ 10 ∷ rest → drop_through 10 left ≡ rest
after_line text rest left lacks e = ap (drop_through 10) e ∙ drop_through-append 10 text (10 ∷ rest) (All-from_get_or (λ x. x ≢ 10) text 0 lacks)

some_left : (text rest : List ℕ) → text ++ 10 ∷ rest ≢ []
some_left [] rest e = cc
some_left (x ∷ text) rest e = cc

line_text : (text : List ℕ) → IsLineText text → without_end (text ++ 10 ∷ []) ≡ text
line_text text h = ap (strip_last 13) (strip_pushed 10 text) ∙ strip_kept 13 text h.1

reads_text : (text rest left : List ℕ) (result : Result Line Stop) → IsLineText text → left ≡ text ++ 10 ∷ rest → ReadsLine (take_through 10 left) result → ReadsAs text result
reads_text text rest left result h e r =
    let line = first_line text rest left h.0 e in
    ⊎_elim
    (λ bad. absurd (bad.1 (subst IsUtf8 (sym line) (IsUtf8-append text (10 ∷ []) h.2 newline_utf8))))
    (λ good. subst (λ t. ReadsAs t result) (ap without_end line ∙ line_text text h) good.1)
    r

-- whatever is read of the line does this
abbrev IsSure : List ℕ → Option UpdateData → Taken → Type 0
IsSure text begun t = ((line : Line) → ReadsAs text (Ok line) → taken begun line ≡ Some t) × (ReadsAs text (Err BadLine) → ⊥)

-- the command and what is left after it
abbrev Back : Said → List ℕ → Result (Option ScriptCommand) Stop → Place → Type 0
Back c rest (Ok read) next = (option_map said read ≡ Some c) × (next.left ≡ rest)
Back c rest (Err stop) next = stop ≢ BadLine

module _ (text rest : List ℕ) (at : Place) (h : IsLineText text) (e : at.left ≡ text ++ 10 ∷ rest) where
  step_takes : (t : Taken) (line : Line) (given : Option Said) (next : Place) → IsSure text at.begun t → Steps at line given next → t ≡ record { gives = given; begun = next.begun }
  step_takes t line given next sure s = same_Some t (record { gives = given; begun = next.begun }) (sym (sure.0 line (reads_text text rest at.left (Ok line) h e s.reads)) ∙ s.takes)

  step_left : (line : Line) (given : Option Said) (next : Place) → Steps at line given next → next.left ≡ rest
  step_left line given next s = s.left ∙ after_line text rest at.left h.0 e

  not_at_end : at.left ≢ []
  not_at_end none = some_left text rest (sym e ∙ none)

  -- the line is not bad
  not_bad : (t : Taken) → IsSure text at.begun t → (number : ℕ) → IsBadNext at number → ⊥
  not_bad t sure number bad = ⊎_elim
      (λ b. sure.1 (reads_text text rest at.left (Err BadLine) h e b))
      (λ out. none-some t (sym out.2 ∙ sure.0 out.0 (reads_text text rest at.left (Ok out.0) h e out.1)))
      bad.2

  -- a line that gives a command
  pub last_line : (c : Said) (result : Result (Option ScriptCommand) Stop) (next : Place) → IsSure text at.begun (record { gives = Some c; begun = None }) → GoesTo at result next → Back c rest result next
  unfolding Passes
  last_line c (Ok (Some command)) next sure (mid, line, ([], same), s) =
      let here : Steps at line (Some (said command)) next = subst (λ m. Steps m line (Some (said command)) next) same s in
      let t = step_takes (record { gives = Some c; begun = None }) line (Some (said command)) next sure here in
      (sym (ap (λ (x : Taken). x.gives) t), step_left line (Some (said command)) next here)
  last_line c (Ok (Some command)) next sure (mid, line, (first ∷ others, p), s) = absurd (none-some c (sym (ap (λ (x : Taken). x.gives) (step_takes (record { gives = Some c; begun = None }) first None p.0 sure p.1))))
  last_line c (Ok None) next sure (([], same), end, whole) = absurd (not_at_end (sym (ap (λ (x : Place). x.left) same) ∙ end))
  last_line c (Ok None) next sure ((first ∷ others, p), end, whole) = absurd (none-some c (sym (ap (λ (x : Taken). x.gives) (step_takes (record { gives = Some c; begun = None }) first None p.0 sure p.1))))
  last_line c (Err BadLine) next sure (mid, ([], same), bad) = absurd (⊎_elim
      (λ inside. not_at_end (sym (ap (λ (x : Place). x.left) same) ∙ inside.0))
      (λ b. not_bad (record { gives = Some c; begun = None }) sure next.number (subst (λ m. IsBadNext m next.number) same b))
      bad)
  last_line c (Err BadLine) next sure (mid, (first ∷ others, p), bad) = absurd (none-some c (sym (ap (λ (x : Taken). x.gives) (step_takes (record { gives = Some c; begun = None }) first None p.0 sure p.1))))
  last_line c (Err Memory) next sure r = λ s. cc
  last_line c (Err ReadFault) next sure r = λ s. cc
  last_line c (Err WriteFault) next sure r = λ s. cc

  -- a line after which the reader goes on
  pub line_passed : (begun : Option UpdateData) (c : Said) (left : List ℕ) (result : Result (Option ScriptCommand) Stop) (next : Place) → IsSure text at.begun (record { gives = None; begun = begun })
      → ((mid : Place) → mid.left ≡ rest → mid.begun ≡ begun → GoesTo mid result next → Back c left result next) → GoesTo at result next → Back c left result next
  unfolding Passes
  line_passed begun c left (Ok (Some command)) next sure on (mid, line, ([], same), s) =
      let here : Steps at line (Some (said command)) next = subst (λ m. Steps m line (Some (said command)) next) same s in
      absurd (none-some (said command) (ap (λ (x : Taken). x.gives) (step_takes (record { gives = None; begun = begun }) line (Some (said command)) next sure here)))
  line_passed begun c left (Ok (Some command)) next sure on (mid, line, (first ∷ others, p), s) =
      on p.0 (step_left first None p.0 p.1) (sym (ap (λ (x : Taken). x.begun) (step_takes (record { gives = None; begun = begun }) first None p.0 sure p.1))) (mid, line, (others, p.2), s)
  line_passed begun c left (Ok None) next sure on (([], same), end, whole) = absurd (not_at_end (sym (ap (λ (x : Place). x.left) same) ∙ end))
  line_passed begun c left (Ok None) next sure on ((first ∷ others, p), end, whole) =
      on p.0 (step_left first None p.0 p.1) (sym (ap (λ (x : Taken). x.begun) (step_takes (record { gives = None; begun = begun }) first None p.0 sure p.1))) ((others, p.2), end, whole)
  line_passed begun c left (Err BadLine) next sure on (mid, ([], same), bad) = absurd (⊎_elim
      (λ inside. not_at_end (sym (ap (λ (x : Place). x.left) same) ∙ inside.0))
      (λ b. not_bad (record { gives = None; begun = begun }) sure next.number (subst (λ m. IsBadNext m next.number) same b))
      bad)
  line_passed begun c left (Err BadLine) next sure on (mid, (first ∷ others, p), bad) =
      on p.0 (step_left first None p.0 p.1) (sym (ap (λ (x : Taken). x.begun) (step_takes (record { gives = None; begun = begun }) first None p.0 sure p.1))) (mid, (others, p.2), bad)
  line_passed begun c left (Err Memory) next sure on r = λ s. cc
  line_passed begun c left (Err ReadFault) next sure on r = λ s. cc
  line_passed begun c left (Err WriteFault) next sure on r = λ s. cc

-- ---- what is read of each line

abbrev read : Line → Result Line Stop
read line = Ok line

abbrev stopped : Stop → Result Line Stop
stopped stop = Err stop

-- a line without fields is read as what it means
plain_sure : (text : List ℕ) (meant : Line) (begun : Option UpdateData) (t : Taken) → IsPlain text → plain_line_means text ≡ Some meant → taken begun meant ≡ Some t → IsSure text begun t
plain_sure text meant begun t plain e is = (
  (λ line r. ap (taken begun) (same_Some line meant (sym (r.plain plain.0 plain.1) ∙ e)) ∙ is),
  (λ r. none-some meant (sym (r.plain plain.0 plain.1).1 ∙ e)),
)

print_sure : IsSure (codes "print") None (record { gives = Some Prints; begun = None })
print_sure = plain_sure (codes "print") says.Print None (record { gives = Some Prints; begun = None }) print_plain print_written refl

host_sure : (b : Bool) → IsSure (host_text b) None (record { gives = Some (Turns b); begun = None })
host_sure b = plain_sure (host_text b) (says.HostFocus b) None (record { gives = Some (Turns b); begun = None }) (host_plain b) (host_written b) refl

query_sure : (q : Query) → IsQuery q → IsSure (question_text q) None (record { gives = Some (Asks q); begun = None })
query_sure q h = plain_sure (question_text q) (says.Query q) None (record { gives = Some (Asks q); begun = None }) (question_plain q) (question_written q h) refl

end_sure : (u : UpdateData) → IsSure (codes "end") (Some u) (record { gives = Some (Sends u); begun = None })
end_sure u = plain_sure (codes "end") says.End (Some u) (record { gives = Some (Sends u); begun = None }) end_plain end_written refl

head_sure : (u : UpdateData) → IsHead u → u.nodes ≡ [] → IsSure (codes "update " ++ head_args u) None (record { gives = None; begun = Some u })
unfolding part_before rest_behind
head_sure u h none = (
  (λ line r.
      let k = subst (λ o. Answers o (read line) BeginsUpdate) (head_written u h none) (r.update refl) in
      ap (taken None) k.2.1 ∙ ap (λ v. goes_on (Some v)) (k.2.2 ∙ sym (same_Some u k.0 k.1))),
  (λ r. none-some u (sym (subst (λ o. Answers o (stopped BadLine) BeginsUpdate) (head_written u h none) (r.update refl)))),
)

node_sure : (u : UpdateData) (id : NodeId) (n : NodeData) → IsId id → IsNode n → IsSure (node_text id n) (Some u) (record { gives = None; begun = Some (with_entry u id n) })
node_sure u id n hi hn =
    let args = Some (node_args id n) in
    let word : part_before 32 (node_text id n) ≡ codes "node" = ap (part_before 32) (node_line_parts id n) ∙ part_of 32 (codes "node") args node_is_line_word.0.0 in
    let behind : node_means (rest_behind 32 (node_text id n)) ≡ Some (id, n) =
    ap (λ t. node_means (rest_behind 32 t)) (node_line_parts id n) ∙ ap node_means (rest_of 32 (codes "node") args node_is_line_word.0.0) ∙ node_written id n hi hn in (
      (λ line r.
          let k = subst (λ o. Answers o (read line) IsNodeLine) behind (r.node word) in
          let same = same_Some {A = NodeId × NodeData} (id, n) k.0 k.1 in
          ap (taken (Some u)) (k.2 ∙ ap (λ (entry : NodeId × NodeData). says.Node entry.0 entry.1) (sym same))),
      (λ r. none-some (id, n) (sym (subst (λ o. Answers o (stopped BadLine) IsNodeLine) behind (r.node word)))),
    )

-- ---- the lines of an update, after its head

with_nodes : UpdateData → List (NodeId × NodeData) → UpdateData
with_nodes u nodes = record u { nodes = u.nodes ++ nodes }

nodes_back : (nodes : List (NodeId × NodeData)) (u : UpdateData) (at next : Place) (rest : List ℕ) (result : Result (Option ScriptCommand) Stop) → All IsEntry nodes → at.begun ≡ Some u
    → at.left ≡ flat_map entry_line nodes ++ (codes "end" ++ 10 ∷ rest) → GoesTo at result next → Back (Sends (with_nodes u nodes)) rest result next
unfolding with_nodes node_line
nodes_back [] u at next rest result h b e r =
    let whole : u ≡ record u { nodes = u.nodes ++ [] } = ap (λ ns. record u { nodes = ns }) (sym (append-nil u.nodes)) in
    last_line (codes "end") rest at (line_by (codes "end") refl) e (Sends (record u { nodes = u.nodes ++ [] })) result next
    (subst (λ v. IsSure (codes "end") at.begun (record { gives = Some (Sends v); begun = None })) whole (subst (λ o. IsSure (codes "end") o (record { gives = Some (Sends u); begun = None })) (sym b) (end_sure u))) r
nodes_back (entry ∷ nodes) u at next rest result h b e r =
    let here = All-head IsEntry entry nodes h in
    let more = with_entry u entry.0 entry.1 in
    let tail = flat_map entry_line nodes ++ (codes "end" ++ 10 ∷ rest) in
    let cut : at.left ≡ node_text entry.0 entry.1 ++ 10 ∷ tail =
    e ∙ append_assoc (node_text entry.0 entry.1 ++ codes "\n") (flat_map entry_line nodes) (codes "end" ++ 10 ∷ rest) ∙ append_assoc (node_text entry.0 entry.1) (codes "\n") tail in
    let whole : record more { nodes = more.nodes ++ nodes } ≡ record u { nodes = u.nodes ++ (entry ∷ nodes) } = ap (λ ns. record u { nodes = ns }) (append_assoc u.nodes (entry ∷ []) nodes) in
    line_passed (node_text entry.0 entry.1) tail at (node_text_line entry.0 entry.1 here.0 here.1) cut (Some more) (Sends (record u { nodes = u.nodes ++ (entry ∷ nodes) })) rest result next
    (subst (λ o. IsSure (node_text entry.0 entry.1) o (record { gives = None; begun = Some more })) (sym b) (node_sure u entry.0 entry.1 here.0 here.1))
    (λ mid l begun on. subst (λ v. Back (Sends v) rest result next) whole (nodes_back nodes more mid next rest result (All-tail IsEntry entry nodes h) begun l on)) r

-- ---- a command, and a script

said_back : (c : Said) (at next : Place) (rest : List ℕ) (result : Result (Option ScriptCommand) Stop) → IsSaid c → at.begun ≡ None → at.left ≡ said_lines c ++ rest → GoesTo at result next → Back c rest result next
unfolding with_nodes
said_back Prints at next rest result h b e r =
    last_line (codes "print") rest at (line_by (codes "print") refl) e Prints result next (subst (λ o. IsSure (codes "print") o (record { gives = Some Prints; begun = None })) (sym b) print_sure) r
said_back (Turns is_focused) at next rest result h b e r =
    last_line (host_text is_focused) rest at (host_text_line is_focused) (e ∙ append_assoc (host_text is_focused) (codes "\n") rest) (Turns is_focused) result next
    (subst (λ o. IsSure (host_text is_focused) o (record { gives = Some (Turns is_focused); begun = None })) (sym b) (host_sure is_focused)) r
said_back (Asks q) at next rest result h b e r =
    last_line (question_text q) rest at (question_text_line q h) (e ∙ append_assoc (question_text q) (codes "\n") rest) (Asks q) result next
    (subst (λ o. IsSure (question_text q) o (record { gives = Some (Asks q); begun = None })) (sym b) (query_sure q h)) r
said_back (Sends u) at next rest result h b e r =
    let head = codes "update " ++ head_args u in
    let tail = flat_map entry_line u.nodes ++ (codes "end" ++ 10 ∷ rest) in
    let cut : at.left ≡ head ++ 10 ∷ tail =
    e ∙ append_assoc (head ++ codes "\n" ++ flat_map entry_line u.nodes) (codes "end\n") rest ∙ append_assoc (head ++ codes "\n") (flat_map entry_line u.nodes) (codes "end" ++ 10 ∷ rest) ∙ append_assoc head (codes "\n") tail in
    let bare : UpdateData = record u { nodes = [] } in
    line_passed head tail at (head_line u h.0) cut (Some bare) (Sends u) rest result next
    (subst (λ o. IsSure head o (record { gives = None; begun = Some bare })) (sym b) (head_sure bare h.0 refl))
    (λ mid l begun on. nodes_back u.nodes bare mid next rest result h.1 begun l on) r

nothing_back : (at next : Place) (result : Result (Option ScriptCommand) Stop) → at.begun ≡ None → at.left ≡ [] → GoesTo at result next → ReadsBack [] result (Some next.left)
unfolding Passes
nothing_back at next (Ok (Some command)) b e (mid, line, ([], same), s) = absurd (s.some (ap (λ (x : Place). x.left) same ∙ e))
nothing_back at next (Ok (Some command)) b e (mid, line, (first ∷ others, p), s) = absurd (p.1.some e)
nothing_back at next (Ok None) b e (passed, end, whole) = (refl, ap Some end)
nothing_back at next (Err BadLine) b e (mid, ([], same), bad) = absurd (⊎_elim (λ inside. inside.1 (ap (λ (x : Place). x.begun) same ∙ b)) (λ k. k.0 (ap (λ (x : Place). x.left) same ∙ e)) bad)
nothing_back at next (Err BadLine) b e (mid, (first ∷ others, p), bad) = absurd (p.1.some e)
nothing_back at next (Err Memory) b e r = λ s. cc
nothing_back at next (Err ReadFault) b e r = λ s. cc
nothing_back at next (Err WriteFault) b e r = λ s. cc

as_script : (c : Said) (others : List Said) (result : Result (Option ScriptCommand) Stop) (next : Place) → Back c (script_text others) result next → ReadsBack (c ∷ others) result (Some next.left)
as_script c others (Ok read) next k = (k.0, ap Some k.1)
as_script c others (Err stop) next k = k

pub script_back : (commands : List Said) (at next : Place) (result : Result (Option ScriptCommand) Stop) → All IsSaid commands → at.begun ≡ None → at.left ≡ script_text commands → GoesTo at result next → ReadsBack commands result (Some next.left)
script_back [] at next result h b e r = nothing_back at next result b e r
script_back (c ∷ others) at next result h b e r = as_script c others result next (said_back c at next (script_text others) result (All-head IsSaid c others h) b e r)

-- what is left, where the reader may go on
left_there : (commands : List Said) (result : Result (Option ScriptCommand) Stop) (next : Place) (reader : ScriptReader) (after : Option (List ℕ)) → ReadsBack commands result (Some next.left) → IsPlace next result reader after → ReadsBack commands result after
left_there commands (Err stop) next reader after b p = b
left_there [] (Ok read) next reader after b p = (b.0, p.1.1 ∙ b.1)
left_there (c ∷ others) (Ok read) next reader after b p = (b.0, p.1.1 ∙ b.1)

-- as a reader's contract has it
pub reads_back : (before after : Option (List ℕ)) (first reader : ScriptReader) (result : Result (Option ScriptCommand) Stop) → PlaceAnswers before first result reader after
    → (commands : List Said) → All IsSaid commands → begun_of first ≡ None → before ≡ Some (script_text commands) → ReadsBack commands result after
reads_back before after first reader result answers commands h none e =
    let k = subst (λ o. PlaceAnswers o first result reader after) e answers in
    left_there commands result k.0 reader after (script_back commands (place first (script_text commands)) k.0 result h none refl k.1) k.2
