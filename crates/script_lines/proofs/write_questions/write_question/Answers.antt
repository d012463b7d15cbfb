use Rattle.script_lines.proofs.write_questions.write_question.Goals as goal

pub returns-in-PrecedingFiltered : goal.returns-in-PrecedingFiltered
returns-in-PrecedingFiltered g c = rw c.in-PrecedingFiltered.is c.write_asked_by_filter-in-PrecedingFiltered.ensures
