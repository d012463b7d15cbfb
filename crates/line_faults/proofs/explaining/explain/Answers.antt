use Rattle.line_faults.proofs.explaining.explain.Goals as goal

pub returns-in-Ok-clause-field_found : goal.returns-in-Ok-clause-field_found
returns-in-Ok-clause-field_found c = λ set utf8 h. c.text_fault.ensures.field_found set h
