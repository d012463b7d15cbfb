use Rattle.std.proofs.Common.{inl, inr}
use Rattle.page.proofs.Drawn.{kept_beginning}
use Rattle.page.proofs.Ended.{fault_status}
use Rattle.page.proofs.pager.PageProgram.run.Goals as goal

pub returns-in-Ok-clause-shows : goal.returns-in-Ok-clause-shows
returns-in-Ok-clause-shows g c = inr (record { head = g.O.Write.contents c.write_head.new.out; begins = c.in-Ok.ensures.written; pages = c.show_script.ensures.shows })

pub returns-in-Err-clause-shows : goal.returns-in-Err-clause-shows
returns-in-Err-clause-shows g c = inl (fault_status _ _ _ _ c.end_run.ensures.told, kept_beginning _ _ _ _ c.in-Err.ensures.cut c.end_run.ensures.printed)
