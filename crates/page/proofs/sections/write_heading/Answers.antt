use Rattle.std.proofs.KnownBytes.{Appends-trans}
use Rattle.std.proofs.lemmas.Result.{on_ok_weaker}
use Rattle.page.specs.States.{heading_line, section_begun}
use Rattle.page.proofs.sections.write_heading.Goals as goal

pub returns : goal.returns
returns g c =
    let number = c.args.number in
    on_ok_weaker c.write_heading_line.result (Appends-trans _ _ _ (section_begun number) (heading_line number c.args.title.now) c.in_ok-write.ensures.bytes) c.write_heading_line.ensures
