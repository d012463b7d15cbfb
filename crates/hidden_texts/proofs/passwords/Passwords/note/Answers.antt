use Rattle.std.proofs.Common.{sym, subst, ◌∙◌}
use Rattle.hidden_texts.specs.declared.passwords.Passwords.{Passwords}
use Rattle.hidden_texts.specs.Hidden.{is_in_password}
use Rattle.hidden_texts.specs.Known.{AreRight}
use Rattle.hidden_texts.proofs.Memo.{noted}
use Rattle.hidden_texts.proofs.passwords.Passwords.note.Goals as goal

pub returns : goal.returns
returns c = λ w here right q found at.
    let old = c.args.self.now in
    let new : Passwords = record { known = c.insert.new.self } in
    let said = c.is_below_password-is_within.ensures (subst (λ v. AreRight v old) (sym here) right) in
    noted w old new c.id.result c.is_below_password-is_within.result c.in_ok-insert.ensures.updates (said ∙ (λ i. is_in_password (here i) (sym c.id.ensures i))) right q found at
