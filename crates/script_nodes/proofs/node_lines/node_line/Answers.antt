use Rattle.std.proofs.Common.{rules, ◌≡◌, None, Option, Some, ap, sym, ◌∙◌}
use Rattle.schema.specs.declared.Role.{Role}
use Rattle.script_nodes.specs.FieldMeaning.{node_means}
use Rattle.script_words.specs.Meaning.{onward}
use Rattle.script_words.specs.PartValues.{role_of}
use Rattle.script_words.specs.Reading.{unread}
use Rattle.script_nodes.proofs.FieldWords.{as_stopped, bad_line, no_id, no_role, node_meant, node_stopped}
use Rattle.script_words.proofs.WordCuts.{none_taken, one_taken}
use Rattle.script_nodes.proofs.node_lines.node_line.Goals as goal

pub returns-in_err-id : goal.returns-in_err-id
returns-in_err-id c =
    bad_line (node_means (unread c.args.words)) c.from_residual.result c.in_err-id.field-0.0 _ c.from_residual.ensures.1 c.in_err-id.ensures.takes.0 (no_id (unread c.args.words) c.in_err-id.ensures.takes.1)

pub returns-in_err-word : goal.returns-in_err-word
returns-in_err-word c =
    bad_line (node_means (unread c.args.words)) c.from_residual-in_err-word.result c.in_err-word.field-0.0 _ c.from_residual-in_err-word.ensures.1 c.in_err-word.ensures.takes.0
    (no_role (unread c.args.words) (unread c.id.new.self) c.in_ok-id.id c.in_ok-id.ensures.takes (none_taken role_of (unread c.id.new.self) c.in_err-word.ensures.takes.1))

pub returns-in_err-role : goal.returns-in_err-role
returns-in_err-role c =
    let is : None ≡ role_of c.in_ok-word.field-0.now = search rules in
    let none = no_role (unread c.args.words) (unread c.id.new.self) c.in_ok-id.id c.in_ok-id.ensures.takes
    (one_taken role_of (unread c.id.new.self) (unread c.word.new.self) c.in_ok-word.field-0.now c.in_ok-word.ensures.takes ∙ ap (λ (o : Option Role). onward o (λ role. Some (role, unread c.word.new.self))) (sym is)) in
    search rules

pub returns-in_err-node : goal.returns-in_err-node
returns-in_err-node c =
    let is : Some c.in_ok-role.role ≡ role_of c.in_ok-word.field-0.now = search rules in
    as_stopped (node_means (unread c.args.words)) c.from_residual-in_err-node.result c.in_err-node.field-0.0 _ c.from_residual-in_err-node.ensures.1
    (node_stopped (unread c.args.words) (unread c.id.new.self) (unread c.word.new.self) c.in_ok-id.id c.in_ok-role.role c.in_ok-id.ensures.takes
    (one_taken role_of (unread c.id.new.self) (unread c.word.new.self) c.in_ok-word.field-0.now c.in_ok-word.ensures.takes ∙ ap (λ (o : Option Role). onward o (λ role. Some (role, unread c.word.new.self))) (sym is))
    c.in_err-node.field-0.0 _ _ c.in_err-node.ensures)

pub returns : goal.returns
returns c =
    let is : Some c.in_ok-role.role ≡ role_of c.in_ok-word.field-0.now = search rules in
    node_meant (unread c.args.words) (unread c.id.new.self) (unread c.word.new.self) c.in_ok-id.id c.in_ok-role.role c.in_ok-id.ensures.takes
    (one_taken role_of (unread c.id.new.self) (unread c.word.new.self) c.in_ok-word.field-0.now c.in_ok-word.ensures.takes ∙ ap (λ (o : Option Role). onward o (λ role. Some (role, unread c.word.new.self))) (sym is))
    c.in_ok-node.node c.in_ok-node.ensures
