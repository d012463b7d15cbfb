use Rattle.std.proofs.Common.{◌≡◌, ℕ, List, Option, Some, option_map, ⊎_elim, refl, ap, subst, sym, ◌∙◌}
use Rattle.std.proofs.lemmas.Option.{same_Some}
use Rattle.schema.specs.declared.Role.{Role}
use Rattle.schema.specs.declared.Role.TheVariants as role
use Rattle.schema.specs.RoleNames.{role_text}
use Rattle.script_words.specs.NamedIn.{named_in}
use Rattle.script_words.specs.PartValues.{or_else, other_of, role_of}
use Rattle.script_words.specs.Reading.{IsRole}
use Rattle.script_words.specs.Says.{SaysRole}
use Rattle.script_words.specs.WordValues.{short_of}
use Rattle.script_words.proofs.RoleWords.{by_name, other_is_role, role_in_table, said_in_table, table_says}
use Rattle.script_words.proofs.names.role_named.Goals as goal

-- the role that is found, or one with a number
abbrev or_number : List ℕ → Option Role → Option Role
or_number word found = or_else found (option_map role.Other (other_of short_of word))

pub returns-in-Some : goal.returns-in-Some
unfolding role_of
returns-in-Some c =
    let table = c.named_roles.result.now in
    let names = c.named_roles.ensures.names in
    let roles = c.named_roles.ensures.roles in
    let beside : Some c.in-Some.role ≡ named_in c.args.word.now table = sym c.in-Some.is ∙ c.named.ensures in
    record {
      reads = λ r h e.
          let found = beside ∙ ap (λ w. named_in w table) e in
          ⊎_elim (λ there. found ∙ there) (λ k. let no = found ∙ k.2 in cc) (role_in_table table names roles r);
      exact = λ r. (
        (λ e. subst (λ r. IsRole r × SaysRole c.args.word.now r) (same_Some c.in-Some.role r e) (table_says table names roles c.args.word.now c.in-Some.role (sym beside))),
        (λ k. ⊎_elim (λ there. beside ∙ there) (λ other. let no = beside ∙ other.3 in cc) (said_in_table table names roles c.args.word.now r k.0 k.1)),
      );
      means = ap (or_number c.args.word.now) (beside ∙ by_name table names roles c.args.word.now);
    }

pub returns-in_err-other_role_number : goal.returns-in_err-other_role_number
unfolding role_of
returns-in_err-other_role_number c =
    let table = c.named_roles.result.now in
    let names = c.named_roles.ensures.names in
    let roles = c.named_roles.ensures.roles in
    let beside = sym c.in_default.is ∙ c.named.ensures in
    record {
      reads = λ r h e.
          let found = beside ∙ ap (λ w. named_in w table) e in
          ⊎_elim (λ there. let no = found ∙ there in cc) (λ k. let read = sym (c.in_err-other_role_number.was) ∙ c.other_role_number.ensures.reads k.0 (h k.0 k.1) (e ∙ ap role_text k.1) in cc) (role_in_table table names roles r);
      exact = λ r. (
        (λ e. let no = sym c.from_residual.ensures ∙ e in cc),
        (λ k. ⊎_elim (λ there. let no = beside ∙ there in cc) (λ other. let no = (c.in_err-other_role_number.ensures.exact other.0).1 other.2 in cc) (said_in_table table names roles c.args.word.now r k.0 k.1)),
      );
      means =
          c.from_residual.ensures ∙ ap (option_map role.Other) c.in_err-other_role_number.ensures.means
          ∙ ap (or_number c.args.word.now) (beside ∙ by_name table names roles c.args.word.now);
    }

pub returns : goal.returns
unfolding role_of
returns c =
    let table = c.named_roles.result.now in
    let names = c.named_roles.ensures.names in
    let roles = c.named_roles.ensures.roles in
    let beside = sym c.in_default.is ∙ c.named.ensures in
    let number = c.in_ok-other_role_number.field-0 in
    record {
      reads = λ r h e.
          let found = beside ∙ ap (λ w. named_in w table) e in
          ⊎_elim (λ there. let no = found ∙ there in cc) (λ k. let read = sym (c.in_ok-other_role_number.was) ∙ c.other_role_number.ensures.reads k.0 (h k.0 k.1) (e ∙ ap role_text k.1) in let same : number ≡ k.0 = cc in ap Some (ap role.Other same ∙ sym k.1)) (role_in_table table names roles r);
      exact = λ r. (
        (λ e. let k = (c.in_ok-other_role_number.ensures.exact number).0 refl in subst (λ r. IsRole r × SaysRole c.args.word.now r) (same_Some (role.Other number) r e) (other_is_role number k.0, k.1)),
        (λ k. ⊎_elim (λ there. let no = beside ∙ there in cc) (λ other. let same = same_Some number other.0 ((c.in_ok-other_role_number.ensures.exact other.0).1 other.2) in ap Some (ap role.Other same ∙ sym other.1)) (said_in_table table names roles c.args.word.now r k.0 k.1)),
      );
      means = ap (option_map role.Other) c.in_ok-other_role_number.ensures.means ∙ ap (or_number c.args.word.now) (beside ∙ by_name table names roles c.args.word.now);
    }
