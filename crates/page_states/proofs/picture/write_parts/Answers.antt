use Rattle.std.proofs.Common.{◌≡◌, ℕ, ◌+◌, List, Option, ◌∷◌, [], ◌++◌, take, sym, ap, subst, ◌∙◌, arith}
use Rattle.std.specs.List.{FoldsTo}
use Rattle.std.proofs.lemmas.Fn.{FoldsTo-push}
use Rattle.std.proofs.lemmas.List.{take_all, take_more}
use Rattle.page_states.specs.Pictures.{WritesPart}
use Rattle.page_states.specs.declared.rows.Row.{Row}
use Rattle.page_states.proofs.picture.write_parts.Goals as goal

pub loop-row-preserved : goal.loop-row-preserved
loop-row-preserved g c =
    let x = c.row-item.result in let i = c.loop-row.row-index in let rows = c.args.rows.now in
    let step = WritesPart c.args.number in
    let first : ℕ × Option (List ℕ) = (0, g.O.Write.contents c.args.out.now) in
    let before : ℕ × Option (List ℕ) = (c.loop-row.groups, g.O.Write.contents c.loop-row.out) in
    let after : ℕ × Option (List ℕ) = (c.in_ok-after.after, g.O.Write.contents c.write_part.new.out) in
    let more : take i rows ++ x ∷ [] ≡ take (i + 1) rows = ap (λ (n : Row). take i rows ++ n ∷ []) c.row-item.is ∙ sym (take_more rows i x c.loop-row-test.true) in
    subst (λ (some : List Row). FoldsTo step first some after) more
    (FoldsTo-push step first (take i rows) before x after c.loop-row.invariant c.in_ok-after.ensures)

pub returns : goal.returns
returns g c =
    let all : take c.loop-row.row-index c.args.rows.now ≡ c.args.rows.now = take_all c.loop-row.row-index c.args.rows.now (omega arith) in
    subst (λ (some : List Row). FoldsTo (WritesPart c.args.number) (0, g.O.Write.contents c.args.out.now) some (c.loop-row.groups, g.O.Write.contents c.loop-row.out)) all c.loop-row.invariant
