use Rattle.std.proofs.Common.{ℕ, List, [], ◌∷◌, ◌++◌, Option, Result, Ok, Err, inl, inr, refl, sym, subst}
use Rattle.std.proofs.lemmas.Fn.{FoldsTo-push}
use Rattle.script_lines.specs.Taking.{comment_of, number_of}
use Rattle.script_lines.specs.declared.reader.ScriptCommand.{ScriptCommand}
use Rattle.script_words.specs.declared.stops.Stop.{Stop}
use Rattle.atree_script.specs.Played.{stage_of}
use Rattle.atree_script.specs.Playing.{CarriesOut, GoesOn}
use Rattle.atree_script.proofs.Inputs.{Answers, commented, err_is, given_up, one_more, read_these}
use Rattle.atree_script.proofs.playing.Playing.commands.Goals as goal

pub loop-preserved : goal.loop-preserved
loop-preserved g c =
    let so_far = c.loop.invariant in
    let command = c.in-Some.command in
    let left = g.R.Read.remaining c.loop.input in
    let after = g.R.Read.remaining c.next_command.new.input in
    let next = c.next_command.new.self in
    let reads = subst (λ (o : Option ScriptCommand). Answers left c.loop.script (Ok o) next after) c.in-Some.is c.in_ok-command.ensures.reads in (
      so_far.0 ++ commented next command ∷ [],
      FoldsTo-push (GoesOn g.P.Player.turns) (stage_of c.args.self.now, c.args.player.now) so_far.0 (stage_of c.loop.self, c.loop.player) (commented next command) (stage_of c.carry_out.new.self, c.carry_out.new.player) so_far.1
          (subst (λ (line : ℕ). CarriesOut g.P.Player.turns (stage_of c.loop.self) c.loop.player (comment_of next) line command (Ok tt) (stage_of c.carry_out.new.self) c.carry_out.new.player) c.line_number.ensures
          (subst (λ (text : List ℕ). CarriesOut g.P.Player.turns (stage_of c.loop.self) c.loop.player text c.line_number.result command (Ok tt) (stage_of c.carry_out.new.self) c.carry_out.new.player) c.comment.ensures c.in_ok-carry_out.ensures)),
      one_more (g.R.Read.remaining c.args.input.now) c.args.script.now so_far.0 left c.loop.script so_far.2 command next after reads,
    )

pub returns-in_err-carry_out : goal.returns-in_err-carry_out
returns-in_err-carry_out g c =
    let so_far = c.loop.invariant in
    let command = c.in-Some.command in
    let before = g.R.Read.remaining c.args.input.now in
    let left = g.R.Read.remaining c.loop.input in
    let after = g.R.Read.remaining c.next_command.new.input in
    let next = c.next_command.new.self in
    let stop = c.in_err-carry_out.field-0.0 in
    let reads = subst (λ (o : Option ScriptCommand). Answers left c.loop.script (Ok o) next after) c.in-Some.is c.in_ok-command.ensures.reads in
    let stopped = err_is c.from_residual-in_err-carry_out.result stop c.from_residual-in_err-carry_out.ensures.1 in (
      so_far.0 ++ commented next command ∷ [],
      inr (
        record {
          earlier = so_far.0;
          last = commented next command;
          whole = refl;
          between = (stage_of c.loop.self, c.loop.player);
          before = so_far.1;
          stop = stop;
          stopped = stopped;
          carried =
              subst (λ (r : Result Unit Stop). CarriesOut g.P.Player.turns (stage_of c.loop.self) c.loop.player (comment_of next) (number_of next) command r (stage_of c.carry_out.new.self) c.carry_out.new.player) (sym stopped)
              (subst (λ (line : ℕ). CarriesOut g.P.Player.turns (stage_of c.loop.self) c.loop.player (comment_of next) line command (Err stop) (stage_of c.carry_out.new.self) c.carry_out.new.player) c.line_number.ensures
              (subst (λ (text : List ℕ). CarriesOut g.P.Player.turns (stage_of c.loop.self) c.loop.player text c.line_number.result command (Err stop) (stage_of c.carry_out.new.self) c.carry_out.new.player) c.comment.ensures c.in_err-carry_out.ensures));
        },
        read_these before c.args.script.now (so_far.0 ++ commented next command ∷ []) after next (one_more before c.args.script.now so_far.0 left c.loop.script so_far.2 command next after reads),
      ),
    )

pub returns : goal.returns
returns g c =
    let so_far = c.loop.invariant in
    (so_far.0, inl (so_far.1, given_up (g.R.Read.remaining c.args.input.now) c.args.script.now so_far.0 (g.R.Read.remaining c.loop.input) c.loop.script so_far.2))
