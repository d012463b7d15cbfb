use Rattle.std.proofs.Common.{rules, ◌≡◌, Some, IsOk, ap, sym, ◌∙◌}
use Rattle.uuid.specs.Text.{parsed}
use Rattle.script_words.proofs.TreeNames.{tree_word, root_says, uuid_says, other_says_none}
use Rattle.script_words.proofs.words.tree_named.Goals as goal

pub returns-then-eq : goal.returns-then-eq
returns-then-eq c = record {
  reads = λ tree h e. ap Some (c.root.ensures ∙ sym ((tree_word tree c.args.word.now c.eq.result h e c.eq.ensures).0 c.if-eq.true));
  exact = λ tree. root_says c.args.word.now c.eq.result c.root.result tree c.root.ensures c.eq.ensures c.if-eq.true;
}

pub returns-in_err-id : goal.returns-in_err-id
returns-in_err-id c = record {
  reads = λ tree h e.
      let back : Some tree.0 ≡ parsed c.args.word.now = (tree_word tree c.args.word.now c.eq.result h e c.eq.ensures).1 c.if-eq.false in
      let ok : IsOk c.parse_str.result = c.parse_str.ensures.ok.1 (tree.0, sym back) in
      search rules;
  exact = λ tree. rw c.from_residual.ensures (other_says_none c.args.word.now c.eq.result c.parse_str.result tree c.eq.ensures c.if-eq.false c.parse_str.ensures.ok (sym c.ok.ensures.value ∙ c.in_err-id.was));
}

pub returns-clause-exact : goal.returns-clause-exact
returns-clause-exact c = λ tree. uuid_says c.args.word.now c.eq.result c.parse_str.result c.in_ok-id.id tree c.eq.ensures c.if-eq.false c.parse_str.ensures.bytes (sym c.ok.ensures.value ∙ c.in_ok-id.was)
