use Rattle.std.proofs.Common.{◌≡◌, ℤ, List, Option, Some, ap, subst, codes, inl, inr, sym, ◌∙◌}
use Rattle.std.proofs.lemmas.Bool.{cond-false, cond-true}
use Rattle.std.proofs.lemmas.Result.{IfOk-weaker}
use Rattle.std.proofs.lemmas.Slice.Eq.{bytes_eq-Decides}
use Rattle.script_words.specs.Answering.{AnswersAs}
use Rattle.script_words.specs.PartValues.{list_of, unit_list_of}
use Rattle.script_words.specs.Reading.{Reads}
use Rattle.script_words.specs.SaysParts.{SaysItems, SaysUnitList, SaysUnits}
use Rattle.script_words.specs.WordValues.{units_of}
use Rattle.script_words.proofs.CommaWords.{no_units, some_units}
use Rattle.script_words.proofs.word_lists.unit_list.Goals as goal

pub returns-then-eq : goal.returns-then-eq
unfolding unit_list_of
returns-then-eq c = record {
  reads = λ units h e. c.new.ensures.items ∙ sym (no_units units c.args.word.now c.eq.result h e c.eq.ensures c.if-eq.true);
  only = inl ((bytes_eq-Decides c.args.word.now (codes "-")).0 (sym c.eq.ensures ∙ c.if-eq.true), c.new.ensures.items);
  means = cond-true _ _ _ (sym c.eq.ensures ∙ c.if-eq.true) ∙ ap Some (sym c.new.ensures.items);
}

pub returns : goal.returns
unfolding unit_list_of
returns c = record {
  reads = λ units h e. some_units (λ units. Reads c.items.result (λ read. read.items ≡ units)) units c.args.word.now c.eq.result c.items.ensures.reads h e c.eq.ensures c.if-eq.false;
  only = IfOk-weaker c.items.result (λ read. SaysItems SaysUnits (Some c.args.word.now) read.items) (λ read. SaysUnitList c.args.word.now read.items) (λ read h. inr h) c.items.ensures.only;
  means =
      let is : unit_list_of c.args.word.now ≡ list_of units_of c.args.word.now = cond-false _ _ _ (sym c.eq.ensures ∙ c.if-eq.false) in
      subst (λ (o : Option (List ℤ)). AnswersAs o c.items.result (λ read. read.items)) (sym is) c.items.ensures.means;
}
