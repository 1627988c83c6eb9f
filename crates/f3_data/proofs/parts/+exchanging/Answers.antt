use Rattle.std.proofs.Common.{◌≡◌, ◌∙◌, ap, sym, arith, rules}
use Rattle.std.specs.Box.{with_value}
use Rattle.f3_meaning_whole.specs.Store.{part, with_part}
use Rattle.f3_code.specs.Account.{words}
use Rattle.f3_data.specs.declared.value.Value as v
use Rattle.f3_data.specs.declared.value.Elements.{Elements}
use Rattle.f3_data.specs.Values.{value_of}
use Rattle.f3_data.specs.Stores.{steps_of}
use Rattle.f3_data.proofs.Rows.{composite_is, array_is, array_part, with_part_past, with_part_within, array_put}
use Rattle.f3_data.proofs.Counts.{array_exchanged, one_exchanged_in_row}
use Rattle.f3_data.proofs.parts.+exchanging.Goals as goal
use Rattle.f3_data.proofs.parts.+exchanging.Goals.{exchange-in-Composite-Component, exchange-in-Array-Element, exchange-in-Allocated-Contents}

pub exchange-returns-clause-value : goal.exchange-returns-clause-value
exchange-returns-clause-value t c = elim c.match-value.branch [
  | exchange-in-Composite-Component w ↦ search (rules, composite_is, array_is)
  | exchange-in-Array-Element w ↦
      let h : w.deref_mut.result.now ≡ w.in-Array-Element.elements.value = search rules in
      let e = w.exchange_at-in-Array-Element.ensures.values in
      let all = array_put w.in-Array-Element.elements (with_value w.in-Array-Element.elements
      record { spans = w.deref_mut.result.now.spans; values = w.exchange_at-in-Array-Element.new.values })
      w.in-Array-Element.k c.in-Some.step.now c.in-Some.rest.now c.args.steps.now (value_of c.args.other.now)
      w.in-Array-Element.is-1 c.in-Some.ensures.cases.0 (ap (λ (x : Elements). x.spans) h) (search rules) in
      search (rules, v.the_lemmas)
  | exchange-in-Allocated-Contents w ↦ search (rules, composite_is, array_is)
]

pub exchange-returns-clause-other : goal.exchange-returns-clause-other
exchange-returns-clause-other t c = λ u. elim c.match-value.branch [
  | exchange-in-Composite-Component w ↦ let e = w.exchange_at.ensures.other u in search (rules, composite_is, array_is)
  | exchange-in-Array-Element w ↦
      let h : w.deref_mut.result.now ≡ w.in-Array-Element.elements.value = search rules in
      let e = w.exchange_at-in-Array-Element.ensures.other u in
      let p = array_part c.args.value.now w.in-Array-Element.elements c.in-Some.step.now w.in-Array-Element.k
      (steps_of c.in-Some.rest.now) w.in-Array-Element.is-0 w.in-Array-Element.is-1 in
      rw (w.other-is, c.in-Some.ensures.cases.0) (search rules)
  | exchange-in-Allocated-Contents w ↦
      let h : w.deref_mut-in-Allocated-Contents.result.now ≡ w.in-Allocated-Contents.held.value = search rules in
      rw (w.other-is, c.in-Some.ensures.cases.0, w.in-Allocated-Contents.is-0, w.in-Allocated-Contents.is-1)
      (w.exchange.ensures.other u ∙ ap (λ y. part (value_of y) (steps_of c.in-Some.rest.now)) h)
]

pub exchange-returns-clause-words : goal.exchange-returns-clause-words
exchange-returns-clause-words t c = elim c.match-value.branch [
  | exchange-in-Composite-Component w ↦ search (rules, composite_is, array_is)
  | exchange-in-Array-Element w ↦
      let h : w.deref_mut.result.now ≡ w.in-Array-Element.elements.value = search rules in
      let inner = w.exchange_at-in-Array-Element.ensures.words in
      let all = array_exchanged w.in-Array-Element.elements (with_value w.in-Array-Element.elements
      record { spans = w.deref_mut.result.now.spans; values = w.exchange_at-in-Array-Element.new.values })
      (words (value_of c.args.other.now)) (words (value_of w.exchange_at-in-Array-Element.new.other)) (search rules) in
      search (rules, v.the_lemmas)
  | exchange-in-Allocated-Contents w ↦ search (rules, arith)
]

pub exchange_at-returns-then-k-len-clause-values : goal.exchange_at-returns-then-k-len-clause-values
exchange_at-returns-then-k-len-clause-values t c = let h = c.if-k-len.true in let i = c.index_mut.ensures.value in let r = c.exchange.ensures.value in
    with_part_within _ _ _ _ c.index_mut.result.now _ (omega (arith, c.args.values.now.ok.0))
    (r ∙ ap (λ u. with_part (value_of u) (steps_of c.args.rest.now) (value_of c.args.other.now)) i)

pub exchange_at-returns-then-k-len-clause-words : goal.exchange_at-returns-then-k-len-clause-words
exchange_at-returns-then-k-len-clause-words t c =
    one_exchanged_in_row _ _ _ _ _ _ (omega (arith, c.args.values.now.ok.0)) c.index_mut.ensures.value c.exchange.ensures.words

pub exchange_at-returns-else-k-len-clause-values : goal.exchange_at-returns-else-k-len-clause-values
exchange_at-returns-else-k-len-clause-values t c = sym (with_part_past _ _ _ _ (omega (arith, c.args.values.now.ok.0)))
