use Rattle.std.proofs.Common.{◌≡◌, ◌∙◌, ap, sym, arith, rules}
use Rattle.std.specs.Box.{with_value}
use Rattle.f3_meaning_whole.specs.Store.{with_part}
use Rattle.f3_meaning_whole.specs.Arithmetic.{constant_value}
use Rattle.f3_data.specs.declared.value.Value as v
use Rattle.f3_data.specs.declared.value.Elements.{Elements}
use Rattle.f3_data.specs.Values.{value_of}
use Rattle.f3_data.specs.Stores.{steps_of}
use Rattle.f3_data.proofs.Rows.{composite_is, array_is, with_part_past, with_part_within, array_put, composite_kept, array_kept}
use Rattle.f3_data.proofs.Counts.{array_grown, one_grown_in_row}
use Rattle.f3_data.proofs.parts.+setting.Goals as goal
use Rattle.f3_data.proofs.parts.+setting.Goals.{set_part-in-Composite-Component, set_part-in-Array-Element, set_part-in-Allocated-Contents}
use Rattle.f3_data.proofs.parts.+setting.Goals.{set_part-in_default-2, set_part-in_default-2-2, set_part-in_default-2-3, set_part-in-Number-default, set_part-in-Number-default-2, set_part-in-Number-default-3}

pub set_part-returns-clause-value : goal.set_part-returns-clause-value
set_part-returns-clause-value t c = elim c.match-value.branch [
  | set_part-in-Composite-Component w ↦ search (rules, composite_is, array_is)
  | set_part-in-Array-Element w ↦
      let h : w.deref_mut.result.now ≡ w.in-Array-Element.elements.value = search rules in
      let e = w.set_at-in-Array-Element.ensures.values in
      let all = array_put w.in-Array-Element.elements (with_value w.in-Array-Element.elements
      record { spans = w.deref_mut.result.now.spans; values = w.set_at-in-Array-Element.new.values })
      w.in-Array-Element.k c.in-Some.step.now c.in-Some.rest.now c.args.steps.now (constant_value c.args.scalar)
      w.in-Array-Element.is-1 c.in-Some.ensures.cases.0 (ap (λ (x : Elements). x.spans) h) (search rules) in
      search (rules, v.the_lemmas)
  | set_part-in-Allocated-Contents w ↦ search (rules, composite_is, array_is)
  | set_part-in_default-2 w ↦ rw (w.value-is, w.in_default-2.is-0) (composite_kept w.in_default-2.field-0-0
      c.in-Some.step.now c.in-Some.rest.now c.args.steps.now (constant_value c.args.scalar) c.in-Some.ensures.cases.0 w.in_default-2.not-Component-1)
  | set_part-in_default-2-2 w ↦ rw (w.value-is, w.in_default-2.is-0) (array_kept w.in_default-2.field-0-0
      c.in-Some.step.now c.in-Some.rest.now c.args.steps.now (constant_value c.args.scalar) c.in-Some.ensures.cases.0 w.in_default-2.not-Element-1)
  | set_part-in_default-2-3 w ↦ search (rules, composite_is, array_is)
  | set_part-in-Number-default w ↦ search (rules, composite_is, array_is)
  | set_part-in-Number-default-2 w ↦ search (rules, composite_is, array_is)
  | set_part-in-Number-default-3 w ↦ search (rules, composite_is, array_is)
]

pub set_part-returns-clause-grown : goal.set_part-returns-clause-grown
set_part-returns-clause-grown t c = elim c.match-value.branch [
  | set_part-in-Composite-Component w ↦ search (rules, composite_is, array_is)
  | set_part-in-Array-Element w ↦
      let h : w.deref_mut.result.now ≡ w.in-Array-Element.elements.value = search rules in
      let inner = w.set_at-in-Array-Element.ensures.grown in
      let all = array_grown w.in-Array-Element.elements (with_value w.in-Array-Element.elements
      record { spans = w.deref_mut.result.now.spans; values = w.set_at-in-Array-Element.new.values })
      w.set_at-in-Array-Element.result (search rules) in
      search (rules, v.the_lemmas)
  | set_part-in-Allocated-Contents w ↦ search (rules, arith)
  | set_part-in_default-2 w ↦ search (rules, arith)
  | set_part-in_default-2-2 w ↦ search (rules, arith)
  | set_part-in_default-2-3 w ↦ search (rules, arith)
  | set_part-in-Number-default w ↦ search (rules, arith)
  | set_part-in-Number-default-2 w ↦ search (rules, arith)
  | set_part-in-Number-default-3 w ↦ search (rules, arith)
]

pub set_at-returns-then-k-len-clause-values : goal.set_at-returns-then-k-len-clause-values
set_at-returns-then-k-len-clause-values t c = let h = c.if-k-len.true in let i = c.index_mut.ensures.value in let r = c.set_part.ensures.value in
    with_part_within _ _ _ _ c.index_mut.result.now _ (omega (arith, c.args.values.now.ok.0))
    (r ∙ ap (λ u. with_part (value_of u) (steps_of c.args.rest.now) (constant_value c.args.scalar)) i)

pub set_at-returns-then-k-len-clause-grown : goal.set_at-returns-then-k-len-clause-grown
set_at-returns-then-k-len-clause-grown t c =
    one_grown_in_row _ _ _ _ _ (omega (arith, c.args.values.now.ok.0)) c.index_mut.ensures.value c.set_part.ensures.grown

pub set_at-returns-else-k-len-clause-values : goal.set_at-returns-else-k-len-clause-values
set_at-returns-else-k-len-clause-values t c = sym (with_part_past _ _ _ _ (omega (arith, c.args.values.now.ok.0)))
