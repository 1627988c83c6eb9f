use Rattle.std.proofs.Common.{◌≡◌, ap, rules}
use Rattle.std.specs.Box.{with_value}
use Rattle.f3_meaning_whole.specs.Arithmetic.{constant_value}
use Rattle.f3_data.specs.declared.value.Value as v
use Rattle.f3_data.specs.declared.value.Elements.{Elements}
use Rattle.f3_data.proofs.Rows.{array_taken}
use Rattle.f3_data.proofs.Counts.{array_grown}
use Rattle.f3_data.proofs.parts.set_in_array.Goals as goal

pub returns-in-Array-clause-value : goal.returns-in-Array-clause-value
returns-in-Array-clause-value c =
    let h : c.deref_mut.result.now ≡ c.in-Array.elements.value = search rules in
    let e = c.become_at.ensures.values in
    let all = array_taken c.in-Array.elements (with_value c.in-Array.elements record { spans = c.deref_mut.result.now.spans; values = c.become_at.new.values })
    c.args.k (constant_value c.args.scalar) (ap (λ (x : Elements). x.spans) h) (search rules) in
    search (rules, v.the_lemmas)

pub returns-in-Array-clause-grown : goal.returns-in-Array-clause-grown
returns-in-Array-clause-grown c =
    let h : c.deref_mut.result.now ≡ c.in-Array.elements.value = search rules in
    let inner = c.become_at.ensures.grown in
    let all = array_grown c.in-Array.elements (with_value c.in-Array.elements record { spans = c.deref_mut.result.now.spans; values = c.become_at.new.values })
    c.become_at.result (search rules) in
    search (rules, v.the_lemmas)
