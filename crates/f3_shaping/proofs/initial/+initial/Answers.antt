use Rattle.std.proofs.Common.{◌∙◌, ap, sym, arith, take, map}
use Rattle.std.proofs.lemmas.List.{take_all}
use Rattle.f3_meaning_whole.specs.Shape.{shapes_of, parts_in, initial_parts}
use Rattle.f3_program.specs.declared.declarations.Derived.{Derived}
use Rattle.f3_shaping.specs.Results.{component_value}
use Rattle.f3_meaning_whole.specs.Value as m
use Rattle.f3_shaping.proofs.Trees.{number_past, tree_is, parts_are}
use Rattle.f3_shaping.proofs.initial.+initial.Goals as goal

pub initial-returns-then-t-types : goal.initial-returns-then-t-types
initial-returns-then-t-types t c = rw c.in-Derived.is (number_past c.args.types.now c.in-Derived.t c.if-t-types.true)

pub initial-returns-in_ok-values-in-Derived : goal.initial-returns-in_ok-values-in-Derived
initial-returns-in_ok-values-in-Derived t c = rw c.in-Derived.is (c.composite.ensures ∙ ap m.Composite (c.in_ok-values-in-Derived.ensures ∙ ap (λ cs.
    initial_parts (parts_in (shapes_of (take c.in-Derived.t c.args.types.now)) cs)) (c.deref.ensures.value
    ∙ ap (λ (y : Derived). y.components.items) (sym c.index-types-t.is)))
    ∙ tree_is c.args.types.now c.in-Derived.t c.index-types-t.result c.index-types-t.result (omega arith) c.index-types-t.is)

pub initial_parts-returns : goal.initial_parts-returns
initial_parts-returns t c = ap m.joined (c.loop-component.invariant ∙ ap (map (component_value (shapes_of c.args.types.now))) (take_all
    c.loop-component.component-index c.args.components.now (omega arith)))
    ∙ parts_are (shapes_of c.args.types.now) c.args.components.now
