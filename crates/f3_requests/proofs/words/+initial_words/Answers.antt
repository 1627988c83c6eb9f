use Rattle.std.proofs.Common.{◌%◌, ◌^◌, ◌∙◌, ap, sym, arith, take, map}
use Rattle.std.proofs.lemmas.List.{take_all}
use Rattle.f3_program.specs.declared.declarations.Derived.{Derived}
use Rattle.f3_meaning_whole.specs.Shape.{shapes_of, parts_in, initial_parts}
use Rattle.f3_code.specs.Account.{level_words, row, words}
use Rattle.f3_code.proofs.Rows.{row_joined}
use Rattle.f3_shaping.specs.Results.{component_value}
use Rattle.f3_shaping.proofs.Trees.{number_past, tree_is, parts_are}
use Rattle.f3_requests.proofs.Wording.{next}
use Rattle.f3_requests.proofs.words.+initial_words.Goals as goal

pub components_words-loop-component-preserved : goal.components_words-loop-component-preserved
components_words-loop-component-preserved t c =
    next (component_value (shapes_of c.args.types.now)) c.args.components.now c.loop-component.component-index c.component-item.result
    c.loop-component.total c.declared_words-total.result (omega arith) c.component-item.is c.loop-component.invariant c.declared_words-total.ensures

pub components_words-returns : goal.components_words-returns
components_words-returns t c =
    let g = component_value (shapes_of c.args.types.now) in
    c.loop-component.invariant
    ∙ ap (λ cs. level_words (map g cs) % 2 ^ 64) (take_all c.loop-component.component-index c.args.components.now (omega arith))
    ∙ ap (λ n. n % 2 ^ 64) (sym (row_joined (map g c.args.components.now)))
    ∙ ap (λ vs. row vs % 2 ^ 64) (parts_are (shapes_of c.args.types.now) c.args.components.now)

pub initial_words-returns-then-t-types : goal.initial_words-returns-then-t-types
initial_words-returns-then-t-types t c = rw c.in-Derived.is (ap (λ x. words x % 2 ^ 64) (number_past c.args.types.now c.in-Derived.t c.if-t-types.true))

pub initial_words-returns-else-t-types : goal.initial_words-returns-else-t-types
initial_words-returns-else-t-types t c = rw c.in-Derived.is (c.components_words.ensures
    ∙ ap (λ cs. row (initial_parts (parts_in (shapes_of (take c.in-Derived.t c.args.types.now)) cs)) % 2 ^ 64) (c.deref.ensures.value
    ∙ ap (λ (y : Derived). y.components.items) (sym c.index-types-t.is))
    ∙ ap (λ x. words x % 2 ^ 64) (tree_is c.args.types.now c.in-Derived.t c.index-types-t.result c.index-types-t.result (omega arith) c.index-types-t.is))
