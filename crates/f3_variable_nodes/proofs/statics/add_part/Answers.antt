use Rattle.std.proofs.Common.{ℕ, ◌+◌, List, map, filter, length, ap}
use Rattle.std.specs.List.{flat_map}
use Rattle.std.proofs.lemmas.List.{length-append}
use Rattle.f3_scopes.specs.Scopes.{declared_in}
use Rattle.f3_tree.specs.declared.declaration.Specification.{Specification}
use Rattle.f3_tree.specs.Declarations.{specification_view}
use Rattle.f3_elaboration.specs.Numbers.{along_part, is_static_in, names_in}
use Rattle.f3_declaration_nodes.specs.Variables.{static_by}
use Rattle.f3_variable_nodes.specs.Inner.Walk.{part_statics}
use Rattle.f3_variable_nodes.proofs.Walking.{numbered, picked, walked}
use Rattle.f3_variable_nodes.proofs.statics.add_part.Goals as goal

pub loop-specification-preserved : goal.loop-specification-preserved
loop-specification-preserved c =
    let u : ℕ = c.args.home.unit in
    let s : ℕ = c.args.home.scope in
    let f = static_by c.args.whole in
    let p = is_static_in c.args.home.kind in
    let width = λ (x : Specification). length (declared_in (specification_view x)) in
    let next = ap (λ (k : ℕ). c.loop-specification.number + k) c.declared_by-number.ensures in
    record {
      number = numbered width (λ (xs : List Specification). length (flat_map declared_in (map specification_view xs)))
          (λ x xs. length-append (declared_in (specification_view x)) (flat_map declared_in (map specification_view xs)))
          c.args.list.now c.loop-specification.specification-index c.specification-item.result c.loop-specification.number _ _ c.loop-specification-test.true c.specification-item.is next
          c.loop-specification.invariant.number;
      found = walked (λ (n : ℕ) (x : Specification). map f (filter p (names_in u s n (specification_view x))))
          (λ (n : ℕ) (xs : List Specification). map f (part_statics c.args.home.kind u s n (map specification_view xs))) (λ (n : ℕ) (x : Specification). n + width x)
          (λ n x xs. picked f p (names_in u s n (specification_view x)) (along_part (names_in u s) (n + width x) (map specification_view xs)))
          c.args.list.now c.loop-specification.specification-index c.specification-item.result c.loop-specification.number _ _ _ _ c.loop-specification-test.true c.specification-item.is next
          c.in_ok-add_specification.ensures c.loop-specification.invariant.found;
    }
