use Rattle.std.proofs.Common.{map, get_or, refl, ap, ◌∙◌, arith}
use Rattle.f3_meaning_whole.specs.Value as m
use Rattle.f3_data.specs.Values.{values_of}
use Rattle.f3_data.specs.Stores.{store_of}
use Rattle.f3_cells.specs.Cells.{passed_of}
use Rattle.f3_value_steps.proofs.Components.{of_none, of_type_if}
use Rattle.f3_value_steps.proofs.structures.value_of_type.Goals as goal

pub returns-then-of-types : goal.returns-then-of-types
returns-then-of-types c = of_none c.args.types.now c.args.of c.composite.result (map passed_of c.args.passed.now) (store_of c.args.store.now) (omega arith)
    (c.composite.ensures ∙ ap (λ xs. m.Composite (m.joined (values_of xs))) c.new.ensures.items)

pub returns : goal.returns
returns c = of_type_if c.args.types.now c.args.of (get_or c.args.types.now c.args.of c.index-types-of.result) c.index-types-of.result c.deref.result.now
    (map passed_of c.args.passed.now) (store_of c.args.store.now) c.built_of.result
    (omega arith) refl c.deref.ensures.value c.built_of.ensures
