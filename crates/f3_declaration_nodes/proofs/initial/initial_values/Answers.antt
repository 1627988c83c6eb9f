use Rattle.std.proofs.Common.{map, ap, sym, ◌∙◌}
use Rattle.f3_tree.specs.declared.expression.Expression.{Expression}
use Rattle.f3_tree.specs.Expressions.{expression_view}
use Rattle.f3_tree.proofs.Views.{view_array}
use Rattle.f3_kinds.specs.Things.{Context}
use Rattle.f3_kinds.specs.Values.{converted, value_of}
use Rattle.f3_typed_parts.specs.Known.{context_of}
use Rattle.f3_elaboration.specs.Declarations.{constant_of, initial_values}
use Rattle.f3_declaration_nodes.proofs.Lists.{all_constants}
use Rattle.f3_declaration_nodes.proofs.initial.initial_values.Goals as goal

pub returns-in_ok-found-in-Array : goal.returns-in_ok-found-in-Array
returns-in_ok-found-in-Array c =
    let k : Context = context_of c.args.known.now c.args.at in
    c.in_ok-found-in-Array.ensures
    ∙ ap (map (λ (e : Expression). constant_of (converted c.args.data_type (value_of k (expression_view e))))) c.deref.ensures.value
    ∙ all_constants k c.args.data_type c.in-Array.items.items
    ∙ sym (ap (initial_values k c.args.data_type) (ap expression_view c.in-Array.is ∙ view_array _ _))
