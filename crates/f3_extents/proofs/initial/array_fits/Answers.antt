use Rattle.std.proofs.Common.{ap, sym, ◌∙◌, ◌&&◌, true, nat_eq, length, map}
use Rattle.std.specs.List.{list_all}
use Rattle.f3_tree.specs.declared.expression.Expression.{Expression}
use Rattle.f3_tree.specs.Expressions.{expression_view, trees_of}
use Rattle.f3_kinds.specs.Things.{map_or, Context}
use Rattle.f3_kinds.specs.Values.{value_of, converted, has_value}
use Rattle.f3_typed_parts.specs.Known.{context_of}
use Rattle.f3_type_rules.specs.Shapes.{all_converted}
use Rattle.f3_extents.proofs.Initials.{all_convertible, count_length}
use Rattle.f3_extents.proofs.initial.array_fits.Goals as goal

pub returns : goal.returns
returns c = λ n h.
    let k : Context = context_of c.args.known.now c.args.at in
    c.both-2.ensures
    ∙ ap (λ z. z && c.is_count-counted.result)
    (c.both.ensures ∙ ap (λ z. nat_eq c.args.rank 1 && z)
    (c.all_convertible-right.ensures
    ∙ ap (list_all (λ (e : Expression). has_value (converted c.args.data_type (value_of k (expression_view e))))) c.deref.ensures.value
    ∙ all_convertible k c.args.data_type c.args.items.now.items))
    ∙ ap (λ z. nat_eq c.args.rank 1 && all_converted k c.args.data_type (trees_of (map expression_view c.args.items.now.items)) && z)
    (c.is_count-counted.ensures n h ∙ ap (λ z. map_or true (nat_eq z) n) (c.len.ensures ∙ sym c.deref.ensures.len ∙ ap length c.deref.ensures.value ∙ count_length c.args.items.now.items))
