use Rattle.std.proofs.Common.{ap, sym, ◌∙◌, [], Option}
use Rattle.std.specs.Option.{option_map}
use Rattle.f3_tree.specs.declared.expression.Expression.{Expression}
use Rattle.f3_tree.specs.Expressions.{Tree, expression_view}
use Rattle.f3_kinds.specs.Things.{map_or, Context}
use Rattle.f3_typed_parts.specs.Known.{context_of}
use Rattle.f3_typed_parts.specs.Noted.{noted}
use Rattle.f3_typed_parts.proofs.Noting.{noted_none}
use Rattle.f3_type_rules.specs.Constants.{constant_rows}
use Rattle.f3_type_rules.specs.Shapes.{initial_right}
use Rattle.f3_extents.proofs.initial.initial.Goals as goal

pub returns-in-None : goal.returns-in-None
returns-in-None c = λ n h.
    let k : Context = context_of c.args.known.now c.args.at in
    sym (noted_none c.args.first.now)
    ∙ ap (λ (o : Option Expression). noted c.args.first.now (map_or [] (λ (e : Tree). constant_rows 5 k (initial_right k c.args.object.data_type c.args.object.rank n e) e) (option_map expression_view o))) (sym c.in-None.is)
