use Rattle.f3_tree.specs.Expressions.{expression_view}
use Rattle.f3_typed_parts.specs.Known.{context_of}
use Rattle.f3_cases.proofs.Statements.{select_stored}
use Rattle.f3_cases.proofs.select.select.Goals as goal

pub returns : goal.returns
returns c = record {
  noted = select_stored (context_of c.args.known.now c.args.at) (expression_view c.args.selector.now) c.args.cases.now c.in_ok-said.said c.selected_type-data_type.result c.in_ok-all.all.items c.deref.result.now
      c.args.first.now c.expression.new.first c.scalar.new.first c.all_chosen.new.first c.overlaps.new.first c.all_defaults.new.first
      c.in_ok-said.ensures.said c.selected_type-data_type.ensures c.in_ok-said.ensures.noted c.scalar.ensures c.in_ok-all.ensures.noted c.in_ok-all.ensures.held c.deref.ensures.value c.in_ok-overlaps.ensures c.all_defaults.ensures;
}
