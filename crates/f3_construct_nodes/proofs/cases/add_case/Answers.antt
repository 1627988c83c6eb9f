use Rattle.std.proofs.Common.{map, sym, ap, ◌∙◌}
use Rattle.f3_tree.specs.Statements.{case_view, selector_view}
use Rattle.f3_typed_parts.specs.Known.{context_of}
use Rattle.f3_elaboration.specs.Nodes as n
use Rattle.f3_elaboration.specs.Statements.{case_range}
use Rattle.f3_elaboration.specs.Views.{statement_view}
use Rattle.f3_construct_nodes.specs.Nested.{case_of, chosen, case_before}
use Rattle.f3_construct_nodes.proofs.cases.add_case.Goals as goal

pub returns-in-Ok : goal.returns-in-Ok
returns-in-Ok c = λ others.
    let old = c.args.found.now.items in
    let known = context_of c.args.known.now c.args.at in
    let body = statement_view c.args.block in
    let otherwise = statement_view c.args.otherwise in
    c.in-Ok.ensures (others otherwise)
    ∙ ap (λ vs. chosen (map case_of old) (n.case (map (case_range known) (map case_view vs)) body (others otherwise))) c.deref.ensures.value
    ∙ sym (ap (λ s. chosen (map case_of old) (case_before known (selector_view s) body others otherwise)) c.in-Values.is)
