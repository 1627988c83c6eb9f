use Rattle.std.proofs.Common.{ap, sym, ◌∙◌, Option, Some, not}
use Rattle.std.specs.Prelude.{is_some}
use Rattle.std.specs.List.{list_all}
use Rattle.f3_tree.specs.declared.declaration.Shape.{Shape}
use Rattle.f3_tree.specs.declared.expression.Expression.{Expression}
use Rattle.f3_tree.specs.Declarations.{shape_view}
use Rattle.f3_type_rules.specs.Attributes.{is_open}
use Rattle.f3_declared.proofs.Conflicting.{open_all}
use Rattle.f3_declared.proofs.conflicts.is_shape_open.Goals as goal

pub returns-in-Deferred : goal.returns-in-Deferred
returns-in-Deferred c =
    c.all_open.ensures ∙ ap (list_all (λ (b : Option Expression). not (is_some b))) c.deref.ensures.value ∙ open_all c.in-Deferred.bounds.items
    ∙ sym (ap (λ (s : Shape). is_open (Some (shape_view s))) c.in-Deferred.is)
