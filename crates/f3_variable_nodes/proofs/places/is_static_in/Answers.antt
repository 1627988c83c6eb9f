use Rattle.std.proofs.Common.{ap, sym, ◌∙◌, ◌&&◌, not, Bool}
use Rattle.f3_tree.specs.declared.program.UnitKind.{UnitKind}
use Rattle.f3_tree.specs.Declarations.{parameter, entity_view}
use Rattle.f3_type_rules.specs.Attributes.{has}
use Rattle.f3_declared.specs.Declarations.{tree_of}
use Rattle.f3_elaboration.specs.Numbers.{is_static_in}
use Rattle.f3_declaration_nodes.specs.Variables.{variable_at}
use Rattle.f3_variable_nodes.proofs.places.is_static_in.Goals as goal

pub returns-in-Module : goal.returns-in-Module
returns-in-Module c = λ n u s.
    c.is_variable.ensures
    ∙ sym (ap (λ (k : UnitKind). is_static_in k (variable_at n u s (tree_of c.args.reading.now, entity_view c.args.entity.now))) c.in-Module.is)

pub returns-in-Program : goal.returns-in-Program
returns-in-Program c = λ n u s.
    c.both.ensures
    ∙ ap (λ (b : Bool). b && c.is_saved.result) c.is_variable-in-Program.ensures
    ∙ ap (λ (b : Bool). not (has parameter (tree_of c.args.reading.now)) && b) c.is_saved.ensures
    ∙ sym (ap (λ (k : UnitKind). is_static_in k (variable_at n u s (tree_of c.args.reading.now, entity_view c.args.entity.now))) c.in-Program.is)
