-- Expressions, variables, actions and blocks in memory.
use Rattle.std.proofs.Common.{◌≡◌, List, Option, Some, None, refl, ap, ◌∙◌}
use Rattle.f3_tree.specs.Expressions as t
use Rattle.f3_program.specs.declared.declarations.Declared.{Declared}
use Rattle.f3_program.specs.declared.declarations.Kind.{Kind}
use Rattle.f3_program.specs.declared.expression.Expression.{Expression}
use Rattle.f3_program.specs.declared.program.Program.{Program}
use Rattle.f3_kinds.specs.declared.said.Has.{Has}
use Rattle.f3_kinds.specs.Typing.{said}
use Rattle.f3_elaboration.specs.Nodes.{ExpressionNode}
use Rattle.f3_elaboration.specs.Context.{Surroundings}
use Rattle.f3_elaboration.specs.Expressions.{expression}
use Rattle.f3_elaboration.specs.Views.{expression_view}
use Rattle.f3_formed_laws.specs.Nodes.{value_kind, object_kind, is_formed}
use Rattle.f3_formed_laws.specs.Laws.{HasKind, ExpressionsHaveKinds, VariablesHaveKinds, ActionsMakeSense, BlocksMakeSense}
use Rattle.f3_formed_laws.proofs.Alike.{IsOf}
use Rattle.f3_formed_laws.proofs.Seen.{value_seen, object_seen}
use Rattle.f3_formed_laws.proofs.Expressions.{expression_is}
use Rattle.f3_formed_laws.proofs.Variables.{Named, named}
use Rattle.f3_formed_laws.proofs.Actions.{action_is}
use Rattle.f3_formed_laws.proofs.Statements.{block_is}
use Rattle.f3_formed_laws.proofs.SeenStatements.{statement_seen}

has_kind : (p : Program) (vs : List Declared) (ns : List Kind) (s : Surroundings) (e : ExpressionNode) (o : Option Has) → IsOf p vs ns s e o
    → (x : Expression) → expression_view x ≡ e → HasKind p vs ns s x o
has_kind p vs ns s e None h x seen = absurd h
has_kind p vs ns s e (Some y) h x seen = record {
  has = y;
  is_said = refl;
  of = h.of;
  kind = value_seen p vs ns x ∙ ap (value_kind p vs ns) seen ∙ h.value;
  agrees = h.alike_to;
}

pub expressions_have : ExpressionsHaveKinds
expressions_have p vs ns s agrees e w l b x seen =
    has_kind p vs ns s (expression s e) (said s.context e).has (expression_is p vs ns s agrees e w l b) x seen

pub variables_have : VariablesHaveKinds
variables_have p vs ns s agrees v w l b is =
    let at : Named p vs ns s (expression s (t.designator v)) (said s.context (t.designator v)).has =
    named p vs ns s (expression s (t.designator v)) (said s.context (t.designator v)).has (expression_is p vs ns s agrees (t.designator v) w l b) is in (
      λ d seen. object_seen p vs ns d ∙ ap (object_kind p vs ns) seen ∙ at.kind,
      λ d seen. object_seen p vs ns d ∙ ap (object_kind p vs ns) seen ∙ at.itself_is,
    )

pub actions_make : ActionsMakeSense
actions_make p vs ns s agrees site here a w l b free x seen =
    statement_seen p vs x ns ∙ ap (λ z. is_formed p vs z ns) seen ∙ action_is p vs ns s agrees site here a w l b free

pub blocks_make : BlocksMakeSense
blocks_make p vs ns s agrees lent site here held next b placed l free x seen =
    statement_seen p vs x ns ∙ ap (λ z. is_formed p vs z ns) seen
    ∙ block_is p vs held b ns s site next (record { agrees = agrees; lent = lent; here = here }) placed l free
