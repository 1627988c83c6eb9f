-- Variables where they are defined are of the kinds that are said.
use Rattle.std.proofs.Common.{◌≡◌, Bool, List, Option, Some, None}
use Rattle.f3_program.specs.declared.declarations.Declared.{Declared}
use Rattle.f3_program.specs.declared.declarations.Kind.{Kind}
use Rattle.f3_program.specs.declared.program.Program.{Program}
use Rattle.f3_kinds.specs.declared.said.Form.{Form}
use Rattle.f3_kinds.specs.declared.said.Form.TheVariants.{Computed, Constant, Variable}
use Rattle.f3_kinds.specs.declared.said.Has.{Has}
use Rattle.f3_elaboration.specs.Nodes as n
use Rattle.f3_elaboration.specs.Nodes.{ExpressionNode}
use Rattle.f3_elaboration.specs.Context.{Surroundings, base}
use Rattle.f3_elaboration.specs.Expressions.{itself, is_whole_allocatable}
use Rattle.f3_elaboration.specs.Actions.{kind_by, held_kind, named_by}
use Rattle.f3_formed_laws.specs.Nodes.{object_kind}
use Rattle.f3_formed_laws.specs.Laws.{IsForm, IsVariable}
use Rattle.f3_formed_laws.proofs.Alike.{IsHeldAs, IsNoVariable, IsAs, IsOf}
use Rattle.f3_formed_laws.proofs.Holding.{itself_kind}

no_variable : (f : Form) → IsForm f → IsNoVariable f → ⊥
no_variable (Variable e) v h = h
no_variable Computed v h = v
no_variable Constant v h = v

held_variable : (held : Bool) (h : Has) (f : Form) → IsForm f → IsHeldAs held h f → h.is_allocatable ≡ held
held_variable held h (Variable e) v i = i
held_variable held h Computed v i = absurd v
held_variable held h Constant v i = absurd v

module _ (p : Program) (vs : List Declared) (ns : List Kind) (s : Surroundings) where
  -- a variable, and one itself
  pub record Named (x : ExpressionNode) (o : Option Has) : Type 0 where
    pub kind : object_kind p vs ns (named_by x) ≡ Some (held_kind (kind_by s o))
    pub itself_is : object_kind p vs ns (itself (named_by x)) ≡ Some (kind_by s o)

  pub named : (x : ExpressionNode) (o : Option Has) → IsOf p vs ns s x o → IsVariable o → Named x o
  named x None h v = absurd v
  named x (Some y) h v = go x h.is_as
    where
      go : (x : ExpressionNode) → IsAs p vs ns s x y → Named x (Some y)
      go (n.variable d) i = record {
        kind = i.0;
        itself_is = itself_kind p vs ns d (base s y.data_type) y.rank y.is_allocatable i.0 (held_variable (is_whole_allocatable d) y y.form v i.1);
      }
      go x i = absurd (no_variable y.form v i.1)
