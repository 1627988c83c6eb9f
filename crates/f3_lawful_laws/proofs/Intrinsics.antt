-- References to intrinsic functions may stand where they break no rule, and are no variables.
use Rattle.std.proofs.Common.{◌≡◌, true, false, List, [], ◌∷◌, length, Option, Some, None, sym, nat_lt}
use Rattle.std.specs.Prelude.{⊤}
use Rattle.f3_program.specs.declared.declarations.Base.{Base}
use Rattle.f3_program.specs.declared.expression.BinaryOperator.{BinaryOperator}
use Rattle.f3_program.specs.declared.program.Program.{Program}
use Rattle.f3_kinds.specs.declared.said.Has.{Has}
use Rattle.f3_kinds.specs.declared.things.Intrinsic.{Intrinsic}
use Rattle.f3_kinds.specs.declared.things.Intrinsic.TheVariants as i
use Rattle.f3_kinds.specs.Rows.{has_type}
use Rattle.f3_kinds.specs.Calls.{least_count}
use Rattle.f3_meaning_whole.specs.Permitted.{Scope, Each}
use Rattle.f3_elaboration.specs.Nodes as n
use Rattle.f3_elaboration.specs.Nodes.{ExpressionNode}
use Rattle.f3_elaboration.specs.Context.{Surroundings}
use Rattle.f3_elaboration.specs.Expressions.{intrinsic_value, nested}
use Rattle.f3_lawful_laws.specs.Nodes.{NodeValue}
use Rattle.f3_lawful_laws.proofs.Facts.{no}
use Rattle.f3_lawful_laws.proofs.Alike.{IsNoVariable, HasAs, IsOf}
use Rattle.f3_lawful_laws.proofs.Passing.{may_passed, locates_itself}

abbrev pub IsPlain : ExpressionNode → Type 0
IsPlain (n.variable d) = ⊥
IsPlain _ = ⊤

module _ (p : Program) (scope : Scope) (s : Surroundings) where
  -- no variable, and may stand where it does
  abbrev pub MayAs : ExpressionNode → Type 0
  MayAs x = NodeValue p scope x × IsPlain x

  nested_may : (f : BinaryOperator) (of : Base) (x : ExpressionNode) (ys : List ExpressionNode) → MayAs x → Each (NodeValue p scope) ys → MayAs (nested f of x ys)
  nested_may f of x [] h hs = h
  nested_may f of x (y ∷ ys) h hs = nested_may f of (n.binary f of x y) ys ((h.0, hs.0), tt) hs.1

  allocated_may : (of : Base) (x : ExpressionNode) → NodeValue p scope x → MayAs (intrinsic_value of i.Allocated (x ∷ []))
  allocated_may of (n.variable d) h = (locates_itself p scope s d h, tt)
  allocated_may of x h = (tt, tt)

  allocated_none : (of : Base) (x y : ExpressionNode) (zs : List ExpressionNode) → MayAs (intrinsic_value of i.Allocated (x ∷ y ∷ zs))
  allocated_none of (n.variable d) y zs = (tt, tt)
  allocated_none of x y zs = (tt, tt)

  pub intrinsic_may : (of : Base) (r : Intrinsic) (xs : List ExpressionNode) → Each (NodeValue p scope) xs → nat_lt (length xs) (least_count r) ≡ false
      → MayAs (intrinsic_value of r xs)
  intrinsic_may of i.Abs [] h e = (tt, tt)
  intrinsic_may of i.Abs (x ∷ []) h e = (h.0, tt)
  intrinsic_may of i.Abs (x ∷ y ∷ zs) h e = (tt, tt)
  intrinsic_may of i.Mod [] h e = (tt, tt)
  intrinsic_may of i.Mod (x ∷ []) h e = (tt, tt)
  intrinsic_may of i.Mod (x ∷ y ∷ []) h e = ((h.0, h.1.0), tt)
  intrinsic_may of i.Mod (x ∷ y ∷ z ∷ zs) h e = (tt, tt)
  intrinsic_may of i.Modulo [] h e = (tt, tt)
  intrinsic_may of i.Modulo (x ∷ []) h e = (tt, tt)
  intrinsic_may of i.Modulo (x ∷ y ∷ []) h e = ((h.0, h.1.0), tt)
  intrinsic_may of i.Modulo (x ∷ y ∷ z ∷ zs) h e = (tt, tt)
  intrinsic_may of i.Max [] h e = (tt, tt)
  intrinsic_may of i.Max (x ∷ []) h e = no e
  intrinsic_may of i.Max (x ∷ y ∷ zs) h e = nested_may _ of _ zs ((h.0, h.1.0), tt) h.1.1
  intrinsic_may of i.Min [] h e = (tt, tt)
  intrinsic_may of i.Min (x ∷ []) h e = no e
  intrinsic_may of i.Min (x ∷ y ∷ zs) h e = nested_may _ of _ zs ((h.0, h.1.0), tt) h.1.1
  intrinsic_may of i.Size [] h e = (tt, tt)
  intrinsic_may of i.Size (x ∷ []) h e = (may_passed p scope s false 0 x h.0, tt)
  intrinsic_may of i.Size (x ∷ y ∷ []) h e = ((may_passed p scope s false 0 x h.0, h.1.0), tt)
  intrinsic_may of i.Size (x ∷ y ∷ z ∷ zs) h e = (tt, tt)
  intrinsic_may of i.LowerBound [] h e = (tt, tt)
  intrinsic_may of i.LowerBound (x ∷ []) h e = (tt, tt)
  intrinsic_may of i.LowerBound (x ∷ y ∷ []) h e = ((may_passed p scope s false 0 x h.0, h.1.0), tt)
  intrinsic_may of i.LowerBound (x ∷ y ∷ z ∷ zs) h e = (tt, tt)
  intrinsic_may of i.UpperBound [] h e = (tt, tt)
  intrinsic_may of i.UpperBound (x ∷ []) h e = (tt, tt)
  intrinsic_may of i.UpperBound (x ∷ y ∷ []) h e = ((may_passed p scope s false 0 x h.0, h.1.0), tt)
  intrinsic_may of i.UpperBound (x ∷ y ∷ z ∷ zs) h e = (tt, tt)
  intrinsic_may of i.Allocated [] h e = (tt, tt)
  intrinsic_may of i.Allocated (x ∷ []) h e = allocated_may of x h.0
  intrinsic_may of i.Allocated (x ∷ y ∷ zs) h e = allocated_none of x y zs
  intrinsic_may of i.MoveAlloc xs h e = (tt, tt)

  -- ---- what is no variable, and is said to be none

  abbrev pub IsNone : Option Has → Type 0
  IsNone None = ⊤
  IsNone (Some h) = IsNoVariable p scope s h.form

  has_plain : (x : ExpressionNode) (h : Has) → IsPlain x → IsNoVariable p scope s h.form → HasAs p scope s x h
  has_plain (n.variable d) h e f = absurd e
  has_plain x h e f = f

  pub plain : (x : ExpressionNode) (o : Option Has) → MayAs x → has_type o ≡ true → IsNone o → IsOf p scope s x o
  plain x None h t e = no (sym t)
  plain x (Some y) h t e = (t, h.0, has_plain x y h.1 e)
