-- What is said of an expression, and the kind of what it is elaborated to.
use Rattle.std.proofs.Common.{◌≡◌, Bool, true, false, List, [], ◌∷◌, Option, Some, None}
use Rattle.std.specs.Prelude.{⊤}
use Rattle.f3_program.specs.declared.declarations.Base.{Base}
use Rattle.f3_program.specs.declared.declarations.Declared.{Declared}
use Rattle.f3_program.specs.declared.declarations.Kind.{Kind}
use Rattle.f3_program.specs.declared.program.Program.{Program}
use Rattle.f3_kinds.specs.declared.said.Form.{Form}
use Rattle.f3_kinds.specs.declared.said.Form.TheVariants.{Computed, Constant, Variable}
use Rattle.f3_kinds.specs.declared.said.Has.{Has}
use Rattle.f3_kinds.specs.declared.said.Said.{Said}
use Rattle.f3_kinds.specs.declared.said.Given.{Given}
use Rattle.f3_kinds.specs.declared.said.Given.TheVariants.{Value, Triplet}
use Rattle.f3_kinds.specs.Rows.{has_type}
use Rattle.f3_kinds.specs.Designators.{Part}
use Rattle.f3_meaning_whole.specs.Formed.{alike, of_kind}
use Rattle.f3_elaboration.specs.Nodes as n
use Rattle.f3_elaboration.specs.Nodes.{ExpressionNode}
use Rattle.f3_elaboration.specs.Context.{Surroundings, base}
use Rattle.f3_elaboration.specs.Expressions as x
use Rattle.f3_elaboration.specs.Expressions.{is_whole_allocatable}
use Rattle.f3_formed_laws.specs.Nodes.{value_kind, object_kind}

abbrev pub IsNoVariable : Form → Type 0
IsNoVariable (Variable e) = ⊥
IsNoVariable Computed = ⊤
IsNoVariable Constant = ⊤

-- a variable is a whole allocatable where it is said to be one
abbrev pub IsHeldAs : (is_held : Bool) → Has → Form → Type 0
IsHeldAs held h (Variable e) = h.is_allocatable ≡ held
IsHeldAs held h Computed = h.is_allocatable ≡ false
IsHeldAs held h Constant = h.is_allocatable ≡ false

module _ (p : Program) (vs : List Declared) (ns : List Kind) (s : Surroundings) where
  -- a variable is of the type and the rank that are said
  abbrev pub IsAs : ExpressionNode → Has → Type 0
  IsAs (n.variable d) h = (object_kind p vs ns d ≡ Some (of_kind (base s h.data_type) h.rank)) × IsHeldAs (is_whole_allocatable d) h h.form
  IsAs _ h = (h.is_allocatable ≡ false) × IsNoVariable h.form

  -- a value is of the rank that is said, and its type agrees
  pub record IsKind (x : ExpressionNode) (h : Has) : Type 0 where
    pub typed : has_type (Some h) ≡ true
    pub of : Base
    pub value : value_kind p vs ns x ≡ Some (of_kind of h.rank)
    pub alike_to : alike of (base s h.data_type) ≡ true
    pub is_as : IsAs x h

  abbrev pub IsOf : ExpressionNode → Option Has → Type 0
  IsOf x None = ⊥
  IsOf x (Some h) = IsKind x h

  abbrev pub MayBeOf : Option ExpressionNode → Option Said → Type 0
  MayBeOf None None = ⊤
  MayBeOf (Some x) (Some y) = IsOf x y.has
  MayBeOf None (Some y) = ⊥
  MayBeOf (Some x) None = ⊥

  abbrev pub IsGiven : x.Given → Given → Type 0
  IsGiven (x.value k e) (Value l y) = (k ≡ l) × IsOf e y.has
  IsGiven (x.triplet a b c) (Triplet q d e f) = MayBeOf a d × MayBeOf b e × MayBeOf c f
  IsGiven (x.value k e) (Triplet q d f g) = ⊥
  IsGiven (x.triplet a b c) (Value l y) = ⊥

  abbrev pub AreGiven : List x.Given → List Given → Type 0
  AreGiven [] [] = ⊤
  AreGiven (g ∷ gs) (h ∷ hs) = IsGiven g h × AreGiven gs hs
  AreGiven [] (h ∷ hs) = ⊥
  AreGiven (g ∷ gs) [] = ⊥

  abbrev pub IsBehind : Option (List x.Given) → Option (List Given) → Type 0
  IsBehind None None = ⊤
  IsBehind (Some gs) (Some hs) = AreGiven gs hs
  IsBehind None (Some hs) = ⊥
  IsBehind (Some gs) None = ⊥

  abbrev pub AreParts : List x.Part → List Part → Type 0
  AreParts [] [] = ⊤
  AreParts (q ∷ qs) (r ∷ rs) = (q.0 ≡ r.0) × IsBehind q.1 r.1 × AreParts qs rs
  AreParts [] (r ∷ rs) = ⊥
  AreParts (q ∷ qs) [] = ⊥
