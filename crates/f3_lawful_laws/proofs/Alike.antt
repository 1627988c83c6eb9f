-- What is said of an expression, and what it is elaborated to.
use Rattle.std.proofs.Common.{◌≡◌, ℕ, true, List, [], ◌∷◌, Option, Some, None}
use Rattle.std.specs.Prelude.{⊤}
use Rattle.f3_lookups.specs.declared.lookup.Lookup.TheVariants.{One}
use Rattle.f3_program.specs.declared.program.Program.{Program}
use Rattle.f3_kinds.specs.declared.types.Object.{Object}
use Rattle.f3_kinds.specs.declared.said.Form.{Form}
use Rattle.f3_kinds.specs.declared.said.Form.TheVariants.{Computed, Constant, Variable}
use Rattle.f3_kinds.specs.declared.said.Has.{Has}
use Rattle.f3_kinds.specs.declared.said.Said.{Said}
use Rattle.f3_kinds.specs.declared.said.Given.{Given}
use Rattle.f3_kinds.specs.declared.said.Given.TheVariants.{Value, Triplet}
use Rattle.f3_kinds.specs.Things.{variable, look_here}
use Rattle.f3_kinds.specs.Rows.{has_type}
use Rattle.f3_kinds.specs.Designators.{Part, are_typed}
use Rattle.f3_meaning_whole.specs.Permitted.{Scope, name_of}
use Rattle.f3_elaboration.specs.Nodes as n
use Rattle.f3_elaboration.specs.Nodes.{ExpressionNode, DesignatorNode}
use Rattle.f3_elaboration.specs.Context.{Surroundings, base}
use Rattle.f3_elaboration.specs.Expressions as x
use Rattle.f3_elaboration.specs.Expressions.{or_one}
use Rattle.f3_lawful_laws.specs.Nodes.{designated, NodeValue}

module _ (p : Program) (scope : Scope) (s : Surroundings) where
  -- this variable is visible
  pub record IsSeen (e : ℕ) : Type 0 where
    pub symbol : ℕ
    pub object : Object
    pub looked : look_here s.context symbol ≡ One e
    pub nature : (s.context).nature e ≡ Some (variable object)

  -- a designator of a variable may be defined where that may be
  abbrev pub HasRoot : DesignatorNode → Form → Type 0
  HasRoot d (Variable e) = IsSeen e × ((designated p scope d).may_define ≡ (name_of p scope (s.object e)).may_define)
  HasRoot d Computed = ⊤
  HasRoot d Constant = ⊤

  abbrev pub IsNoVariable : Form → Type 0
  IsNoVariable (Variable e) = ⊥
  IsNoVariable Computed = ⊤
  IsNoVariable Constant = ⊤

  abbrev pub HasAs : ExpressionNode → Has → Type 0
  HasAs (n.variable d) h = ((designated p scope d).of ≡ base s h.data_type) × HasRoot d h.form
  HasAs _ h = IsNoVariable h.form

  -- it has a type, may stand there, and is a variable where it is said to be one
  abbrev pub IsOf : ExpressionNode → Option Has → Type 0
  IsOf x None = ⊥
  IsOf x (Some h) = (has_type (Some h) ≡ true) × NodeValue p scope x × HasAs x h

  abbrev pub MayBeOf : Option ExpressionNode → Option Said → Type 0
  MayBeOf None None = ⊤
  MayBeOf (Some x) (Some y) = IsOf x y.has
  MayBeOf None (Some y) = ⊥
  MayBeOf (Some x) None = ⊥

  abbrev pub IsGiven : x.Given → Given → Type 0
  IsGiven (x.value k e) (Value l y) = (k ≡ l) × IsOf e y.has
  IsGiven (x.triplet a b c) (Triplet q d e f) = MayBeOf a d × MayBeOf b e × MayBeOf c f
  IsGiven (x.value k e) (Triplet q d f g) = ⊥
  IsGiven (x.triplet a b c) (Value l y) = ⊥

  abbrev pub AreGiven : List x.Given → List Given → Type 0
  AreGiven [] [] = ⊤
  AreGiven (g ∷ gs) (h ∷ hs) = IsGiven g h × AreGiven gs hs
  AreGiven [] (h ∷ hs) = ⊥
  AreGiven (g ∷ gs) [] = ⊥

  abbrev pub IsBehind : Option (List x.Given) → Option (List Given) → Type 0
  IsBehind None None = ⊤
  IsBehind (Some gs) (Some hs) = AreGiven gs hs
  IsBehind None (Some hs) = ⊥
  IsBehind (Some gs) None = ⊥

  abbrev pub AreParts : List x.Part → List Part → Type 0
  AreParts [] [] = ⊤
  AreParts (q ∷ qs) (r ∷ rs) = (q.0 ≡ r.0) × IsBehind q.1 r.1 × AreParts qs rs
  AreParts [] (r ∷ rs) = ⊥
  AreParts (q ∷ qs) [] = ⊥

  -- ---- what designators of objects need of it

  abbrev pub MayGive : x.Given → Type 0
  MayGive (x.value k e) = NodeValue p scope e
  MayGive (x.triplet a b c) = NodeValue p scope (or_one a) × NodeValue p scope (or_one b) × NodeValue p scope (or_one c)

  abbrev pub MayGiveAll : List x.Given → Type 0
  MayGiveAll [] = ⊤
  MayGiveAll (g ∷ gs) = MayGive g × MayGiveAll gs

  abbrev pub MayStandBehind : Option (List x.Given) → Type 0
  MayStandBehind None = ⊤
  MayStandBehind (Some gs) = MayGiveAll gs

  -- parts with the same names; bounds of ALLOCATE may stand behind the one alone
  abbrev pub AreNamed : List x.Part → List Part → Type 0
  AreNamed [] [] = ⊤
  AreNamed (q ∷ qs) (r ∷ rs) = (q.0 ≡ r.0) × MayStandBehind q.1 × (are_typed r.1 ≡ true) × AreNamed qs rs
  AreNamed [] (r ∷ rs) = ⊥
  AreNamed (q ∷ qs) [] = ⊥
