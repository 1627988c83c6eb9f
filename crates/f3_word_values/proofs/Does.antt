-- What instructions do where such cells stand on top.
use Rattle.std.proofs.Common.{◌≡◌, ◌∙◌, ap, ℕ, ℤ, ◌+◌, Bool, true, false, List, [], ◌∷◌, pos, refl}
use Rattle.std.specs.Prelude.{⊤, Option, Some, None}
use Rattle.f3_program.specs.declared.declarations.Base.{Base}
use Rattle.f3_program.specs.declared.declarations.Base.TheVariants as base
use Rattle.f3_program.specs.declared.declarations.Constant.{Constant}
use Rattle.f3_program.specs.declared.expression.BinaryOperator.{BinaryOperator}
use Rattle.f3_program.specs.declared.expression.UnaryOperator.{UnaryOperator}
use Rattle.f3_program.specs.declared.expression.Query.{Query}
use Rattle.f3_program.specs.declared.program.Program.{Program}
use Rattle.f3_meaning_whole.specs.Value.{Span, Value, Number, number_of, plain, spans_of, count}
use Rattle.f3_meaning_whole.specs.Arithmetic.{apply, change_of, converted, constant_value}
use Rattle.f3_meaning_whole.specs.Eval.{asked}
use Rattle.f3_meaning_whole.specs.Act.{At, Range}
use Rattle.f3_code.specs.declared.instruction.Instruction.{Instruction}
use Rattle.f3_code.specs.declared.instruction.Instruction.TheVariants as i
use Rattle.f3_code.specs.State.{Line, placed, Goes}
use Rattle.f3_code.specs.State as s
use Rattle.f3_code.specs.Heap.{with_answers}
use Rattle.f3_code.specs.Machine.{performs}
use Rattle.f3_meaning_whole.specs.Act.{Here, Given, claim_for, needs_storage}
use Rattle.f3_meaning_whole.specs.Exec.{Holds}
use Rattle.f3_meaning_whole.specs.Store.{Store}
use Rattle.f3_meaning_whole.specs.Ran.{Ran, World}
use Rattle.f3_word_cells.specs.Does.{AreGranted, GoesOn, stream}
use Rattle.f3_word_cells.proofs.Lines.{answering, claim_for_block, claim_for_scalar, claim_granted, line_goes, performs_gives}
use Rattle.f3_word_control.proofs.Lines.{does, with_stack}
use Rattle.f3_word_values.proofs.Ending.{Computes}

module _ (p : Program) (l : Line) (t : s.State) where
  pub unary_does : (c : UnaryOperator) (of : Base) (v : Value) (below : List s.Cell) → t.stack ≡ s.Datum v ∷ below
      → Computes p l t (i.Unary c of) (change_of c of v (placed l.place t.here).place) below
  unary_does c of v below e rest = rw e refl

  pub binary_does : (c : BinaryOperator) (of : Base) (v w : Value) (below : List s.Cell) → t.stack ≡ s.Datum w ∷ s.Datum v ∷ below
      → Computes p l t (i.Binary c of) (apply c of v w (placed l.place t.here).place) below
  binary_does c of v w below e rest = rw e refl

  pub convert_does : (of : Base) (v : Value) (below : List s.Cell) → t.stack ≡ s.Datum v ∷ below
      → Computes p l t (i.Convert of) (converted of v (placed l.place t.here).place) below
  convert_does of v below e rest = rw e refl

  pub size_does : (ss : List Span) (below : List s.Cell) → t.stack ≡ s.Bounds ss ∷ below
      → Computes p l t i.Size (converted base.Integer (Number (pos (count ss))) (placed l.place t.here).place) below
  size_does ss below e rest = rw e refl

  pub bound_does : (q : Query) (v : Value) (ss : List Span) (below : List s.Cell) → t.stack ≡ s.Datum v ∷ s.Bounds ss ∷ below
      → Computes p l t (i.Bound q) (asked q ss (number_of v) (placed l.place t.here)) below
  bound_does q v ss below e rest = rw e refl

  module _ (rest : ℕ → Bool) where
    abbrev pub LeadsOn : Instruction → List s.Cell → Type 0
    LeadsOn x stack = does p l t x rest ≡ Goes [] (with_answers rest (with_stack (t.pc + 1) stack t))

    pub pushed : (c : Constant) → LeadsOn (i.Push c) (s.Datum (constant_value c) ∷ t.stack)
    pushed c = refl

    pub plain_so : (v : Value) (below : List s.Cell) → t.stack ≡ s.Datum v ∷ below → LeadsOn i.Plain (s.Datum (plain v) ∷ below)
    plain_so v below e = rw e refl

    pub bounds_so : (v : Value) (below : List s.Cell) → t.stack ≡ s.Datum v ∷ below → LeadsOn i.BoundsOfValue (s.Bounds (spans_of v) ∷ below)
    bounds_so v below e = rw e refl

    pub subscript_so : (v : Value) (below : List s.Cell) → t.stack ≡ s.Datum v ∷ below → LeadsOn i.Subscript (s.Choice (At (number_of v)) ∷ below)
    subscript_so v below e = rw e refl

    pub limit_so : (v : Value) (below : List s.Cell) → t.stack ≡ s.Datum v ∷ below → LeadsOn i.Limit (s.Bound (Some (number_of v)) ∷ below)
    limit_so v below e = rw e refl

    pub no_limit_so : LeadsOn i.NoLimit (s.Bound None ∷ t.stack)
    no_limit_so = refl

    pub triplet_so : (v : Value) (upper lower : Option ℤ) (below : List s.Cell) → t.stack ≡ s.Datum v ∷ s.Bound upper ∷ s.Bound lower ∷ below
        → LeadsOn i.Triplet (s.Choice (Range lower upper (number_of v)) ∷ below)
    triplet_so v upper lower below e = rw e refl

  abbrev pub GoesTo : Instruction → List s.Cell → Type 0
  GoesTo x stack = l.act ≡ x → GoesOn p l t (with_stack (t.pc + 1) stack t) []

  -- where storage is claimed for the value
  module _ (v : Value) (below : List s.Cell) (split : t.stack ≡ s.Datum v ∷ below) where
    abbrev pub claimed : Bool → List Bool
    claimed true = false ∷ []
    claimed false = []

    granted_claimed : (b : Bool) → AreGranted (claimed b)
    granted_claimed true = tt
    granted_claimed false = tt

    claims : (b : Bool) (here : Here) (store : Store) (rest : ℕ → Bool) (f : ⊤ → World → s.State) → needs_storage v ≡ b
        → performs (claim_for v here) (answering store (stream (claimed b) rest)) f ≡ Goes [] (f tt (answering store rest))
    claims true here store rest f e =
        ap (λ (r : Ran ⊤). performs r (answering store (stream (false ∷ []) rest)) f) (claim_for_block v here e) ∙ claim_granted here store [] rest f
    claims false here store rest f e =
        ap (λ (r : Ran ⊤). performs r (answering store (stream [] rest)) f) (claim_for_scalar v here e) ∙ performs_gives tt (answering store (stream [] rest)) f

    pub passed_so : (k : ℕ) → GoesTo (i.PassValue k) (s.Argument (Given k v) ∷ below)
    passed_so k is = line_goes p l t (i.PassValue k) (s.Datum v ∷ below) (with_stack (t.pc + 1) (s.Argument (Given k v) ∷ below) t) (claimed (needs_storage v)) (granted_claimed (needs_storage v)) [] is split
        (λ rest. claims (needs_storage v) (placed l.place t.here) t.world.store rest _ refl)

    pub selected_so : (of : Base) → GoesTo (i.SelectValue of) (s.Selector (Holds of v) ∷ below)
    selected_so of is = line_goes p l t (i.SelectValue of) (s.Datum v ∷ below) (with_stack (t.pc + 1) (s.Selector (Holds of v) ∷ below) t) (claimed (needs_storage v)) (granted_claimed (needs_storage v)) [] is split
        (λ rest. claims (needs_storage v) (placed l.place t.here) t.world.store rest _ refl)
