-- Of which kinds the cells are that instructions take and leave.
use Rattle.std.specs.Prelude.{◌≡◌, ℕ, zero, suc, Bool, true, false, not, ◌&&◌, ◌||◌, nat_eq}
use Rattle.std.specs.Prelude.{nat_lt, if◌then◌else◌, List, [], ◌∷◌, ◌++◌, length, Option, Some, None, slice_get}
use Rattle.f3_program.specs.declared.declarations.Base.{Base}
use Rattle.f3_program.specs.declared.declarations.Base.TheVariants as base
use Rattle.f3_program.specs.declared.declarations.Component.{Component}
use Rattle.f3_program.specs.declared.declarations.Constant.{Constant}
use Rattle.f3_program.specs.declared.declarations.Constant.TheVariants as constant
use Rattle.f3_program.specs.declared.declarations.Declared.{Declared}
use Rattle.f3_program.specs.declared.declarations.Derived.{Derived}
use Rattle.f3_program.specs.declared.declarations.Kind.{Kind}
use Rattle.f3_program.specs.declared.expression.BinaryOperator.{BinaryOperator}
use Rattle.f3_program.specs.declared.expression.BinaryOperator.TheVariants as o
use Rattle.f3_program.specs.declared.expression.UnaryOperator.{UnaryOperator}
use Rattle.f3_program.specs.declared.expression.UnaryOperator.TheVariants as u
use Rattle.f3_program.specs.declared.statement.Range.{Range}
use Rattle.f3_program.specs.declared.statement.Range.TheVariants as range
use Rattle.f3_program.specs.declared.program.Procedure.{Procedure}
use Rattle.f3_program.specs.declared.program.Program.{Program}
use Rattle.f3_meaning_whole.specs.Value.{Value}
use Rattle.f3_meaning_whole.specs.Arithmetic.{fits}
use Rattle.f3_meaning_whole.specs.Act.{component_of}
use Rattle.f3_meaning_whole.specs.Permitted.{same_type}
use Rattle.f3_meaning_whole.specs.Run.{setting_of}
use Rattle.f3_meaning_whole.specs.Formed.{Given, all, some, only, found, alike, is_number, of_kind, is_scalar}
use Rattle.f3_meaning_whole.specs.Formed.{is_whole_number, takes, constructed, kind_of_name, sectioned, element_of_each, structured, referenced}
use Rattle.f3_code.specs.Lower.{initial}
use Rattle.f3_code.specs.declared.instruction.Instruction.{Instruction}
use Rattle.f3_code.specs.declared.instruction.Instruction.TheVariants as i
use Rattle.f3_cell_kinds.specs.Types.{Scope, Around, Told, Untold, CellType, Datum, Object, Each, Argument, Choice, Bound, Bounds, Extent}
use Rattle.f3_cell_kinds.specs.Types.{Status, Turns, Elements, Objects, Selector, Level, Outside}
use Rattle.f3_cell_kinds.specs.Types.{Going, Site, selecting, associating, arguments_on, choices_on, selectors_on}

-- ---- ways on

-- a way on: what statements may name there, and which cells are left
pub record Way : Type 0 where
  pub scope : Around
  pub left : List CellType

pub record Far : Type 0 where
  pub over : ℕ
  pub to : Way

-- which cells an instruction takes, the way on to the next line, where there is one, and those over so many lines
pub record Effect : Type 0 where
  pub takes : List CellType
  pub next : Option Way
  pub far : List Far

abbrev pub way : Site → List CellType → Way
way s xs = record { scope = s.scope; left = xs }

abbrev pub after : ℕ → Way → Far
after d w = record { over = d; to = w }

-- to the next line alone
abbrev pub on : Site → List CellType → List CellType → Effect
on s xs ys = record { takes = xs; next = Some (way s ys); far = [] }

-- to the next line, or over so many lines
abbrev pub fork : Site → List CellType → List CellType → ℕ → List CellType → Effect
fork s xs ys d zs = record { takes = xs; next = Some (way s ys); far = after d (way s zs) ∷ [] }

-- to the next line where this holds, else over so many lines
abbrev pub either : Bool → Site → List CellType → List CellType → ℕ → List CellType → Effect
either b s xs ys d zs = record { takes = xs; next = only b (way s ys); far = if b then [] else after d (way s zs) ∷ [] }

-- no way on
abbrev pub ends : List CellType → Effect
ends xs = record { takes = xs; next = None; far = [] }

-- ---- what is asked of kinds

abbrev pub truth : Kind
truth = of_kind base.Logical 0

abbrev pub number : Kind
number = of_kind base.Integer 0

-- what an allocatable holds
abbrev pub held_kind : Kind → Kind
held_kind k = of_kind k.of k.rank

abbrev pub constant_kind : Constant → Kind
constant_kind (constant.Number z) = number
constant_kind (constant.Truth b) = truth

-- a constant has at most 64 bits
abbrev pub is_word : Constant → Bool
is_word (constant.Number z) = fits base.Long z
is_word (constant.Truth b) = true

-- a number, or a truth value
abbrev pub is_of : (is_a_number : Bool) → Base → Bool
is_of true t = is_number t
is_of false t = same_type t base.Logical

abbrev pub is_on_numbers : UnaryOperator → Bool
is_on_numbers u.Negate = true
is_on_numbers u.Absolute = true
is_on_numbers u.Not = false

abbrev pub is_of_numbers : BinaryOperator → Bool
is_of_numbers o.And = false
is_of_numbers o.Or = false
is_of_numbers o.Equivalent = false
is_of_numbers o.NotEquivalent = false
is_of_numbers c = true

abbrev pub is_comparison : BinaryOperator → Bool
is_comparison o.Equal = true
is_comparison o.NotEqual = true
is_comparison o.Less = true
is_comparison o.LessOrEqual = true
is_comparison o.Greater = true
is_comparison o.GreaterOrEqual = true
is_comparison c = false

-- an operator fits the types of its result and of its operands (ISO/IEC 1539-1:2004, 7.1.4)
abbrev pub unary_fits : UnaryOperator → Base → Kind → Bool
unary_fits c t k = is_of (is_on_numbers c) t && (is_scalar k && is_of (is_on_numbers c) k.of)

abbrev pub binary_fits : BinaryOperator → Base → Kind → Kind → Bool
binary_fits c t k j = is_of (is_of_numbers c && not (is_comparison c)) t
    && ((is_scalar k && is_of (is_of_numbers c) k.of) && (is_scalar j && is_of (is_of_numbers c) j.of))

-- items of an array constructor are values
abbrev pub are_values : List Given → Bool
are_values gs = all (λ (g : Given). not g.is_variable) gs

-- of variables a structure constructor has whole allocatables alone, for allocatable components (4.5.9)
abbrev pub is_whole_for : List Component → Given → Bool
is_whole_for cs g = not g.is_variable || (g.kind.is_allocatable && some (slice_get cs g.number) (λ c. c.declared.kind.is_allocatable))

abbrev pub are_for : List Derived → ℕ → List Given → Bool
are_for types t gs = some (slice_get types t) (λ (y : Derived). all (is_whole_for y.components.items) gs)

-- a range of a CASE is one of values of the type (8.1.3)
abbrev pub range_fits : Base → Range → Bool
range_fits t (range.One (constant.Truth b)) = same_type t base.Logical
range_fits t r = is_number t

-- a component of an object, or of each element of an array
abbrev pub part_kind : Kind → Kind → Option Kind
part_kind k c = if nat_eq k.rank 0 then Some c else only (is_scalar c) (of_kind c.of k.rank)

abbrev pub part_cell : Kind → ℕ → Kind → CellType
part_cell k n c = if nat_eq k.rank 0 then Object c else Each k n c

-- elements of a component, or an element of the component of each element of an array
abbrev pub picked_kind : Program → Bool → List Bool → Kind → Kind → Option Kind
picked_kind p is_opened bs k c = if nat_eq k.rank 0 then sectioned p [] [] is_opened (Some bs) c else element_of_each p [] [] is_opened (Some bs) k c

-- of the value with which a procedure returns; of a subroutine's none is used
abbrev pub declared_kind : Option Declared → Kind
declared_kind None = truth
declared_kind (Some y) = y.kind

abbrev pub result_in : List Declared → Option ℕ → Option Kind
result_in variables None = Some truth
result_in variables (Some n) = found (slice_get variables n) (λ (y : Declared). Some y.kind)

abbrev pub extents_on : ℕ → List CellType → List CellType
extents_on zero h = h
extents_on (suc n) h = extents_on n (Extent ∷ h)

abbrev pub In : Around → (Scope → Type 0) → Type 0
In (Told c) f = f c
In o f = ⊥

-- ---- instructions

module _ (p : Program) (s : Site) (v : Value) where
  -- At a site an instruction with a value does this: its effect is one of which `by` holds. Of GoBack and Back this does not speak.
  abbrev pub Does : Instruction → (Effect → Type 0) → Type 0
  Does (i.Push c) by = (is_word c ≡ true) × by (on s [] (Datum (constant_kind c) ∷ []))
  Does i.Plain by = (k : Kind) × by (on s (Datum k ∷ []) (Datum k ∷ []))
  Does (i.Unary c t) by = (k : Kind) × (unary_fits c t k ≡ true) × by (on s (Datum k ∷ []) (Datum (of_kind t 0) ∷ []))
  Does (i.Binary c t) by = (k : Kind) × (j : Kind) × (binary_fits c t k j ≡ true) × by (on s (Datum j ∷ Datum k ∷ []) (Datum (of_kind t 0) ∷ []))
  Does (i.Array n) by = (gs : List Given) × (k : Kind) × (length gs ≡ n) × (constructed gs ≡ Some k) × (are_values gs ≡ true)
      × by (on s (arguments_on gs []) (Datum k ∷ []))
  Does (i.Structure t n) by = (gs : List Given) × (k : Kind) × (length gs ≡ n) × (structured p [] [] t gs ≡ Some k)
      × (are_for p.types.items t gs ≡ true) × by (on s (arguments_on gs []) (Datum k ∷ []))
  Does (i.Call f n) by = (gs : List Given) × (q : Procedure) × (k : Kind) × (length gs ≡ n) × (slice_get p.procedures.items f ≡ Some q)
      × (referenced p [] [] f gs ≡ Some k) × by (on s (arguments_on gs []) (Datum (declared_kind q.result) ∷ []))
  Does i.Result by = (k : Kind) × by (on s (Datum k ∷ []) (Datum (held_kind k) ∷ []))
  Does i.IsAllocated by = (k : Kind) × (k.is_allocatable ≡ true) × by (on s (Object k ∷ []) (Datum truth ∷ []))
  Does i.BoundsOfValue by = (k : Kind) × (k.is_allocatable ≡ false) × by (on s (Datum k ∷ []) (Bounds k.rank ∷ []))
  Does i.BoundsOfVariable by = (k : Kind) × (k.is_allocatable ≡ false) × by (on s (Object k ∷ []) (Bounds k.rank ∷ []))
  Does i.Size by = (n : ℕ) × by (on s (Bounds n ∷ []) (Datum number ∷ []))
  Does (i.Bound q) by = (k : Kind) × (n : ℕ) × (is_whole_number k ≡ true) × by (on s (Datum k ∷ Bounds n ∷ []) (Datum number ∷ []))
  Does i.Load by = (k : Kind) × (k.is_allocatable ≡ false) × by (on s (Object k ∷ []) (Datum k ∷ []))
  Does (i.PassValue n) by = (k : Kind) × by (on s (Datum k ∷ []) (Argument (record { number = n; kind = k; is_variable = false }) ∷ []))
  Does (i.PassVariable n) by = (k : Kind) × by (on s (Object k ∷ []) (Argument (record { number = n; kind = k; is_variable = true }) ∷ []))
  Does (i.Refer x) by = In s.scope (λ c. (k : Kind) × (kind_of_name p c.variables c.names x ≡ Some k) × by (on s [] (Object k ∷ [])))
  Does (i.Component n) by = (k : Kind) × (c : Component) × (j : Kind) × (k.is_allocatable ≡ false) × (component_of p.types.items k.of n ≡ Some c)
      × (part_kind k c.declared.kind ≡ Some j) × by (on s (Object k ∷ []) (Object j ∷ []))
  Does (i.ComponentOf n) by = (k : Kind) × (c : Component) × (k.is_allocatable ≡ false) × (component_of p.types.items k.of n ≡ Some c)
      × by (on s (Object k ∷ []) (part_cell k n c.declared.kind ∷ Object k ∷ []))
  Does i.Contents by = (k : Kind) × (k.is_allocatable ≡ true) × by (on s (Object k ∷ []) (Object (held_kind k) ∷ []))
  Does (i.Select is_opened n) by = (k : Kind) × (bs : List Bool) × (j : Kind) × (length bs ≡ n) × (sectioned p [] [] is_opened (Some bs) k ≡ Some j)
      × by (on s (choices_on bs (Object k ∷ [])) (Object j ∷ []))
  Does (i.SelectOf is_opened m n) by = (k : Kind) × (c : Component) × (bs : List Bool) × (j : Kind) × (length bs ≡ n)
      × (k.is_allocatable ≡ false) × (component_of p.types.items k.of m ≡ Some c) × (picked_kind p is_opened bs k c.declared.kind ≡ Some j)
      × by (on s (choices_on bs (part_cell k m c.declared.kind ∷ Object k ∷ [])) (Object j ∷ []))
  Does i.Subscript by = (k : Kind) × (is_whole_number k ≡ true) × by (on s (Datum k ∷ []) (Choice false ∷ []))
  Does i.Limit by = (k : Kind) × (is_whole_number k ≡ true) × by (on s (Datum k ∷ []) (Bound ∷ []))
  Does i.NoLimit by = by (on s [] (Bound ∷ []))
  Does i.Triplet by = (k : Kind) × (is_whole_number k ≡ true) × by (on s (Datum k ∷ Bound ∷ Bound ∷ []) (Choice true ∷ []))
  Does i.TestShape by = (k : Kind) × (j : Kind) × (takes k j ≡ true) × by (on s (Object k ∷ Datum j ∷ []) (Object k ∷ Datum j ∷ []))
  -- a scalar has the shape of every array
  Does (i.ByState other unallocated) by = (k : Kind) × (j : Kind) × (k.is_allocatable ≡ true) × (takes k j ≡ true) × by (record {
    takes = Object k ∷ Datum j ∷ [];
    next = Some (way s (Object k ∷ Datum j ∷ []));
    far = (if nat_lt 0 j.rank then after other (way s (Object k ∷ Datum j ∷ [])) ∷ [] else []) ++ after unallocated (way s (Object k ∷ Datum j ∷ [])) ∷ [];
  })
  Does (i.TestRank rank) by = (k : Kind) × (j : Kind) × (takes k j ≡ true) × by (record {
    takes = Object k ∷ Datum j ∷ [];
    next = only (nat_eq rank j.rank) (way s (Object k ∷ Datum j ∷ []));
    far = [];
  })
  Does (i.New rank) by = (k : Kind) × (j : Kind) × (k.is_allocatable ≡ true) × (takes k j ≡ true) × (k.rank ≡ rank) × (j.rank ≡ rank)
      × (v ≡ initial (setting_of p) k.of) × by (on s (Object k ∷ Datum j ∷ []) (Object k ∷ Datum j ∷ []))
  Does (i.Take of) by = (k : Kind) × (j : Kind) × (k.of ≡ of) × (k.is_allocatable ≡ false) × (takes k j ≡ true) × by (on s (Object k ∷ Datum j ∷ []) [])
  Does (i.Fill of) by = (k : Kind) × (j : Kind) × (k.of ≡ of) × (k.is_allocatable ≡ false) × (takes k j ≡ true) × by (on s (Object k ∷ Datum j ∷ []) [])
  Does i.Begin by = by (on s [] [])
  Does i.Drop by = (x : CellType) × by (on s (x ∷ []) [])
  Does (i.Unwind n) by = (xs : List CellType) × (length xs ≡ n) × by (on s xs [])
  Does i.Swap by = (x : CellType) × (y : CellType) × by (on s (x ∷ y ∷ []) (y ∷ x ∷ []))
  Does i.LendBoth by = (k : Kind) × by (on s (Object k ∷ Object k ∷ []) (Object k ∷ Object k ∷ []))
  Does i.TakeOver by = (k : Kind) × (k.is_allocatable ≡ true) × by (on s (Object k ∷ Object k ∷ []) [])
  Does i.Dimension by = (k : Kind) × (j : Kind) × (is_whole_number k ≡ true) × (is_whole_number j ≡ true) × by (on s (Datum j ∷ Datum k ∷ []) (Extent ∷ []))
  Does (i.Allocate rank n) by = (k : Kind) × (k.is_allocatable ≡ true) × (k.rank ≡ rank) × (n ≡ rank) × (v ≡ initial (setting_of p) k.of)
      × by (on s (extents_on n (Object k ∷ [])) (Status ∷ []))
  Does (i.TestFree d) by = (k : Kind) × (k.is_allocatable ≡ true) × by (fork s (Object k ∷ []) (Object k ∷ []) d (Status ∷ []))
  Does i.NoError by = by (on s [] (Status ∷ []))
  Does (i.SkipIfFailed d) by = by (fork s (Status ∷ []) [] d (Status ∷ []))
  Does i.Check by = by (on s (Status ∷ []) [])
  Does i.StoreStatus by = (k : Kind) × (is_whole_number k ≡ true) × by (on s (Object k ∷ Status ∷ []) [])
  Does i.PrintValue by = (k : Kind) × ((is_number k.of || same_type k.of base.Logical) ≡ true) × by (on s (Datum k ∷ []) [])
  Does (i.PrintByte b) by = by (on s [] [])
  Does (i.Stop n) by = by (ends [])
  Does i.SetPlace by = by (on s [] [])
  Does (i.GoOn d) by = by (record { takes = []; next = None; far = after d (way s []) ∷ [] })
  Does (i.SkipIfFalse d) by = by (fork s (Datum truth ∷ []) [] d [])
  Does (i.SkipIfTrue d) by = by (fork s (Datum truth ∷ []) [] d [])
  Does (i.Meets r) by = In s.scope (λ c. (k : Kind) × (c.selected ≡ Some k) × (range_fits k.of r ≡ true) × by (on s [] (Datum truth ∷ [])))
  Does i.Selecting by = In s.scope (λ c. (k : Kind) × (is_scalar k ≡ true) × by (record {
    takes = Datum k ∷ [];
    next = Some (record { scope = Told (selecting k c); left = Outside c ∷ [] });
    far = [];
  }))
  Does (i.Leave out d) by = In s.scope (λ inner. (c : Scope) × by (record {
    takes = Outside c ∷ [];
    next = None;
    far = after d (record { scope = Told c; left = Going ∷ [] }) ∷ [];
  }))
  Does (i.Depart cycle exit) by = by (record {
    takes = Going ∷ [];
    next = Some (way s []);
    far = after 2 (way s []) ∷ after cycle (way s []) ∷ after exit (way s []) ∷ [];
  })
  Does i.SelectVariable by = (k : Kind) × (k.is_allocatable ≡ false) × by (on s (Object k ∷ []) (Selector k ∷ []))
  Does (i.SelectValue of) by = (k : Kind) × (k.is_allocatable ≡ false) × (alike of k.of ≡ true) × by (on s (Datum k ∷ []) (Selector (of_kind of k.rank) ∷ []))
  Does (i.Associate n) by = In s.scope (λ c. (ks : List Kind) × (length ks ≡ n) × by (record {
    takes = selectors_on ks [];
    next = Some (record { scope = Told (associating ks c); left = Outside c ∷ Level ks ∷ [] });
    far = [];
  }))
  Does i.Associated by = (ks : List Kind) × by (on s (Going ∷ Level ks ∷ []) (Objects ks ∷ Going ∷ Level ks ∷ []))
  Does (i.NextObject d) by = (k : Kind) × (ks : List Kind) × by (on s (Objects (k ∷ ks) ∷ []) (Object k ∷ Objects ks ∷ []))
  Does i.EndAssociate by = (ks : List Kind) × (js : List Kind) × by (on s (Objects ks ∷ Going ∷ Level js ∷ []) (Going ∷ []))
  Does (i.Convert of) by = (k : Kind) × (is_whole_number k ≡ true) × (is_number of ≡ true) × by (on s (Datum k ∷ []) (Datum (of_kind of 0) ∷ []))
  Does i.TestStep by = (k : Kind) × (is_whole_number k ≡ true) × by (on s (Datum k ∷ []) (Datum k ∷ []))
  Does i.CountBegin by =
      (k : Kind) × (is_whole_number k ≡ true)
      × by (on s (Object k ∷ Datum (of_kind k.of 0) ∷ Datum (of_kind k.of 0) ∷ Datum (of_kind k.of 0) ∷ []) (Turns ∷ []))
  Does (i.CountNext d) by = by (fork s (Turns ∷ []) (Turns ∷ []) d (Turns ∷ []))
  Does (i.CountUp of) by = (k : Kind) × (is_whole_number k ≡ true) × (k.of ≡ of) × by (on s (Object k ∷ Turns ∷ []) (Turns ∷ []))
  Does i.Lend by = (k : Kind) × by (on s (Object k ∷ []) (Object k ∷ []))
  Does i.Unlend by = by (on s [] [])
  Does (i.SkipUnlessRank rank d) by =
      (k : Kind) × (k.is_allocatable ≡ false) × by (either (nat_eq rank k.rank) s (Object k ∷ []) (Object k ∷ []) d (Object k ∷ []))
  Does i.PassObject by = (k : Kind) × by (on s (Object k ∷ []) (Argument (record { number = 0; kind = k; is_variable = true }) ∷ Object k ∷ []))
  Does (i.Routine t) by = by (on s (Object (of_kind (base.Derived t) 0) ∷ []) (Object (of_kind (base.Derived t) 0) ∷ []))
  Does (i.WorkComponent n) by = (k : Kind) × (c : Component) × (is_scalar k ≡ true) × (component_of p.types.items k.of n ≡ Some c)
      × by (on s (Object k ∷ []) (Object c.declared.kind ∷ Object k ∷ []))
  Does i.WalkBegin by = (k : Kind) × (k.is_allocatable ≡ false) × by (on s (Object k ∷ []) (Elements k.of ∷ Object k ∷ []))
  Does (i.WalkNext d) by = (k : Kind) × by (fork s (Elements k.of ∷ Object k ∷ []) (Object (of_kind k.of 0) ∷ Elements k.of ∷ Object k ∷ []) d (Object k ∷ []))
  Does (i.SkipUnlessAllocated d) by = (k : Kind) × (k.is_allocatable ≡ true) × by (fork s (Object k ∷ []) (Object k ∷ []) d (Object k ∷ []))
  Does i.OpenContents by = (k : Kind) × (k.is_allocatable ≡ true) × by (on s (Object k ∷ []) (Object (held_kind k) ∷ Object k ∷ []))
  Does i.Free by = (k : Kind) × (k.is_allocatable ≡ true) × by (on s (Object k ∷ []) (Object k ∷ []))
  Does i.Clear by = (k : Kind) × by (on s (Object k ∷ []) (Object k ∷ []))
  Does i.Set by = (k : Kind) × (k.is_allocatable ≡ false) × (v ≡ initial (setting_of p) k.of) × by (on s (Object k ∷ []) (Object k ∷ []))
  Does i.Discard by = by (on s [] [])
  Does i.Dummies by = In s.scope (λ c. by (on s [] (Objects c.names ∷ [])))
  Does (i.ResultOf x) by = In s.scope (λ c. (result_in c.variables x ≡ Some s.returns) × by (on s [] (Datum s.returns ∷ [])))
  Does i.Outward by = In s.scope (λ c. by (record { takes = []; next = Some (record { scope = Untold; left = Objects c.names ∷ [] }); far = [] }))
  Does (i.NextArgument n d) by = (k : Kind) × (ks : List Kind) × by (fork s (Objects (k ∷ ks) ∷ []) (Object k ∷ Objects ks ∷ []) d (Objects ks ∷ []))
  Does i.Return by = (s.scope ≡ Untold) × (ks : List Kind) × by (ends (Objects ks ∷ Datum s.returns ∷ []))
  Does i.Finish by = by (ends [])
  Does (i.GoBack d) by = ⊥
  Does i.Back by = ⊥
