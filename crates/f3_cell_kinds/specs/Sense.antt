-- What IsWellFormed leaves open of a program that makes sense.
use Rattle.std.specs.Prelude.{◌≡◌, Bool, true, not, ◌&&◌, ◌||◌, nat_eq, nat_lt, ℕ, [], ◌∷◌, map, length, Option, None, Some, slice_get}
use Rattle.f3_program.specs.declared.declarations.Base.{Base}
use Rattle.f3_program.specs.declared.declarations.Base.TheVariants as base
use Rattle.f3_program.specs.declared.declarations.Component.{Component}
use Rattle.f3_program.specs.declared.declarations.Constant.{Constant}
use Rattle.f3_program.specs.declared.declarations.Constant.TheVariants as constant
use Rattle.f3_program.specs.declared.declarations.Declared.{Declared}
use Rattle.f3_program.specs.declared.declarations.Derived.{Derived}
use Rattle.f3_program.specs.declared.declarations.Final.{Final}
use Rattle.f3_program.specs.declared.declarations.Kind.{Kind}
use Rattle.f3_program.specs.declared.expression.Argument as a
use Rattle.f3_program.specs.declared.expression.Designator as d
use Rattle.f3_program.specs.declared.expression.Expression as e
use Rattle.f3_program.specs.declared.expression.Selection as l
use Rattle.f3_program.specs.declared.expression.Subscript as u
use Rattle.f3_program.specs.declared.statement.Bounds.{Bounds}
use Rattle.f3_program.specs.declared.statement.Item.{Item}
use Rattle.f3_program.specs.declared.statement.Item.TheVariants as item
use Rattle.f3_program.specs.declared.statement.Request.{Request}
use Rattle.f3_program.specs.declared.statement.Selector.{Selector}
use Rattle.f3_program.specs.declared.statement.Selector.TheVariants as selector
use Rattle.f3_program.specs.declared.statement.Statement as s
use Rattle.f3_program.specs.declared.program.Procedure.{Procedure}
use Rattle.f3_program.specs.declared.program.Program.{Program}
use Rattle.f3_program.specs.declared.program.Static as x
use Rattle.f3_meaning_whole.specs.Value.{count}
use Rattle.f3_meaning_whole.specs.Shape.{spans_declared}
use Rattle.f3_meaning_whole.specs.Permitted.{same_type}
use Rattle.f3_meaning_whole.specs.Exec.{declared_in}
use Rattle.f3_meaning_whole.specs.Formed.{is_number, all, some, given_all, of_kind, value_kind, arguments, referenced, selected, or_none, kinds_of}
use Rattle.f3_cell_kinds.specs.Types.{Scope, selecting, associating}
use Rattle.f3_cell_kinds.specs.Effect.{is_word, unary_fits, binary_fits, are_values, are_for, range_fits}
use Rattle.f3_cell_kinds.specs.Values.{kind_or}

abbrev pub none_or : {A : Type 0} → Option A → (A → Bool) → Bool
none_or None f = true
none_or (Some x) f = f x

module _ (p : Program) where
  module _ (c : Scope) where
    abbrev pub kind : e.Expression → Option Kind
    kind x = value_kind p c.variables c.names x

    abbrev mutual
      -- constants have at most 64 bits, operators fit the types of their operands, constructors have the arguments that they can take
      pub value_fits : e.Expression → Bool
      value_fits (e.Literal k) = is_word k
      value_fits (e.Variable' q x) = object_fits x
      value_fits (e.Group' q x) = value_fits x
      value_fits (e.Unary' o t q x) = some (kind x) (unary_fits o t) && value_fits x
      value_fits (e.Binary' o t q x r y) = some (kind x) (λ k. some (kind y) (binary_fits o t k)) && (value_fits x && value_fits y)
      value_fits (e.Array' k xs) = some (given_all (arguments p c.variables c.names xs)) are_values && arguments_fit xs
      value_fits (e.Structure' t k xs) = some (given_all (arguments p c.variables c.names xs)) (are_for p.types.items t) && arguments_fit xs
      value_fits (e.Call' f k xs) = arguments_fit xs
      value_fits (e.Allocated' q x) = object_fits x
      value_fits (e.Size' q x) = argument_fits x
      value_fits (e.Bound' o q x r y) = argument_fits x && value_fits y

      pub argument_fits : a.Argument → Bool
      argument_fits (a.Value' k q x) = value_fits x
      argument_fits (a.Variable' k q x) = object_fits x

      pub arguments_fit : {m : _} → e.Row_of-Argument m → Bool
      arguments_fit e.end_of-Argument = true
      arguments_fit (e.more_of-Argument x rest) = argument_fits x && arguments_fit rest

      pub object_fits : d.Designator → Bool
      object_fits (d.Name x how) = selection_fits how
      object_fits (d.Component' q x k how) = object_fits x && selection_fits how

      pub selection_fits : l.Selection → Bool
      selection_fits l.Whole = true
      selection_fits l.Contents = true
      selection_fits (l.Elements' b k xs) = subscripts_fit xs

      pub subscripts_fit : {m : _} → l.Row_of-Subscript m → Bool
      subscripts_fit l.end_of-Subscript = true
      subscripts_fit (l.more_of-Subscript x rest) = subscript_fits x && subscripts_fit rest

      pub subscript_fits : u.Subscript → Bool
      subscript_fits (u.At' q x) = value_fits x
      subscript_fits (u.Range' b q x c r y t z) = value_fits x && (value_fits y && value_fits z)

    abbrev pub bounds_fit : Bounds → Bool
    bounds_fit b = value_fits b.lower && value_fits b.upper

    abbrev pub request_fits : Request → Bool
    request_fits r = object_fits r.object && all bounds_fit r.bounds.items

    abbrev pub item_fits : Item → Bool
    item_fits (item.Value x) = value_fits x
    item_fits (item.Text t) = true

    -- what an ASSOCIATE holds is not allocatable
    abbrev pub selector_fits : Selector → Bool
    selector_fits (selector.Variable x) = object_fits x
    selector_fits (selector.Value k x) = not k.is_allocatable && value_fits x

  -- a CASE stands in a SELECT CASE, and its ranges are of that one's type
  abbrev mutual
    pub statement_fits : s.Statement → Scope → Bool
    statement_fits (s.At' place b q x) c = statement_fits x c
    statement_fits (s.Block' k xs) c = statements_fit xs c
    statement_fits (s.Assign x k y) c = object_fits c x && value_fits c y
    statement_fits (s.Call x) c = value_fits c x
    statement_fits (s.MoveAlloc k b x y) c = object_fits c x && object_fits c y
    statement_fits (s.Allocate rs stat) c = all (request_fits c) rs.items && none_or stat (object_fits c)
    statement_fits (s.Deallocate rs stat) c = all (request_fits c) rs.items && none_or stat (object_fits c)
    statement_fits (s.Print xs) c = all (item_fits c) xs.items
    statement_fits (s.Stop code) c = true
    statement_fits s.Return c = true
    statement_fits s.Cycle c = true
    statement_fits s.Exit c = true
    statement_fits (s.If' x q y r z) c = value_fits c x && (statement_fits y c && statement_fits z c)
    statement_fits (s.Select' x q y) c = value_fits c x && statement_fits y (selecting (kind_or (kind c x)) c)
    statement_fits (s.Case' rs q x r y) c = some c.selected (λ k. all (range_fits k.of) rs.items) && (statement_fits x c && statement_fits y c)
    statement_fits (s.While' x q y) c = value_fits c x && statement_fits y c
    statement_fits (s.Count' x k from to step q y) c = object_fits c x && (value_fits c from && (value_fits c to && (value_fits c step && statement_fits y c)))
    statement_fits (s.Associate' xs q y) c = all (selector_fits c) xs.items
        && statement_fits y (associating (or_none (given_all (map (selected p c.variables c.names) xs.items))) c)

    pub statements_fit : {m : _} → s.Row_of-Statement m → Scope → Bool
    statements_fit s.end_of-Statement c = true
    statements_fit (s.more_of-Statement x rest) c = statement_fits x c && statements_fit rest c

  abbrev pub procedure_fits : Procedure → Bool
  procedure_fits q = statement_fits q.body (record { variables = declared_in q; names = kinds_of q.dummies.items; selected = None })

  -- a final subroutine can be called with an object of its type and rank (ISO/IEC 1539-1:2004, 4.5.5)
  abbrev pub final_fits : Base → Final → Bool
  final_fits of f = some (referenced p [] [] f.procedure (record { number = 0; kind = of_kind of f.rank; is_variable = true } ∷ [])) (λ k. true)

-- a constant is of a type
abbrev pub constant_fits : Base → Constant → Bool
constant_fits of (constant.Number z) = is_number of && is_word (constant.Number z)
constant_fits of (constant.Truth b) = same_type of base.Logical

-- what is declared is initialized with constants of its type: one for all elements, or one for each (5.1, 4.5.3.4)
abbrev pub initial_fits : Declared → Bool
initial_fits d = all (constant_fits d.kind.of) d.initial.items && (nat_lt (length d.initial.items) 2
    || nat_eq (length d.initial.items) (count (spans_declared d.dimensions.items)))

-- Beside IsWellFormed a program that makes sense has this.
pub record MakesSense (p : Program) : Type 0 where
  pub finals : (t : ℕ) (y : Derived) → slice_get p.types.items t ≡ Some y → all (final_fits p (base.Derived t)) y.finals.items ≡ true
  pub components : (t : ℕ) (y : Derived) → slice_get p.types.items t ≡ Some y → all (λ (c : Component). initial_fits c.declared) y.components.items ≡ true
  pub statics : all (λ (y : x.Static). initial_fits y.declared) p.statics.items ≡ true
  pub variables : all (λ (q : Procedure). all initial_fits (declared_in q)) (p.main ∷ p.procedures.items) ≡ true
  -- the main program has no dummies
  pub main : p.main.dummies.items ≡ []
  pub statements : all (procedure_fits p) (p.main ∷ p.procedures.items) ≡ true
