-- Elaborated programs as they would lie in memory, for examples alone: what their views are of.
use Rattle.std.specs.Prelude.{◌≡◌, ℕ, ◌^◌, Bool, true, false, List, [], ◌∷◌, map, length, ltb, T, Option, None, Some, refl, Vec}
use Rattle.std.specs.Option.{option_map}
use Rattle.std.specs.declared.alloc.Global.{Global}
use mathlib.Core.Path.{subst, sym}
use Rattle.f3_program.specs.declared.declarations.Declared.{Declared}
use Rattle.f3_program.specs.declared.declarations.Component.{Component}
use Rattle.f3_program.specs.declared.declarations.Derived.{Derived}
use Rattle.f3_program.specs.declared.expression.Argument as a
use Rattle.f3_program.specs.declared.expression.Designator as d
use Rattle.f3_program.specs.declared.expression.Expression as e
use Rattle.f3_program.specs.declared.expression.Selection as l
use Rattle.f3_program.specs.declared.expression.Subscript as u
use Rattle.f3_program.specs.declared.statement.Bounds.{Bounds}
use Rattle.f3_program.specs.declared.statement.Item.{Item}
use Rattle.f3_program.specs.declared.statement.Item.TheVariants as item
use Rattle.f3_program.specs.declared.statement.Request.{Request}
use Rattle.f3_program.specs.declared.statement.Selector.{Selector}
use Rattle.f3_program.specs.declared.statement.Selector.TheVariants as selector
use Rattle.f3_program.specs.declared.statement.Statement as s
use Rattle.f3_program.specs.declared.program.Dummy.{Dummy}
use Rattle.f3_program.specs.declared.program.Static.{Static}
use Rattle.f3_program.specs.declared.program.Procedure.{Procedure}
use Rattle.f3_program.specs.declared.program.Program.{Program}
use Rattle.f3_meaning_rows.specs.Build.{Small, vec, shell, box, statements, arguments, subscripts, truth}
use Rattle.f3_elaboration.specs.Nodes as n

-- whether a list is short enough for a vector
abbrev pub small_if : {X : Type 0} → (xs : List X) → (b : Bool) → ltb (length xs) (2 ^ 63) ≡ b → Option (Small xs)
small_if xs true p = Some (subst T (sym p) tt)
small_if xs false p = None

abbrev pub small : {X : Type 0} → (xs : List X) → Option (Small xs)
small xs = small_if xs (ltb (length xs) (2 ^ 63)) refl

-- a value made of a list that is short enough; else another
abbrev pub made : {X Y : Type 0} → Y → (xs : List X) → (Small xs → Y) → Y
made y xs f = elim (small xs) [ None ↦ y | Some p ↦ f p ]

module _ (h : Global) where
  abbrev pub vector : {X : Type 0} → List X → Vec X Global
  vector xs = made (vec h [] tt) xs (vec h xs)

  abbrev pub array : List a.Argument → e.Expression
  array xs = made (truth false) xs (λ p. e.Array' (shell h xs p) (arguments xs))

  abbrev pub structure : ℕ → List a.Argument → e.Expression
  structure t xs = made (truth false) xs (λ p. e.Structure' t (shell h xs p) (arguments xs))

  abbrev pub reference : ℕ → List a.Argument → e.Expression
  reference f xs = made (truth false) xs (λ p. e.Call' f (shell h xs p) (arguments xs))

  abbrev pub elements : Bool → List u.Subscript → l.Selection
  elements o xs = made l.Whole xs (λ p. l.Elements' o (shell h xs p) (subscripts xs))

  abbrev pub block : List s.Statement → s.Statement
  block xs = made s.Return xs (λ p. s.Block' (shell h xs p) (statements xs))

  abbrev mutual
    pub expression : n.ExpressionNode → e.Expression
    expression (n.literal c) = e.Literal c
    expression (n.variable x) = e.Variable (box h (designator x))
    expression (n.group x) = e.Group (box h (expression x))
    expression (n.unary o t x) = e.Unary o t (box h (expression x))
    expression (n.binary o t x y) = e.Binary o t (box h (expression x)) (box h (expression y))
    expression (n.array xs) = array (arguments_in xs)
    expression (n.structure t xs) = structure t (arguments_in xs)
    expression (n.reference f xs) = reference f (arguments_in xs)
    expression (n.allocated x) = e.Allocated (box h (designator x))
    expression (n.size x) = e.Size (box h (argument x))
    expression (n.bound q x y) = e.Bound q (box h (argument x)) (box h (expression y))

    pub argument : n.ArgumentNode → a.Argument
    argument (n.value k x) = a.Value k (box h (expression x))
    argument (n.object k x) = a.Variable k (box h (designator x))

    pub arguments_in : n.ArgumentNodes → List a.Argument
    arguments_in n.no_arguments = []
    arguments_in (n.arguments x xs) = argument x ∷ arguments_in xs

    pub designator : n.DesignatorNode → d.Designator
    designator (n.name x how) = d.Name x (selection how)
    designator (n.component x k how) = d.Component (box h (designator x)) k (selection how)

    pub selection : n.SelectionNode → l.Selection
    selection n.whole = l.Whole
    selection n.contents = l.Contents
    selection (n.elements o xs) = elements o (subscripts_in xs)

    pub subscripts_in : n.SubscriptNodes → List u.Subscript
    subscripts_in n.no_subscripts = []
    subscripts_in (n.subscripts x xs) = subscript x ∷ subscripts_in xs

    pub subscript : n.SubscriptNode → u.Subscript
    subscript (n.subscript x) = u.At (box h (expression x))
    subscript (n.triplet b x c y z) = u.Range b (box h (expression x)) c (box h (expression y)) (box h (expression z))

  abbrev pub item_of : n.ItemNode → Item
  item_of (n.shown x) = item.Value (expression x)
  item_of (n.text bytes) = item.Text (vector bytes)

  abbrev pub bounds : n.BoundsNode → Bounds
  bounds b = record { lower = expression b.lower; upper = expression b.upper }

  abbrev pub request : n.RequestNode → Request
  request r = record { object = designator r.object; kind = r.kind; bounds = vector (map bounds r.bounds) }

  abbrev pub selector_of : n.SelectorNode → Selector
  selector_of (n.means x) = selector.Variable (designator x)
  selector_of (n.holds k x) = selector.Value k (expression x)

  abbrev mutual
    pub statement : n.StatementNode → s.Statement
    statement (n.at place b x) = s.At place b (box h (statement x))
    statement (n.block xs) = block (statements_in xs)
    statement (n.assign x k y) = s.Assign (designator x) k (expression y)
    statement (n.call x) = s.Call (expression x)
    statement (n.move_alloc k b x y) = s.MoveAlloc k b (designator x) (designator y)
    statement (n.allocate rs stat) = s.Allocate (vector (map request rs)) (option_map designator stat)
    statement (n.deallocate rs stat) = s.Deallocate (vector (map request rs)) (option_map designator stat)
    statement (n.print xs) = s.Print (vector (map item_of xs))
    statement (n.stop code) = s.Stop code
    statement n.return = s.Return
    statement n.cycle = s.Cycle
    statement n.exit = s.Exit
    statement (n.branch x y z) = s.If (expression x) (box h (statement y)) (box h (statement z))
    statement (n.select x y) = s.Select (expression x) (box h (statement y))
    statement (n.case rs x y) = s.Case (vector rs) (box h (statement x)) (box h (statement y))
    statement (n.while x y) = s.While (expression x) (box h (statement y))
    statement (n.count x k first last step y) = s.Count (designator x) k (expression first) (expression last) (expression step) (box h (statement y))
    statement (n.associate xs y) = s.Associate (vector (map selector_of xs)) (box h (statement y))

    pub statements_in : n.StatementNodes → List s.Statement
    statements_in n.no_statements = []
    statements_in (n.statements x xs) = statement x ∷ statements_in xs

  abbrev pub declared : n.DeclaredNode → Declared
  declared x = record { kind = x.kind; dimensions = vector x.dimensions; initial = vector x.initial }

  abbrev pub component : n.ComponentNode → Component
  component c = record { declared = declared c.declared; is_private = c.is_private }

  abbrev pub derived : n.DerivedNode → Derived
  derived t = record { home = t.home; components = vector (map component t.components); finals = vector t.finals }

  abbrev pub static : n.StaticNode → Static
  static x = record { declared = declared x.declared; home = x.home; is_protected = x.is_protected }

  abbrev pub dummy : n.DummyNode → Dummy
  dummy x = record { kind = x.kind; intent = x.intent; lowers = vector x.lowers }

  abbrev pub procedure : n.ProcedureNode → Procedure
  procedure p = record {
    unit = p.unit;
    dummies = vector (map dummy p.dummies);
    locals = vector (map declared p.locals);
    result = option_map declared p.result;
    body = statement p.body;
    end = p.end;
  }

  abbrev pub built : n.ProgramNode → Program
  built p = record {
    types = vector (map derived p.types);
    statics = vector (map static p.statics);
    procedures = vector (map procedure p.procedures);
    main = procedure p.main;
    start = p.start;
  }
