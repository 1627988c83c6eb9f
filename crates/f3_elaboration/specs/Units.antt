-- Procedures and the main program (ISO/IEC 1539-1:2004, 11.1, 12.5.2).
use Rattle.std.specs.Prelude.{ℕ, ◌+◌, ℤ, nat_eq, List, [], Option, None, Some, map, length, if◌then◌else◌}
use Rattle.std.specs.Map.{lookup}
use Rattle.f3_scopes.specs.Scopes.{name_or}
use Rattle.f3_tree.specs.declared.expression.Name.{Name}
use Rattle.f3_tree.specs.declared.declaration.Intent as tree
use Rattle.f3_tree.specs.declared.declaration.Intent.TheVariants as given
use Rattle.f3_tree.specs.declared.program.ProcedureKind.{ProcedureKind}
use Rattle.f3_tree.specs.declared.program.ProcedureKind.TheVariants.{Subroutine, Function}
use Rattle.f3_tree.specs.Declarations.{ShapeTree, deferred}
use Rattle.f3_tree.specs.Statements.{Block}
use Rattle.f3_program.specs.declared.program.Intent.{Intent}
use Rattle.f3_program.specs.declared.program.Intent.TheVariants.{In, Out, InOut}
use Rattle.f3_kinds.specs.declared.things.Dummy.{Dummy}
use Rattle.f3_kinds.specs.declared.types.Object.{Object}
use Rattle.f3_kinds.specs.Things.{map_or, Context}
use Rattle.f3_type_rules.specs.Members.{Member, Numbered}
use Rattle.f3_type_rules.specs.Names.{Declared, entries, shape_of, undeclared}
use Rattle.f3_type_rules.specs.Natures.{dummy as dummy_nature, typed_object}
use Rattle.f3_elaboration.specs.Nodes as n
use Rattle.f3_elaboration.specs.Nodes.{StatementNode, DeclaredNode, DummyNode, ProcedureNode}
use Rattle.f3_elaboration.specs.Numbers.{Inner, name_of, number_in, numbers_in_member, numbers_in_main, kind_of, main_locals, member_locals}
use Rattle.f3_elaboration.specs.Statements.{block}
use Rattle.f3_elaboration.specs.Context.{Surroundings}
use Rattle.f3_elaboration.specs.Declarations.{Whole, context, lower_bound, declared, variable}

-- the declarations in a procedure, by their names
abbrev pub declarations_in : Member → List (ℕ × Declared)
declarations_in m = entries ((m.tree).part).specifications

abbrev pub declaration_of : Member → Name → Option Declared
declaration_of m n = lookup (nat_eq n.symbol) (declarations_in m)

-- ---- dummies (12.3.1.1)

abbrev pub intent_of : Option tree.Intent → Intent
intent_of (Some given.Out) = Out
intent_of (Some given.InOut) = InOut
intent_of _ = In

-- of an array of assumed shape (5.1.2.5.2)
abbrev pub lower_bounds : Context → Option ShapeTree → List ℤ
lower_bounds c (Some (deferred ls)) = map (lower_bound c) ls
lower_bounds c _ = []

abbrev pub lowers_of : Context → Object → Option Declared → List ℤ
lowers_of c o x = if o.is_allocatable then [] else map_or [] (λ (x : Declared). lower_bounds c (shape_of x)) x

abbrev pub dummy : Whole → (unit : ℕ) → Member → Name → DummyNode
dummy w u m n =
    let d : Dummy = (dummy_nature (w.scene).names m.scope (declarations_in m) n).1 in
    record { kind = kind_of w.numbers d.object; intent = intent_of d.intent; lowers = lowers_of (context w u m.scope) d.object (declaration_of m n) }

-- ---- the result of a function (12.5.2.1)

abbrev pub plain : Whole → Object → DeclaredNode
plain w o = record { kind = kind_of w.numbers o; dimensions = []; initial = [] }

abbrev pub result_of : Whole → (unit : ℕ) → Member → ProcedureKind → Option DeclaredNode
result_of w u m Subroutine = None
result_of w u m (Function (Some s) outcome) = Some (plain w (typed_object (w.scene).names m.scope s))
result_of w u m (Function None outcome) =
    Some (map_or (plain w undeclared) (declared w u m.scope) (declaration_of m (name_or outcome ((m.tree).header).name)))

-- ---- procedures and the main program

abbrev pub surroundings : Whole → (unit scope : ℕ) → Inner → Surroundings
surroundings w u s inner = record {
  context = context w u s;
  object = name_of w.numbers inner;
  procedure = number_in (w.numbers).procedures;
  type = number_in (w.numbers).types;
  lent = length inner.lent;
  texts = w.texts;
}

abbrev pub in_member : Whole → (unit : ℕ) → Member → Surroundings
in_member w u m = surroundings w u m.scope (numbers_in_member ((w.scene).names).look u m)

abbrev pub in_main : Whole → Numbered → Surroundings
in_main w u = surroundings w u.scope u.scope (numbers_in_main u)

-- the scopes of the constructs in a body come right behind its own
abbrev pub body : Surroundings → (scope : ℕ) → Block → StatementNode
body s scope b = n.block (block s (scope + 1) b)

abbrev pub procedure : Whole → (unit : ℕ) → Member → ProcedureNode
procedure w u m = record {
  unit = u;
  dummies = map (dummy w u m) ((m.tree).header).dummies;
  locals = map (variable w) (member_locals u m);
  result = result_of w u m ((m.tree).header).kind;
  body = body (in_member w u m) m.scope (m.tree).body;
  end = (m.tree).end;
}

abbrev pub main : Whole → Numbered → ProcedureNode
main w u = record {
  unit = u.scope;
  dummies = [];
  locals = map (variable w) (main_locals u);
  result = None;
  body = body (in_main w u) u.scope (u.tree).body;
  end = (u.tree).end;
}
