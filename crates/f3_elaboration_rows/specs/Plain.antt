-- Elaborated programs written by hand from the language's rules.
use Rattle.std.specs.Prelude.{◌≡◌, ℕ, ℤ, pos, Bool, true, false, List, [], ◌∷◌, map, None, Some}
use Rattle.f3_program.specs.declared.declarations.Base.{Base}
use Rattle.f3_program.specs.declared.declarations.Base.TheVariants.{Integer, Long, Logical, Derived}
use Rattle.f3_program.specs.declared.declarations.Constant.{Constant}
use Rattle.f3_program.specs.declared.declarations.Constant.TheVariants.{Number}
use Rattle.f3_program.specs.declared.declarations.Dimension.{Dimension}
use Rattle.f3_program.specs.declared.declarations.Kind.{Kind}
use Rattle.f3_program.specs.declared.expression.BinaryOperator.TheVariants.{Add, Subtract, Multiply, Power, Greater}
use Rattle.f3_program.specs.declared.expression.Name.{Name}
use Rattle.f3_program.specs.declared.expression.Name.TheVariants.{Static, Local, Lent}
use Rattle.f3_program.specs.declared.program.Intent.TheVariants.{In, Out, InOut}
use Rattle.f3_elaboration.specs.Nodes as n
use Rattle.f3_elaboration.specs.Nodes.{DesignatorNode, ExpressionNode, ArgumentNode, ArgumentNodes, StatementNode, StatementNodes, DeclaredNode}
use Rattle.f3_elaboration.specs.Nodes.{ComponentNode, ProgramNode}
use Rattle.f3_elaboration.specs.Program.{elaborated}
use Rattle.f3_elaboration_rows.specs.Trees.{at}
use Rattle.f3_elaboration_rows.specs.Programs.{protected_tree, protected_look, protected_order, saved_tree, saved_look, saved_order}
use Rattle.f3_elaboration_rows.specs.Programs.{types_tree, types_look, types_order, finals_tree, finals_look, finals_order}
use Rattle.f3_elaboration_rows.specs.Programs.{private_tree, private_look, private_order}

-- ---- short words

abbrev pub scalar : Base → Kind
scalar of = record { of = of; rank = 0; is_allocatable = false }

abbrev pub list : Base → Bool → Kind
list of b = record { of = of; rank = 1; is_allocatable = b }

abbrev pub declared : Kind → List Dimension → List Constant → DeclaredNode
declared k ds cs = record { kind = k; dimensions = ds; initial = cs }

abbrev pub dimension : ℤ → ℕ → Dimension
dimension z k = record { lower = z; extent = k }

abbrev pub component : Bool → DeclaredNode → ComponentNode
component b d = record { declared = d; is_private = b }

abbrev pub number : ℕ → ExpressionNode
number k = n.literal (Number (pos k))

abbrev pub whole : Name → DesignatorNode
whole x = n.name x n.whole

abbrev pub value : Name → ExpressionNode
value x = n.variable (whole x)

abbrev pub arguments : List ArgumentNode → ArgumentNodes
arguments [] = n.no_arguments
arguments (x ∷ xs) = n.arguments x (arguments xs)

abbrev pub statements : List StatementNode → StatementNodes
statements [] = n.no_statements
statements (x ∷ xs) = n.statements x (statements xs)

abbrev pub block : List StatementNode → StatementNode
block xs = n.block (statements xs)

abbrev pub begun : ℕ → ℕ → StatementNode → StatementNode
begun l c x = n.at (at l c) true x

-- ---- a module variable that is protected, and a procedure of a module that stands behind

abbrev pub protected_plain : ProgramNode
protected_plain = record {
  types = [];
  statics = record { declared = declared (scalar Integer) [] (Number (pos 3) ∷ []); home = 0; is_protected = true } ∷ [];
  procedures =
      record {
        unit = 0;
        dummies = [];
        locals = [];
        result = None;
        body = block (begun 1 74 (n.call (n.reference 1 (arguments (n.object 0 (whole (Static 0)) ∷ [])))) ∷ []);
        end = at 1 88;
      }
      ∷ record {
        unit = 2;
        dummies = record { kind = scalar Integer; intent = InOut; lowers = [] } ∷ [];
        locals = [];
        result = None;
        body = block (begun 2 70 (n.assign (whole (Lent 0)) (scalar Integer) (n.binary Add Integer (value (Lent 0)) (number 1))) ∷ []);
        end = at 2 81;
      }
      ∷ [];
  main = record {
    unit = 4;
    dummies = [];
    locals = [];
    result = None;
    body = block (begun 3 19 (n.call (n.reference 0 n.no_arguments)) ∷ begun 3 30 (n.print (n.shown (value (Static 0)) ∷ [])) ∷ []);
    end = at 3 42;
  };
  start = at 3 1;
}

-- ---- saved variables of a procedure and of the program, a result behind no other variable, a named constant under another name

abbrev pub saved_plain : ProgramNode
saved_plain = record {
  types = [];
  statics =
      record { declared = declared (scalar Integer) [] (Number (pos 10) ∷ []); home = 0; is_protected = false }
      ∷ record {
        declared = declared (list Integer false) (dimension (pos 1) 2 ∷ []) (Number (pos 4) ∷ Number (pos 5) ∷ []);
        home = 3;
        is_protected = false;
      }
      ∷ [];
  procedures =
      record {
        unit = 0;
        dummies = record { kind = scalar Integer; intent = In; lowers = [] } ∷ [];
        locals = [];
        result = Some (declared (scalar Integer) [] []);
        body =
            block (begun 5 1 (n.branch (n.binary Greater Logical (value (Lent 0)) (number 1))
            (block (begun 5 18 (n.assign (whole (Local 0)) (scalar Integer) (n.binary Multiply Integer (value (Lent 0))
            (n.reference 0 (arguments (n.value 0 (n.binary Subtract Integer (value (Lent 0)) (number 1)) ∷ []))))) ∷ []))
            (block (begun 5 42 (n.assign (whole (Local 0)) (scalar Integer) (number 1)) ∷ []))) ∷ []);
        end = at 6 1;
      }
      ∷ record {
        unit = 0;
        dummies = [];
        locals = [];
        result = None;
        body =
            block (begun 8 1 (n.assign (whole (Static 0)) (scalar Integer) (n.binary Add Integer (value (Static 0)) (number 1)))
            ∷ begun 8 20 (n.print (n.shown (value (Static 0)) ∷ n.shown (n.reference 0 (arguments (n.value 0 (number 4) ∷ []))) ∷ []))
            ∷ []);
        end = at 9 1;
      }
      ∷ [];
  main = record {
    unit = 3;
    dummies = [];
    locals = declared (scalar Integer) [] [] ∷ [];
    result = None;
    body =
        block (begun 12 1 (n.count (whole (Local 0)) (scalar Integer) (number 1) (number 2) (number 1)
        (block (begun 12 16 (n.call (n.reference 1 n.no_arguments)) ∷ [])))
        ∷ begun 13 1 (n.print (n.shown (value (Static 1)) ∷ n.shown (n.reference 0 (arguments (n.value 0 (number 3) ∷ [])))
        ∷ n.shown (n.binary Power Integer (number 2) (number 3)) ∷ []))
        ∷ []);
    end = at 14 1;
  };
  start = at 11 1;
}

-- ---- types of two modules, of which the one that is used stands behind

abbrev pub types_types : List n.DerivedNode
types_types =
    record {
      home = 4;
      components = component false (declared (scalar Long) [] (Number (pos 9) ∷ [])) ∷ component false (declared (scalar Logical) [] []) ∷ [];
      finals = [];
    }
    ∷ record {
      home = 0;
      components =
          component false (declared (list (Derived 0) false) (dimension (pos 0) 2 ∷ []) [])
          ∷ component false (declared (list Integer true) [] [])
          ∷ component false (declared (scalar Integer) [] (Number (pos 5) ∷ []))
          ∷ [];
      finals = [];
    }
    ∷ []

abbrev pub types_dummies : List n.DummyNode
types_dummies =
    record { kind = scalar (Derived 1); intent = Out; lowers = [] } ∷ record { kind = list Integer false; intent = In; lowers = pos 2 ∷ [] } ∷ []

abbrev pub scalar_dummies : List n.DummyNode
scalar_dummies = record { kind = scalar Integer; intent = In; lowers = [] } ∷ []

-- a final subroutine
abbrev pub finals_types : List n.DerivedNode
finals_types =
    record {
      home = 0;
      components = component false (declared (scalar Integer) [] (Number (pos 0) ∷ [])) ∷ [];
      finals = record { rank = 0; procedure = 0 } ∷ [];
    }
    ∷ []

-- a component that PRIVATE in its type makes private
abbrev pub private_types : List n.DerivedNode
private_types =
    record { home = 0; components = component true (declared (scalar Integer) [] (Number (pos 1) ∷ [])) ∷ []; finals = [] } ∷ []

abbrev pub types_program : ProgramNode
types_program = elaborated types_tree types_look types_order

abbrev pub dummies_of : n.ProcedureNode → List n.DummyNode
dummies_of p = p.dummies

-- These are the elaborated programs of their trees, or parts of them.
pub record PlainsStand : Type 0 where
  pub of_protected : elaborated protected_tree protected_look protected_order ≡ protected_plain
  pub of_saved : elaborated saved_tree saved_look saved_order ≡ saved_plain
  pub types_of_types : types_program.types ≡ types_types
  pub dummies_of_types : map dummies_of types_program.procedures ≡ types_dummies ∷ scalar_dummies ∷ []
  pub locals_of_types : (types_program.main).locals ≡ declared (scalar (Derived 1)) [] [] ∷ declared (scalar (Derived 0)) [] [] ∷ []
  pub types_of_finals : (elaborated finals_tree finals_look finals_order).types ≡ finals_types
  pub types_of_private : (elaborated private_tree private_look private_order).types ≡ private_types
