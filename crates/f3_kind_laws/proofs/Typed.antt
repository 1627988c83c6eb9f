-- In the specification parts of what breaks no rule each expression that is written has a type.
use Rattle.std.proofs.Common.{◌≡◌, ℕ, Bool, true, false, List, [], ◌∷◌, map, Option, Some, None, refl, sym, ap}
use Rattle.f3_lookups.specs.declared.lookup.Lookup.{Lookup}
use Rattle.f3_tree.specs.Expressions as e
use Rattle.f3_tree.specs.Tree.{Tree}
use Rattle.f3_program.specs.declared.declarations.Component as program
use Rattle.f3_program.specs.declared.expression.Name.TheVariants.{Lent}
use Rattle.f3_program.specs.declared.program.Program.{Program}
use Rattle.f3_kinds.specs.declared.said.Has.{Has}
use Rattle.f3_kinds.specs.declared.things.Component.{Component}
use Rattle.f3_kinds.specs.declared.types.Object.{Object}
use Rattle.f3_kinds.specs.declared.types.Scalar.{Scalar}
use Rattle.f3_kinds.specs.Rows.{has_type}
use Rattle.f3_kinds.specs.Things.{Nature, constant, variable, derived, subroutine, function, Context}
use Rattle.f3_kinds.specs.Typing.{said, breaks}
use Rattle.f3_meaning_whole.specs.Permitted.{Lendable, Scope, unknown}
use Rattle.f3_type_rules.specs.Constants.{may_speak, speaks}
use Rattle.f3_type_rules.specs.Names.{undeclared}
use Rattle.f3_type_rules.specs.Scene.{context_in}
use Rattle.f3_elaboration.specs.Context.{Surroundings}
use Rattle.f3_elaboration.specs.Declarations.{Whole}
use Rattle.f3_elaboration.specs.DeclaredViews.{program_view}
use Rattle.f3_elaboration.specs.Expressions.{expression}
use Rattle.f3_elaboration.specs.Numbers.{Inner, base_of, number_in}
use Rattle.f3_elaboration.specs.Program.{elaborated}
use Rattle.f3_elaboration.specs.Units.{surroundings}
use Rattle.f3_lawful_laws.specs.Agreement.{AreComponents, Agrees}
use Rattle.f3_lawful_laws.specs.Entities.{units_of, whole_of}
use Rattle.f3_lawful_laws.specs.Written.{IsWritten}
use Rattle.f3_lawful_laws.proofs.Expressions.{expression_is}
use Rattle.f3_lawful_laws.proofs.Facts.{no}
use Rattle.f3_lawful_laws.proofs.Given.{typed_of}
use Rattle.f3_lawful_laws.proofs.Positions.{index_at}
use Rattle.f3_entity_laws.specs.Things.{Home, unit_in, number_of, IsHome}
use Rattle.f3_agreement_laws.specs.Unbroken.{IsUnbroken}
use Rattle.f3_agreement_laws.proofs.Known.{known}
use Rattle.f3_agreement_laws.proofs.Procedures.{subroutines, functions}
use Rattle.f3_agreement_laws.proofs.Types.{agree}

speaking : (parts : Bool) (o : Option Has) → has_type o ≡ true → may_speak parts o ≡ true
speaking parts None h = no (sym h)
speaking parts (Some x) h = h

abbrev object_of : Nature → Object
object_of (constant o) = o
object_of (variable o) = o
object_of (derived home ks f) = undeclared
object_of (subroutine pure ds) = undeclared
object_of (function pure ds o) = o

module _ (t : Tree) (look : ℕ → ℕ → Lookup) (order : List ℕ) (p : Program) (free : IsUnbroken t look order) (seen : program_view p ≡ elaborated t look order)
    (h : Home) (home : IsHome (units_of t) h) (values : List (ℕ × Scalar)) where
  abbrev w : Whole
  w = whole_of t look order

  abbrev pub here : Context
  here = context_in w.scene (unit_in h).scope (number_of h) 5 values

  abbrev nothing_inner : Inner
  nothing_inner = record { variables = []; lent = [] }

  abbrev in_body : Surroundings
  in_body = surroundings w (unit_in h).scope (number_of h) nothing_inner

  -- what is known there, where each entity is lent under its number
  abbrev s : Surroundings
  s = record {
    context = here;
    object = λ e. Lent e;
    procedure = number_in (w.numbers).procedures;
    type = number_in (w.numbers).types;
    lent = 0;
    texts = w.texts;
  }

  abbrev lend : Nature → Lendable
  lend n = record { may_define = false; of = base_of w.numbers (object_of n).data_type }

  abbrev scope : Scope
  scope = record { unit = (unit_in h).scope; variables = []; names = map lend (w.scene).natures }

  same_components : (xs : List program.Component) (ks : List (ℕ × Component)) → AreComponents in_body xs ks → AreComponents s xs ks
  same_components [] [] a = tt
  same_components [] (k ∷ ks) a = a
  same_components (x ∷ xs) [] a = a
  same_components (x ∷ xs) (k ∷ ks) a = (a.0, a.1, same_components xs ks a.2)

  agrees : Agrees p scope s
  agrees =
      let all = known t look order free h home in
      record {
        unit = refl;
        known = record { natures = all.natures; variables = all.variables };
        types = λ e n ks f at.
            let y = agree t look order p free.outer free.ordered seen (unit_in h).scope (number_of h) nothing_inner e n ks f at in
            record { type = y.type; there = y.there; at_home = y.at_home; components = same_components y.type.components.items ks y.components };
        subroutines = λ e pure ds at. subroutines t look order p seen (unit_in h).scope (number_of h) nothing_inner e pure ds at;
        functions = λ e pure ds o at. functions t look order p free seen (unit_in h).scope (number_of h) nothing_inner e pure ds o at;
        variables = λ symbol e o looked at. ap (λ (z : Lendable). z.of) (index_at lend (w.scene).natures e (variable o) unknown at);
      }

  pub speaks_of : (x : e.Tree) → IsWritten x → breaks here x ≡ [] → speaks (said here x) ≡ true
  speaks_of x written none =
      speaking (said here x).are_parts_typed (said here x).has (typed_of p scope s (expression s x) (said here x).has (expression_is p scope s agrees x written none))
