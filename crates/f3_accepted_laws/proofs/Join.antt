-- What the rules on types know of a program that breaks no rule, and what its elaborated program says, are of the same entities.
use Rattle.std.proofs.Common.{◌≡◌, ℕ, List}
use Rattle.f3_rules.specs.declared.breaks.Break.{Break}
use Rattle.f3_tree.specs.Tree.{Tree}
use Rattle.f3_scopes.specs.Scopes.{scopes_of}
use Rattle.f3_lookups.specs.declared.lookup.Lookup.{Lookup}
use Rattle.f3_name_rules.specs.NameBreaks.{NameBreaks}
use Rattle.f3_program.specs.declared.program.Program.{Program}
use Rattle.f3_type_rules.specs.Members.{Member, Numbered}
use Rattle.f3_elaboration.specs.Declarations.{Whole}
use Rattle.f3_elaboration.specs.DeclaredViews.{program_view}
use Rattle.f3_elaboration.specs.Numbers.{numbers_in_main, numbers_in_member}
use Rattle.f3_elaboration.specs.Program.{elaborated}
use Rattle.f3_entity_laws.specs.Things.{of_unit, of_member, IsAmong, IsHome}
use Rattle.f3_lawful_laws.specs.Entities.{units_of, whole_of, EntitiesAgree, MemberAgrees, UnitAgrees}
use Rattle.f3_lawful_laws.proofs.Opening.{each_at}
use Rattle.f3_variable_laws.specs.Bodies.{IsFlat}
use Rattle.f3_variable_laws.specs.Laws.{IsElaborated}
use Rattle.f3_variable_laws.proofs.Bodies as variables
use Rattle.f3_agreement_laws.specs.Unbroken.{IsUnbroken}
use Rattle.f3_agreement_laws.proofs.Known.{known}
use Rattle.f3_agreement_laws.proofs.Procedures.{subroutines, functions}
use Rattle.f3_agreement_laws.proofs.Types.{agree, at_places}

module _ (t : Tree) (look : ℕ → ℕ → Lookup) (order : List ℕ) (p : Program) (unbroken : IsUnbroken t look order)
    (named : (b : Break) → NameBreaks (scopes_of t) t.names b → ⊥) (flat : IsFlat t) (seen : program_view p ≡ elaborated t look order) where
  abbrev w : Whole
  w = whole_of t look order

  is : IsElaborated p t look order
  is = record { means = unbroken.means; named = named; flat = flat; seen = seen }

  member_agrees : (u : Numbered) (m : Member) → IsHome (units_of t) (of_member u m) → MemberAgrees p w u.scope m
  member_agrees u m home = record {
    alike = λ q seen_here. record {
      known = known t look order unbroken (of_member u m) home;
      types = agree t look order p unbroken.outer unbroken.ordered seen u.scope m.scope (numbers_in_member look u.scope m);
      subroutines = subroutines t look order p seen u.scope m.scope (numbers_in_member look u.scope m);
      functions = functions t look order p unbroken seen u.scope m.scope (numbers_in_member look u.scope m);
      variables = variables.types p t look order is (of_member u m) home q seen_here;
      within = variables.within p t look order is (of_member u m) home q seen_here;
      defines = λ symbol e o x looked nature rows. variables.defines p t look order is (of_member u m) home q seen_here symbol e o looked nature x rows;
    };
  }

  unit_agrees : (u : Numbered) → IsAmong (units_of t) u → UnitAgrees p w u
  unit_agrees u home = record {
    alike = λ q seen_here. record {
      known = known t look order unbroken (of_unit u) home;
      types = agree t look order p unbroken.outer unbroken.ordered seen u.scope u.scope (numbers_in_main u);
      subroutines = subroutines t look order p seen u.scope u.scope (numbers_in_main u);
      functions = functions t look order p unbroken seen u.scope u.scope (numbers_in_main u);
      variables = variables.types p t look order is (of_unit u) home q seen_here;
      within = variables.within p t look order is (of_unit u) home q seen_here;
      defines = λ symbol e o x looked nature rows. variables.defines p t look order is (of_unit u) home q seen_here symbol e o looked nature x rows;
    };
    members = each_at (MemberAgrees p w u.scope) u.members (λ k m there. member_agrees u m (home, (k, there)));
  }

  pub entities_agree : EntitiesAgree p t look order
  entities_agree = record {
    units = each_at (UnitAgrees p w) (units_of t) (λ k u there. unit_agrees u (k, there));
    types = at_places t look order unbroken.ordered;
  }
