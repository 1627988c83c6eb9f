-- What the rules on types know of a program that breaks no rule, and what its elaborated program says, are of the same kinds.
use Rattle.std.proofs.Common.{◌≡◌, ℕ, List, []}
use Rattle.f3_lookups.specs.declared.lookup.Lookup.{Lookup}
use Rattle.f3_tree.specs.Tree.{Tree}
use Rattle.f3_program.specs.declared.program.Procedure.{Procedure}
use Rattle.f3_program.specs.declared.program.Program.{Program}
use Rattle.f3_meaning_whole.specs.Exec.{declared_in}
use Rattle.f3_meaning_whole.specs.Formed.{kinds_of}
use Rattle.f3_type_rules.specs.Members.{Member, Numbered}
use Rattle.f3_elaboration.specs.Declarations.{Whole}
use Rattle.f3_elaboration.specs.DeclaredViews.{procedure_view}
use Rattle.f3_elaboration.specs.Numbers.{numbers_in_main, numbers_in_member}
use Rattle.f3_elaboration.specs.Units.{procedure, main, in_member, in_main}
use Rattle.f3_lawful_laws.specs.Entities.{units_of, whole_of}
use Rattle.f3_lawful_laws.proofs.Opening.{each_at}
use Rattle.f3_formed_laws.specs.Agreement.{AgreesInKinds}
use Rattle.f3_formed_laws.specs.Entities.{KindsAgree, MemberAgrees, UnitAgrees}
use Rattle.f3_entity_laws.specs.Things.{of_unit, of_member, IsAmong, IsHome}
use Rattle.f3_agreement_laws.specs.Unbroken.{IsUnbroken}
use Rattle.f3_agreement_laws.proofs.Known.{known}
use Rattle.f3_variable_laws.specs.Laws.{IsElaborated}
use Rattle.f3_kind_laws.specs.Laws.{KindsDoAgree}
use Rattle.f3_kind_laws.specs.Written.{AreInitialsWritten}
use Rattle.f3_kind_laws.proofs.Behind.{behind}
use Rattle.f3_kind_laws.proofs.Bodies.{shown}
use Rattle.f3_kind_laws.proofs.Given.{constants}
use Rattle.f3_kind_laws.proofs.Ordered.{ordered}
use Rattle.f3_kind_laws.proofs.Procedures.{subroutines, functions, own_results}
use Rattle.f3_kind_laws.proofs.Types.{counted, have_components}

module _ (p : Program) (t : Tree) (look : ℕ → ℕ → Lookup) (order : List ℕ) (written : AreInitialsWritten t) (free : IsUnbroken t look order)
    (is : IsElaborated p t look order) where
  abbrev w : Whole
  w = whole_of t look order

  in_member_agrees : (u : Numbered) (m : Member) → IsHome (units_of t) (of_member u m) → (q : Procedure) → procedure_view q ≡ procedure w u.scope m
      → AgreesInKinds p (declared_in q) (kinds_of q.dummies.items) (in_member w u.scope m)
  in_member_agrees u m home q seen = record {
    known = known t look order free (of_member u m) home;
    constants = constants t look order p written free is.seen u.scope m.scope (numbers_in_member look u.scope m);
    types = have_components t look order p free.outer free.ordered is.seen u.scope m.scope (numbers_in_member look u.scope m);
    subroutines = subroutines t look order p is.seen u.scope m.scope (numbers_in_member look u.scope m);
    functions = functions t look order p is.seen u.scope m.scope (numbers_in_member look u.scope m);
    objects = shown p t look order is (of_member u m) home q seen;
  }

  in_main_agrees : (u : Numbered) → IsAmong (units_of t) u → (q : Procedure) → procedure_view q ≡ main w u → AgreesInKinds p (declared_in q) [] (in_main w u)
  in_main_agrees u home q seen = record {
    known = known t look order free (of_unit u) home;
    constants = constants t look order p written free is.seen u.scope u.scope (numbers_in_main u);
    types = have_components t look order p free.outer free.ordered is.seen u.scope u.scope (numbers_in_main u);
    subroutines = subroutines t look order p is.seen u.scope u.scope (numbers_in_main u);
    functions = functions t look order p is.seen u.scope u.scope (numbers_in_main u);
    objects = shown p t look order is (of_unit u) home q seen;
  }

  unit_agrees : (u : Numbered) → IsAmong (units_of t) u → UnitAgrees p w u
  unit_agrees u home = record {
    kinds = in_main_agrees u home;
    members = each_at (MemberAgrees p w u.scope) u.members (λ k m there. record {
      kinds = in_member_agrees u m (home, (k, there));
      result = own_results t look order free u m (home, (k, there));
    });
  }

  kinds_agree : KindsAgree p t look order
  kinds_agree = record {
    units = each_at (UnitAgrees p w) (units_of t) (λ k u there. unit_agrees u (k, there));
    all_ordered = ordered t order free.ordered;
    types = counted t look order free.outer free.ordered;
    components = behind t look order free;
  }

pub agree : KindsDoAgree
agree p t look order written free is = kinds_agree p t look order written free is
