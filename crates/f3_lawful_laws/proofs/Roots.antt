-- Where a body begins.
use Rattle.std.proofs.Common.{◌≡◌, ℕ, false, Option, length, refl, sym, ap, ◌∙◌}
use Rattle.std.specs.Prelude.{slice_get}
use Rattle.f3_program.specs.declared.program.Procedure.{Procedure}
use Rattle.f3_program.specs.declared.program.Program.{Program}
use Rattle.f3_tree.specs.declared.expression.Name.{Name}
use Rattle.f3_meaning_whole.specs.Permitted.{names_of, scope_of, lendable}
use Rattle.f3_type_rules.specs.declared.definition.Holder.{Holder}
use Rattle.f3_type_rules.specs.Declarations.{spot_of}
use Rattle.f3_type_rules.specs.Members.{Member, Numbered}
use Rattle.f3_type_rules.specs.Scene.{site_in}
use Rattle.f3_elaboration.specs.Nodes.{ProcedureNode}
use Rattle.f3_elaboration.specs.Numbers.{entity_of}
use Rattle.f3_elaboration.specs.Declarations.{Whole}
use Rattle.f3_elaboration.specs.DeclaredViews.{procedure_view, dummy_view}
use Rattle.f3_elaboration.specs.Units.{procedure, dummy, main, in_member, in_main}
use Rattle.f3_lawful_laws.specs.Entities.{AreAlike, main_scope}
use Rattle.f3_lawful_laws.proofs.Facts.{first}
use Rattle.f3_lawful_laws.proofs.Ascending.{mapped_long}
use Rattle.f3_lawful_laws.proofs.Statements.{Here}

module _ (p : Program) (w : Whole) where
  abbrev held : ℕ → Option Holder
  held l = slice_get (w.scene).holders l

  -- in a procedure
  pub member_here : (unit : ℕ) (m : Member) (q : Procedure) → procedure_view q ≡ procedure w unit m
      → AreAlike p w (scope_of q) (in_member w unit m) (site_in w.scene unit m.scope (spot_of w.scene unit m).is_pure w.values)
      → Here p held (scope_of q) (in_member w unit m) (site_in w.scene unit m.scope (spot_of w.scene unit m).is_pure w.values)
  member_here unit m q seen h = record {
    agrees = record {
      unit = sym (ap (λ (y : ProcedureNode). y.unit) seen);
      known = h.known;
      types = h.types;
      subroutines = h.subroutines;
      functions = h.functions;
      variables = h.variables;
    };
    lends = record { count = count; within = h.within };
    allows = record {
      here = refl;
      holders = λ x l rows. rows;
      defines = λ symbol e o x looked nature ends rows. h.defines symbol e o x looked nature (first _ _ rows);
    };
  }
    where
      count : (in_member w unit m).lent ≡ length (names_of q.dummies.items)
      count =
          mapped_long (λ (n : Name). entity_of ((w.scene).names.look m.scope n.symbol)) ((m.tree).header).dummies
          ∙ sym (mapped_long (dummy w unit m) ((m.tree).header).dummies)
          ∙ ap length (sym (ap (λ (y : ProcedureNode). y.dummies) seen)) ∙ mapped_long dummy_view q.dummies.items
          ∙ sym (mapped_long lendable q.dummies.items)

  -- in the main program
  pub main_here : (u : Numbered) (q : Procedure) → procedure_view q ≡ main w u
      → AreAlike p w (main_scope q) (in_main w u) (site_in w.scene u.scope u.scope false w.values)
      → Here p held (main_scope q) (in_main w u) (site_in w.scene u.scope u.scope false w.values)
  main_here u q seen h = record {
    agrees = record {
      unit = sym (ap (λ (y : ProcedureNode). y.unit) seen);
      known = h.known;
      types = h.types;
      subroutines = h.subroutines;
      functions = h.functions;
      variables = h.variables;
    };
    lends = record { count = refl; within = h.within };
    allows = record {
      here = refl;
      holders = λ x l rows. rows;
      defines = λ symbol e o x looked nature ends rows. h.defines symbol e o x looked nature (first _ _ rows);
    };
  }
