-- What the rules on types know of a program, and what its elaborated program says, are of the same entities, wherever a body begins.
use Rattle.std.specs.Prelude.{◌≡◌, ℕ, false, [], List, slice_get, Some, Bool, map, true}
use Rattle.std.specs.List.{flat_map}
use Rattle.f3_lookups.specs.declared.lookup.Lookup.{Lookup}
use Rattle.f3_scopes.specs.Scopes.{scopes_of}
use Rattle.f3_tree.specs.Tree.{Tree}
use Rattle.f3_program.specs.declared.program.Procedure.{Procedure}
use Rattle.f3_program.specs.declared.program.Program.{Program}
use Rattle.f3_meaning_whole.specs.Exec.{declared_in}
use Rattle.f3_meaning_whole.specs.Permitted.{Each, Scope, scope_of, names_in, name_of}
use Rattle.f3_lookups.specs.declared.lookup.Lookup.TheVariants.{One}
use Rattle.f3_kinds.specs.declared.said.Said.{Said}
use Rattle.f3_kinds.specs.declared.things.Component.{Component}
use Rattle.f3_kinds.specs.declared.things.Dummy.{Dummy}
use Rattle.f3_kinds.specs.declared.types.Object.{Object}
use Rattle.f3_kinds.specs.Things.{variable, derived, subroutine, function, look_here}
use Rattle.f3_elaboration.specs.Context.{base}
use Rattle.f3_type_rules.specs.Declarations.{spot_of}
use Rattle.f3_type_rules.specs.Definitions.{Site}
use Rattle.f3_type_rules.specs.Members.{Member, Numbered, units_from}
use Rattle.f3_type_rules.specs.Program.{units_in}
use Rattle.f3_type_rules.specs.Scene.{names_of, scene_of, site_in}
use Rattle.f3_elaboration.specs.Context.{Surroundings}
use Rattle.f3_elaboration.specs.Declarations.{Whole}
use Rattle.f3_elaboration.specs.DeclaredViews.{procedure_view}
use Rattle.f3_elaboration.specs.Numbers.{number_in, Definition, definitions}
use Rattle.f3_elaboration.specs.Program.{whole_along}
use Rattle.f3_elaboration.specs.Units as units
use Rattle.f3_elaboration.specs.Units.{main, in_member, in_main}
use Rattle.f3_lawful_laws.specs.Agreement.{Knows, IsType, lent, AreGiven, IsWithin, lend_rows}

abbrev pub units_of : Tree → List Numbered
units_of t = units_from (scopes_of t) 0 t.units

-- what is known of the whole program
abbrev pub whole_of : Tree → (look : ℕ → ℕ → Lookup) → (order : List ℕ) → Whole
whole_of t look order = whole_along (scene_of (names_of t look) (scopes_of t) (units_of t)) t.texts (units_of t) (units_in (units_of t) order)

-- Where a body begins: the types of what is declared are known; types, procedures and variables of the rules are those of the program;
-- a variable of whose definition D1 and D2 ask nothing may be defined; and no dummy has a number beyond the dummies.
pub record AreAlike (p : Program) (w : Whole) (scope : Scope) (s : Surroundings) (site : Site) : Type 0 where
  pub known : Knows s.context
  pub types : (e home : ℕ) (ks : List (ℕ × Component)) (f : Bool) → (s.context).nature e ≡ Some (derived home ks f) → IsType p s e home ks
  pub subroutines : (e : ℕ) (pure : Bool) (ds : List (ℕ × Dummy)) → (s.context).nature e ≡ Some (subroutine pure ds)
      → names_in p (s.procedure e) ≡ map (lent s) ds
  pub functions : (e : ℕ) (pure : Bool) (ds : List (ℕ × Dummy)) (o : Object) → (s.context).nature e ≡ Some (function pure ds o)
      → (names_in p (s.procedure e) ≡ map (lent s) ds) × AreGiven ds
  pub variables : (symbol e : ℕ) (o : Object) → look_here s.context symbol ≡ One e → (s.context).nature e ≡ Some (variable o)
      → (name_of p scope (s.object e)).of ≡ base s o.data_type
  pub within : (symbol e : ℕ) (o : Object) → look_here s.context symbol ≡ One e → (s.context).nature e ≡ Some (variable o)
      → IsWithin s.lent (s.object e)
  pub defines : (symbol e : ℕ) (o : Object) (x : Said) → look_here s.context symbol ≡ One e → (s.context).nature e ≡ Some (variable o)
      → lend_rows site x (slice_get (w.scene).holders e) ≡ [] → (name_of p scope (s.object e)).may_define ≡ true

abbrev pub main_scope : Procedure → Scope
main_scope q = record { unit = q.unit; variables = declared_in q; names = [] }

module _ (p : Program) (w : Whole) where
  -- so in a procedure of the unit of this number
  pub record MemberAgrees (unit : ℕ) (m : Member) : Type 0 where
    pub alike : (q : Procedure) → procedure_view q ≡ units.procedure w unit m
        → AreAlike p w (scope_of q) (in_member w unit m) (site_in w.scene unit m.scope (spot_of w.scene unit m).is_pure w.values)

  -- so in a unit, and in its procedures
  pub record UnitAgrees (u : Numbered) : Type 0 where
    pub alike : (q : Procedure) → procedure_view q ≡ main w u → AreAlike p w (main_scope q) (in_main w u) (site_in w.scene u.scope u.scope false w.values)
    pub members : Each (MemberAgrees u.scope) u.members

-- each type has the number of its place
abbrev pub AreNumbered : Whole → List Definition → Type 0
AreNumbered w ds = (i : ℕ) (d : Definition) → slice_get ds i ≡ Some d → number_in (w.numbers).types d.entity ≡ i

pub record EntitiesAgree (p : Program) (t : Tree) (look : ℕ → ℕ → Lookup) (order : List ℕ) : Type 0 where
  pub units : Each (UnitAgrees p (whole_of t look order)) (units_of t)
  pub types : AreNumbered (whole_of t look order) (flat_map definitions (units_in (units_of t) order))
