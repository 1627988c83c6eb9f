-- In each body the names of variables fit.
use Rattle.std.proofs.Common.{◌≡◌, refl, subst, ℕ, List, [], Some}
use Rattle.f3_tree.specs.declared.program.UnitKind.{UnitKind}
use Rattle.f3_tree.specs.declared.program.UnitKind.TheVariants as unit
use Rattle.f3_tree.specs.Tree.{UnitTree, Tree}
use Rattle.f3_nodes.proofs.Members.{Has, at_has, has_mapped}
use Rattle.f3_lookups.specs.declared.lookup.Lookup.{Lookup}
use Rattle.f3_lookups.specs.declared.lookup.Lookup.TheVariants.{One}
use Rattle.f3_program.specs.declared.program.Procedure.{Procedure}
use Rattle.f3_program.specs.declared.program.Program.{Program}
use Rattle.f3_kinds.specs.declared.types.Object.{Object}
use Rattle.f3_kinds.specs.Things.{look_here, variable}
use Rattle.f3_type_rules.specs.Members.{Member, Numbered}
use Rattle.f3_phase_laws.specs.Numbers.{units_of}
use Rattle.f3_phase_laws.proofs.Numbers.{units}
use Rattle.f3_elaboration.specs.DeclaredViews.{procedure_view}
use Rattle.f3_entity_laws.specs.Things.{Home, of_unit, of_member, IsHome}
use Rattle.f3_lawful_laws.specs.Entities.{whole_of}
use Rattle.f3_variable_laws.specs.Bodies.{node_of, surroundings_in, scope_in, site_of}
use Rattle.f3_variable_laws.specs.Laws.{IsElaborated, VariablesHaveTypes, VariablesAreWithin, VariablesMayBeDefined}
use Rattle.f3_variable_laws.proofs.Fits.{Fits}
use Rattle.f3_variable_laws.proofs.Lists.{each_of}
use Rattle.f3_variable_laws.proofs.Mains.{main_fits}
use Rattle.f3_variable_laws.proofs.Members.{member_fits}
use Rattle.f3_variable_laws.proofs.Owned.{unit_is}

-- ---- procedures stand in modules

none_among : {X : Type 0} (xs : List X) (x : X) → xs ≡ [] → Has xs x → ⊥
none_among xs x e h = subst (λ ys. Has ys x) e h

module _ (p : Program) (t : Tree) (look : ℕ → ℕ → Lookup) (order : List ℕ) (is : IsElaborated p t look order) where
  in_module : (u : Numbered) (m : Member) → IsHome (units_of t) (of_member u m) → (u.tree).kind ≡ unit.Module
  in_module u m home = go (u.tree).kind refl
    where
      stands : Has t.units u.tree
      stands = subst (λ xs. Has xs u.tree) (units t).0 (has_mapped (λ (u : Numbered). u.tree) (units_of t) u (at_has (units_of t) (home.0).0 u (home.0).1))

      procedures : Has (u.tree).procedures m.tree
      procedures =
          subst (λ xs. Has xs m.tree) (unit_is t look u home.0).procedures
          (has_mapped (λ (m : Member). m.tree) u.members m (at_has u.members (home.1).0 m (home.1).1))

      go : (k : UnitKind) → (u.tree).kind ≡ k → (u.tree).kind ≡ unit.Module
      go unit.Module kind = kind
      go unit.Program kind =
          absurd (none_among (u.tree).procedures m.tree
          (each_of (λ (u : UnitTree). u.kind ≡ unit.Program → u.procedures ≡ []) t.units u.tree is.flat stands kind) procedures)

  pub fits : (h : Home) → IsHome (units_of t) h → (q : Procedure) → procedure_view q ≡ node_of (whole_of t look order) h
      → (symbol e : ℕ) (o : Object) → look_here (surroundings_in (whole_of t look order) h).context symbol ≡ One e
      → (surroundings_in (whole_of t look order) h).context.nature e ≡ Some (variable o)
      → Fits p t look order (scope_in h q) (site_of (whole_of t look order) h) (surroundings_in (whole_of t look order) h).lent e o
      ((surroundings_in (whole_of t look order) h).object e)
  fits (of_unit u) home q seen symbol e o looked nature =
      main_fits t look is.means p order is.seen u home q seen symbol e o looked nature (site_of (whole_of t look order) (of_unit u)) refl
  fits (of_member u m) home q seen symbol e o looked nature =
      member_fits t look is.means is.named p order is.seen u m home (in_module u m home) q seen symbol e o looked nature
      (site_of (whole_of t look order) (of_member u m)) refl

pub types : VariablesHaveTypes
types p t look order is (of_unit u) home q seen symbol e o looked nature = (fits p t look order is (of_unit u) home q seen symbol e o looked nature).type_is
types p t look order is (of_member u m) home q seen symbol e o looked nature = (fits p t look order is (of_member u m) home q seen symbol e o looked nature).type_is

pub within : VariablesAreWithin
within p t look order is h home q seen symbol e o looked nature = (fits p t look order is h home q seen symbol e o looked nature).within

pub defines : VariablesMayBeDefined
defines p t look order is (of_unit u) home q seen symbol e o looked nature = (fits p t look order is (of_unit u) home q seen symbol e o looked nature).defines
defines p t look order is (of_member u m) home q seen symbol e o looked nature = (fits p t look order is (of_member u m) home q seen symbol e o looked nature).defines
