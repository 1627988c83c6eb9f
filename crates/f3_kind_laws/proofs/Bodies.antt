-- In each body the variables are of their kinds.
use Rattle.std.proofs.Common.{◌≡◌, refl, subst, ℕ, List, []}
use Rattle.f3_tree.specs.declared.program.UnitKind.{UnitKind}
use Rattle.f3_tree.specs.declared.program.UnitKind.TheVariants as unit
use Rattle.f3_tree.specs.Tree.{UnitTree, Tree}
use Rattle.f3_nodes.proofs.Members.{Has, at_has, has_mapped}
use Rattle.f3_lookups.specs.declared.lookup.Lookup.{Lookup}
use Rattle.f3_program.specs.declared.program.Program.{Program}
use Rattle.f3_type_rules.specs.Members.{Member, Numbered}
use Rattle.f3_phase_laws.specs.Numbers.{units_of}
use Rattle.f3_phase_laws.proofs.Numbers.{units}
use Rattle.f3_entity_laws.specs.Things.{of_unit, of_member, IsHome}
use Rattle.f3_variable_laws.specs.Laws.{IsElaborated}
use Rattle.f3_variable_laws.proofs.Lists.{each_of}
use Rattle.f3_variable_laws.proofs.Owned.{unit_is}
use Rattle.f3_kind_laws.specs.Laws.{VariablesAreOfKinds}
use Rattle.f3_kind_laws.proofs.Mains.{main_shown}
use Rattle.f3_kind_laws.proofs.Members.{member_shown}

-- ---- procedures stand in modules

none_among : {X : Type 0} (xs : List X) (x : X) → xs ≡ [] → Has xs x → ⊥
none_among xs x e h = subst (λ ys. Has ys x) e h

module _ (p : Program) (t : Tree) (look : ℕ → ℕ → Lookup) (order : List ℕ) (is : IsElaborated p t look order) where
  in_module : (u : Numbered) (m : Member) → IsHome (units_of t) (of_member u m) → (u.tree).kind ≡ unit.Module
  in_module u m home = go (u.tree).kind refl
    where
      stands : Has t.units u.tree
      stands = subst (λ xs. Has xs u.tree) (units t).0 (has_mapped (λ (u : Numbered). u.tree) (units_of t) u (at_has (units_of t) (home.0).0 u (home.0).1))

      procedures : Has (u.tree).procedures m.tree
      procedures =
          subst (λ xs. Has xs m.tree) (unit_is t look u home.0).procedures
          (has_mapped (λ (m : Member). m.tree) u.members m (at_has u.members (home.1).0 m (home.1).1))

      go : (k : UnitKind) → (u.tree).kind ≡ k → (u.tree).kind ≡ unit.Module
      go unit.Module kind = kind
      go unit.Program kind =
          absurd (none_among (u.tree).procedures m.tree
          (each_of (λ (u : UnitTree). u.kind ≡ unit.Program → u.procedures ≡ []) t.units u.tree is.flat stands kind) procedures)

pub shown : VariablesAreOfKinds
shown p t look order is (of_unit u) home q seen symbol e o looked nature = main_shown t look is.means p order is.seen u home q seen symbol e o looked nature
shown p t look order is (of_member u m) home q seen symbol e o looked nature =
    member_shown t look is.means is.named p order is.seen u m home (in_module p t look order is u m home) q seen symbol e o looked nature
