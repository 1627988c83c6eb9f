-- A unit of a program, where its procedures are gathered.
use Rattle.std.proofs.Common.{◌≡◌, ℕ, ◌+◌, List, length, refl, sym, ap, subst, ◌∙◌}
use Rattle.std.specs.List.{flat_map}
use Rattle.f3_access.specs.Access.{first_entity}
use Rattle.f3_scopes.specs.Outlines.{Scope}
use Rattle.f3_scopes.specs.Scopes.{declared_in}
use Rattle.f3_tree.specs.Tree.{UnitTree}
use Rattle.f3_type_rules.specs.Associates.{constructs_of_block}
use Rattle.f3_type_rules.specs.Members.{members_from, numbered}
use Rattle.f3_type_rules.specs.Names.{Names}
use Rattle.f3_type_rules.specs.Scene.{Scene}
use Rattle.f3_declared.specs.Scenery.{names_in}
use Rattle.f3_finals.specs.Candidates.{AreCandidates}
use Rattle.f3_part_rules.specs.declared.finalizers.Finalizers.{Finalizers}
use Rattle.f3_part_rules.specs.Finalizers.{Finalize}
use Rattle.f3_elaboration.specs.Declarations.{Whole}
use Rattle.f3_elaboration.specs.Numbers.{Inner}
use Rattle.f3_declaration_nodes.specs.declared.whole.Whole.{Whole as Tables}
use Rattle.f3_declaration_nodes.specs.Stands.{Stands}
use Rattle.f3_type_nodes.specs.Inner.Units.{IsHere}

-- where the entity is the first in the unit, and `start` the scope of its first procedure
finalizers_here : (t : Tables) (w : Whole) (inner : Inner) (scopes : List Scope) (scope start entity : ℕ) (u : UnitTree) (f : Finalizers) → Stands t w inner
    → entity ≡ first_entity scopes scope → start ≡ scope + 1 + length (constructs_of_block u.body)
    → f.first ≡ entity + length (flat_map declared_in (u.part).specifications)
    → AreCandidates (names_in t.known.now t.scenery) (members_from scopes f.first start u.procedures) f.candidates.now
    → Finalize w.scene f (numbered scopes scope u).members
finalizers_here t w inner scopes scope start entity u f h e b n a = record {
  scopes = scopes;
  scope = start;
  procedures = u.procedures;
  members =
      ap (λ (z : ℕ). members_from scopes (z + length (flat_map declared_in (u.part).specifications)) (scope + 1 + length (constructs_of_block u.body)) u.procedures) (sym e)
      ∙ ap (λ (z : ℕ). members_from scopes z (scope + 1 + length (constructs_of_block u.body)) u.procedures) (sym n)
      ∙ ap (λ (z : ℕ). members_from scopes f.first z u.procedures) (sym b);
  candidates = subst (λ (z : Names). AreCandidates z (members_from scopes f.first start u.procedures) f.candidates.now) (sym (ap (λ (z : Scene). z.names) h.scene)) a;
}

pub unit_here : (t : Tables) (w : Whole) (inner : Inner) (scopes : List Scope) (scope start entity : ℕ) (u : UnitTree) (f : Finalizers) → Stands t w inner
    → entity ≡ first_entity scopes scope → start ≡ scope + 1 + length (constructs_of_block u.body)
    → f.first ≡ entity + length (flat_map declared_in (u.part).specifications)
    → AreCandidates (names_in t.known.now t.scenery) (members_from scopes f.first start u.procedures) f.candidates.now
    → IsHere t f scope w inner (numbered scopes scope u)
unit_here t w inner scopes scope start entity u f h e b n a =
    record { stands = h; scope_is = refl; finalizers = finalizers_here t w inner scopes scope start entity u f h e b n a }
