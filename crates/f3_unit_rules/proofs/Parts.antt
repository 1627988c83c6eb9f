-- The specification part of a unit and its procedures.
use Rattle.std.proofs.Common.{◌≡◌, ℕ, ◌+◌, ◌≤◌, List, [], ◌∷◌, ◌++◌, Option, length, ap, sym, ◌∙◌, subst, arith}
use Rattle.std.specs.List.{flat_map}
use Rattle.f3_rules.specs.declared.breaks.Break.{Break}
use Rattle.f3_access.specs.Access.{first_entity}
use Rattle.f3_scopes.specs.Outlines.{Scope}
use Rattle.f3_scopes.specs.Scopes.{declared_in}
use Rattle.f3_tree.specs.Tree.{ProcedureTree, UnitTree}
use Rattle.f3_typed_parts.specs.Noted.{noted}
use Rattle.f3_typed_parts.proofs.Noting.{noted_more}
use Rattle.f3_type_rules.specs.Associates.{constructs_of_block}
use Rattle.f3_type_rules.specs.Members.{members_from, numbered}
use Rattle.f3_type_rules.specs.Names.{Names}
use Rattle.f3_type_rules.specs.Scene.{Scene}
use Rattle.f3_type_rules.specs.Walks.{Known}
use Rattle.f3_type_rules.specs.Declarations.{within_unit}
use Rattle.f3_declared.specs.Scenery.{names_in}
use Rattle.f3_entities.specs.declared.growth.Growth.{Growth}
use Rattle.f3_entities.specs.Growth.{Stands}
use Rattle.f3_finals.specs.Candidates.{AreCandidates, behind_procedures}
use Rattle.f3_part_rules.specs.declared.finalizers.Finalizers.{Finalizers}
use Rattle.f3_part_rules.specs.Finalizers.{Finalize}
use Rattle.f3_part_rules.specs.Members.{Fit}

-- the scope behind the procedures has a number
pub fit_behind : (firsts : List ℕ) (room scope : ℕ) (ps : List ProcedureTree) → Fit firsts room scope ps → behind_procedures scope ps ≤ length firsts
fit_behind firsts room scope [] fit = fit
fit_behind firsts room scope (p ∷ ps) fit = fit_behind firsts room (scope + 1 + length (constructs_of_block p.body)) ps fit.1

pub behind_least : (scope : ℕ) (ps : List ProcedureTree) → scope ≤ behind_procedures scope ps
behind_least scope [] = omega arith
behind_least scope (p ∷ ps) = let more = behind_least (scope + 1 + length (constructs_of_block p.body)) ps in omega (arith, more)

-- what is known before the specification part of a unit
pub stands_within : (s : Scene) (g : Growth) (k : Known) (scopes : List Scope) (scope entity : ℕ) (u : UnitTree) → Stands s g k → entity ≡ first_entity scopes scope
    → Stands s (record g { next = entity }) (within_unit (numbered scopes scope u) k)
stands_within s g k scopes scope entity u h e = record { scene = h.scene; next = e; values = h.values; cells = h.cells }

-- what its procedures could finalize
pub finalizers_here : (s : Scene) (g : Growth) (k : Known) (scopes : List Scope) (scope start entity : ℕ) (u : UnitTree) (f : Finalizers) → Stands s g k
    → entity ≡ first_entity scopes scope → start ≡ scope + 1 + length (constructs_of_block u.body)
    → f.first ≡ entity + length (flat_map declared_in (u.part).specifications)
    → AreCandidates (names_in g.known g.scenery) (members_from scopes f.first start u.procedures) f.candidates.now
    → Finalize s f (numbered scopes scope u).members
finalizers_here s g k scopes scope start entity u f h e b n a = record {
  scopes = scopes;
  scope = start;
  procedures = u.procedures;
  members =
      ap (λ (z : ℕ). members_from scopes (z + length (flat_map declared_in (u.part).specifications)) (scope + 1 + length (constructs_of_block u.body)) u.procedures) (sym e)
      ∙ ap (λ (z : ℕ). members_from scopes z (scope + 1 + length (constructs_of_block u.body)) u.procedures) (sym n)
      ∙ ap (λ (z : ℕ). members_from scopes f.first z u.procedures) (sym b);
  candidates = subst (λ (z : Names). AreCandidates z (members_from scopes f.first start u.procedures) f.candidates.now) (sym (ap (λ (z : Scene). z.names) h.scene)) a;
}

-- two rules
pub two_noted : (f g h : Option Break) (a b : List Break) → g ≡ noted f a → h ≡ noted g b → h ≡ noted f (a ++ b)
two_noted f g h a b p q = q ∙ ap (λ z. noted z b) p ∙ noted_more f a b
