-- The header of a procedure.
use Rattle.std.proofs.Common.{◌≡◌, not, ◌++◌, [], Some, None, map, refl, ap, sym, ◌∙◌}
use Rattle.f3_rules.specs.declared.rule.Rule.TheVariants.{T12}
use Rattle.f3_scopes.specs.Scopes.{name_or}
use Rattle.f3_tree.specs.declared.expression.Name.{Name}
use Rattle.f3_tree.specs.declared.program.ProcedureKind.{ProcedureKind}
use Rattle.f3_tree.specs.declared.program.ProcedureKind.TheVariants.{Subroutine, Function}
use Rattle.f3_kinds.specs.Rows.{at_name, unless}
use Rattle.f3_type_rules.specs.Declarations.{header_rows, is_finalizable}
use Rattle.f3_type_rules.specs.Names.{type_of}
use Rattle.f3_type_rules.specs.Scene.{Scene}
use Rattle.f3_type_rules.specs.Walks.{Known, Spot}
use Rattle.f3_declared.specs.declared.spots.Spot.{Spot as Standpoint}
use Rattle.f3_declared.specs.Next.{before_entity}
use Rattle.f3_declared.specs.Scenery.{scene_in}
use Rattle.f3_declared.specs.Spots.{spot_in}
use Rattle.f3_entities.specs.declared.growth.Growth.{Growth}
use Rattle.f3_entities.specs.Growth.{Stands}
use Rattle.f3_specifications.proofs.Specifying.{specifier_next}
use Rattle.f3_finals.specs.Candidates.{rank_for}
use Rattle.f3_part_rules.specs.declared.finalizers.Finalizers.{Finalizers}
use Rattle.f3_part_rules.specs.Finalizers.{Finalize}

header_next : (s : Spot) (k j : Known) (n : Name) (kind : ProcedureKind) → k.next ≡ j.next → header_rows s k n kind ≡ header_rows s j n kind
header_next s k j n (Function (Some t) outcome) h =
    ap (λ zs. zs ++ unless (not (is_finalizable s.scene (type_of (s.scene).names s.scope t))) (at_name 5 T12 (name_or outcome n))) (specifier_next s k j t h)
header_next s k j n (Function None outcome) h = refl
header_next s k j n Subroutine h = refl

-- the rules on it, by what is known
pub header_here : (s : Scene) (g : Growth) (k : Known) (spot : Standpoint) (n : Name) (kind : ProcedureKind) → Stands s g k
    → header_rows (spot_in (scene_in g.known g.scenery) spot) (before_entity g.next) n kind ≡ header_rows (spot_in s spot) k n kind
header_here s g k spot n kind h =
    ap (λ (z : Scene). header_rows (spot_in z spot) (before_entity g.next) n kind) (sym h.scene) ∙ header_next (spot_in s spot) (before_entity g.next) k n kind h.next

-- where there are no procedures, none can finalize anything
pub nothing_final : (s : Scene) (f : Finalizers) → f.candidates.now ≡ [] → Finalize s f []
nothing_final s f e = record {
  scopes = [];
  scope = 0;
  procedures = [];
  members = refl;
  candidates = λ t. ap (map (rank_for t)) e;
}
