use Rattle.std.proofs.Common.{◌≡◌, ℕ, ◌+◌, ◌++◌, List, Option, map, length, get_or, ap, sym, subst, ◌∙◌, arith}
use Rattle.std.specs.List.{flat_map}
use Rattle.std.proofs.lemmas.Option.{get_or_from_slice_get}
use Rattle.f3_access.specs.Access.{first_entity}
use Rattle.f3_scopes.specs.Scopes.{declared_in}
use Rattle.f3_tree.specs.declared.declaration.Specification.{Specification}
use Rattle.f3_tree.specs.declared.program.Procedure.{Procedure}
use Rattle.f3_tree.specs.Declarations.{specification_view}
use Rattle.f3_tree.specs.Tree.{UnitTree, unit_view, procedure_view}
use Rattle.f3_type_rules.specs.Associates.{constructs_of_block}
use Rattle.f3_type_rules.specs.Members.{Numbered, numbered, members_from}
use Rattle.f3_declared.specs.Scenery.{names_in}
use Rattle.f3_finals.specs.declared.candidate.Candidate.{Candidate}
use Rattle.f3_finals.specs.Candidates.{AreCandidates}
use Rattle.f3_elaboration.specs.Declarations.{derived}
use Rattle.f3_elaboration.specs.DeclaredViews.{derived_view}
use Rattle.f3_elaboration.specs.Numbers.{along_part, types_in}
use Rattle.f3_type_nodes.proofs.Fitting.{behind_least}
use Rattle.f3_type_nodes.proofs.Here.{unit_here}
use Rattle.f3_type_nodes.proofs.units.add_unit.Goals as goal

pub members_scope-requires : goal.members_scope-requires
members_scope-requires c =
    let u : UnitTree = unit_view c.args.given.now in
    let least = behind_least (c.args.scope + 1 + length (constructs_of_block u.body)) u.procedures in
    let fits = c.requires.procedures in
    omega (arith, least, fits)

pub behind_declared-requires : goal.behind_declared-requires
behind_declared-requires c =
    let is = get_or_from_slice_get c.args.firsts.now c.args.scope c.requires.entity 0 c.requires.first in
    let fits = c.requires.declared in
    let same = ap (λ (xs : List Specification). length (flat_map declared_in (map specification_view xs))) c.as_slice-list.ensures.value in
    omega (arith, is, fits, same)

pub returns : goal.returns
returns c = λ w inner scopes h f.
    let u : UnitTree = unit_view c.args.given.now in
    let n : Numbered = numbered scopes c.args.scope u in
    let entity : ℕ = get_or c.args.firsts.now c.args.scope 0 in
    let begun : entity ≡ first_entity scopes c.args.scope =
    get_or_from_slice_get c.args.firsts.now c.args.scope c.requires.entity 0 c.requires.first ∙ f c.args.scope c.requires.entity c.requires.first in
    let behind : c.behind_declared.result ≡ entity + length (flat_map declared_in (u.part).specifications) =
    c.behind_declared.ensures ∙ ap (λ (xs : List Specification). entity + length (flat_map declared_in (map specification_view xs))) c.as_slice-list.ensures.value in
    let final : AreCandidates (names_in c.args.whole.known.now c.args.whole.scenery) (members_from scopes c.behind_declared.result c.in_ok-start.start u.procedures) c.deref.result.now =
    subst (λ (cs : List (Option Candidate)). AreCandidates (names_in c.args.whole.known.now c.args.whole.scenery) (members_from scopes c.behind_declared.result c.in_ok-start.start u.procedures) cs) (sym c.deref.ensures.value)
    (subst (λ (ps : List Procedure). AreCandidates (names_in c.args.whole.known.now c.args.whole.scenery) (members_from scopes c.behind_declared.result c.in_ok-start.start (map procedure_view ps)) c.in_ok-candidates.candidates.items) c.as_slice-procedures.ensures.value
    (c.in_ok-candidates.ensures scopes c.behind_declared.result)) in
    c.in_ok-add_definitions.ensures w inner n
    (unit_here c.args.whole w inner scopes c.args.scope c.in_ok-start.start entity u _ h begun c.in_ok-start.ensures behind final)
    ∙ ap (λ (xs : List Specification). map derived_view c.args.found.now.items ++ map (derived w) (along_part (types_in n) entity (map specification_view xs))) c.as_slice-list.ensures.value
    ∙ ap (λ (k : ℕ). map derived_view c.args.found.now.items ++ map (derived w) (along_part (types_in n) k (u.part).specifications)) begun
