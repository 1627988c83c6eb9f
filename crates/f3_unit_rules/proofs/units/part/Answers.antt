use Rattle.std.proofs.Common.{◌≡◌, ◌+◌, List, Option, map, length, subst, sym, ap, ◌∙◌}
use Rattle.std.specs.List.{flat_map}
use Rattle.f3_scopes.specs.Scopes.{declared_in}
use Rattle.f3_tree.specs.declared.declaration.Specification.{Specification}
use Rattle.f3_tree.specs.declared.program.Procedure.{Procedure}
use Rattle.f3_tree.specs.Declarations.{specification_view}
use Rattle.f3_tree.specs.Tree.{UnitTree, unit_view, procedure_view}
use Rattle.f3_typed_parts.specs.Noted.{noted}
use Rattle.f3_type_rules.specs.Declarations.{specification_rows, specification_next, within_unit}
use Rattle.f3_type_rules.specs.Members.{Numbered, numbered, members_from}
use Rattle.f3_type_rules.specs.Walks.{after, along}
use Rattle.f3_declared.specs.Scenery.{names_in}
use Rattle.f3_entities.specs.Growth.{Stands}
use Rattle.f3_finals.specs.declared.candidate.Candidate.{Candidate}
use Rattle.f3_finals.specs.Candidates.{AreCandidates}
use Rattle.f3_unit_rules.specs.Inner.Steps.{part_spot}
use Rattle.f3_unit_rules.proofs.Parts.{stands_within, finalizers_here}
use Rattle.f3_unit_rules.proofs.units.part.Goals as goal

pub returns-clause-noted : goal.returns-clause-noted
returns-clause-noted c = λ s k scopes h e.
    let u : UnitTree = unit_view c.args.given.now in
    let n : Numbered = numbered scopes c.args.scope u in
    let behind : c.behind_declared.result ≡ c.args.entity + length (flat_map declared_in (u.part).specifications) =
    c.behind_declared.ensures ∙ ap (λ (xs : List Specification). c.args.entity + length (flat_map declared_in (map specification_view xs))) c.as_slice-list.ensures.value in
    let final : AreCandidates (names_in c.args.growth.now.known c.args.growth.now.scenery) (members_from scopes c.behind_declared.result c.args.start u.procedures) c.deref.result.now =
    subst (λ (cs : List (Option Candidate)). AreCandidates (names_in c.args.growth.now.known c.args.growth.now.scenery) (members_from scopes c.behind_declared.result c.args.start u.procedures) cs) (sym c.deref.ensures.value)
    (subst (λ (ps : List Procedure). AreCandidates (names_in c.args.growth.now.known c.args.growth.now.scenery) (members_from scopes c.behind_declared.result c.args.start (map procedure_view ps)) c.in_ok-candidates.candidates.items) c.as_slice-procedures.ensures.value
    (c.in_ok-candidates.ensures scopes c.behind_declared.result)) in
    c.in_ok-statements.ensures.noted s (within_unit n k) n.members
    (stands_within s c.args.growth.now k scopes c.args.scope c.args.entity u h e)
    (finalizers_here s c.args.growth.now k scopes c.args.scope c.args.start c.args.entity u _ h e c.requires.start behind final)
    ∙ ap (λ (xs : List Specification). noted c.args.first.now (along (specification_rows (part_spot s c.args.scope (map specification_view xs)) n.members) (specification_next (part_spot s c.args.scope (map specification_view xs))) (within_unit n k) (map specification_view xs)))
    c.as_slice-list.ensures.value

pub returns-clause-stands : goal.returns-clause-stands
returns-clause-stands c = λ s k scopes h e.
    let u : UnitTree = unit_view c.args.given.now in
    let n : Numbered = numbered scopes c.args.scope u in
    subst (λ (xs : List Specification). Stands s c.statements.new.growth (after (specification_next (part_spot s c.args.scope (map specification_view xs))) (within_unit n k) (map specification_view xs))) c.as_slice-list.ensures.value
    (c.in_ok-statements.ensures.stands s (within_unit n k) (stands_within s c.args.growth.now k scopes c.args.scope c.args.entity u h e))
