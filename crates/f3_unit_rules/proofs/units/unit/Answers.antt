use Rattle.std.proofs.Common.{◌≡◌, ◌+◌, ℕ, List, map, length, get_or, subst, ap, ◌∙◌, arith}
use Rattle.std.specs.List.{flat_map}
use Rattle.std.proofs.lemmas.Option.{get_or_from_slice_get}
use Rattle.f3_access.specs.Access.{first_entity}
use Rattle.f3_scopes.specs.Scopes.{declared_in}
use Rattle.f3_tree.specs.declared.program.Procedure.{Procedure}
use Rattle.f3_tree.specs.Tree.{UnitTree, unit_view, procedure_view}
use Rattle.f3_typed_parts.specs.Noted.{noted}
use Rattle.f3_type_rules.specs.Associates.{constructs_of_block}
use Rattle.f3_type_rules.specs.Declarations.{member_rows, member_next, behind_part}
use Rattle.f3_type_rules.specs.Members.{Numbered, numbered, members_from}
use Rattle.f3_type_rules.specs.Walks.{after, along}
use Rattle.f3_entities.specs.Growth.{Stands}
use Rattle.f3_finals.specs.Candidates.{behind_procedures}
use Rattle.f3_unit_rules.specs.Inner.Steps.{part_rows}
use Rattle.f3_unit_rules.proofs.Parts.{fit_behind, behind_least, two_noted}
use Rattle.f3_unit_rules.proofs.units.unit.Goals as goal

pub members_scope-requires : goal.members_scope-requires
members_scope-requires c =
    let u : UnitTree = unit_view c.args.given.now in
    let least = behind_least (c.args.scope + 1 + length (constructs_of_block u.body)) u.procedures in
    let long = fit_behind c.args.firsts.now _ (c.args.scope + 1 + length (constructs_of_block u.body)) u.procedures c.requires.fit.1 in
    omega (arith, least, long)

pub part-requires-clause-values : goal.part-requires-clause-values
part-requires-clause-values c =
    let is = get_or_from_slice_get c.args.firsts.now c.args.scope c.requires.fit.0.0 0 c.requires.fit.0.1 in
    let room = c.requires.fit.0.2 in
    omega (arith, is, room)

pub part-requires-clause-cells : goal.part-requires-clause-cells
part-requires-clause-cells c =
    let is = get_or_from_slice_get c.args.firsts.now c.args.scope c.requires.fit.0.0 0 c.requires.fit.0.1 in
    let room = c.requires.fit.0.2 in
    omega (arith, is, room)

pub part-requires-clause-end : goal.part-requires-clause-end
part-requires-clause-end c =
    let u : UnitTree = unit_view c.args.given.now in
    let long = fit_behind c.args.firsts.now _ (c.args.scope + 1 + length (constructs_of_block u.body)) u.procedures c.requires.fit.1 in
    let same = ap (λ (n : ℕ). behind_procedures n u.procedures) c.in_ok-start.ensures in
    omega (arith, long, same)

pub returns-clause-noted : goal.returns-clause-noted
returns-clause-noted c = λ s k scopes h f.
    let u : UnitTree = unit_view c.args.given.now in
    let n : Numbered = numbered scopes c.args.scope u in
    let begun : get_or c.args.firsts.now c.args.scope 0 ≡ first_entity scopes c.args.scope =
    get_or_from_slice_get c.args.firsts.now c.args.scope c.requires.fit.0.0 0 c.requires.fit.0.1 ∙ f c.args.scope c.requires.fit.0.0 c.requires.fit.0.1 in
    let entity : ℕ = n.first + length (flat_map declared_in (u.part).specifications) in
    two_noted c.args.first.now c.part.new.first _ (part_rows s k n)
    (along (member_rows s c.args.scope) (member_next s c.args.scope) (behind_part s n k) n.members)
    (c.in_ok-part.ensures.noted s k scopes h begun)
    (c.in_ok-members.ensures.noted s (behind_part s n k) scopes entity (c.in_ok-part.ensures.stands s k scopes h begun) f
    ∙ ap (λ (z : ℕ). noted c.part.new.first (along (member_rows s c.args.scope) (member_next s c.args.scope) (behind_part s n k) (members_from scopes entity z (map procedure_view c.deref.result.now)))) c.in_ok-start.ensures
    ∙ ap (λ (ps : List Procedure). noted c.part.new.first (along (member_rows s c.args.scope) (member_next s c.args.scope) (behind_part s n k) (members_from scopes entity (c.args.scope + 1 + length (constructs_of_block u.body)) (map procedure_view ps)))) c.deref.ensures.value)

pub returns-clause-stands : goal.returns-clause-stands
returns-clause-stands c = λ s k scopes h f.
    let u : UnitTree = unit_view c.args.given.now in
    let n : Numbered = numbered scopes c.args.scope u in
    let begun : get_or c.args.firsts.now c.args.scope 0 ≡ first_entity scopes c.args.scope =
    get_or_from_slice_get c.args.firsts.now c.args.scope c.requires.fit.0.0 0 c.requires.fit.0.1 ∙ f c.args.scope c.requires.fit.0.0 c.requires.fit.0.1 in
    let entity : ℕ = n.first + length (flat_map declared_in (u.part).specifications) in
    subst (λ (ps : List Procedure). Stands s c.members.new.growth (after (member_next s c.args.scope) (behind_part s n k) (members_from scopes entity (c.args.scope + 1 + length (constructs_of_block u.body)) (map procedure_view ps)))) c.deref.ensures.value
    (subst (λ (z : ℕ). Stands s c.members.new.growth (after (member_next s c.args.scope) (behind_part s n k) (members_from scopes entity z (map procedure_view c.deref.result.now)))) c.in_ok-start.ensures
    (c.in_ok-members.ensures.stands s (behind_part s n k) scopes entity (c.in_ok-part.ensures.stands s k scopes h begun) f))
