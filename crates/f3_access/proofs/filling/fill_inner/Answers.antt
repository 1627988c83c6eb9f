use Rattle.std.proofs.Common.{List, ◌+◌, length, map, ap, sym, subst, ◌∙◌}
use Rattle.std.proofs.lemmas.List.{length-set, length-map}
use Rattle.std.proofs.lemmas.Result.{on_ok_weaker}
use Rattle.f3_scopes.specs.declared.outline.Outline.{Outline}
use Rattle.f3_scopes.specs.Outlines.{scope_view}
use Rattle.f3_access.specs.declared.table.ScopeTable.{ScopeTable}
use Rattle.f3_access.specs.Listing.{is_unit}
use Rattle.f3_access.specs.Parts.{Done}
use Rattle.f3_access.proofs.Standing.{outline_at, procedure_more, unit_done}
use Rattle.f3_access.proofs.filling.fill_inner.Goals as goal

pub returns-then-is_unit-clause-done : goal.returns-then-is_unit-clause-done
returns-then-is_unit-clause-done c =
    let outlines = c.args.outlines.now in
    let o = c.index-outlines-number.result in
    unit_done (map scope_view outlines) c.args.tables.now.items c.args.number (scope_view o) (outline_at outlines c.args.number o c.index-outlines-number.is c.requires.scope)
    (ap (λ (x : Outline). is_unit x.kind) c.index-outlines-number.is ∙ sym c.is_unit.ensures ∙ c.if-is_unit.true) c.requires.done

pub returns-clause-long : goal.returns-clause-long
returns-clause-long c = on_ok_weaker c.fill.result (λ w. ap length w.1 ∙ length-set c.args.tables.now.items c.args.number w.0 ∙ c.requires.long) c.fill.ensures.table

pub returns-clause-done : goal.returns-clause-done
returns-clause-done c =
    let outlines = c.args.outlines.now in
    let scopes = map scope_view outlines in
    let o = c.index-outlines-number.result in
    on_ok_weaker c.fill.result
    (λ w. subst (λ (l : List ScopeTable). Done scopes l (c.args.number + 1)) (sym w.1)
    (procedure_more scopes c.args.tables.now.items c.args.number w.0 (scope_view o) (outline_at outlines c.args.number o c.index-outlines-number.is c.requires.scope)
    (ap (λ (x : Outline). is_unit x.kind) c.index-outlines-number.is ∙ sym c.is_unit.ensures ∙ c.if-is_unit.false) (c.requires.long ∙ sym (length-map outlines scope_view)) w.2 c.requires.done))
    c.fill.ensures.table
