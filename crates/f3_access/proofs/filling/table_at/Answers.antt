use Rattle.std.proofs.Common.{◌≡◌, ◌<◌, [], Vec, Global, length, map, get_or, nat_eq, ap, sym, ◌∙◌, arith}
use Rattle.std.specs.List.{flat_map}
use Rattle.std.proofs.lemmas.List.{get_or-map, length-map}
use Rattle.std.proofs.lemmas.Result.{IfOk-weaker}
use Rattle.indexmap.specs.IndexMap.{get}
use Rattle.f3_scopes.specs.Outlines.{scope_view}
use Rattle.f3_lookups.specs.declared.lookup.Visible.{Visible}
use Rattle.f3_access.specs.declared.table.ScopeTable.{ScopeTable}
use Rattle.f3_access.specs.Listing.{called, exports_of}
use Rattle.f3_selecting.specs.Sources.{modules_of}
use Rattle.f3_access.specs.Parts.{exports_at, HasPlaces, IsTable, IsTableOf}
use Rattle.f3_access.proofs.Standing.{lists_long, access_within, access_at, table_made}
use Rattle.f3_access.proofs.filling.table_at.Goals as goal

pub bounds-declared-number : goal.bounds-declared-number
bounds-declared-number c =
    let scopes = map scope_view c.args.outlines.now in
    omega (arith, c.requires.scope, length-map c.args.declared.now (λ (l : Vec Visible Global). l.items), ap length c.requires.declared, lists_long 0 scopes, length-map c.args.outlines.now scope_view)

pub bounds-accesses-number : goal.bounds-accesses-number
bounds-accesses-number c = access_within c.args.outlines.now c.args.accesses.now c.args.number c.requires.accesses c.requires.scope

pub table_of-requires-clause-accesses : goal.table_of-requires-clause-accesses
table_of-requires-clause-accesses c =
    access_at c.args.outlines.now c.args.accesses.now c.args.number c.index-outlines-number.result c.index-accesses-number.result c.requires.accesses c.index-outlines-number.is c.index-accesses-number.is c.requires.scope

pub returns-clause-places : goal.returns-clause-places
returns-clause-places c =
    let o = c.index-outlines-number.result in
    IfOk-weaker c.table_of.result
    (λ (t : ScopeTable). IsTable (flat_map (λ m. flat_map (called (scope_view o).uses m) (exports_of (exports_at c.args.tables.now) (get nat_eq c.args.modules.now m))) (modules_of (scope_view o).uses)) c.deref.result.now (scope_view o) t)
    HasPlaces (λ t h. h.places) c.table_of.ensures

pub returns-clause-table : goal.returns-clause-table
returns-clause-table c =
    let outlines = c.args.outlines.now in
    let o = c.index-outlines-number.result in
    let lists = c.args.declared.now in
    let number = c.args.number in
    let fits : number < length lists = omega (arith, c.requires.scope, length-map lists (λ (l : Vec Visible Global). l.items), ap length c.requires.declared, lists_long 0 (map scope_view outlines), length-map outlines scope_view) in
    let own : c.deref.result.now ≡ get_or (map (λ (l : Vec Visible Global). l.items) lists) number [] =
    c.deref.ensures.value ∙ ap (λ (l : Vec Visible Global). l.items) c.index-declared-number.is ∙ sym (get_or-map (λ (l : Vec Visible Global). l.items) lists number c.index-declared-number.result [] fits) in
    IfOk-weaker c.table_of.result
    (λ (t : ScopeTable). IsTable (flat_map (λ m. flat_map (called (scope_view o).uses m) (exports_of (exports_at c.args.tables.now) (get nat_eq c.args.modules.now m))) (modules_of (scope_view o).uses)) c.deref.result.now (scope_view o) t)
    (λ (t : ScopeTable). IsTableOf (map scope_view outlines) c.args.tables.now number t)
    (λ t h. table_made outlines number o lists (λ m. get nat_eq c.args.modules.now m) c.args.tables.now t c.deref.result.now c.index-outlines-number.is c.requires.scope c.requires.declared c.requires.modules own h)
    c.table_of.ensures
