use Rattle.std.proofs.Common.{◌≡◌, map, string_bytes, ap, sym, subst, ◌∙◌}
use Rattle.f3_tree.specs.Tree.{view}
use Rattle.std.specs.Global.{Vec}
use Rattle.f3_scopes.specs.declared.outline.Outline.{Outline}
use Rattle.f3_scopes.specs.Outlines.{scope_view}
use Rattle.f3_scopes.specs.Scopes.{scopes_of}
use Rattle.f3_access.specs.Tables.{AreTables}
use Rattle.f3_names.specs.Entities.{described}
use Rattle.f3_names.specs.Tables.{scope_numbers}
use Rattle.f3_names.proofs.Answering.{copied, numbers_are, all_fit, ordered, apart, hosts_are_before, first_found, none_found}
use Rattle.f3_names.proofs.naming.names.Goals as goal

pub scope_order-requires : goal.scope_order-requires
scope_order-requires c =
    let t = view c.args.program.now in
    let scopes : map scope_view c.deref.result.now ≡ scopes_of t = ap (map scope_view) c.deref.ensures.value ∙ c.in_ok-outlines.ensures in
    let numbers : c.deref-2.result.now ≡ scope_numbers 0 t.units = c.deref-2.ensures.value ∙ numbers_are t (map scope_view c.deref.result.now) c.in_ok-units.units.items scopes c.in_ok-units.ensures in
    all_fit t c.args.order.now c.deref-2.result.now c.deref-3.result.now c.requires.order numbers c.deref-3.ensures.value

pub tables-requires-clause-order : goal.tables-requires-clause-order
tables-requires-clause-order c =
    let t = view c.args.program.now in
    let scopes : map scope_view c.deref.result.now ≡ scopes_of t = ap (map scope_view) c.deref.ensures.value ∙ c.in_ok-outlines.ensures in
    let again : map scope_view c.deref-4.result.now ≡ scopes_of t = ap (map scope_view) c.deref-4.ensures.value ∙ c.in_ok-outlines.ensures in
    let numbers : c.deref-2.result.now ≡ scope_numbers 0 t.units = c.deref-2.ensures.value ∙ numbers_are t (map scope_view c.deref.result.now) c.in_ok-units.units.items scopes c.in_ok-units.ensures in
    ordered t c.args.order.now (map scope_view c.deref-4.result.now) c.deref-2.result.now c.deref-3.result.now c.deref-5.result.now c.requires.order again numbers c.deref-3.ensures.value
    (c.deref-5.ensures.value ∙ c.in_ok-order.ensures)

pub tables-requires-clause-modules : goal.tables-requires-clause-modules
tables-requires-clause-modules c =
    let t = view c.args.program.now in
    let scopes : map scope_view c.deref-4.result.now ≡ scopes_of t = ap (map scope_view) c.deref-4.ensures.value ∙ c.in_ok-outlines.ensures in
    apart t (map scope_view c.deref-4.result.now) scopes c.requires.units

pub tables-requires-clause-hosts : goal.tables-requires-clause-hosts
tables-requires-clause-hosts c =
    let t = view c.args.program.now in
    let scopes : map scope_view c.deref-4.result.now ≡ scopes_of t = ap (map scope_view) c.deref-4.ensures.value ∙ c.in_ok-outlines.ensures in
    hosts_are_before t (map scope_view c.deref-4.result.now) scopes

pub described-requires : goal.described-requires
described-requires c =
    let t = view c.args.program.now in
    let last : map scope_view c.deref-in-None.result.now ≡ scopes_of t = ap (map scope_view) c.deref-in-None.ensures.value ∙ c.in_ok-outlines.ensures in
    hosts_are_before t (map scope_view c.deref-in-None.result.now) last

pub returns-in_ok-refusal-in-Some : goal.returns-in_ok-refusal-in-Some
returns-in_ok-refusal-in-Some c =
    let t = view c.args.program.now in
    let scopes : map scope_view c.deref-6.result.now ≡ scopes_of t = ap (map scope_view) c.deref-6.ensures.value ∙ c.in_ok-outlines.ensures in
    (c.in-Some.found, first_found t (map scope_view c.deref-6.result.now) c.in_ok-found.field-0 c.in-Some.found scopes c.in-Some.is c.in_ok-found.ensures, c.in_ok-refusal-in-Some.ensures)

pub new-requires : goal.new-requires
new-requires c =
    let t = view c.args.program.now in
    let four : map scope_view c.deref-4.result.now ≡ scopes_of t = ap (map scope_view) c.deref-4.ensures.value ∙ c.in_ok-outlines.ensures in
    let first : map scope_view c.deref.result.now ≡ scopes_of t = ap (map scope_view) c.deref.ensures.value ∙ c.in_ok-outlines.ensures in
    let last : map scope_view c.deref-in-None.result.now ≡ scopes_of t = ap (map scope_view) c.deref-in-None.ensures.value ∙ c.in_ok-outlines.ensures in
    ∣ (
      t,
      record {
        scopes = c.in_ok-outlines.ensures;
        tables = subst (λ ss. AreTables ss c.in_ok-tables.tables) four c.in_ok-tables.ensures;
        entities = c.in_ok-entities-in-None.ensures ∙ ap described last;
        texts = copied string_bytes c.args.program.now.names.keys c.in_ok-texts-in-None.texts.keys c.in_ok-texts-in-None.ensures.cases;
        units = numbers_are t (map scope_view c.deref.result.now) c.in_ok-units.units.items first c.in_ok-units.ensures;
      },
    ) ∣₁

pub returns-in_ok-texts-in-None : goal.returns-in_ok-texts-in-None
returns-in_ok-texts-in-None c =
    let t = view c.args.program.now in
    let four : map scope_view c.deref-4.result.now ≡ scopes_of t = ap (map scope_view) c.deref-4.ensures.value ∙ c.in_ok-outlines.ensures in
    let six : map scope_view c.deref-6.result.now ≡ scopes_of t = ap (map scope_view) c.deref-6.ensures.value ∙ c.in_ok-outlines.ensures in
    let first : map scope_view c.deref.result.now ≡ scopes_of t = ap (map scope_view) c.deref.ensures.value ∙ c.in_ok-outlines.ensures in
    let last : map scope_view c.deref-in-None.result.now ≡ scopes_of t = ap (map scope_view) c.deref-in-None.ensures.value ∙ c.in_ok-outlines.ensures in (
      record {
        scopes = ap (λ (v : Vec Outline). map scope_view v.items) c.new.ensures.outlines ∙ c.in_ok-outlines.ensures;
        tables = subst (AreTables (scopes_of t)) (sym c.new.ensures.tables) (subst (λ ss. AreTables ss c.in_ok-tables.tables) four c.in_ok-tables.ensures);
        entities = ap (λ v. v.items) c.new.ensures.entities ∙ c.in_ok-entities-in-None.ensures ∙ ap described last;
        texts = ap (λ s. map string_bytes s.keys) c.new.ensures.texts ∙ copied string_bytes c.args.program.now.names.keys c.in_ok-texts-in-None.texts.keys c.in_ok-texts-in-None.ensures.cases;
        units = ap (λ v. v.items) c.new.ensures.units ∙ numbers_are t (map scope_view c.deref.result.now) c.in_ok-units.units.items first c.in_ok-units.ensures;
      },
      none_found t (map scope_view c.deref-6.result.now) c.in_ok-found.field-0 six c.in-None.is c.in_ok-found.ensures,
    )
