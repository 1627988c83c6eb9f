use Rattle.std.proofs.Common.{[], ◌++◌, List, map, filter, not, if◌then◌else◌, nat_eq, refl, ap, ◌∙◌}
use Rattle.indexmap.specs.IndexSet.{insert_all}
use Rattle.indexmap.specs.IndexMap.{get}
use Rattle.f3_scopes.specs.declared.outline.UseOutline.{UseOutline}
use Rattle.f3_scopes.specs.Outlines.{using_view, scope_view}
use Rattle.f3_lookups.specs.declared.lookup.Visible.{Visible}
use Rattle.f3_lookups.specs.declared.lookup.Lookup.TheVariants.{Nothing}
use Rattle.f3_scopes.specs.Kinds.{is_module}
use Rattle.f3_access.specs.Listing.{same_pair, brought, exported}
use Rattle.f3_access.specs.Parts.{meaning, exports_at}
use Rattle.f3_access.proofs.building.table_of.Goals as goal

pub returns : goal.returns
returns c =
    let pairs : List UseOutline → List Visible = λ us. brought (map using_view us) (exports_at c.args.tables.now) (get nat_eq c.args.modules.now) in
    record {
      own = c.in_ok-names.ensures.own ∙ ap (λ us. insert_all same_pair [] (pairs us ++ c.args.declared.now)) c.deref.ensures.value;
      used = c.in_ok-names.ensures.used ∙ ap (λ us. insert_all nat_eq [] (map (λ v. v.symbol) (insert_all same_pair [] (pairs us)))) c.deref.ensures.value;
      lookups = λ n. c.in_ok-lookups.ensures n ∙ ap (λ l. meaning Nothing l n) c.as_slice.ensures.keys;
      exports = c.in_ok-exports.ensures.pairs
          ∙ ap (λ p. if is_module c.args.outline.now.kind then filter (λ (w : Visible). not (p w.symbol)) c.as_slice-2.result.now else []) c.requires.accesses ∙ ap (exported (scope_view c.args.outline.now)) c.as_slice-2.ensures.keys;
      places = c.in_ok-exports.ensures.places;
      host = refl;
    }
