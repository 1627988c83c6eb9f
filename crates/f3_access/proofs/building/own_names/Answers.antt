use Rattle.std.proofs.Common.{[], List, map, nat_eq, ap, sym, ◌∙◌}
use Rattle.indexmap.specs.IndexSet.{insert_all}
use Rattle.indexmap.specs.IndexMap.{get}
use Rattle.f3_scopes.specs.Outlines.{using_view}
use Rattle.f3_lookups.specs.declared.lookup.Visible.{Visible}
use Rattle.f3_access.specs.Listing.{same_pair, brought}
use Rattle.f3_access.specs.Parts.{exports_at}
use Rattle.f3_selecting.proofs.Steps.{insert_more}
use Rattle.f3_access.proofs.building.own_names.Goals as goal

pub returns : goal.returns
returns c =
    let pairs : List Visible = brought (map using_view c.args.uses.now) (exports_at c.args.tables.now) (get nat_eq c.args.modules.now) in
    record {
      own = c.in_ok-add_pairs.ensures ∙ ap (λ l. insert_all same_pair l c.args.declared.now) c.in_ok-own.ensures ∙ sym (insert_more same_pair [] pairs c.args.declared.now);
      used = c.in_ok-used.ensures ∙ ap (λ l. insert_all nat_eq [] (map (λ v. v.symbol) l)) (c.as_slice.ensures.keys ∙ c.in_ok-own.ensures);
    }
