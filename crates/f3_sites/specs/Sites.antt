-- Where an executable statement stands, without where what is known lies in memory.
use Rattle.std.specs.Prelude.{ℕ, nat_eq, List, Option, None, slice_get, reverse}
use Rattle.std.specs.Map.{lookup}
use Rattle.f3_kinds.specs.Things.{map_or}
use Rattle.f3_typed_parts.specs.Known.{context_of}
use Rattle.f3_type_rules.specs.declared.definition.Holder.{Holder}
use Rattle.f3_type_rules.specs.Definitions.{Chain, Site}
use Rattle.f3_type_rules.specs.Associates.{plain_chain}
use Rattle.f3_sites.specs.declared.site.Chain.{Chain as Kept}
use Rattle.f3_sites.specs.declared.site.Site.{Site as Place}

abbrev pub chain_of : Kept → Chain
chain_of k = record { links = k.links.items; ends = k.ends }

abbrev pub site_of : Place → Site
site_of s = record {
  context = context_of s.known s.at;
  body = s.body;
  is_pure = s.is_pure;
  active = reverse s.active.items;
  holder = λ e. map_or None (λ (h : Option Holder). h) (slice_get s.holders.items e);
  chain = λ e. map_or (plain_chain e) chain_of (lookup (nat_eq e) s.chains.entries);
}
