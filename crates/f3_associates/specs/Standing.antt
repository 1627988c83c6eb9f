-- What stands at entities, and where statements stand once it is put there.
use Rattle.std.specs.Prelude.{ℕ, nat_eq, ◌<◌, List, [], ◌∷◌, Option, Some, IsSome, map, length, if◌then◌else◌}
use Rattle.std.specs.List.{All}
use Rattle.f3_kinds.specs.Things.{map_or, Nature}
use Rattle.f3_typed_parts.specs.Known.{nature_of}
use Rattle.f3_type_rules.specs.declared.definition.Holder.{Holder}
use Rattle.f3_type_rules.specs.Definitions.{Chain, Site}
use Rattle.f3_type_rules.specs.Associates.{plain_chain}
use Rattle.f3_sites.specs.declared.site.Site.{Site as Place}
use Rattle.f3_sites.specs.Sites.{chain_of}
use Rattle.f3_associates.specs.declared.exchanging.Standing.{Standing as Kept}
use Rattle.f3_associates.specs.declared.entering.Saved.{Saved}

-- what an entity is, what the rules on definitions ask of it, and its chain
pub record Standing : Type 0 where
  pub entity : ℕ
  pub nature : Nature
  pub holder : Option Holder
  pub chain : Chain

abbrev pub standing_of : Kept → Standing
standing_of k = record { entity = k.entity; nature = nature_of k.thing; holder = k.holder; chain = map_or (plain_chain k.entity) chain_of k.chain }

abbrev pub put : Standing → Site → Site
put k s = record s {
  context = record (s.context) { nature = λ e. if nat_eq k.entity e then Some k.nature else (s.context).nature e };
  holder = λ e. if nat_eq k.entity e then k.holder else s.holder e;
  chain = λ e. if nat_eq k.entity e then k.chain else s.chain e;
}

-- one after the other, from the last on
abbrev pub put_all : List Standing → Site → Site
put_all [] s = s
put_all (k ∷ ks) s = put k (put_all ks s)

abbrev pub in_scope : (number : ℕ) → Site → Site
in_scope number s = record s { context = record (s.context) { scope = number } }

-- where statements stand once all is back that was saved
abbrev pub back : Saved → Site → Site
back saved s = in_scope saved.scope (put_all (map standing_of saved.standing.items) s)

-- of how many entities it is known what they are, and what the rules on definitions ask
abbrev pub room_of : Place → ℕ × ℕ
room_of p = (length p.known.things.items, length p.holders.items)

-- there is room for what stands at an entity
abbrev pub HasRoom : ℕ × ℕ → Standing → Type 0
HasRoom room k = (k.entity < room.0) × (IsSome k.holder → k.entity < room.1)

abbrev pub HaveRoom : ℕ × ℕ → List Standing → Type 0
HaveRoom room ks = All (HasRoom room) ks
