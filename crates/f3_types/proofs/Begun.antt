-- A site at which all is known that the scene of a program has.
use Rattle.std.proofs.Common.{◌≡◌, ℕ, Bool, List, [], Option, None, Some, map, slice_get, nat_eq, reverse, refl, sym, ap, ◌∙◌}
use Rattle.std.proofs.Math.Path.{fun_ext}
use Rattle.std.specs.Map.{lookup}
use Rattle.std.specs.Prelude.{option_map}
use Rattle.std.proofs.lemmas.Option.{slice_get-map}
use Rattle.f3_lookups.specs.declared.lookup.Lookup.{Lookup}
use Rattle.f3_access.specs.Tables.{lookup_of}
use Rattle.f3_kinds.specs.declared.things.Intrinsic.{Intrinsic}
use Rattle.f3_kinds.specs.declared.things.Thing.{Thing}
use Rattle.f3_kinds.specs.declared.types.Scalar.{Scalar}
use Rattle.f3_kinds.specs.Things.{map_or, Nature}
use Rattle.f3_typed_parts.specs.Known.{nature_of}
use Rattle.f3_type_rules.specs.declared.definition.Holder.{Holder}
use Rattle.f3_type_rules.specs.Associates.{plain_chain}
use Rattle.f3_type_rules.specs.Definitions.{Chain, Site}
use Rattle.f3_type_rules.specs.Scene.{Scene, site_in}
use Rattle.f3_sites.specs.declared.site.Chain.{Chain as Kept}
use Rattle.f3_sites.specs.declared.site.Site.{Site as Place}
use Rattle.f3_sites.specs.Sites.{site_of, chain_of}
use Rattle.f3_unit_bodies.specs.Bodies.{placed}

abbrev made : (ℕ → ℕ → Lookup) → (ℕ → Option Intrinsic) → ℕ × ℕ → (ℕ → Option Nature) → (ℕ → Option Scalar) → List ℕ → (ℕ → Option Holder) → (ℕ → Chain) → (unit : ℕ) → (scope : ℕ) → Bool → Site
made look intrinsic moving nature value active holder chain unit scope pure = record {
  context = record { unit = unit; scope = scope; phase = 6; look = look; intrinsic = intrinsic; moving = moving; nature = nature; value = value };
  body = scope;
  is_pure = pure;
  active = active;
  holder = holder;
  chain = chain;
}

natures_same : (things : List Thing) (natures : List Nature) → map nature_of things ≡ natures → (e : ℕ) → option_map nature_of (slice_get things e) ≡ slice_get natures e
natures_same things natures same e = sym (slice_get-map nature_of things e) ∙ ap (λ ns. slice_get ns e) same

held_some : (o : Option Holder) → map_or None (λ (h : Option Holder). h) (option_map Some o) ≡ o
held_some None = refl
held_some (Some h) = refl

holders_same : (held : List (Option Holder)) (holders : List Holder) → held ≡ map Some holders → (e : ℕ) → map_or None (λ (h : Option Holder). h) (slice_get held e) ≡ slice_get holders e
holders_same held holders same e =
    ap (λ hs. map_or None (λ (h : Option Holder). h) (slice_get hs e)) same ∙ ap (λ o. map_or None (λ (h : Option Holder). h) o) (slice_get-map Some holders e) ∙ held_some (slice_get holders e)

chains_same : (chains : List (ℕ × Kept)) → chains ≡ [] → (e : ℕ) → map_or (plain_chain e) chain_of (lookup (nat_eq e) chains) ≡ plain_chain e
chains_same chains same e = ap (λ cs. map_or (plain_chain e) chain_of (lookup (nat_eq e) cs)) same

-- where each of these is what the scene has
pub record IsBegun (s : Scene) (values : List (ℕ × Scalar)) (p : Place) : Type 0 where
  pub look : lookup_of p.known.tables.now ≡ (s.names).look
  pub intrinsic : (λ (symbol : ℕ). map_or None (λ (i : Option Intrinsic). i) (slice_get p.known.intrinsics.items symbol)) ≡ (s.names).intrinsic
  pub moving : p.known.moving ≡ (s.names).moving
  pub natures : map nature_of p.known.things.items ≡ s.natures
  pub value : (e : ℕ) → map_or None (λ (v : Option Scalar). v) (slice_get p.known.values.items e) ≡ lookup (nat_eq e) values
  pub active : p.active.items ≡ []
  pub holders : p.holders.items ≡ map Some s.holders
  pub chains : p.chains.entries ≡ []

made_same : {l k : ℕ → ℕ → Lookup} {i j : ℕ → Option Intrinsic} {m n : ℕ × ℕ} {a b : ℕ → Option Nature} {v w : ℕ → Option Scalar} {x y : List ℕ} {h g : ℕ → Option Holder} {c d : ℕ → Chain}
    → (unit scope : ℕ) (pure : Bool) → l ≡ k → i ≡ j → m ≡ n → a ≡ b → v ≡ w → x ≡ y → h ≡ g → c ≡ d
    → made l i m a v x h c unit scope pure ≡ made k j n b w y g d unit scope pure
made_same unit scope pure e1 e2 e3 e4 e5 e6 e7 e8 = cc

pub begun : (s : Scene) (values : List (ℕ × Scalar)) (p : Place) → IsBegun s values p → (unit scope : ℕ) (pure : Bool) → placed unit scope pure (site_of p) ≡ site_in s unit scope pure values
begun s values p h unit scope pure =
    made_same unit scope pure h.look h.intrinsic h.moving
    (fun_ext (natures_same p.known.things.items s.natures h.natures))
    (fun_ext h.value)
    (ap reverse h.active)
    (fun_ext (holders_same p.holders.items s.holders h.holders))
    (fun_ext (chains_same p.chains.entries h.chains))
