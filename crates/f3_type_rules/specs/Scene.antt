-- What is known of a program wherever something stands in it.
use Rattle.std.specs.Prelude.{ℕ, ◌+◌, Bool, ◌||◌, nat_eq, List, [], ◌∷◌, ◌++◌, Option, None, map, length, position}
use Rattle.std.specs.Prelude.{slice_get, codes}
use Rattle.std.specs.List.{flat_map, list_any}
use Rattle.std.specs.Map.{lookup}
use Rattle.std.specs.Cmp.Lexicographic.{pointwise}
use Rattle.f3_lookups.specs.declared.lookup.Lookup.{Lookup}
use Rattle.f3_access.specs.Access.{entities_of}
use Rattle.f3_scopes.specs.Outlines.{Own, Scope}
use Rattle.f3_scopes.specs.Scopes.{scopes_of}
use Rattle.f3_tree.specs.declared.expression.Name.{Name}
use Rattle.f3_tree.specs.Tree.{Tree}
use Rattle.f3_kinds.specs.declared.types.Scalar.{Scalar}
use Rattle.f3_kinds.specs.declared.things.Intrinsic.{Intrinsic}
use Rattle.f3_kinds.specs.declared.things.Intrinsic.TheVariants as intrinsic
use Rattle.f3_kinds.specs.Things.{map_or, Nature, Context}
use Rattle.f3_type_rules.specs.declared.definition.Holder.{Holder}
use Rattle.f3_type_rules.specs.Definitions.{Site}
use Rattle.f3_type_rules.specs.Associates.{plain_chain}
use Rattle.f3_type_rules.specs.Names.{Names, last_of}
use Rattle.f3_type_rules.specs.Members.{Numbered}
use Rattle.f3_type_rules.specs.Natures.{unit_natures, settled}

-- ---- what the rules on definitions ask of what the scopes declare

abbrev pub holder : (number : ℕ) → Scope → Own → Holder
holder number s d = record {
  unit = map_or number (λ h. h) s.host;
  scope = number;
  is_protected = d.is_protected || list_any (λ (n : Name). nat_eq n.symbol (d.name).symbol) s.protects;
  intent = last_of None d.intents;
}

abbrev pub holders_from : (number : ℕ) → List Scope → List Holder
holders_from number [] = []
holders_from number (s ∷ ss) = map (holder number s) s.declared ++ holders_from (number + 1) ss

-- ---- intrinsic procedures by their names (13.7)

abbrev pub intrinsic_names : List (List ℕ × Intrinsic)
intrinsic_names = (codes "abs", intrinsic.Abs) ∷ (codes "mod", intrinsic.Mod) ∷ (codes "modulo", intrinsic.Modulo) ∷ (codes "max", intrinsic.Max)
    ∷ (codes "min", intrinsic.Min) ∷ (codes "size", intrinsic.Size) ∷ (codes "lbound", intrinsic.LowerBound) ∷ (codes "ubound", intrinsic.UpperBound)
    ∷ (codes "allocated", intrinsic.Allocated) ∷ (codes "move_alloc", intrinsic.MoveAlloc) ∷ []

abbrev pub intrinsic_of : List ℕ → Option Intrinsic
intrinsic_of text = lookup (pointwise nat_eq text) intrinsic_names

-- the number of a name, or one that no name has
abbrev pub symbol_of : (names : List (List ℕ)) → List ℕ → ℕ
symbol_of names text = map_or (length names) (λ n. n) (position (pointwise nat_eq text) names)

abbrev pub names_of : Tree → (ℕ → ℕ → Lookup) → Names
names_of t look =
    let intrinsics : List (Option Intrinsic) = map intrinsic_of t.names in
    record {
      look = look;
      kinds = map (λ (d : Own). d.kind) (entities_of (scopes_of t));
      intrinsic = λ symbol. map_or None (λ i. i) (slice_get intrinsics symbol);
      moving = (symbol_of t.names (codes "from"), symbol_of t.names (codes "to"));
    }

-- ---- what is known where something stands

pub record Scene : Type 0 where
  pub names : Names
  pub natures : List Nature
  pub holders : List Holder

abbrev pub scene_of : Names → List Scope → List Numbered → Scene
scene_of names scopes units = record { names = names; natures = settled (flat_map (unit_natures names) units); holders = holders_from 0 scopes }

abbrev pub context_in : Scene → (unit : ℕ) → (scope : ℕ) → (phase : ℕ) → (values : List (ℕ × Scalar)) → Context
context_in s unit scope phase values = record {
  unit = unit;
  scope = scope;
  phase = phase;
  look = (s.names).look;
  intrinsic = (s.names).intrinsic;
  moving = (s.names).moving;
  nature = λ e. slice_get s.natures e;
  value = λ e. lookup (nat_eq e) values;
}

abbrev pub site_in : Scene → (unit : ℕ) → (scope : ℕ) → (is_pure : Bool) → (values : List (ℕ × Scalar)) → Site
site_in s unit scope pure values = record {
  context = context_in s unit scope 6 values;
  body = scope;
  is_pure = pure;
  active = [];
  holder = λ e. slice_get s.holders e;
  chain = plain_chain;
}
