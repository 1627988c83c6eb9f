-- What an entity is.
use Rattle.std.proofs.Common.{◌≡◌, ℕ, Bool, false, not, ◌||◌, ◌&&◌, List, map, Option, ap, ◌∙◌}
use Rattle.f3_tree.specs.declared.declaration.Intent.{Intent}
use Rattle.f3_kinds.specs.Things.{map_or}
use Rattle.f3_type_rules.specs.Declarations.{is_in}
use Rattle.std.specs.Prelude.{slice_get}
use Rattle.std.specs.Option.{option_map}
use Rattle.std.proofs.lemmas.Option.{slice_get-map}
use Rattle.f3_kinds.specs.declared.things.Thing.{Thing}
use Rattle.f3_typed_parts.specs.Known.{nature_of}

pub nature_at : (xs : List Thing) (i : ℕ) → slice_get (map nature_of xs) i ≡ option_map nature_of (slice_get xs i)
nature_at xs i = slice_get-map nature_of xs i

-- a name that may be finalizable, by what was asked
pub may_same : (outcome outcome' pure dummy dummy' only may both result : Bool) (intent intent' : Option Intent)
    → result ≡ (not outcome && may) → may ≡ (not pure || both) → both ≡ (dummy && only)
    → outcome ≡ outcome' → dummy ≡ dummy' → only ≡ map_or false is_in intent → intent ≡ intent'
    → result ≡ (not outcome' && (not pure || (dummy' && map_or false is_in intent')))
may_same outcome outcome' pure dummy dummy' only may both result intent intent' r m b o d i n =
    r ∙ ap (λ z. not outcome && z) (m ∙ ap (λ z. not pure || z) (b ∙ ap (λ z. z && only) d ∙ ap (λ z. dummy' && z) (i ∙ ap (map_or false is_in) n)))
    ∙ ap (λ z. not z && (not pure || (dummy' && map_or false is_in intent'))) o
