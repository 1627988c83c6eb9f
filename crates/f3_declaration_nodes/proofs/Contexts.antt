-- What is known where a declaration stands.
use Rattle.std.proofs.Common.{◌≡◌, ℕ, map, Option, None, ap, ◌∙◌}
use Rattle.std.proofs.Math.Path.{fun_ext}
use Rattle.std.specs.Prelude.{slice_get}
use Rattle.std.proofs.lemmas.Option.{slice_get-map}
use Rattle.f3_kinds.specs.declared.types.Scalar.{Scalar}
use Rattle.f3_kinds.specs.Things.{map_or, Nature, Context}
use Rattle.f3_typed_parts.specs.Known.{nature_of}
use Rattle.f3_type_rules.specs.Scene.{Scene, context_in}
use Rattle.f3_elaboration.specs.Declarations.{Whole, context}
use Rattle.f3_elaboration.specs.Numbers.{Inner}
use Rattle.f3_declaration_nodes.specs.declared.whole.Whole.{Whole as Tables}
use Rattle.f3_declaration_nodes.specs.Stands.{Stands}
use Rattle.f3_declaration_nodes.specs.Tables.{known_at}

abbrev with_natures : Tables → (unit scope : ℕ) → (ℕ → Option Nature) → (ℕ → Option Scalar) → Context
with_natures t u s nature value = record (known_at t u s) { nature = nature; value = value }

pub context_stands : (t : Tables) (w : Whole) (inner : Inner) (u s : ℕ) → Stands t w inner → context w u s ≡ known_at t u s
context_stands t w inner u s h =
    ap (λ (x : Scene). context_in x u s 6 w.values) h.scene
    ∙ ap (λ (v : ℕ → Option Scalar). with_natures t u s (λ e. slice_get (map nature_of t.known.now.things.items) e) v) (fun_ext h.values)
    ∙ ap (λ (n : ℕ → Option Nature). with_natures t u s n (λ e. map_or None (λ (v : Option Scalar). v) (slice_get t.known.now.values.items e)))
    (fun_ext (λ e. slice_get-map nature_of t.known.now.things.items e))
