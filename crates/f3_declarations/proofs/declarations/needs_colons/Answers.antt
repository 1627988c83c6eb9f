use Rattle.std.proofs.Common.{◌≡◌, List, [], ◌∷◌, Option, Some, None, map, refl, sym, ap, subst, ◌∙◌, arith}
use Rattle.std.specs.Prelude.{Bool, is_some, ◌||◌}
use Rattle.std.specs.List.{list_any}
use Rattle.std.specs.Option.{option_map}
use Rattle.std.proofs.lemmas.List.{nil_from_length}
use Rattle.f3_tree.specs.declared.declaration.Attribute.{Attribute}
use Rattle.f3_tree.specs.declared.declaration.Entity.{Entity}
use Rattle.f3_tree.specs.declared.expression.Expression.{Expression}
use Rattle.f3_tree.specs.Expressions.{expression_view}
use Rattle.f3_tree.specs.Declarations.{placed_view, entity_view}
use Rattle.f3_declarations.specs.Specifications.{needs_colons}
use Rattle.f3_declarations.proofs.declarations.needs_colons.Goals as goal

initial_seen : (e : Entity) → is_some (entity_view e).initial ≡ is_some e.initial
initial_seen e = by e.initial
  where
    by : (o : Option Expression) → is_some (option_map expression_view o) ≡ is_some o
    by None = refl
    by (Some x) = refl

any_seen : (es : List Entity) → list_any (λ e. is_some e.initial) (map entity_view es) ≡ list_any (λ e. is_some e.initial) es
any_seen [] = refl
any_seen (e ∷ es) = rw (any_seen es) (ap (λ (b : Bool). b || list_any (λ (x : Entity). is_some x.initial) es) (initial_seen e))

pub returns-in-empty : goal.returns-in-empty
returns-in-empty c =
    let none : c.args.attributes.now ≡ [] = nil_from_length _ (omega arith) in
    subst (λ (x : List Attribute). c.has_initial.result ≡ needs_colons (map placed_view x) (map entity_view c.args.entities.now)) (sym none) (c.has_initial.ensures ∙ sym (any_seen c.args.entities.now))
