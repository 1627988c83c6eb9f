-- What is known of the entity of a declared name.
use Rattle.std.proofs.Common.{◌≡◌, refl, sym, ap, ◌∙◌, ℕ, Bool, true, false, not, ◌||◌, List, [], ◌∷◌, ◌++◌, map, None, Some, slice_get, if◌then◌else◌}
use Rattle.std.specs.List.{flat_map, list_any}
use Rattle.f3_tree.specs.Declarations.{AttributeTree, access, protected, parameter, save, allocatable, dimension, intent, Placed, DeclarationTree}
use Rattle.f3_tree.specs.Tree.{Tree}
use Rattle.f3_scopes.specs.declared.outline.EntityKind.TheVariants as entity
use Rattle.f3_scopes.specs.Outlines.{Own}
use Rattle.f3_scopes.specs.Scopes.{is_parameter, intents_of, kind_of, own, scopes_of}
use Rattle.f3_scopes.specs.Scopes as scopes
use Rattle.f3_lookups.specs.declared.lookup.Lookup.{Lookup}
use Rattle.f3_kinds.specs.declared.types.Object.{Object}
use Rattle.f3_kinds.specs.Things.{Nature, constant, variable, derived, subroutine, function}
use Rattle.f3_type_rules.specs.declared.definition.Holder.{Holder}
use Rattle.f3_type_rules.specs.Attributes.{has, same_sort}
use Rattle.f3_type_rules.specs.Names.{Declared, last_of, intent_of, object_of, undeclared}
use Rattle.f3_type_rules.specs.Natures.{object_nature, unit_natures, settled}
use Rattle.f3_type_rules.specs.Scene.{holder, holders_from, names_of}
use Rattle.f3_phase_laws.specs.Numbers.{units_of}
use Rattle.f3_elaboration.specs.Numbers.{Variable, is_variable}
use Rattle.f3_entity_laws.specs.Laws.{names_at}
use Rattle.f3_entity_laws.specs.Things.{Home, of_unit, of_member, unit_in, number_of, scope_at, name, IsAmong, IsHome}
use Rattle.f3_entity_laws.proofs.Entities.{holders_of}
use Rattle.f3_entity_laws.proofs.Names.{name_things}
use Rattle.f3_entity_laws.proofs.Natures.{things as thing_nature}
use Rattle.f3_lawful_laws.proofs.Facts.{no, same, negated, negated_back}

-- ---- variables and named constants

sort : (a : AttributeTree) → same_sort parameter a ≡ is_parameter a
sort (access a) = refl
sort protected = refl
sort parameter = refl
sort save = refl
sort allocatable = refl
sort (dimension s) = refl
sort (intent i) = refl

has_parameter : (ps : List Placed) → list_any (same_sort parameter) (map (λ (p : Placed). p.attribute) ps) ≡ list_any (λ (p : Placed). is_parameter p.attribute) ps
has_parameter [] = refl
has_parameter (p ∷ ps) =
    ap (λ b. b || list_any (same_sort parameter) (map (λ (p : Placed). p.attribute) ps)) (sort p.attribute)
    ∙ ap (λ b. is_parameter p.attribute || b) (has_parameter ps)

kind_by : (d : DeclarationTree) (b : Bool) → has parameter d ≡ b → kind_of d.attributes ≡ (if b then entity.Constant else entity.Variable)
kind_by d b is = ap (λ b. if b then entity.Constant else entity.Variable) (sym (has_parameter d.attributes) ∙ is)

abbrev object_in : Nature → Object
object_in (variable o) = o
object_in (constant o) = undeclared
object_in (derived home ks f) = undeclared
object_in (subroutine pure ds) = undeclared
object_in (function pure ds o) = undeclared

abbrev pub is_variable_nature : Nature → Bool
is_variable_nature (variable o) = true
is_variable_nature (constant o) = false
is_variable_nature (derived home ks f) = false
is_variable_nature (subroutine pure ds) = false
is_variable_nature (function pure ds o) = false

pub same_object : (o q : Object) → variable o ≡ variable q → o ≡ q
same_object o q e = ap object_in e

-- without PARAMETER a name is that of a variable
named_variable : (d : DeclarationTree) (o : Object) → not (has parameter d) ≡ true → object_nature (kind_of d.attributes) o ≡ variable o
named_variable d o is = ap (λ k. object_nature k o) (kind_by d false (negated_back (has parameter d) is))

from_variable : (d : DeclarationTree) (o q : Object) → object_nature (kind_of d.attributes) o ≡ variable q → (not (has parameter d) ≡ true) × (o ≡ q)
from_variable d o q e = go (has parameter d) refl
  where
    go : (b : Bool) → has parameter d ≡ b → (not (has parameter d) ≡ true) × (o ≡ q)
    go true is = no (sym (ap is_variable_nature e) ∙ ap (λ k. is_variable_nature (object_nature k o)) (kind_by d true is))
    go false is = (negated (has parameter d) is, same_object o q (sym (ap (λ k. object_nature k o) (kind_by d false is)) ∙ e))

-- ---- intents

intents_mapped : (ps : List Placed) → flat_map scopes.intent_of (map (λ (p : Placed). p.attribute) ps) ≡ flat_map (λ (p : Placed). scopes.intent_of p.attribute) ps
intents_mapped [] = refl
intents_mapped (p ∷ ps) = ap (λ xs. scopes.intent_of p.attribute ++ xs) (intents_mapped ps)

pub intent_given : (x : Declared) → last_of None (intents_of (x.0).attributes) ≡ intent_of x
intent_given x = ap (last_of None) (sym (intents_mapped (x.0).attributes))

-- ---- entities

unit_of : (h : Home) (d : Own) → (holder (number_of h) (scope_at h) d).unit ≡ (unit_in h).scope
unit_of (of_unit u) d = refl
unit_of (of_member u m) d = refl

module _ (t : Tree) (look : ℕ → ℕ → Lookup) where
  abbrev pub natures : List Nature
  natures = settled (flat_map (unit_natures (names_of t look)) (units_of t))

  abbrev pub object : Variable → Object
  object v = object_of (names_of t look) v.scope v.tree

  known : (h : Home) (v : Variable) → IsHome (units_of t) h → IsAmong (names_at h) v
      → slice_get natures v.entity ≡ Some (object_nature (kind_of (v.tree.0).attributes) (object v))
  known h v home among =
      let r = name_things t h v home among in
      let n = thing_nature (names_of t look) (units_of t) v.entity (name h v.tree) r.1 in
      n.1 ∙ ap (λ s. Some (object_nature (kind_of (v.tree.0).attributes) (object_of (names_of t look) s v.tree))) (sym (ap (λ (z : Variable). z.scope) r.0))

  -- what a variable is
  pub name_known : (h : Home) (v : Variable) → IsHome (units_of t) h → IsAmong (names_at h) v → is_variable v ≡ true
      → slice_get natures v.entity ≡ Some (variable (object v))
  name_known h v home among is = known h v home among ∙ ap Some (named_variable v.tree.0 (object v) is)

  -- so what is known of its entity is of its declaration
  pub name_object : (h : Home) (v : Variable) (e : ℕ) (o : Object) → IsHome (units_of t) h → IsAmong (names_at h) v → v.entity ≡ e
      → slice_get natures e ≡ Some (variable o) → (is_variable v ≡ true) × (object v ≡ o)
  name_object h v e o home among is nature =
      from_variable v.tree.0 (object v) o (same (sym (known h v home among) ∙ ap (slice_get natures) is ∙ nature))

  -- what the rules on definitions ask of it
  pub name_asked : (h : Home) (v : Variable) → IsHome (units_of t) h → IsAmong (names_at h) v
      → (k : Holder) × (slice_get (holders_from 0 (scopes_of t)) v.entity ≡ Some k) × (k.unit ≡ v.unit) × (k.intent ≡ last_of None (intents_of (v.tree.0).attributes))
  name_asked h v home among =
      let r = name_things t h v home among in
      let n = holders_of t v.entity (name h v.tree) r.1 in (
        n.0,
        n.1,
        ap (λ (k : Holder). k.unit) n.2 ∙ unit_of h (own (v.tree.0).attributes v.tree.1) ∙ sym (ap (λ (z : Variable). z.unit) r.0),
        ap (λ (k : Holder). k.intent) n.2,
      )
