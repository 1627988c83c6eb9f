-- Variables that live for the whole run, dummies, and results.
use Rattle.std.proofs.Common.{◌≡◌, ℕ, Bool, false, [], Option, None, Some, if◌then◌else◌, ap, sym, ◌∙◌}
use Rattle.std.specs.Prelude.{slice_get}
use Rattle.f3_kinds.specs.declared.types.Object.{Object}
use Rattle.f3_kinds.specs.Things.{map_or, Context}
use Rattle.f3_tree.specs.declared.expression.Name.{Name}
use Rattle.f3_program.specs.declared.declarations.Kind.{Kind}
use Rattle.f3_tree.specs.declared.declaration.TypeSpecifier.{TypeSpecifier}
use Rattle.f3_type_rules.specs.declared.definition.Holder.{Holder}
use Rattle.f3_type_rules.specs.Members.{Member}
use Rattle.f3_type_rules.specs.Names as rules
use Rattle.f3_type_rules.specs.Names.{Declared, object_of, shape_of, undeclared}
use Rattle.f3_type_rules.specs.Natures.{typed_object}
use Rattle.f3_type_rules.specs.Scene.{Scene}
use Rattle.f3_declared.specs.Scenery.{names_in}
use Rattle.f3_elaboration.specs.Nodes.{DeclaredNode, DummyNode, StaticNode}
use Rattle.f3_elaboration.specs.Numbers.{Inner, Variable, kind_of}
use Rattle.f3_elaboration.specs.Declarations.{Whole, context, declared, static}
use Rattle.f3_elaboration.specs.Units.{declaration_of, dummy, intent_of, lower_bounds, lowers_of, plain}
use Rattle.f3_declaration_nodes.specs.declared.whole.Whole.{Whole as Tables}
use Rattle.f3_declaration_nodes.specs.Stands.{Stands}
use Rattle.f3_declaration_nodes.specs.Tables.{known_at}
use Rattle.f3_declaration_nodes.specs.Variables.{dummy_by, plain_by, static_by}
use Rattle.f3_declaration_nodes.proofs.Contexts.{context_stands}
use Rattle.f3_declaration_nodes.proofs.Standing.{declared_stands, kind_agrees}

abbrev static_with : (home : ℕ) → DeclaredNode → Bool → StaticNode
static_with u d b = record { declared = d; home = u; is_protected = b }

pub static_stands : (t : Tables) (w : Whole) (inner : Inner) (v : Variable) → Stands t w inner
    → static_by t v ≡ static w v
static_stands t w inner v h =
    ap (λ (d : DeclaredNode). static_with v.unit d (map_or false (λ (h : Holder). h.is_protected) (slice_get t.scenery.holders.now v.entity)))
    (declared_stands t w inner v.unit v.scope v.tree h)
    ∙ ap (λ (z : Scene). static_with v.unit (declared w v.unit v.scope v.tree)
    (map_or false (λ (h : Holder). h.is_protected) (slice_get z.holders v.entity))) (sym h.scene)

abbrev plain_with : Kind → DeclaredNode
plain_with k = record { kind = k; dimensions = []; initial = [] }

pub plain_stands : (t : Tables) (w : Whole) (inner : Inner) (s : ℕ) (x : TypeSpecifier) → Stands t w inner
    → plain_by t s x ≡ plain w (typed_object (w.scene).names s x)
plain_stands t w inner s x h =
    ap plain_with (kind_agrees t.numbers.now w.numbers inner (typed_object (names_in t.known.now t.scenery) s x) h.numbers)
    ∙ ap (λ (z : Scene). plain_with (kind_of w.numbers (typed_object z.names s x))) (sym h.scene)

-- a dummy by its declaration, where there is one
abbrev dummy_found : Whole → (unit scope : ℕ) → Option Declared → DummyNode
dummy_found w u s d =
    let o : Object = map_or undeclared (object_of (w.scene).names s) d in
    record { kind = kind_of w.numbers o; intent = intent_of (map_or None rules.intent_of d); lowers = lowers_of (context w u s) o d }

abbrev dummy_with : Declared → Object → Context → Kind → DummyNode
dummy_with x o c k = record { kind = k; intent = intent_of (rules.intent_of x); lowers = if o.is_allocatable then [] else lower_bounds c (shape_of x) }

pub dummy_stands : (t : Tables) (w : Whole) (inner : Inner) (u : ℕ) (m : Member) (n : Name) (x : Declared) → Stands t w inner → declaration_of m n ≡ Some x
    → dummy_by t u m.scope x ≡ dummy w u m n
dummy_stands t w inner u m n x h is =
    let here : Object = object_of (names_in t.known.now t.scenery) m.scope x in
    ap (λ (k : Kind). dummy_with x here (known_at t u m.scope) k) (kind_agrees t.numbers.now w.numbers inner here h.numbers)
    ∙ ap (λ (c : Context). dummy_with x here c (kind_of w.numbers here)) (sym (context_stands t w inner u m.scope h))
    ∙ ap (λ (z : Scene). dummy_with x (object_of z.names m.scope x) (context w u m.scope) (kind_of w.numbers (object_of z.names m.scope x))) (sym h.scene)
    ∙ sym (ap (dummy_found w u m.scope) is)
