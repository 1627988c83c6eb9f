-- What tables in memory say of what is declared is what is declared.
use Rattle.std.proofs.Common.{◌≡◌, ℕ, Bool, List, [], ◌∷◌, ◌++◌, map, Option, None, Some, refl, ap, sym, ◌∙◌}
use Rattle.std.specs.List.{flat_map}
use Rattle.f3_scopes.specs.Given.{accesses_of}
use Rattle.f3_tree.specs.Declarations.{EntityTree, DeclarationTree}
use Rattle.f3_tree.specs.declared.expression.IntegerKind.TheVariants.{Four, Eight}
use Rattle.f3_kinds.specs.declared.types.DataType.{DataType}
use Rattle.f3_kinds.specs.declared.types.DataType.TheVariants.{Integer, Logical, Derived}
use Rattle.f3_kinds.specs.declared.types.Object.{Object}
use Rattle.f3_kinds.specs.Things.{map_or, Context}
use Rattle.f3_program.specs.declared.declarations.Base.{Base}
use Rattle.f3_program.specs.declared.declarations.Base.TheVariants as base
use Rattle.f3_program.specs.declared.declarations.Constant.{Constant}
use Rattle.f3_program.specs.declared.declarations.Dimension.{Dimension}
use Rattle.f3_program.specs.declared.declarations.Kind.{Kind}
use Rattle.f3_type_rules.specs.Names.{is_given, Declared, is_private_by, object_of, shape_of}
use Rattle.f3_type_rules.specs.Scene.{Scene}
use Rattle.f3_declared.specs.Scenery.{names_in}
use Rattle.f3_numbers.specs.declared.numbers.Numbers.{Numbers as Table}
use Rattle.f3_numbers.specs.Agrees.{Agrees}
use Rattle.f3_numbers.specs.Table.{base_at, kind_at}
use Rattle.f3_elaboration.specs.Nodes.{DeclaredNode, ComponentNode}
use Rattle.f3_elaboration.specs.Numbers.{Definition, Inner, Numbers, base_of, kind_of}
use Rattle.f3_elaboration.specs.Declarations.{Whole, context, component, components, declared, dimensions, initial}
use Rattle.f3_declaration_nodes.specs.declared.whole.Whole.{Whole as Tables}
use Rattle.f3_declaration_nodes.specs.Stands.{Stands}
use Rattle.f3_declaration_nodes.specs.Tables.{component_by, components_by, declared_by, known_at}
use Rattle.f3_declaration_nodes.proofs.Contexts.{context_stands}

base_agrees : (t : Table) (whole : Numbers) (inner : Inner) (d : Option DataType) → Agrees t whole inner → base_at t d ≡ base_of whole d
base_agrees t whole inner None h = refl
base_agrees t whole inner (Some (Integer Four)) h = refl
base_agrees t whole inner (Some (Integer Eight)) h = refl
base_agrees t whole inner (Some Logical) h = refl
base_agrees t whole inner (Some (Derived e)) h = ap (λ (n : Option ℕ). base.Derived (map_or 0 (λ (k : ℕ). k) n)) (h.types e)

abbrev with_base : Object → Base → Kind
with_base o b = record { of = b; rank = o.rank; is_allocatable = o.is_allocatable }

pub kind_agrees : (t : Table) (whole : Numbers) (inner : Inner) (o : Object) → Agrees t whole inner → kind_at t o ≡ kind_of whole o
kind_agrees t whole inner o h = ap (with_base o) (base_agrees t whole inner o.data_type h)

abbrev node : Kind → List Dimension → List Constant → DeclaredNode
node k ds cs = record { kind = k; dimensions = ds; initial = cs }

pub declared_stands : (t : Tables) (w : Whole) (inner : Inner) (u s : ℕ) (x : Declared) → Stands t w inner
    → declared_by t u s x ≡ declared w u s x
declared_stands t w inner u s x h =
    let here : Object = object_of (names_in t.known.now t.scenery) s x in
    let there : Object = object_of (w.scene).names s x in
    let c : context w u s ≡ known_at t u s = context_stands t w inner u s h in
    let o : here ≡ there = ap (λ (z : Scene). object_of z.names s x) (sym h.scene) in
    let k : kind_at t.numbers.now here ≡ kind_of w.numbers there = kind_agrees t.numbers.now w.numbers inner here h.numbers ∙ ap (kind_of w.numbers) o in
    let d : dimensions (known_at t u s) (shape_of x) ≡ dimensions (context w u s) (shape_of x) =
    ap (λ (z : Context). dimensions z (shape_of x)) (sym c) in
    let i : initial (known_at t u s) here.data_type (x.1).initial ≡ initial (context w u s) there.data_type (x.1).initial =
    ap (λ (z : Context). initial z here.data_type (x.1).initial) (sym c) ∙ ap (λ (z : Object). initial (context w u s) z.data_type (x.1).initial) o in
    ap (λ (z : Kind). node z (dimensions (known_at t u s) (shape_of x)) (initial (known_at t u s) here.data_type (x.1).initial)) k
    ∙ ap (λ (z : List Dimension). node (kind_of w.numbers there) z (initial (known_at t u s) here.data_type (x.1).initial)) d
    ∙ ap (λ (z : List Constant). node (kind_of w.numbers there) (dimensions (context w u s) (shape_of x)) z) i

abbrev with_access : Bool → DeclaredNode → ComponentNode
with_access private x = record { declared = x; is_private = private }

component_stands : (t : Tables) (w : Whole) (inner : Inner) (s : ℕ) (private : Bool) (d : DeclarationTree) (x : EntityTree) → Stands t w inner
    → component_by t s private d x ≡ component w s private d x
component_stands t w inner s private d x h =
    ap (λ (z : DeclaredNode). with_access (is_private_by private (accesses_of d.attributes)) z) (declared_stands t w inner s s (d, x) h)

entities_stand : (t : Tables) (w : Whole) (inner : Inner) (s : ℕ) (private : Bool) (d : DeclarationTree) (xs : List EntityTree) → Stands t w inner
    → map (component_by t s private d) xs ≡ map (component w s private d) xs
entities_stand t w inner s private d [] h = refl
entities_stand t w inner s private d (x ∷ xs) h =
    ap (λ (z : ComponentNode). z ∷ map (component_by t s private d) xs) (component_stands t w inner s private d x h)
    ∙ ap (λ (zs : List ComponentNode). component w s private d x ∷ zs) (entities_stand t w inner s private d xs h)

declarations_stand : (t : Tables) (w : Whole) (inner : Inner) (s : ℕ) (private : Bool) (ds : List DeclarationTree) → Stands t w inner
    → flat_map (λ (d : DeclarationTree). map (component_by t s private d) d.entities) ds
    ≡ flat_map (λ (d : DeclarationTree). map (component w s private d) d.entities) ds
declarations_stand t w inner s private [] h = refl
declarations_stand t w inner s private (d ∷ ds) h =
    ap (λ (zs : List ComponentNode). zs ++ flat_map (λ (d : DeclarationTree). map (component_by t s private d) d.entities) ds)
    (entities_stand t w inner s private d d.entities h)
    ∙ ap (λ (zs : List ComponentNode). map (component w s private d) d.entities ++ zs) (declarations_stand t w inner s private ds h)

pub components_stand : (t : Tables) (w : Whole) (inner : Inner) (x : Definition) → Stands t w inner
    → components_by t (x.unit).scope x.tree ≡ components w x
components_stand t w inner x h = declarations_stand t w inner (x.unit).scope (is_given (x.tree).private) (x.tree).components h
