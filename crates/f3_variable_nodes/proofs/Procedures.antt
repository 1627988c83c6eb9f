-- Dummies and results are those that the tables say.
use Rattle.std.proofs.Common.{◌≡◌, refl, sym, ap, ◌∙◌, ℕ, nat_eq, List, [], ◌∷◌, map, Option, None, Some}
use Rattle.std.proofs.Math.Path.{fun_ext}
use Rattle.std.specs.Map.{lookup}
use Rattle.f3_scopes.specs.Scopes.{name_or}
use Rattle.f3_tree.specs.declared.expression.Name.{Name}
use Rattle.f3_tree.specs.declared.program.ProcedureKind.{ProcedureKind}
use Rattle.f3_tree.specs.declared.program.ProcedureKind.TheVariants.{Subroutine, Function}
use Rattle.f3_tree.specs.Tree.{ProcedureTree}
use Rattle.f3_program.specs.declared.declarations.Kind.{Kind}
use Rattle.f3_program.specs.declared.program.Intent.TheVariants.{In}
use Rattle.f3_kinds.specs.declared.types.Object.{Object}
use Rattle.f3_kinds.specs.Things.{map_or}
use Rattle.f3_type_rules.specs.Members.{Member}
use Rattle.f3_type_rules.specs.Names as rules
use Rattle.f3_type_rules.specs.Names.{Declared, entries, object_of, undeclared}
use Rattle.f3_elaboration.specs.Nodes.{DeclaredNode, DummyNode}
use Rattle.f3_elaboration.specs.Numbers.{Inner, kind_of}
use Rattle.f3_elaboration.specs.Declarations.{Whole, context, declared}
use Rattle.f3_elaboration.specs.Units.{declaration_of, declarations_in, dummy, intent_of, lowers_of, plain, result_of}
use Rattle.f3_declaration_nodes.specs.declared.whole.Whole.{Whole as Tables}
use Rattle.f3_declaration_nodes.specs.Stands.{Stands}
use Rattle.f3_declaration_nodes.proofs.Standing.{declared_stands, kind_agrees}
use Rattle.f3_declaration_nodes.proofs.Varying.{dummy_stands, plain_stands}
use Rattle.f3_variable_nodes.specs.Dummies.{dummy_from, result_by, result_from}

-- a dummy by its declaration, where there is one
abbrev dummy_found : Whole → (unit scope : ℕ) → Option Declared → DummyNode
dummy_found w u s d =
    let o : Object = map_or undeclared (object_of (w.scene).names s) d in
    record { kind = kind_of w.numbers o; intent = intent_of (map_or None rules.intent_of d); lowers = lowers_of (context w u s) o d }

abbrev dummy_kind : Kind → DummyNode
dummy_kind k = record { kind = k; intent = In; lowers = [] }

dummy_by_found : (t : Tables) (w : Whole) (inner : Inner) (u : ℕ) (m : Member) (n : Name) (o : Option Declared) → Stands t w inner → declaration_of m n ≡ o
    → dummy_from t u m.scope o ≡ dummy w u m n
dummy_by_found t w inner u m n (Some x) h is = dummy_stands t w inner u m n x h is
dummy_by_found t w inner u m n None h is =
    ap dummy_kind (kind_agrees t.numbers.now w.numbers inner undeclared h.numbers) ∙ sym (ap (dummy_found w u m.scope) is)

dummies_by : (t : Tables) (w : Whole) (inner : Inner) (u : ℕ) (m : Member) (ns : List Name) → Stands t w inner
    → map (λ (n : Name). dummy_from t u m.scope (declaration_of m n)) ns ≡ map (dummy w u m) ns
dummies_by t w inner u m [] h = refl
dummies_by t w inner u m (n ∷ ns) h =
    ap (λ (d : DummyNode). d ∷ map (λ (n : Name). dummy_from t u m.scope (declaration_of m n)) ns) (dummy_by_found t w inner u m n (declaration_of m n) h refl)
    ∙ ap (λ (ds : List DummyNode). dummy w u m n ∷ ds) (dummies_by t w inner u m ns h)

-- the dummies of a procedure, by what is known of its names
pub dummies_stand : (t : Tables) (w : Whole) (inner : Inner) (u s : ℕ) (m : Member) (p : ProcedureTree) (look : ℕ → Option Declared) (ns : List Name)
    → Stands t w inner → m.scope ≡ s → m.tree ≡ p → ((k : ℕ) → look k ≡ lookup (nat_eq k) (entries (p.part).specifications))
    → map (λ (n : Name). dummy_from t u s (look n.symbol)) ns ≡ map (dummy w u m) ns
dummies_stand t w inner u s m p look ns h scope tree is =
    ap (λ (l : ℕ → Option Declared). map (λ (n : Name). dummy_from t u s (l n.symbol)) ns) (fun_ext is)
    ∙ ap (λ (q : ProcedureTree). map (λ (n : Name). dummy_from t u s (lookup (nat_eq n.symbol) (entries (q.part).specifications))) ns) (sym tree)
    ∙ ap (λ (k : ℕ). map (λ (n : Name). dummy_from t u k (declaration_of m n)) ns) (sym scope)
    ∙ dummies_by t w inner u m ns h

abbrev plain_kind : Kind → DeclaredNode
plain_kind k = record { kind = k; dimensions = []; initial = [] }

result_found : (t : Tables) (w : Whole) (inner : Inner) (u s : ℕ) (o : Option Declared) → Stands t w inner
    → result_from t u s o ≡ map_or (plain w undeclared) (declared w u s) o
result_found t w inner u s (Some x) h = declared_stands t w inner u s x h
result_found t w inner u s None h = ap plain_kind (kind_agrees t.numbers.now w.numbers inner undeclared h.numbers)

result_here : (t : Tables) (w : Whole) (inner : Inner) (u : ℕ) (m : Member) (kind : ProcedureKind) → Stands t w inner
    → result_by t u m.scope (λ k. lookup (nat_eq k) (declarations_in m)) kind ((m.tree).header).name ≡ result_of w u m kind
result_here t w inner u m Subroutine h = refl
result_here t w inner u m (Function (Some x) outcome) h = ap (λ (n : DeclaredNode). Some n) (plain_stands t w inner m.scope x h)
result_here t w inner u m (Function None outcome) h =
    ap (λ (n : DeclaredNode). Some n) (result_found t w inner u m.scope (declaration_of m (name_or outcome ((m.tree).header).name)) h)

pub result_stands : (t : Tables) (w : Whole) (inner : Inner) (u s : ℕ) (m : Member) (p : ProcedureTree) (kind : ProcedureKind)
    → Stands t w inner → m.scope ≡ s → m.tree ≡ p
    → result_by t u s (λ k. lookup (nat_eq k) (entries (p.part).specifications)) kind (p.header).name ≡ result_of w u m kind
result_stands t w inner u s m p kind h scope tree =
    ap (λ (q : ProcedureTree). result_by t u s (λ k. lookup (nat_eq k) (entries (q.part).specifications)) kind (q.header).name) (sym tree)
    ∙ ap (λ (n : ℕ). result_by t u n (λ k. lookup (nat_eq k) (declarations_in m)) kind ((m.tree).header).name) (sym scope)
    ∙ result_here t w inner u m kind h
