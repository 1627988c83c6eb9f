-- A look-up among the first of each name, and what a procedure is by it.
use Rattle.std.proofs.Common.{◌≡◌, refl, sym, ap, ◌∙◌, ℕ, nat_eq, Bool, true, false, not, ◌&&◌, ◌||◌, List, [], ◌∷◌, ◌++◌, map, Option, None, Some, if◌then◌else◌, is_some, cond, inl, inr}
use Rattle.std.specs.Option.{option_map}
use Rattle.std.specs.Map.{lookup}
use Rattle.std.proofs.lemmas.List.{map-append}
use Rattle.std.proofs.lemmas.Bool.Decides.{eqb_tells}
use Rattle.std.proofs.lemmas.Map.Made.{lookup-map_values}
use Rattle.f3_scopes.specs.Scopes.{result_of}
use Rattle.f3_tree.specs.declared.expression.Name.{Name}
use Rattle.f3_tree.specs.declared.program.ProcedureKind.{ProcedureKind}
use Rattle.f3_tree.specs.declared.program.ProcedureKind.TheVariants.{Subroutine, Function}
use Rattle.f3_tree.specs.Declarations.{EntityTree, DeclarationTree, SpecificationTree, declares, accesses, protects, saves, defines}
use Rattle.f3_tree.specs.Tree.{ProcedureTree}
use Rattle.f3_kinds.specs.declared.types.DataType.{DataType}
use Rattle.f3_kinds.specs.declared.types.DataType.TheVariants.{Integer, Logical, Derived}
use Rattle.f3_kinds.specs.declared.types.Object.{Object}
use Rattle.f3_kinds.specs.declared.things.Dummy.{Dummy}
use Rattle.f3_kinds.specs.Things.{map_or}
use Rattle.f3_type_rules.specs.Names.{Names, Declared, is_given, or_else, entries, entries_in, undeclared, object_of}
use Rattle.f3_type_rules.specs.Finals.{is_out, is_type, dummy_rank, header_rank}
use Rattle.f3_type_rules.specs.Natures.{dummy, result_object, specifier_of, kind_nature, procedure_nature}
use Rattle.f3_natures.specs.declared.objects.Described.{Described}
use Rattle.f3_natures.specs.Entries.{with_first, firsts_after, firsts}
use Rattle.f3_natures.specs.Natures.{kept}
use Rattle.f3_natures.specs.Objects.{described_of}
use Rattle.f3_natures.specs.Procedures.{described_entry, described_in, described_all, dummy_by, dummy_entry, object_by, result_by, procedure_by, derived_type, final_for, final_type, is_for}
use Rattle.f3_natures.specs.Walk.{declared_at}

-- ---- look-ups

else_none : {X : Type 0} (o : Option X) → or_else o None ≡ o
else_none None = refl
else_none (Some x) = refl

else_assoc : {X : Type 0} (a b c : Option X) → or_else (or_else a b) c ≡ or_else a (or_else b c)
else_assoc None b c = refl
else_assoc (Some x) b c = refl

else_cond : {X : Type 0} (b : Bool) (x : X) (o : Option X) → or_else (cond b (Some x) None) o ≡ cond b (Some x) o
else_cond true x o = refl
else_cond false x o = refl

cond_else : {X : Type 0} (b : Bool) (x : X) (o o' : Option X) → cond b (Some x) (or_else o o') ≡ or_else (cond b (Some x) o) o'
cond_else true x o o' = refl
cond_else false x o o' = refl

pub lookup_append : {X : Type 0} (k : ℕ) (xs ys : List (ℕ × X)) → lookup (nat_eq k) (xs ++ ys) ≡ or_else (lookup (nat_eq k) xs) (lookup (nat_eq k) ys)
lookup_append k [] ys = refl
lookup_append k (x ∷ xs) ys = ap (cond (nat_eq k x.0) (Some x.1)) (lookup_append k xs ys) ∙ cond_else (nat_eq k x.0) x.1 (lookup (nat_eq k) xs) (lookup (nat_eq k) ys)

-- where a name is there already, a second entry of it counts for nothing
stays : {X : Type 0} (k j : ℕ) (x y : X) (es : List (ℕ × X)) → lookup (nat_eq j) es ≡ Some y → lookup (nat_eq k) es ≡ or_else (lookup (nat_eq k) es) (cond (nat_eq k j) (Some x) None)
stays k j x y es e = elim (eqb_tells k j) [
  | inl h ↦ here h.1
  | inr h ↦ sym (ap (λ (b : Bool). or_else (lookup (nat_eq k) es) (cond b (Some x) None)) h.0 ∙ else_none (lookup (nat_eq k) es))
]
  where
    here : k ≡ j → lookup (nat_eq k) es ≡ or_else (lookup (nat_eq k) es) (cond (nat_eq k j) (Some x) None)
    here same =
        let o : lookup (nat_eq k) es ≡ Some y = ap (λ i. lookup (nat_eq i) es) same ∙ e in
        o ∙ sym (ap (λ z. or_else z (cond (nat_eq k j) (Some x) None)) o)

lookup_with : {X : Type 0} (k j : ℕ) (x : X) (es : List (ℕ × X)) (o : Option X) → lookup (nat_eq j) es ≡ o
    → lookup (nat_eq k) (if is_some o then es else es ++ (j, x) ∷ []) ≡ or_else (lookup (nat_eq k) es) (cond (nat_eq k j) (Some x) None)
lookup_with k j x es None e = lookup_append k es ((j, x) ∷ [])
lookup_with k j x es (Some y) e = stays k j x y es e

after_lookup : {X : Type 0} (k : ℕ) (es xs : List (ℕ × X)) → lookup (nat_eq k) (firsts_after es xs) ≡ or_else (lookup (nat_eq k) es) (lookup (nat_eq k) xs)
after_lookup k es [] = sym (else_none (lookup (nat_eq k) es))
after_lookup k es (x ∷ xs) =
    after_lookup k (with_first es x.0 x.1) xs
    ∙ ap (λ o. or_else o (lookup (nat_eq k) xs)) (lookup_with k x.0 x.1 es (lookup (nat_eq x.0) es) refl)
    ∙ else_assoc (lookup (nat_eq k) es) (cond (nat_eq k x.0) (Some x.1) None) (lookup (nat_eq k) xs)
    ∙ ap (or_else (lookup (nat_eq k) es)) (else_cond (nat_eq k x.0) x.1 (lookup (nat_eq k) xs))

-- ---- what a procedure declares

abbrev seen : Names → (scope : ℕ) → ℕ × Declared → ℕ × Described
seen names scope e = (e.0, described_of names scope e.1)

described_one : (names : Names) (scope : ℕ) (d : DeclarationTree) (xs : List EntityTree)
    → map (described_entry names scope d) xs ≡ map (seen names scope) (map (λ (x : EntityTree). ((x.name).symbol, (d, x))) xs)
described_one names scope d [] = refl
described_one names scope d (x ∷ xs) = ap (λ l. described_entry names scope d x ∷ l) (described_one names scope d xs)

described_here : (names : Names) (scope : ℕ) (s : SpecificationTree) → described_in names scope s ≡ map (seen names scope) (entries_in s)
described_here names scope (declares d) = described_one names scope d d.entities
described_here names scope (accesses a) = refl
described_here names scope (protects p ns) = refl
described_here names scope (saves p) = refl
described_here names scope (defines t) = refl

described_same : (names : Names) (scope : ℕ) (ss : List SpecificationTree) → described_all names scope ss ≡ map (seen names scope) (entries ss)
described_same names scope [] = refl
described_same names scope (s ∷ ss) =
    ap (λ l. l ++ described_all names scope ss) (described_here names scope s) ∙ ap (λ l. map (seen names scope) (entries_in s) ++ l) (described_same names scope ss)
    ∙ sym (map-append (seen names scope) (entries_in s) (entries ss))

pub declared_same : (names : Names) (scope : ℕ) (p : ProcedureTree) (k : ℕ) → declared_at names scope p k ≡ option_map (described_of names scope) (lookup (nat_eq k) (entries (p.part).specifications))
declared_same names scope p k =
    after_lookup k [] (described_all names scope (p.part).specifications)
    ∙ ap (lookup (nat_eq k)) (described_same names scope (p.part).specifications)
    ∙ lookup-map_values (described_of names scope) (nat_eq k) (entries (p.part).specifications)

-- ---- what a procedure is

dummy_of : (names : Names) (scope : ℕ) (xs : List (ℕ × Declared)) (n : Name) (o : Option Declared) → lookup (nat_eq n.symbol) xs ≡ o
    → (n.symbol, dummy_by (option_map (described_of names scope) o)) ≡ dummy names scope xs n
dummy_of names scope xs n None e = rw e refl
dummy_of names scope xs n (Some x) e = rw e refl

dummies_same : (names : Names) (scope : ℕ) (p : ProcedureTree) (ns : List Name) → map (dummy_entry (declared_at names scope p)) ns ≡ map (dummy names scope (entries (p.part).specifications)) ns
dummies_same names scope p [] = refl
dummies_same names scope p (n ∷ ns) =
    let xs = entries (p.part).specifications in
    ap (λ (o : Option Described). (n.symbol, dummy_by o) ∷ map (dummy_entry (declared_at names scope p)) ns) (declared_same names scope p n.symbol)
    ∙ ap (λ (d : ℕ × Dummy). d ∷ map (dummy_entry (declared_at names scope p)) ns) (dummy_of names scope xs n (lookup (nat_eq n.symbol) xs) refl)
    ∙ ap (λ l. dummy names scope xs n ∷ l) (dummies_same names scope p ns)

object_same : (names : Names) (scope : ℕ) (o : Option Declared) → object_by (option_map (described_of names scope) o) ≡ map_or undeclared (object_of names scope) o
object_same names scope None = refl
object_same names scope (Some x) = refl

result_same : (names : Names) (scope : ℕ) (p : ProcedureTree) (k : ProcedureKind) (n : Name)
    → result_by names scope (declared_at names scope p) k n ≡ result_object names scope (entries (p.part).specifications) (specifier_of k) (result_of k n)
result_same names scope p Subroutine n = refl
result_same names scope p (Function (Some s) outcome) n = refl
result_same names scope p (Function None (Some m)) n = ap object_by (declared_same names scope p m.symbol) ∙ object_same names scope (lookup (nat_eq m.symbol) (entries (p.part).specifications))
result_same names scope p (Function None None) n = ap object_by (declared_same names scope p n.symbol) ∙ object_same names scope (lookup (nat_eq n.symbol) (entries (p.part).specifications))

kept_kind : (pure : Bool) (ds : List (ℕ × Dummy)) (o : Object) (k : ProcedureKind) → kind_nature pure (firsts ds) o k ≡ kept (kind_nature pure ds o k)
kept_kind pure ds o Subroutine = refl
kept_kind pure ds o (Function s outcome) = refl

pub procedure_same : (names : Names) (e scope first : ℕ) (p : ProcedureTree)
    → procedure_by names scope (declared_at names scope p) p.header ≡ kept (procedure_nature names record { entity = e; scope = scope; first = first; tree = p })
procedure_same names e scope first p =
    let h = p.header in
    ap (λ (ds : List (ℕ × Dummy)). kind_nature h.pure (firsts ds) (result_by names scope (declared_at names scope p) h.kind h.name) h.kind) (dummies_same names scope p h.dummies)
    ∙ ap (λ (o : Object). kind_nature h.pure (firsts (map (dummy names scope (entries (p.part).specifications)) h.dummies)) o h.kind) (result_same names scope p h.kind h.name)
    ∙ kept_kind h.pure (map (dummy names scope (entries (p.part).specifications)) h.dummies) (result_object names scope (entries (p.part).specifications) (specifier_of h.kind) (result_of h.kind h.name)) h.kind

-- ---- what it may be final for

given_if : (b : Bool) (r : ℕ) → is_given (if b then Some r else None) ≡ b
given_if true r = refl
given_if false r = refl

type_for : (t : ℕ) (d : Option DataType) → is_type t d ≡ is_for t (derived_type d)
type_for t None = refl
type_for t (Some (Integer k)) = refl
type_for t (Some Logical) = refl
type_for t (Some (Derived e)) = refl

for_if : (t : ℕ) (c : Bool) (d : Option ℕ) → is_for t (if c then None else d) ≡ (if c then false else is_for t d)
for_if t true d = refl
for_if t false d = refl

fits_all : (b a o x : Bool) → (b && not a && not o && not x) ≡ (if a || o || x then false else b)
fits_all true true true true = refl
fits_all true true true false = refl
fits_all true true false true = refl
fits_all true true false false = refl
fits_all true false true true = refl
fits_all true false true false = refl
fits_all true false false true = refl
fits_all true false false false = refl
fits_all false true true true = refl
fits_all false true true false = refl
fits_all false true false true = refl
fits_all false true false false = refl
fits_all false false true true = refl
fits_all false false true false = refl
fits_all false false false true = refl
fits_all false false false false = refl

rank_same : (names : Names) (t scope : ℕ) (x : Declared) → is_given (dummy_rank names t scope x) ≡ is_for t (final_for (described_of names scope x))
rank_same names t scope x =
    let d = described_of names scope x in
    let a = (d.object).is_allocatable in
    let o = is_out d.intent in
    let e = d.is_explicit in
    given_if (is_type t (d.object).data_type && not a && not o && not e) (d.object).rank
    ∙ fits_all (is_type t (d.object).data_type) a o e
    ∙ ap (λ (b : Bool). if a || o || e then false else b) (type_for t (d.object).data_type)
    ∙ sym (for_if t (a || o || e) (derived_type (d.object).data_type))

ranked : (names : Names) (t scope : ℕ) (o : Option Declared) → is_given (map_or None (dummy_rank names t scope) o) ≡ is_for t (map_or None final_for (option_map (described_of names scope) o))
ranked names t scope None = refl
ranked names t scope (Some x) = rank_same names t scope x

pub final_same : (names : Names) (t e scope first : ℕ) (p : ProcedureTree) (k : ProcedureKind) (ns : List Name)
    → is_given (header_rank names t record { entity = e; scope = scope; first = first; tree = p } k ns) ≡ is_for t (final_type (declared_at names scope p) k ns)
final_same names t e scope first p Subroutine [] = refl
final_same names t e scope first p Subroutine (n ∷ []) =
    ranked names t scope (lookup (nat_eq n.symbol) (entries (p.part).specifications)) ∙ ap (λ (o : Option Described). is_for t (map_or None final_for o)) (sym (declared_same names scope p n.symbol))
final_same names t e scope first p Subroutine (n ∷ m ∷ ns) = refl
final_same names t e scope first p (Function s outcome) ns = refl
