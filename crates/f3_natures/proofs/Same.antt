-- What is made of units is what they are, with the first of each name.
use Rattle.std.proofs.Common.{◌≡◌, refl, sym, ap, ◌∙◌, ℕ, ◌+◌, ◌-◌, ◌<◌, nat_eq, nat_lt, Bool, true, false, ◌||◌, List, [], ◌∷◌, ◌++◌, map, length, Option, None, Some, if◌then◌else◌, cond, slice_get, add-one, inl, inr, arith}
use Rattle.std.specs.List.{flat_map, list_any}
use Rattle.std.specs.Map.{lookup}
use Rattle.std.proofs.lemmas.List.{map-append}
use Rattle.std.proofs.lemmas.Bool.{cases_lt, lt-ltb, le-ltb, ne_eqb, eq-eqb}
use Rattle.f3_lookups.specs.declared.lookup.Lookup.{Lookup}
use Rattle.f3_lookups.specs.declared.lookup.Lookup.TheVariants.{One, Nothing, Several}
use Rattle.f3_access.specs.Access.{first_entity}
use Rattle.f3_scopes.specs.Outlines.{Scope}
use Rattle.f3_scopes.specs.declared.outline.EntityKind.{EntityKind}
use Rattle.f3_scopes.specs.declared.outline.EntityKind.TheVariants as entity
use Rattle.f3_scopes.specs.Scopes.{declared_in, kind_of}
use Rattle.f3_tree.specs.declared.expression.Name.{Name}
use Rattle.f3_tree.specs.declared.program.ProcedureKind.{ProcedureKind}
use Rattle.f3_tree.specs.declared.program.ProcedureKind.TheVariants.{Subroutine, Function}
use Rattle.f3_tree.specs.Declarations.{EntityTree, DeclarationTree, SpecificationTree, declares, accesses, protects, saves, defines}
use Rattle.f3_tree.specs.Statements.{AssociationTree, Block}
use Rattle.f3_tree.specs.Tree.{ProcedureTree, UnitTree}
use Rattle.f3_kinds.specs.declared.types.Object.{Object}
use Rattle.f3_kinds.specs.Things.{map_or, Nature, variable, derived}
use Rattle.f3_type_rules.specs.Associates.{constructs_of_block}
use Rattle.f3_type_rules.specs.Names.{Names, is_given, undeclared, object_of, components}
use Rattle.f3_type_rules.specs.Members.{Member, members_from, numbered}
use Rattle.f3_type_rules.specs.Finals.{header_rank, member_at, final_rank}
use Rattle.f3_type_rules.specs.Natures.{object_nature, declared_nature, natures_in, natures_from, procedure_nature, typed_natures, associate_natures, member_natures, unit_natures}
use Rattle.f3_natures.specs.Entries.{firsts}
use Rattle.f3_natures.specs.Natures.{kept}
use Rattle.f3_natures.specs.Procedures.{is_for}
use Rattle.f3_natures.specs.Walk.{final_at, is_final_in, is_final, made_one, made_all, count_of, no_final, inner_made, all_finals, all_made, all_inner, own_count, unit_start, unit_made}
use Rattle.f3_natures.proofs.Looked.{procedure_same, final_same}
use Rattle.f3_natures.proofs.Steps.{one_long, none_all, never}

-- ---- the procedures of a module by their entities

abbrev ranks : Names → (type : ℕ) → Option Member → Bool
ranks names t o = is_given (map_or None (λ (m : Member). header_rank names t m ((m.tree).header).kind ((m.tree).header).dummies) o)

abbrev by_entity : List Member → List (ℕ × Member)
by_entity ms = map (λ (m : Member). (m.entity, m)) ms

same_none : (b : Bool) → (if b then false else false) ≡ false
same_none true = refl
same_none false = refl

tail_get : {X : Type 0} (x : X) (xs : List X) (i j : ℕ) → i ≡ j + 1 → slice_get (x ∷ xs) i ≡ slice_get xs j
tail_get x xs i j e = ap (slice_get (x ∷ xs)) e ∙ ap (slice_get (x ∷ xs)) (add-one j)

at_entity : (names : Names) (scopes : List Scope) (t f e scope : ℕ) (ps : List ProcedureTree)
    → ranks names t (lookup (nat_eq f) (by_entity (members_from scopes e scope ps))) ≡ final_at e (all_finals names scope ps) t f
at_entity names scopes t f e scope [] = sym (same_none (nat_lt f e))
at_entity names scopes t f e scope (p ∷ ps) = elim (cases_lt f e) [
  | inl below ↦ other (at_entity names scopes t f (e + 1) (scope + 1 + count_of p.body) ps) (omega arith) (le_case below)
  | inr above ↦ elim (cases_lt e f) [
    | inl lt ↦ other (at_entity names scopes t f (e + 1) (scope + 1 + count_of p.body) ps) (omega arith) (gt_case lt)
    | inr le ↦ here (omega arith)
  ]
]
  where
    m : Member
    m = record { entity = e; scope = scope; first = first_entity scopes scope; tree = p }

    rest : List Member
    rest = members_from scopes (e + 1) (scope + 1 + count_of p.body) ps

    finals : List (Option ℕ)
    finals = all_finals names (scope + 1 + count_of p.body) ps

    all : List (Option ℕ)
    all = all_finals names scope (p ∷ ps)

    le_case : f < e → final_at (e + 1) finals t f ≡ final_at e all t f
    le_case lt =
        let now : nat_lt f e ≡ true = lt-ltb f e lt in
        let next : nat_lt f (e + 1) ≡ true = lt-ltb f (e + 1) (omega arith) in
        ap (λ (b : Bool). if b then false else map_or false (is_for t) (slice_get finals (f - (e + 1)))) next
        ∙ sym (ap (λ (b : Bool). if b then false else map_or false (is_for t) (slice_get all (f - e))) now)

    gt_case : e < f → final_at (e + 1) finals t f ≡ final_at e all t f
    gt_case lt =
        let now : nat_lt f e ≡ false = le-ltb f e (omega arith) in
        let next : nat_lt f (e + 1) ≡ false = le-ltb f (e + 1) (omega arith) in
        let get : slice_get all (f - e) ≡ slice_get finals (f - (e + 1)) = tail_get _ finals (f - e) (f - (e + 1)) (omega arith) in
        ap (λ (b : Bool). if b then false else map_or false (is_for t) (slice_get finals (f - (e + 1)))) next
        ∙ sym (ap (λ (b : Bool). if b then false else map_or false (is_for t) (slice_get all (f - e))) now ∙ ap (λ (o : Option (Option ℕ)). map_or false (is_for t) o) get)

    other : ranks names t (lookup (nat_eq f) (by_entity rest)) ≡ final_at (e + 1) finals t f → (f ≡ e → ⊥) → final_at (e + 1) finals t f ≡ final_at e all t f → ranks names t (lookup (nat_eq f) ((e, m) ∷ by_entity rest)) ≡ final_at e all t f
    other behind ne same =
        ap (λ (b : Bool). ranks names t (cond b (Some m) (lookup (nat_eq f) (by_entity rest)))) (ne_eqb f e ne)
        ∙ behind ∙ same

    here : f ≡ e → ranks names t (lookup (nat_eq f) ((e, m) ∷ by_entity rest)) ≡ final_at e all t f
    here same =
        let now : nat_lt f e ≡ false = le-ltb f e (omega arith) in
        let zero : f - e ≡ 0 = omega arith in
        ap (λ (b : Bool). ranks names t (cond b (Some m) (lookup (nat_eq f) (by_entity rest)))) (eq-eqb f e same)
        ∙ final_same names t e scope (first_entity scopes scope) p (p.header).kind (p.header).dummies
        ∙ sym (ap (λ (b : Bool). if b then false else map_or false (is_for t) (slice_get all (f - e))) now ∙ ap (λ n. map_or false (is_for t) (slice_get all n)) zero)

final_in : (names : Names) (scopes : List Scope) (first scope t : ℕ) (ps : List ProcedureTree) (l : Lookup)
    → is_final_in first (all_finals names scope ps) t l ≡ ranks names t (member_at (members_from scopes first scope ps) l)
final_in names scopes first scope t ps (One f) = sym (at_entity names scopes t f first scope ps)
final_in names scopes first scope t ps Nothing = refl
final_in names scopes first scope t ps Several = refl

never_in : (names : Names) (t : ℕ) (l : Lookup) → is_final_in 0 [] t l ≡ ranks names t (member_at [] l)
never_in names t (One f) = never t (One f)
never_in names t Nothing = refl
never_in names t Several = refl

-- ---- specification parts

kept_object : (k : EntityKind) (o : Object) → object_nature k o ≡ kept (object_nature k o)
kept_object entity.Constant o = refl
kept_object entity.Variable o = refl
kept_object entity.DerivedType o = refl
kept_object entity.Subroutine o = refl
kept_object entity.Function o = refl

pub kept_declared : (names : Names) (scope : ℕ) (d : DeclarationTree) (xs : List EntityTree) → map (declared_nature names scope d) xs ≡ map kept (map (declared_nature names scope d) xs)
kept_declared names scope d [] = refl
kept_declared names scope d (x ∷ xs) =
    ap (λ (n : Nature). n ∷ map (declared_nature names scope d) xs) (kept_object (kind_of d.attributes) (object_of names scope (d, x)))
    ∙ ap (λ l. kept (declared_nature names scope d x) ∷ l) (kept_declared names scope d xs)

module _ (names : Names) (scope : ℕ) (ms : List Member) (has : ℕ → Name → Bool) (same : (t : ℕ) (n : Name) → has t n ≡ is_given (final_rank names scope ms t n)) where
  any_same : (t : ℕ) (ns : List Name) → list_any (has t) ns ≡ list_any (λ (n : Name). is_given (final_rank names scope ms t n)) ns
  any_same t [] = refl
  any_same t (n ∷ ns) = ap (λ (b : Bool). b || list_any (has t) ns) (same t n) ∙ ap (λ (b : Bool). is_given (final_rank names scope ms t n) || b) (any_same t ns)

  one_same : (e : ℕ) (s : SpecificationTree) → made_one names scope has e s ≡ map kept (natures_in names scope ms e s)
  one_same e (declares d) = kept_declared names scope d d.entities
  one_same e (accesses a) = refl
  one_same e (protects p ns) = refl
  one_same e (saves p) = refl
  one_same e (defines t) = ap (λ (b : Bool). derived scope (firsts (components names scope t)) b ∷ []) (any_same e t.finals)

  pub all_same : (e : ℕ) (ss : List SpecificationTree) → made_all names scope has e ss ≡ map kept (natures_from names scope ms e ss)
  all_same e [] = refl
  all_same e (s ∷ ss) =
      ap (λ n. made_one names scope has e s ++ made_all names scope has (e + n) ss) (one_long names scope has e s)
      ∙ ap (λ l. l ++ made_all names scope has (e + length (declared_in s)) ss) (one_same e s)
      ∙ ap (λ l. map kept (natures_in names scope ms e s) ++ l) (all_same (e + length (declared_in s)) ss)
      ∙ sym (map-append kept (natures_in names scope ms e s) (natures_from names scope ms (e + length (declared_in s)) ss))

-- ---- procedures

pub kept_typed : (names : Names) (scope : ℕ) (k : ProcedureKind) → typed_natures names scope k ≡ map kept (typed_natures names scope k)
kept_typed names scope Subroutine = refl
kept_typed names scope (Function None outcome) = refl
kept_typed names scope (Function (Some s) outcome) = refl

kept_variables : (xs : List AssociationTree) → map (λ (x : AssociationTree). variable undeclared) xs ≡ map kept (map (λ (x : AssociationTree). variable undeclared) xs)
kept_variables [] = refl
kept_variables (x ∷ xs) = ap (λ (l : List Nature). variable undeclared ∷ l) (kept_variables xs)

kept_constructs : (xss : List (List AssociationTree)) → flat_map (map (λ (x : AssociationTree). variable undeclared)) xss ≡ map kept (flat_map (map (λ (x : AssociationTree). variable undeclared)) xss)
kept_constructs [] = refl
kept_constructs (xs ∷ xss) =
    ap (λ l. l ++ flat_map (map (λ (x : AssociationTree). variable undeclared)) xss) (kept_variables xs)
    ∙ ap (λ l. map kept (map (λ (x : AssociationTree). variable undeclared) xs) ++ l) (kept_constructs xss)
    ∙ sym (map-append kept (map (λ (x : AssociationTree). variable undeclared) xs) (flat_map (map (λ (x : AssociationTree). variable undeclared)) xss))

pub kept_associates : (b : Block) → associate_natures b ≡ map kept (associate_natures b)
kept_associates b = kept_constructs (constructs_of_block b)

none_same : (names : Names) (scope e : ℕ) (ss : List SpecificationTree) → made_all names scope no_final 0 ss ≡ map kept (natures_from names scope [] e ss)
none_same names scope e ss =
    sym (none_all names scope e 0 ss) ∙ all_same names scope [] (is_final names scope 0 []) (λ t n. never_in names t (names.look scope n.symbol)) e ss

pub joined2 : (a b : List Nature) (xs ys : List Nature) → a ≡ map kept xs → b ≡ map kept ys → a ++ b ≡ map kept (xs ++ ys)
joined2 a b xs ys e f = ap (λ l. l ++ b) e ∙ ap (λ l. map kept xs ++ l) f ∙ sym (map-append kept xs ys)

inner_same : (names : Names) (m : Member) → inner_made names m.scope m.tree ≡ map kept (member_natures names m)
inner_same names m =
    joined2 _ _ (typed_natures names m.scope (((m.tree).header).kind)) (natures_from names m.scope [] m.first ((m.tree).part).specifications ++ associate_natures (m.tree).body)
    (kept_typed names m.scope (((m.tree).header).kind))
    (joined2 _ _ (natures_from names m.scope [] m.first ((m.tree).part).specifications) (associate_natures (m.tree).body)
    (none_same names m.scope m.first ((m.tree).part).specifications) (kept_associates (m.tree).body))

members_same : (names : Names) (scopes : List Scope) (e scope : ℕ) (ps : List ProcedureTree) → all_made names scope ps ≡ map kept (map (procedure_nature names) (members_from scopes e scope ps))
members_same names scopes e scope [] = refl
members_same names scopes e scope (p ∷ ps) =
    ap (λ (n : Nature). n ∷ all_made names (scope + 1 + count_of p.body) ps) (procedure_same names e scope (first_entity scopes scope) p)
    ∙ ap (λ l. kept (procedure_nature names record { entity = e; scope = scope; first = first_entity scopes scope; tree = p }) ∷ l) (members_same names scopes (e + 1) (scope + 1 + count_of p.body) ps)

inners_same : (names : Names) (scopes : List Scope) (e scope : ℕ) (ps : List ProcedureTree) → all_inner names scope ps ≡ map kept (flat_map (member_natures names) (members_from scopes e scope ps))
inners_same names scopes e scope [] = refl
inners_same names scopes e scope (p ∷ ps) =
    let m : Member = record { entity = e; scope = scope; first = first_entity scopes scope; tree = p } in
    joined2 (inner_made names scope p) (all_inner names (scope + 1 + count_of p.body) ps) (member_natures names m) (flat_map (member_natures names) (members_from scopes (e + 1) (scope + 1 + count_of p.body) ps))
    (inner_same names m) (inners_same names scopes (e + 1) (scope + 1 + count_of p.body) ps)

-- ---- units

pub unit_same : (names : Names) (scopes : List Scope) (scope : ℕ) (u : UnitTree) → unit_made names (first_entity scopes scope) scope u ≡ map kept (unit_natures names (numbered scopes scope u))
unit_same names scopes scope u =
    let e = first_entity scopes scope in
    let first = e + own_count u in
    let start = unit_start scope u in
    let ms = members_from scopes first start u.procedures in
    joined2 _ _ (natures_from names scope ms e (u.part).specifications) (map (procedure_nature names) ms ++ (associate_natures u.body ++ flat_map (member_natures names) ms))
    (all_same names scope ms (is_final names scope first (all_finals names start u.procedures)) (λ t n. final_in names scopes first start t u.procedures (names.look scope n.symbol)) e (u.part).specifications)
    (joined2 _ _ (map (procedure_nature names) ms) (associate_natures u.body ++ flat_map (member_natures names) ms) (members_same names scopes first start u.procedures)
    (joined2 _ _ (associate_natures u.body) (flat_map (member_natures names) ms) (kept_associates u.body) (inners_same names scopes first start u.procedures)))
