-- Where no two parts have one name, the first of each name are all.
use Rattle.std.proofs.Common.{◌≡◌, refl, sym, ap, ◌∙◌, ℕ, ◌+◌, nat_eq, Bool, true, false, not, ◌&&◌, ◌||◌, List, [], ◌∷◌, ◌++◌, map, length, Option, None, Some, if◌then◌else◌, is_some, cond, append_assoc, inl, inr}
use Rattle.std.specs.List.{flat_map, list_any, list_all}
use Rattle.std.specs.Map.{lookup}
use Rattle.std.proofs.lemmas.Bool.Decides.{eqb_tells}
use Rattle.std.proofs.lemmas.Bool.{true≢false, eq-eqb}
use Rattle.std.proofs.lemmas.List.{append-nil, map-append}
use Rattle.f3_scopes.specs.Outlines.{Scope}
use Rattle.f3_scopes.specs.Scopes.{declared_in, unit_scopes, scopes_of}
use Rattle.f3_tree.specs.declared.expression.Name.{Name}
use Rattle.f3_tree.specs.declared.program.ProcedureKind.{ProcedureKind}
use Rattle.f3_tree.specs.declared.program.ProcedureKind.TheVariants.{Subroutine, Function}
use Rattle.f3_tree.specs.Declarations.{EntityTree, DeclarationTree, SpecificationTree, declares, accesses, protects, saves, defines}
use Rattle.f3_tree.specs.Tree.{ProcedureTree, UnitTree, Tree}
use Rattle.f3_kinds.specs.declared.types.Object.{Object}
use Rattle.f3_kinds.specs.declared.things.Component.{Component}
use Rattle.f3_kinds.specs.declared.things.Dummy.{Dummy}
use Rattle.f3_kinds.specs.Things.{Nature, derived}
use Rattle.f3_access.specs.Access.{first_entity}
use Rattle.f3_type_rules.specs.Associates.{constructs_of_block}
use Rattle.f3_type_rules.specs.Names.{Names, Declared, or_else, is_given, component, components, entries}
use Rattle.f3_type_rules.specs.Members.{Member, members_from, numbered, units_from}
use Rattle.f3_type_rules.specs.Finals.{final_rank}
use Rattle.f3_type_rules.specs.Natures.{natures_in, natures_from, dummy, kind_nature, procedure_nature, typed_natures, associate_natures, member_natures, unit_natures}
use Rattle.f3_natures.specs.Entries.{firsts_after, firsts}
use Rattle.f3_natures.specs.Natures.{natures_of, kept, are_distinct, names_in, has_distinct_components, has_distinct_dummies, is_procedure_distinct, is_unit_distinct, HasDistinctParts}
use Rattle.f3_natures.proofs.Looked.{lookup_append}
use Rattle.f3_natures.proofs.Same.{kept_typed, kept_associates, kept_declared}

or_false : (a b : Bool) → (a || b) ≡ false → (a ≡ false) × (b ≡ false)
or_false false false e = (refl, refl)
or_false false true e = absurd (true≢false e)
or_false true false e = absurd (true≢false e)
or_false true true e = absurd (true≢false e)

and_true : (a b : Bool) → (a && b) ≡ true → (a ≡ true) × (b ≡ true)
and_true true true e = (refl, refl)
and_true true false e = absurd (true≢false (sym e))
and_true false true e = absurd (true≢false (sym e))
and_true false false e = absurd (true≢false (sym e))

not_true : (a : Bool) → not a ≡ true → a ≡ false
not_true true e = absurd (true≢false (sym e))
not_true false e = refl

-- none of these names has an entry
abbrev Fresh : {X : Type 0} → List (ℕ × X) → List (ℕ × X) → Type 0
Fresh es [] = Unit {0}
Fresh es (x ∷ xs) = (lookup (nat_eq x.0) es ≡ None) × Fresh es xs

turned : (j k : ℕ) → nat_eq k j ≡ false → nat_eq j k ≡ false
turned j k e = elim (eqb_tells j k) [ inl h ↦ absurd (true≢false (sym (eq-eqb k j (sym h.1)) ∙ e)) | inr h ↦ h.0 ]

fresh_more : {X : Type 0} (es : List (ℕ × X)) (k : ℕ) (v : X) (ys : List (ℕ × X)) → Fresh es ys → list_any (nat_eq k) (map (λ (y : ℕ × X). y.0) ys) ≡ false → Fresh (es ++ (k, v) ∷ []) ys
fresh_more es k v [] f e = tt
fresh_more {X = X} es k v (y ∷ ys) f e =
    let h = or_false (nat_eq k y.0) (list_any (nat_eq k) (map (λ (z : ℕ × X). z.0) ys)) e in (
      lookup_append y.0 es ((k, v) ∷ []) ∙ ap (λ o. or_else o (cond (nat_eq y.0 k) (Some v) None)) f.0 ∙ ap (λ (b : Bool). cond b (Some v) None) (turned y.0 k h.0),
      fresh_more es k v ys f.1 h.1,
    )

all_after : {X : Type 0} (es xs : List (ℕ × X)) → Fresh es xs → are_distinct (map (λ (x : ℕ × X). x.0) xs) ≡ true → firsts_after es xs ≡ es ++ xs
all_after es [] f d = sym (append-nil es)
all_after {X = X} es (x ∷ xs) f d =
    let h = and_true (not (list_any (nat_eq x.0) (map (λ (y : ℕ × X). y.0) xs))) (are_distinct (map (λ (y : ℕ × X). y.0) xs)) d in
    ap (λ (o : Option X). firsts_after (if is_some o then es else es ++ (x.0, x.1) ∷ []) xs) f.0
    ∙ all_after (es ++ (x.0, x.1) ∷ []) xs (fresh_more es x.0 x.1 xs f.1 (not_true _ h.0)) h.1
    ∙ append_assoc es ((x.0, x.1) ∷ []) xs

fresh_none : {X : Type 0} (xs : List (ℕ × X)) → Fresh [] xs
fresh_none [] = tt
fresh_none (x ∷ xs) = (refl, fresh_none xs)

firsts_all : {X : Type 0} (xs : List (ℕ × X)) → are_distinct (map (λ (x : ℕ × X). x.0) xs) ≡ true → firsts xs ≡ xs
firsts_all xs d = all_after [] xs (fresh_none xs) d

-- ---- types and procedures

one_names : (names : Names) (scope : ℕ) (private : Bool) (d : DeclarationTree) (xs : List EntityTree)
    → map (λ (x : ℕ × Component). x.0) (map (component names scope private d) xs) ≡ map (λ (x : EntityTree). (x.name).symbol) xs
one_names names scope private d [] = refl
one_names names scope private d (x ∷ xs) = ap (λ l. (x.name).symbol ∷ l) (one_names names scope private d xs)

all_names : (names : Names) (scope : ℕ) (private : Bool) (ds : List DeclarationTree)
    → map (λ (x : ℕ × Component). x.0) (flat_map (λ (d : DeclarationTree). map (component names scope private d) d.entities) ds) ≡ flat_map names_in ds
all_names names scope private [] = refl
all_names names scope private (d ∷ ds) =
    map-append (λ (x : ℕ × Component). x.0) (map (component names scope private d) d.entities) (flat_map (λ (c : DeclarationTree). map (component names scope private c) c.entities) ds)
    ∙ ap (λ l. l ++ map (λ (x : ℕ × Component). x.0) (flat_map (λ (c : DeclarationTree). map (component names scope private c) c.entities) ds)) (one_names names scope private d d.entities)
    ∙ ap (λ l. names_in d ++ l) (all_names names scope private ds)

kept_in : (names : Names) (scope : ℕ) (ms : List Member) (e : ℕ) (s : SpecificationTree) → has_distinct_components s ≡ true → map kept (natures_in names scope ms e s) ≡ natures_in names scope ms e s
kept_in names scope ms e (declares d) h = sym (kept_declared names scope d d.entities)
kept_in names scope ms e (accesses a) h = refl
kept_in names scope ms e (protects p ns) h = refl
kept_in names scope ms e (saves p) h = refl
kept_in names scope ms e (defines t) h =
    ap (λ (ks : List (ℕ × Component)). derived scope ks (list_any (λ (n : Name). is_given (final_rank names scope ms e n)) t.finals) ∷ [])
    (firsts_all (components names scope t) (ap are_distinct (all_names names scope (is_given t.private) t.components) ∙ h))

kept_from : (names : Names) (scope : ℕ) (ms : List Member) (e : ℕ) (ss : List SpecificationTree) → list_all has_distinct_components ss ≡ true → map kept (natures_from names scope ms e ss) ≡ natures_from names scope ms e ss
kept_from names scope ms e [] h = refl
kept_from names scope ms e (s ∷ ss) h =
    let k = and_true (has_distinct_components s) (list_all has_distinct_components ss) h in
    map-append kept (natures_in names scope ms e s) (natures_from names scope ms (e + length (declared_in s)) ss)
    ∙ ap (λ l. l ++ map kept (natures_from names scope ms (e + length (declared_in s)) ss)) (kept_in names scope ms e s k.0)
    ∙ ap (λ l. natures_in names scope ms e s ++ l) (kept_from names scope ms (e + length (declared_in s)) ss k.1)

dummy_names : (names : Names) (scope : ℕ) (xs : List (ℕ × Declared)) (ns : List Name) → map (λ (x : ℕ × Dummy). x.0) (map (dummy names scope xs) ns) ≡ map (λ (n : Name). n.symbol) ns
dummy_names names scope xs [] = refl
dummy_names names scope xs (n ∷ ns) = ap (λ l. n.symbol ∷ l) (dummy_names names scope xs ns)

kept_kind : (pure : Bool) (ds : List (ℕ × Dummy)) (o : Object) (k : ProcedureKind) → firsts ds ≡ ds → kept (kind_nature pure ds o k) ≡ kind_nature pure ds o k
kept_kind pure ds o Subroutine e = ap (λ (l : List (ℕ × Dummy)). kind_nature pure l o Subroutine) e
kept_kind pure ds o (Function s outcome) e = ap (λ (l : List (ℕ × Dummy)). kind_nature pure l o (Function s outcome)) e

kept_procedure : (names : Names) (m : Member) → has_distinct_dummies m.tree ≡ true → kept (procedure_nature names m) ≡ procedure_nature names m
kept_procedure names m h =
    let xs = entries ((m.tree).part).specifications in
    kept_kind ((m.tree).header).pure (map (dummy names m.scope xs) ((m.tree).header).dummies) _ ((m.tree).header).kind
    (firsts_all (map (dummy names m.scope xs) ((m.tree).header).dummies) (ap are_distinct (dummy_names names m.scope xs ((m.tree).header).dummies) ∙ h))

split2 : (xs ys : List Nature) → map kept xs ≡ xs → map kept ys ≡ ys → map kept (xs ++ ys) ≡ xs ++ ys
split2 xs ys e f = map-append kept xs ys ∙ ap (λ l. l ++ map kept ys) e ∙ ap (λ l. xs ++ l) f

kept_member : (names : Names) (m : Member) → list_all has_distinct_components ((m.tree).part).specifications ≡ true → map kept (member_natures names m) ≡ member_natures names m
kept_member names m h =
    split2 (typed_natures names m.scope (((m.tree).header).kind)) (natures_from names m.scope [] m.first ((m.tree).part).specifications ++ associate_natures (m.tree).body)
    (sym (kept_typed names m.scope (((m.tree).header).kind)))
    (split2 (natures_from names m.scope [] m.first ((m.tree).part).specifications) (associate_natures (m.tree).body) (kept_from names m.scope [] m.first ((m.tree).part).specifications h) (sym (kept_associates (m.tree).body)))

kept_procedures : (names : Names) (scopes : List Scope) (e scope : ℕ) (ps : List ProcedureTree) → list_all is_procedure_distinct ps ≡ true
    → map kept (map (procedure_nature names) (members_from scopes e scope ps)) ≡ map (procedure_nature names) (members_from scopes e scope ps)
kept_procedures names scopes e scope [] h = refl
kept_procedures names scopes e scope (p ∷ ps) h =
    let k = and_true (is_procedure_distinct p) (list_all is_procedure_distinct ps) h in
    let j = and_true (has_distinct_dummies p) (list_all has_distinct_components (p.part).specifications) k.0 in
    let rest = members_from scopes (e + 1) (scope + 1 + length (constructs_of_block p.body)) ps in
    let m : Member = record { entity = e; scope = scope; first = first_entity scopes scope; tree = p } in
    ap (λ (n : Nature). n ∷ map kept (map (procedure_nature names) rest)) (kept_procedure names m j.0)
    ∙ ap (λ l. procedure_nature names m ∷ l) (kept_procedures names scopes (e + 1) (scope + 1 + length (constructs_of_block p.body)) ps k.1)

kept_members : (names : Names) (scopes : List Scope) (e scope : ℕ) (ps : List ProcedureTree) → list_all is_procedure_distinct ps ≡ true
    → map kept (flat_map (member_natures names) (members_from scopes e scope ps)) ≡ flat_map (member_natures names) (members_from scopes e scope ps)
kept_members names scopes e scope [] h = refl
kept_members names scopes e scope (p ∷ ps) h =
    let k = and_true (is_procedure_distinct p) (list_all is_procedure_distinct ps) h in
    let j = and_true (has_distinct_dummies p) (list_all has_distinct_components (p.part).specifications) k.0 in
    split2 (member_natures names record { entity = e; scope = scope; first = first_entity scopes scope; tree = p }) (flat_map (member_natures names) (members_from scopes (e + 1) (scope + 1 + length (constructs_of_block p.body)) ps))
    (kept_member names record { entity = e; scope = scope; first = first_entity scopes scope; tree = p } j.1) (kept_members names scopes (e + 1) (scope + 1 + length (constructs_of_block p.body)) ps k.1)

kept_unit : (names : Names) (scopes : List Scope) (scope : ℕ) (u : UnitTree) → is_unit_distinct u ≡ true → map kept (unit_natures names (numbered scopes scope u)) ≡ unit_natures names (numbered scopes scope u)
kept_unit names scopes scope u h =
    let k = and_true (list_all has_distinct_components (u.part).specifications) (list_all is_procedure_distinct u.procedures) h in
    let first = first_entity scopes scope + length (flat_map declared_in (u.part).specifications) in
    let start = scope + 1 + length (constructs_of_block u.body) in
    let ms = members_from scopes first start u.procedures in
    split2 (natures_from names scope ms (first_entity scopes scope) (u.part).specifications) (map (procedure_nature names) ms ++ (associate_natures u.body ++ flat_map (member_natures names) ms))
    (kept_from names scope ms (first_entity scopes scope) (u.part).specifications k.0)
    (split2 (map (procedure_nature names) ms) (associate_natures u.body ++ flat_map (member_natures names) ms) (kept_procedures names scopes first start u.procedures k.1)
    (split2 (associate_natures u.body) (flat_map (member_natures names) ms) (sym (kept_associates u.body)) (kept_members names scopes first start u.procedures k.1)))

kept_units : (names : Names) (scopes : List Scope) (scope : ℕ) (us : List UnitTree) → list_all is_unit_distinct us ≡ true
    → map kept (flat_map (unit_natures names) (units_from scopes scope us)) ≡ flat_map (unit_natures names) (units_from scopes scope us)
kept_units names scopes scope [] h = refl
kept_units names scopes scope (u ∷ us) h =
    let k = and_true (is_unit_distinct u) (list_all is_unit_distinct us) h in
    split2 (unit_natures names (numbered scopes scope u)) (flat_map (unit_natures names) (units_from scopes (scope + length (unit_scopes scope u)) us))
    (kept_unit names scopes scope u k.0) (kept_units names scopes (scope + length (unit_scopes scope u)) us k.1)

pub kept_all : (names : Names) (t : Tree) → HasDistinctParts t → map kept (natures_of names t) ≡ natures_of names t
kept_all names t h = kept_units names (scopes_of t) 0 t.units h
