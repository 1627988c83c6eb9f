-- SUBROUTINE, FUNCTION and TYPE are spelled in one way.
use Rattle.std.proofs.Common.{◌≡◌, List, [], ◌∷◌, Option, Some, None, refl, sym, ap, subst, ◌∙◌, inl, inr}
use Rattle.std.proofs.lemmas.Bool.{true≢false}
use Rattle.f3_places.specs.declared.source.Place.{Place}
use Rattle.f3_tree.specs.declared.expression.Name.{Name as Identifier}
use Rattle.f3_tree.specs.declared.declaration.Accessibility.{Accessibility}
use Rattle.f3_tree.specs.declared.declaration.TypeSpecifier.{TypeSpecifier}
use Rattle.f3_tree.specs.declared.program.ProcedureKind.{ProcedureKind}
use Rattle.f3_tree.specs.declared.program.ProcedureKind.TheVariants as procedure_kind
use Rattle.f3_tree.specs.Tree.{HeaderTree}
use Rattle.f3_words.specs.declared.item.Keyword.{Keyword}
use Rattle.f3_words.specs.declared.item.Keyword.TheVariants as keyword
use Rattle.f3_words.specs.declared.item.Word.TheVariants as word
use Rattle.f3_words.specs.declared.item.Item.{Item}
use Rattle.f3_reading.specs.Parts.{Lacks}
use Rattle.f3_reading.specs.Names.{EatsEnclosedName, EatsNames, IsName}
use Rattle.f3_reading.specs.Laws.{IsOne, IsOneWhole}
use Rattle.f3_reading.proofs.Words.{lacked}
use Rattle.f3_reading.proofs.Ones.{names, enclosed_names, names_or_none, colons, whole_names, enclosed, perhaps}
use Rattle.f3_declarations.specs.declared.procedures.Prefix.{Prefix}
use Rattle.f3_declarations.specs.declared.procedures.Prefix.TheVariants as prefix
use Rattle.f3_declarations.specs.declared.procedures.Prefixes.{Prefixes}
use Rattle.f3_declarations.specs.Specifications.{EatsTyped, EatsPrefixOf, EatsPrefix, ArePrefixes, no_prefix, with_prefixes, EatsPrefixes, EatsDummies, IsDummiesPerhaps, EatsResultPerhaps, IsSubroutine, IsFunction, IsProcedureOf, IsProcedureBehind, IsHeader, access_of, EatsAccess, EatsTypeAccess, IsTypeBegin}
use Rattle.f3_grammar_laws.proofs.Parts.{ap2, ap3, along, whole_along, sign, sign_along, front, at_keyword, at_keyword_whole}
use Rattle.f3_grammar_laws.proofs.Declarations.{specifier_of}

-- ---- prefixes

typed : (k : Keyword) → IsOne (EatsTyped k)
unfolding EatsTyped
typed k x y ts r s a b =
    let o = specifier_of k a.0 b.0 ts r s a.1 b.1 in
    (a.2 ∙ ap (λ (z : TypeSpecifier). prefix.Typed z) o.0 ∙ sym b.2, o.1)

prefix_of : (k : Keyword) → IsOne (EatsPrefixOf k)
prefix_of keyword.Pure x y ts r s a b = (a.1 ∙ sym b.1, sym a.0 ∙ b.0)
prefix_of keyword.Recursive x y ts r s a b = (a.1 ∙ sym b.1, sym a.0 ∙ b.0)
prefix_of k x y ts r s a b = typed k x y ts r s a b

prefixes_at : IsOne EatsPrefix
unfolding EatsPrefix
prefixes_at x y ts r s a b =
    let o = at_keyword EatsPrefixOf prefix_of x y a.0 b.0 a.1 b.1 a.2 b.2 ts r s a.3 a.4 a.5 b.3 b.4 b.5 in
    (o.1, o.2)

prefix_lists : IsOne ArePrefixes
unfolding ArePrefixes
prefix_lists [] [] ts r s a b = (refl, sym a.0 ∙ b.0)
prefix_lists [] (y ∷ ys) ts r s a b = absurd (true≢false (sym b.1 ∙ a.1))
prefix_lists (x ∷ xs) [] ts r s a b = absurd (true≢false (sym a.1 ∙ b.1))
prefix_lists (x ∷ xs) (y ∷ ys) ts r s a b =
    let first = prefixes_at x y ts a.0 b.0 a.2 b.2 in
    let rest = prefix_lists xs ys b.0 r s (subst (λ (l : List Item). ArePrefixes xs l r) first.1 a.3) b.3 in
    (ap2 (λ (z : Prefix) (zs : List Prefix). z ∷ zs) first.0 rest.0, rest.1)

all_prefixes : IsOne EatsPrefixes
unfolding EatsPrefixes
all_prefixes p q ts r s a b =
    let o = prefix_lists a.0 b.0 ts r s a.1 b.1 in
    let same : Some p ≡ Some q = sym a.2 ∙ ap (with_prefixes no_prefix) o.0 ∙ b.2 in
    (cc, o.1)

-- ---- headers

dummies : IsOne EatsDummies
unfolding EatsDummies
dummies xs ys ts r s a b = enclosed EatsNames names_or_none xs ys ts r s a b

dummies_perhaps : IsOneWhole IsDummiesPerhaps
unfolding IsDummiesPerhaps
dummies_perhaps xs ys ts (inl a) (inl b) = a.1 ∙ sym b.1
dummies_perhaps xs ys ts (inl a) (inr b) = absurd (b.0 a.0)
dummies_perhaps xs ys ts (inr a) (inl b) = absurd (a.0 b.0)
dummies_perhaps xs ys ts (inr a) (inr b) = (dummies xs ys ts [] [] a.1 b.1).0

results_perhaps : IsOne EatsResultPerhaps
unfolding EatsResultPerhaps
results_perhaps x y ts r s a b = perhaps (word.Name keyword.ResultWord) EatsEnclosedName enclosed_names x y ts r s a b

abbrev header_of : Place → Prefixes → ProcedureKind → Identifier → List Identifier → HeaderTree
header_of place p kind n ns = record { place = place; pure = p.pure; recursive = p.recursive; kind = kind; name = n; dummies = ns }

subroutines : (place : Place) (p : Prefixes) → IsOneWhole (IsSubroutine place p)
unfolding IsSubroutine
subroutines place p x y ts a b =
    let n = names a.0 b.0 ts a.2 b.2 a.4 b.4 in
    let ns = whole_along IsDummiesPerhaps dummies_perhaps a.1 b.1 a.2 b.2 n.1 a.5 b.5 in
    a.6 ∙ ap2 (header_of place p procedure_kind.Subroutine) n.0 ns ∙ sym b.6

abbrev function_of : Place → Prefixes → Identifier → List Identifier → Option Identifier → HeaderTree
function_of place p n ns outcome = header_of place p (procedure_kind.Function p.specifier outcome) n ns

functions : (place : Place) (p : Prefixes) → IsOneWhole (IsFunction place p)
unfolding IsFunction
functions place p x y ts a b =
    let n = names a.0 b.0 ts a.3 b.3 a.5 b.5 in
    let ns = along EatsDummies dummies a.1 b.1 a.3 b.3 a.4 b.4 n.1 a.6 b.6 in
    let outcome = along EatsResultPerhaps results_perhaps a.2 b.2 a.4 b.4 [] [] ns.1 a.7 b.7 in
    a.8 ∙ ap3 (function_of place p) n.0 ns.0 outcome.0 ∙ sym b.8

procedure_of : (place : Place) (p : Prefixes) (k : Keyword) → IsOneWhole (IsProcedureOf k place p)
procedure_of place p keyword.Subroutine x y ts a b = subroutines place p x y ts a b
procedure_of place p keyword.Function x y ts a b = functions place p x y ts a b
procedure_of place p k x y ts a b = absurd a

procedures_behind : (place : Place) (p : Prefixes) → IsOneWhole (IsProcedureBehind place p)
unfolding IsProcedureBehind
procedures_behind place p x y ts a b =
    at_keyword_whole (λ k h us. IsProcedureOf k place p h us) (procedure_of place p) x y a.0 b.0 a.1 b.1 a.2 b.2 ts a.3 a.4 a.5 b.3 b.4 b.5

pub headers : (place : Place) → IsOneWhole (IsHeader place)
unfolding IsHeader
headers place x y ts a b =
    let p = all_prefixes a.0 b.0 ts a.1 b.1 a.2 b.2 in
    whole_along (IsProcedureBehind place b.0) (procedures_behind place b.0) x y a.1 b.1 p.1 (subst (λ (q : Prefixes). IsProcedureBehind place q x a.1) p.0 a.3) b.3

-- ---- derived types

abbrev placed_access : Place → Accessibility → Place × Accessibility
placed_access p a = (p, a)

accesses_at : IsOne EatsAccess
unfolding EatsAccess
accesses_at x y ts r s a b =
    let f = front ts a.0 b.0 r s a.2 b.2 in
    let kinds : Some a.1 ≡ Some b.1 = sym a.3 ∙ ap (λ (i : Item). access_of i.word) f.0 ∙ b.3 in
    let kind : a.1 ≡ b.1 = cc in
    (a.4 ∙ ap2 placed_access (ap (λ (i : Item). i.place) f.0) kind ∙ sym b.4, f.1)

type_accesses : IsOne EatsTypeAccess
unfolding EatsTypeAccess
type_accesses x y ts r s a b =
    let comma = sign word.Comma ts a.0 b.0 a.2 b.2 in
    let access = along EatsAccess accesses_at x y a.0 b.0 a.1 b.1 comma a.3 b.3 in
    (access.0, sign_along word.Colons a.1 b.1 r s access.1 a.4 b.4)

not_accessed : (x : Place × Accessibility) (ts r : List Item) → Lacks word.Comma ts → EatsTypeAccess x ts r → ⊥
unfolding EatsTypeAccess
not_accessed x ts r none h = lacked word.Comma ts h.0 none h.2

pub type_begins : (x y : Option (Place × Accessibility)) (n m : Identifier) (ts : List Item) → IsTypeBegin x n ts → IsTypeBegin y m ts → (x ≡ y) × (n ≡ m)
unfolding IsTypeBegin
type_begins None None n m ts a b =
    let c = colons a.0 b.0 ts a.1 b.1 a.3 b.3 in
    (refl, whole_along IsName whole_names n m a.1 b.1 c.1 a.4 b.4)
type_begins None (Some y) n m ts a b = absurd (not_accessed y ts b.0 a.2 b.1)
type_begins (Some x) None n m ts a b = absurd (not_accessed x ts a.0 b.2 a.1)
type_begins (Some x) (Some y) n m ts a b =
    let access = type_accesses x y ts a.0 b.0 a.1 b.1 in
    (ap (λ (z : Place × Accessibility). Some z) access.0, whole_along IsName whole_names n m a.0 b.0 access.1 a.2 b.2)
