-- Where no name of an ASSOCIATE construct stands again, each stands once.
use Rattle.std.proofs.Common.{◌≡◌, ℕ, zero, suc, List, [], ◌∷◌, ◌++◌, map, Some, refl, sym, ap, subst, ◌∙◌}
use Rattle.std.specs.Prelude.{slice_get}
use Rattle.f3_rules.specs.declared.breaks.Break.{Break}
use Rattle.f3_rules.specs.declared.rule.Rule.TheVariants.{N3}
use Rattle.f3_tree.specs.declared.expression.Name.{Name}
use Rattle.f3_tree.specs.Statements.{AssociationTree}
use Rattle.f3_scopes.specs.Outlines.{Own, Scope}
use Rattle.f3_scopes.specs.Scopes.{association_own, scope_of_construct}
use Rattle.f3_scope_rules.specs.ScopeBreaks.{at, Again, DeclaredTwice, BreaksOf}
use Rattle.f3_scope_rules.specs.Laws.{associate_names}
use Rattle.f3_lawful_laws.specs.Blocks.{AreOnce}
use Rattle.f3_spelled_laws.proofs.Lists.{first_in, later_in}

-- no name of the list stands behind the same name
abbrev NoneAgain : List Name → Type 0
NoneAgain ns = (later : Name) → Again ns later → ⊥

again_behind : (n : Name) (ns : List Name) (later : Name) → Again ns later → Again (n ∷ ns) later
again_behind n ns later (front, others, is, earlier, there, same) =
    (n ∷ front, others, ap (λ (l : List Name). n ∷ l) is, earlier, later_in n front earlier there, same)

-- a name that stands in the list is behind some of it
stands : (xs : List AssociationTree) (k : ℕ) (x : AssociationTree) → slice_get xs k ≡ Some x
    → (front : List Name) × (others : List Name) × (associate_names xs ≡ front ++ x.name ∷ others)
stands [] k x e = absurd (cc)
stands (y ∷ ys) zero x e =
    let same : y ≡ x = cc in
    ([], associate_names ys, ap (λ (z : AssociationTree). z.name ∷ associate_names ys) same)
stands (y ∷ ys) (suc k) x e =
    let r = stands ys k x e in (y.name ∷ r.0, r.1, ap (λ (l : List Name). y.name ∷ l) r.2)

-- the first stands again
first_again : (y : AssociationTree) (ys : List AssociationTree) (k : ℕ) (x : AssociationTree) → slice_get ys k ≡ Some x → (y.name).symbol ≡ (x.name).symbol
    → Again (associate_names (y ∷ ys)) x.name
first_again y ys k x e same =
    let r = stands ys k x e in
    (y.name ∷ r.0, r.1, ap (λ (l : List Name). y.name ∷ l) r.2, y.name, first_in y.name r.0, same)

names_once : (xs : List AssociationTree) → NoneAgain (associate_names xs) → AreOnce xs
names_once [] none j k x y ex ey same = absurd (cc)
names_once (z ∷ zs) none zero zero x y ex ey same = refl
names_once (z ∷ zs) none zero (suc k) x y ex ey same =
    let first : z ≡ x = cc in
    absurd (none y.name (first_again z zs k y ey (ap (λ (a : AssociationTree). (a.name).symbol) first ∙ same)))
names_once (z ∷ zs) none (suc j) zero x y ex ey same =
    let first : z ≡ y = cc in
    absurd (none x.name (first_again z zs j x ex (ap (λ (a : AssociationTree). (a.name).symbol) first ∙ sym same)))
names_once (z ∷ zs) none (suc j) (suc k) x y ex ey same =
    ap suc (names_once zs (λ later a. none later (again_behind z.name (associate_names zs) later a)) j k x y ex ey same)

-- a scope that breaks no rule on what it declares
abbrev pub IsUnbroken : Scope → Type 0
IsUnbroken scope = (b : Break) → BreaksOf scope b → ⊥

declared : (xs : List AssociationTree) → map (λ (d : Own). d.name) (map association_own xs) ≡ associate_names xs
declared [] = refl
declared (x ∷ xs) = ap (λ (l : List Name). x.name ∷ l) (declared xs)

pub construct_once : (host : ℕ) (around : Name) (xs : List AssociationTree) → IsUnbroken (scope_of_construct host around xs) → AreOnce xs
construct_once host around xs none =
    names_once xs (λ later a.
    none (at N3 later) (BreaksOf.declared_twice (DeclaredTwice.in_declarations later (subst (λ (ns : List Name). Again ns later) (sym (declared xs)) a) refl)))
