-- The entities of the tables of names, and what the rules on definitions ask of them, beside what declares them.
use Rattle.std.proofs.Common.{◌≡◌, ℕ, zero, suc, ◌+◌, ◌<◌, ◌≤◌, List, [], ◌∷◌, length, take, map, Some, refl, sym, ap, ◌∙◌, arith}
use Rattle.std.specs.Prelude.{slice_get, nat_eq}
use Rattle.std.specs.List.{list_any}
use Rattle.std.proofs.lemmas.List.{length-append, length-map, take_all}
use Rattle.std.proofs.lemmas.Option.{slice_get_within}
use mathlib.Core.Path.{subst}
use Rattle.f3_access.specs.Access.{entities_of, first_entity}
use Rattle.f3_scopes.specs.Outlines.{Own, Scope}
use Rattle.f3_scopes.specs.Scopes.{scopes_of}
use Rattle.f3_tree.specs.declared.expression.Name.{Name}
use Rattle.f3_tree.specs.Tree.{Tree}
use Rattle.f3_type_rules.specs.Scene.{holder, holders_from}
use Rattle.f3_phase_laws.specs.Numbers.{units_of}
use Rattle.f3_lawful_laws.proofs.Facts.{nothing, same}
use Rattle.f3_lawful_laws.proofs.Opening.{at_front, at_back, mapped_at, from_mapped, holder_at}
use Rattle.f3_lawful_laws.proofs.Trees.{all_lie}
use Rattle.f3_lawful_laws.proofs.Ascending.{first_next, first_grows}
use Rattle.f3_entity_laws.specs.Things.{number_of, Thing, name, type, procedure, result, associate, things_of, scope_of, own_of, IsScopeOf, IsHolderOf}
use Rattle.f3_entity_laws.specs.Laws.{ThingsAreOfProgram, EntitiesAreThings, ThingsStand, ThingsAreDeclared, DeclaredAreThings, KindsAreThings, HomesAreScopes}
use Rattle.f3_entity_laws.specs.Laws.{ThingsHaveHolders, HoldersAreThings}
use Rattle.f3_entity_laws.proofs.Lists.{there, alike}
use Rattle.f3_entity_laws.proofs.Where.{units_end}
use Rattle.f3_entity_laws.proofs.Stands.{where_is, of_where, stands_where, home_there}

pub of_program : ThingsAreOfProgram
of_program t e g at = of_where t e g (where_is t e g at)

pub homes : HomesAreScopes
homes t h home = home_there t h home

pub stand : ThingsStand
stand t e g at = stands_where t e g (where_is t e g at)

pub declared : ThingsAreDeclared
declared t e g at = let s = stand t e g at in (s.scope, s.place, own_of g, s.there, s.declared, refl, s.number)

-- ---- as many

entity_at : (scopes : List Scope) (k : ℕ) (s : Scope) (j : ℕ) (d : Own) → slice_get scopes k ≡ Some s → slice_get s.declared j ≡ Some d
    → slice_get (entities_of scopes) (first_entity scopes k + j) ≡ Some d
entity_at [] k s j d at own = nothing at
entity_at (z ∷ zs) zero s j d at own =
    ap (slice_get (entities_of (z ∷ zs))) (let e : 0 + j ≡ j = omega arith in e)
    ∙ at_front z.declared (entities_of zs) j d (subst (λ (s : Scope). slice_get s.declared j ≡ Some d) (sym (same at)) own)
entity_at (z ∷ zs) (suc k) s j d at own =
    let split = length-append z.declared (entities_of (take k zs)) in
    ap (slice_get (entities_of (z ∷ zs))) (let e : first_entity (z ∷ zs) (suc k) + j ≡ length z.declared + (first_entity zs k + j) = omega (arith, split) in e)
    ∙ at_back z.declared (entities_of zs) (first_entity zs k + j) d (entity_at zs k s j d at own)

things_long : (t : Tree) → length (entities_of (scopes_of t)) ≡ length (things_of (units_of t))
things_long t =
    let scopes : List Scope = scopes_of t in
    let ends = units_end scopes 0 t.units (all_lie scopes) in
    let all : first_entity scopes (0 + length scopes) ≡ length (entities_of scopes) =
    ap (λ l. length (entities_of l)) (take_all (0 + length scopes) scopes (let a : length scopes ≤ 0 + length scopes = omega arith in a)) in
    omega (arith, ends, all)

entity_of_thing : (t : Tree) (e : ℕ) (g : Thing) → slice_get (things_of (units_of t)) e ≡ Some g → slice_get (entities_of (scopes_of t)) e ≡ Some (own_of g)
entity_of_thing t e g at =
    let s = stand t e g at in
    ap (slice_get (entities_of (scopes_of t))) (sym s.number) ∙ entity_at (scopes_of t) (scope_of g) s.scope s.place (own_of g) s.there s.declared

pub entities : EntitiesAreThings
entities t =
    sym (alike (map own_of (things_of (units_of t))) (entities_of (scopes_of t)) (length-map (things_of (units_of t)) own_of ∙ sym (things_long t))
    (λ k d at.
    let found = from_mapped own_of (things_of (units_of t)) k d at in
    entity_of_thing t k found.0 found.1 ∙ ap Some found.2))

pub kinds : KindsAreThings
kinds t look e g at = mapped_at (λ (d : Own). d.kind) (entities_of (scopes_of t)) e (own_of g) (entity_of_thing t e g at)

-- ---- declarations

-- the numbers of what two scopes declare differ
scope_alone : (scopes : List Scope) (a b : ℕ) (s r : Scope) (i j : ℕ) → slice_get scopes a ≡ Some s → slice_get scopes b ≡ Some r → i < length s.declared
    → j < length r.declared → first_entity scopes a + i ≡ first_entity scopes b + j → (a < b → ⊥)
scope_alone scopes a b s r i j at there low high e lt =
    let next = first_next scopes a s at in
    let grows : first_entity scopes (suc a) ≤ first_entity scopes b = first_grows scopes (suc a) b lt in
    omega (arith, next, grows, low, e)

one_scope : (scopes : List Scope) (a b : ℕ) (s r : Scope) (i j : ℕ) → slice_get scopes a ≡ Some s → slice_get scopes b ≡ Some r → i < length s.declared
    → j < length r.declared → first_entity scopes a + i ≡ first_entity scopes b + j → a ≡ b
one_scope scopes a b s r i j at there low high e =
    let one : a < b → ⊥ = scope_alone scopes a b s r i j at there low high e in
    let two : b < a → ⊥ = scope_alone scopes b a r s j i there at high low (sym e) in
    omega (arith, one, two)

pub things : DeclaredAreThings
things t scope symbol e d =
    let scopes : List Scope = scopes_of t in
    let found : slice_get (entities_of scopes) e ≡ Some d.2 = ap (slice_get (entities_of scopes)) (sym d.6) ∙ entity_at scopes scope d.0 d.1 d.2 d.3 d.4 in
    let mapped = from_mapped own_of (things_of (units_of t)) e d.2 (ap (λ l. slice_get l e) (sym (entities t)) ∙ found) in
    let s = stand t e mapped.0 mapped.1 in (
      mapped.0,
      mapped.1,
      one_scope scopes (scope_of mapped.0) scope s.scope d.0 s.place d.1 s.there d.3 (slice_get_within s.scope.declared s.place (own_of mapped.0) s.declared)
          (slice_get_within d.0.declared d.1 d.2 d.4) (s.number ∙ sym d.6),
      ap (λ (o : Own). (o.name).symbol) mapped.2 ∙ d.5,
    )

-- ---- holders

holder_is : (g : Thing) (s : Scope) → IsScopeOf g s → IsHolderOf g (holder (scope_of g) s (own_of g))
holder_is (name h x) s is = ap (λ z. holder (number_of h) z (own_of (name h x))) is
holder_is (type h x) s is = ap (λ z. holder (number_of h) z (own_of (type h x))) is
holder_is (procedure u m) s is = ap (λ z. holder u.scope z (own_of (procedure u m))) is
holder_is (result u m o) s is = ap (λ z. holder m.scope z (own_of (result u m o))) is
holder_is (associate h n x) s is = (refl, ap (λ l. list_any (λ (p : Name). nat_eq p.symbol (x.name).symbol) l) is.1, refl)

pub holders_of : ThingsHaveHolders
holders_of t e g at =
    let s = stand t e g at in
    let scopes : List Scope = scopes_of t in (
      holder (scope_of g) s.scope (own_of g),
      ap (slice_get (holders_from 0 scopes)) (sym s.number) ∙ holder_at 0 scopes (scope_of g) s.scope s.place (own_of g) s.there s.declared
          ∙ ap (λ n. Some (holder n s.scope (own_of g))) (let a : 0 + scope_of g ≡ scope_of g = omega arith in a),
      holder_is g s.scope s.is,
    )

holders_long : (n : ℕ) (scopes : List Scope) → length (holders_from n scopes) ≡ length (entities_of scopes)
holders_long n [] = refl
holders_long n (s ∷ ss) =
    let rest = holders_long (n + 1) ss in
    let one = length-append (map (holder n s) s.declared) (holders_from (n + 1) ss) in
    let two = length-map s.declared (holder n s) in
    let three = length-append s.declared (entities_of ss) in
    omega (arith, rest, one, two, three)

pub holders : HoldersAreThings
holders t e k at =
    let scopes : List Scope = scopes_of t in
    let lt = slice_get_within (holders_from 0 scopes) e k at in
    let one = holders_long 0 scopes in
    let two = things_long t in
    let found = there (things_of (units_of t)) e (omega (arith, lt, one, two)) in
    let held = holders_of t e found.0 found.1 in
    (found.0, found.1, subst (IsHolderOf found.0) (same (sym held.1 ∙ at)) held.2)
