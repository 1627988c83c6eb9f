-- The elaboration's declared names, types, procedures and results, at their places among the things.
use Rattle.std.proofs.Common.{◌≡◌, ℕ, zero, suc, ◌+◌, List, [], ◌∷◌, ◌++◌, length, Some, refl, sym, ap, ◌∙◌, inl, inr, ◌⊎◌, arith}
use Rattle.std.specs.Prelude.{slice_get}
use Rattle.std.specs.List.{flat_map}
use mathlib.Core.Path.{subst}
use Rattle.f3_scopes.specs.Scopes.{declared_in}
use Rattle.f3_tree.specs.Declarations.{EntityTree, DeclarationTree, TypeTree, SpecificationTree, declares, accesses, protects, saves, defines}
use Rattle.f3_type_rules.specs.Members.{Member, Numbered}
use Rattle.f3_type_rules.specs.Names.{Declared}
use Rattle.f3_elaboration.specs.Numbers.{Variable, Definition, declared_from, names_in, types_in, along_part}
use Rattle.f3_lawful_laws.proofs.Facts.{nothing, same}
use Rattle.f3_lawful_laws.proofs.Opening.{at_front, at_back, from_mapped, mapped_at}
use Rattle.f3_entity_laws.specs.Things.{Home, of_unit, of_member, unit_in, number_of, specifications_of, Thing, name, type, procedure, result, associate, things_in}
use Rattle.f3_entity_laws.specs.Things.{part_things, IsAmong}
use Rattle.f3_entity_laws.specs.Laws.{names_at, variable_at, definition_at, NamesAreThings, ThingsAreNames, TypesAreThings, ThingsAreTypes}
use Rattle.f3_entity_laws.specs.Laws.{ProceduresAreThings, ThingsAreProcedures, ResultsAreThings, ThingsAreResults}
use Rattle.f3_entity_laws.proofs.Lists.{split_at}
use Rattle.f3_entity_laws.proofs.Owns.{specification_long}
use Rattle.f3_entity_laws.proofs.Stands.{first_of, InPart, is_name, is_type, in_part, Where, specified, contained, typed, associated, where_is, part_block, procedure_block, result_block}

-- ---- things of different forms differ

abbrev pub tag : Thing → ℕ
tag (name h x) = 0
tag (type h x) = 1
tag (procedure u m) = 2
tag (result u m s) = 3
tag (associate h n x) = 4

abbrev pub tree_or : Declared → Thing → Declared
tree_or y (name h x) = x
tree_or y (type h x) = y
tree_or y (procedure u m) = y
tree_or y (result u m s) = y
tree_or y (associate h n x) = y

abbrev pub home_or : Home → Thing → Home
home_or k (name h x) = h
home_or k (type h x) = h
home_or k (procedure u m) = k
home_or k (result u m s) = k
home_or k (associate h n x) = h

abbrev type_or : TypeTree → Thing → TypeTree
type_or y (name h x) = y
type_or y (type h x) = x
type_or y (procedure u m) = y
type_or y (result u m s) = y
type_or y (associate h n x) = y

abbrev pub member_or : Member → Thing → Member
member_or k (name h x) = k
member_or k (type h x) = k
member_or k (procedure u m) = m
member_or k (result u m s) = m
member_or k (associate h n x) = k

-- ---- along a specification part

module _ {X : Type 0} (h : Home) (f : ℕ → SpecificationTree → List X) (entity : X → ℕ) (thing : X → Thing) (IsGood : X → Type 0) where
  -- an item of what is listed: its thing stands in the part at a place that its number tells
  pub record IsListed (e : ℕ) (gs : List Thing) (x : X) : Type 0 where
    pub place : ℕ
    pub number : entity x ≡ e + place
    pub at : slice_get gs place ≡ Some (thing x)
    pub good : IsGood x

  listed : ((e : ℕ) (s : SpecificationTree) (i : ℕ) (x : X) → slice_get (f e s) i ≡ Some x → IsListed e (things_in h s) x)
      → (e : ℕ) (ss : List SpecificationTree) (i : ℕ) (x : X) → slice_get (along_part f e ss) i ≡ Some x → IsListed e (flat_map (things_in h) ss) x
  listed one e [] i x at = nothing at
  listed one e (s ∷ ss) i x at = elim (split_at (f e s) (along_part f (e + length (declared_in s)) ss) i x at) [
    | inl a ↦
        let r = one e s i x a in
        record { place = r.place; number = r.number; at = at_front (things_in h s) (flat_map (things_in h) ss) r.place (thing x) r.at; good = r.good }
    | inr b ↦
        let r = listed one (e + length (declared_in s)) ss b.0 x b.1 in
        let long = specification_long h s in
        let number : entity x ≡ e + length (declared_in s) + r.place = r.number in record {
          place = length (things_in h s) + r.place;
          number = omega (arith, long, number);
          at = at_back (things_in h s) (flat_map (things_in h) ss) r.place (thing x) r.at;
          good = r.good;
        }
  ]

among_front : {X : Type 0} (xs ys : List X) (x : X) → IsAmong xs x → IsAmong (xs ++ ys) x
among_front xs ys x a = (a.0, at_front xs ys a.0 x a.1)

among_back : {X : Type 0} (xs ys : List X) (x : X) → IsAmong ys x → IsAmong (xs ++ ys) x
among_back xs ys x a = (length xs + a.0, at_back xs ys a.0 x a.1)

module _ {X Y : Type 0} (h : Home) (f : ℕ → SpecificationTree → List X) where
  -- each thing of this form has its item
  itemized : (item : ℕ → Y → X) (made : Y → Thing)
      → ((e : ℕ) (s : SpecificationTree) (k : ℕ) (y : Y) → slice_get (things_in h s) k ≡ Some (made y) → IsAmong (f e s) (item (e + k) y))
      → (e : ℕ) (ss : List SpecificationTree) (k : ℕ) (y : Y) → slice_get (flat_map (things_in h) ss) k ≡ Some (made y) → IsAmong (along_part f e ss) (item (e + k) y)
  itemized item made one e [] k y at = nothing at
  itemized item made one e (s ∷ ss) k y at =
      let next : ℕ = e + length (declared_in s) in
      elim (split_at (things_in h s) (flat_map (things_in h) ss) k (made y) at) [
        | inl a ↦ among_front (f e s) (along_part f next ss) (item (e + k) y) (one e s k y a)
        | inr b ↦
            let long = specification_long h s in
            let place : k ≡ length (things_in h s) + b.0 = b.2 in
            subst (λ n. IsAmong (along_part f e (s ∷ ss)) (item n y)) (let z : next + b.0 ≡ e + k = omega (arith, long, place) in z)
            (among_back (f e s) (along_part f next ss) (item (next + b.0) y) (itemized item made one next ss b.0 y b.1))
      ]

-- ---- declared names

declared_at : (h : Home) (e : ℕ) (d : DeclarationTree) (xs : List EntityTree) (i : ℕ) (v : Variable)
    → slice_get (declared_from (unit_in h).scope (number_of h) e d xs) i ≡ Some v
    → (x : EntityTree) × (slice_get xs i ≡ Some x) × (v ≡ variable_at h (e + i) (d, x))
declared_at h e d [] i v at = nothing at
declared_at h e d (x ∷ xs) zero v at = (x, refl, sym (same at) ∙ ap (λ n. variable_at h n (d, x)) (let z : e ≡ e + 0 = omega arith in z))
declared_at h e d (x ∷ xs) (suc i) v at =
    let r = declared_at h (e + 1) d xs i v at in
    (r.0, r.1, r.2 ∙ ap (λ n. variable_at h n (d, r.0)) (let z : e + 1 + i ≡ e + suc i = omega arith in z))

declared_there : (h : Home) (e : ℕ) (d : DeclarationTree) (xs : List EntityTree) (i : ℕ) (x : EntityTree) → slice_get xs i ≡ Some x
    → slice_get (declared_from (unit_in h).scope (number_of h) e d xs) i ≡ Some (variable_at h (e + i) (d, x))
declared_there h e d [] i x at = nothing at
declared_there h e d (y ∷ xs) zero x at = ap (λ (n : ℕ). Some (variable_at h n (d, y))) (let z : e ≡ e + 0 = omega arith in z) ∙ ap (λ z. Some (variable_at h (e + 0) (d, z))) (same at)
declared_there h e d (y ∷ xs) (suc i) x at =
    declared_there h (e + 1) d xs i x at ∙ ap (λ n. Some (variable_at h n (d, x))) (let z : e + 1 + i ≡ e + suc i = omega arith in z)

module _ (h : Home) where
  abbrev names : ℕ → SpecificationTree → List Variable
  names e s = names_in (unit_in h).scope (number_of h) e s

  abbrev entity : Variable → ℕ
  entity v = v.entity

  abbrev thing : Variable → Thing
  thing v = name h v.tree

  abbrev IsMade : Variable → Type 0
  IsMade v = v ≡ variable_at h v.entity v.tree

  abbrev Item : ℕ → List Thing → Variable → Type 0
  Item e gs v = IsListed {X = Variable} h names entity thing IsMade e gs v

  one_name : (e : ℕ) (s : SpecificationTree) (i : ℕ) (v : Variable) → slice_get (names e s) i ≡ Some v → Item e (things_in h s) v
  one_name e (declares d) i v at =
      let r = declared_at h e d d.entities i v at in
      let tree : v.tree ≡ (d, r.0) = ap (λ (z : Variable). z.tree) r.2 in
      let number : v.entity ≡ e + i = ap (λ (z : Variable). z.entity) r.2 in record {
        place = i;
        number = number;
        at = mapped_at (λ (x : EntityTree). name h (d, x)) d.entities i r.0 r.1 ∙ ap (λ z. Some (name h z)) (sym tree);
        good = r.2 ∙ ap (λ n. variable_at h n (d, r.0)) (sym number) ∙ ap (variable_at h v.entity) (sym tree);
      }
  one_name e (accesses a) i v at = nothing at
  one_name e (protects p ns) i v at = nothing at
  one_name e (saves p) i v at = nothing at
  one_name e (defines t) i v at = nothing at

  one_item : (e : ℕ) (s : SpecificationTree) (k : ℕ) (y : Declared) → slice_get (things_in h s) k ≡ Some (name h y) → IsAmong (names e s) (variable_at h (e + k) y)
  one_item e (declares d) k y at =
      let r = from_mapped (λ (x : EntityTree). name h (d, x)) d.entities k (name h y) at in
      let tree : (d, r.0) ≡ y = ap (tree_or y) r.2 in
      (k, declared_there h e d d.entities k r.0 r.1 ∙ ap (λ z. Some (variable_at h (e + k) z)) tree)
  one_item e (accesses a) k y at = nothing at
  one_item e (protects p ns) k y at = nothing at
  one_item e (saves p) k y at = nothing at
  one_item e (defines t) zero y at = absurd (let z : 1 ≡ 0 = ap tag (same at) in omega (arith, z))
  one_item e (defines t) (suc k) y at = nothing at

  names_listed : (e : ℕ) (ss : List SpecificationTree) (i : ℕ) (v : Variable) → slice_get (along_part names e ss) i ≡ Some v → Item e (flat_map (things_in h) ss) v
  names_listed = listed {X = Variable} h names entity thing IsMade one_name

  names_itemized : (e : ℕ) (ss : List SpecificationTree) (k : ℕ) (y : Declared) → slice_get (flat_map (things_in h) ss) k ≡ Some (name h y)
      → IsAmong (along_part names e ss) (variable_at h (e + k) y)
  names_itemized = itemized {X = Variable} {Y = Declared} h names (variable_at h) (λ y. name h y) one_item

names_along : (h : Home) → names_at h ≡ along_part (names h) (first_of h) (specifications_of h)
names_along (of_unit u) = refl
names_along (of_member u m) = refl

pub name_things : NamesAreThings
name_things t h v home among =
    let r = names_listed h (first_of h) (specifications_of h) among.0 v (ap (λ l. slice_get l among.0) (sym (names_along h)) ∙ among.1) in
    (r.good, ap (slice_get _) r.number ∙ part_block t h home r.place (name h v.tree) r.at)

-- what stands as a name of a home is of that home's part
own_home : (h k : Home) (g : Thing) → InPart k g → home_or h g ≡ k
own_home h k g (is_name d x s e is) = sym (ap (home_or h) is)
own_home h k g (is_type x s is) = sym (ap (home_or h) is)

name_in : (h k : Home) (x : Declared) (place e : ℕ) → slice_get (part_things k) place ≡ Some (name h x) → e ≡ first_of k + place → IsAmong (names_at h) (variable_at h e x)
name_in h k x place e at number =
    let home : h ≡ k = own_home h k (name h x) (in_part k place (name h x) at) in
    let there : slice_get (part_things h) place ≡ Some (name h x) = ap (λ z. slice_get (part_things z) place) home ∙ at in
    let here : first_of h + place ≡ e = ap (λ z. first_of z + place) home ∙ sym number in
    let r = names_itemized h (first_of h) (specifications_of h) place x there in
    (r.0, ap (λ l. slice_get l r.0) (names_along h) ∙ r.1 ∙ ap (λ n. Some (variable_at h n x)) here)

pub thing_names : ThingsAreNames
thing_names t h e x at = by (where_is t e (name h x) at)
  where
    by : Where t e (name h x) → IsAmong (names_at h) (variable_at h e x)
    by (specified k place home there number) = name_in h k x place e there number
    by (contained u m j among there is number) = absurd (let z : 2 ≡ 0 = ap tag is in omega (arith, z))
    by (typed u m s home there is number) = absurd (let z : 3 ≡ 0 = ap tag is in omega (arith, z))
    by (associated k home c) = absurd (let z : 0 ≡ 4 = ap tag c.is in omega (arith, z))

-- ---- types

module _ (u : Numbered) where
  abbrev type_entity : Definition → ℕ
  type_entity d = d.entity

  abbrev type_thing : Definition → Thing
  type_thing d = type (of_unit u) d.tree

  abbrev IsOfUnit : Definition → Type 0
  IsOfUnit d = d ≡ definition_at u d.entity d.tree

  abbrev TypeItem : ℕ → List Thing → Definition → Type 0
  TypeItem e gs d = IsListed {X = Definition} (of_unit u) (types_in u) type_entity type_thing IsOfUnit e gs d

  one_type : (e : ℕ) (s : SpecificationTree) (i : ℕ) (d : Definition) → slice_get (types_in u e s) i ≡ Some d → TypeItem e (things_in (of_unit u) s) d
  one_type e (declares x) i d at = nothing at
  one_type e (accesses a) i d at = nothing at
  one_type e (protects p ns) i d at = nothing at
  one_type e (saves p) i d at = nothing at
  one_type e (defines x) zero d at =
      subst (TypeItem e (type (of_unit u) x ∷ [])) (same at)
      (record { place = 0; number = (let z : e ≡ e + 0 = omega arith in z); at = refl; good = refl })
  one_type e (defines x) (suc i) d at = nothing at

  one_definition : (e : ℕ) (s : SpecificationTree) (k : ℕ) (y : TypeTree) → slice_get (things_in (of_unit u) s) k ≡ Some (type (of_unit u) y)
      → IsAmong (types_in u e s) (definition_at u (e + k) y)
  one_definition e (declares d) k y at =
      let r = from_mapped (λ (x : EntityTree). name (of_unit u) (d, x)) d.entities k (type (of_unit u) y) at in
      absurd (let z : 0 ≡ 1 = ap tag r.2 in omega (arith, z))
  one_definition e (accesses a) k y at = nothing at
  one_definition e (protects p ns) k y at = nothing at
  one_definition e (saves p) k y at = nothing at
  one_definition e (defines x) zero y at =
      let tree : x ≡ y = ap (type_or y) (same at) in
      (0, ap (λ n. Some (definition_at u n x)) (let z : e ≡ e + 0 = omega arith in z) ∙ ap (λ z. Some (definition_at u (e + 0) z)) tree)
  one_definition e (defines x) (suc k) y at = nothing at

pub type_things : TypesAreThings
type_things t u d home among =
    let r = listed {X = Definition} (of_unit u) (types_in u) (type_entity u) (type_thing u) (IsOfUnit u) (one_type u) u.first ((u.tree).part).specifications among.0 d among.1 in
    (r.good, ap (slice_get _) r.number ∙ part_block t (of_unit u) home r.place (type (of_unit u) d.tree) r.at)

type_in : (u : Numbered) (k : Home) (x : TypeTree) (place e : ℕ) → slice_get (part_things k) place ≡ Some (type (of_unit u) x) → e ≡ first_of k + place
    → IsAmong (along_part (types_in u) u.first ((u.tree).part).specifications) (definition_at u e x)
type_in u k x place e at number =
    let home : of_unit u ≡ k = own_home (of_unit u) k (type (of_unit u) x) (in_part k place (type (of_unit u) x) at) in
    let there : slice_get (part_things (of_unit u)) place ≡ Some (type (of_unit u) x) = ap (λ z. slice_get (part_things z) place) home ∙ at in
    let here : u.first + place ≡ e = ap (λ z. first_of z + place) home ∙ sym number in
    let r = itemized {X = Definition} {Y = TypeTree} (of_unit u) (types_in u) (definition_at u) (λ y. type (of_unit u) y) (one_definition u)
    u.first ((u.tree).part).specifications place x there in
    (r.0, r.1 ∙ ap (λ n. Some (definition_at u n x)) here)

pub thing_types : ThingsAreTypes
thing_types t u e x at = by (where_is t e (type (of_unit u) x) at)
  where
    by : Where t e (type (of_unit u) x) → IsAmong (along_part (types_in u) u.first ((u.tree).part).specifications) (definition_at u e x)
    by (specified k place home there number) = type_in u k x place e there number
    by (contained v m j among there is number) = absurd (let z : 2 ≡ 1 = ap tag is in omega (arith, z))
    by (typed v m s home there is number) = absurd (let z : 3 ≡ 1 = ap tag is in omega (arith, z))
    by (associated k home c) = absurd (let z : 1 ≡ 4 = ap tag c.is in omega (arith, z))

-- ---- procedures and results

part_tag : (k : Home) (g : Thing) → InPart k g → (tag g ≡ 0) ⊎ (tag g ≡ 1)
part_tag k g (is_name d x s e is) = inl (ap tag (sym is))
part_tag k g (is_type x s is) = inr (ap tag (sym is))

pub procedure_things : ProceduresAreThings
procedure_things t u m home = procedure_block t u m home

pub thing_procedures : ThingsAreProcedures
thing_procedures t e u m at = by (where_is t e (procedure u m) at)
  where
    by : Where t e (procedure u m) → m.entity ≡ e
    by (specified k place home there number) = elim (part_tag k (procedure u m) (in_part k place (procedure u m) there)) [
      | inl z ↦ absurd (let y : 2 ≡ 0 = z in omega (arith, y))
      | inr z ↦ absurd (let y : 2 ≡ 1 = z in omega (arith, y))
    ]
    by (contained v k j among there is number) = sym (number ∙ ap (λ (x : Member). x.entity) (ap (member_or m) is))
    by (typed v k s home there is number) = absurd (let z : 3 ≡ 2 = ap tag is in omega (arith, z))
    by (associated k home c) = absurd (let z : 2 ≡ 4 = ap tag c.is in omega (arith, z))

pub result_things : ResultsAreThings
result_things t u m s home is = result_block t u m s home is

pub thing_results : ThingsAreResults
thing_results t e u m s at = by (where_is t e (result u m s) at)
  where
    by : Where t e (result u m s) → m.first ≡ e
    by (specified k place home there number) = elim (part_tag k (result u m s) (in_part k place (result u m s) there)) [
      | inl z ↦ absurd (let y : 3 ≡ 0 = z in omega (arith, y))
      | inr z ↦ absurd (let y : 3 ≡ 1 = z in omega (arith, y))
    ]
    by (contained v k j among there is number) = absurd (let z : 2 ≡ 3 = ap tag is in omega (arith, z))
    by (typed v k o home there is number) = sym (number ∙ ap (λ (x : Member). x.first) (ap (member_or m) is))
    by (associated k home c) = absurd (let z : 3 ≡ 4 = ap tag c.is in omega (arith, z))
