-- Tests of initial values.
use Rattle.std.proofs.Common.{◌≡◌, ℕ, zero, suc, ◌+◌, ◌<◌, ◌≤◌, Bool, true, false, nat_le, ℤ, List, [], ◌∷◌, length, drop, take, get_or, refl, sym, ap, subst, ◌∙◌, arith}
use Rattle.std.proofs.lemmas.Bool.{leb-true}
use Rattle.std.proofs.lemmas.List.{drop_more}
use Rattle.std.specs.Prelude.{◌↔◌}
use Rattle.f3_program.specs.declared.declarations.Base.{Base}
use Rattle.f3_program.specs.declared.declarations.Base.TheVariants as base
use Rattle.f3_program.specs.declared.declarations.Constant.{Constant}
use Rattle.f3_program.specs.declared.declarations.Constant.TheVariants as constant
use Rattle.f3_program.specs.declared.declarations.Declared.{Declared}
use Rattle.f3_program.specs.declared.declarations.Derived.{Derived}
use Rattle.f3_meaning_whole.specs.Shape.{Shape, Whole, Record, Parts, shape_in, shapes_of, parts_in}
use Rattle.f3_room_places.proofs.Trees.{tree_is}
use Rattle.f3_room_levels.specs.Initial.{IsOf, AreOf, CanBegin, TypeCanBegin, AllCanBegin}

-- ---- answers

pub yes : {P : Type 0} → P → (true ≡ true) ↔ P
yes p = (λ e. p, λ q. refl)

pub no : {P : Type 0} → (P → ⊥) → (false ≡ true) ↔ P
no h = (λ e. absurd (cc), λ q. absurd (h q))

-- what a test that fails says
pub failed : {P : Type 0} (b : Bool) → (b ≡ true) ↔ P → b ≡ false → P → ⊥
failed b test e p = let f : b ≡ true = test.1 p in absurd (cc)

-- ---- values of a type

-- those that are left are, where all are
abbrev pub AreLeftOf : Shape → List Constant → List Constant → Type 0
AreLeftOf s rest all = AreOf s rest ↔ AreOf s all

module _ (s : Shape) (now rest all : List Constant) (x : Constant) (e : now ≡ x ∷ rest) (left : AreLeftOf s now all) where
  pub of_next : IsOf s x → AreLeftOf s rest all
  of_next is = (λ r. left.0 (subst (AreOf s) (sym e) (is, r)), λ a. (subst (AreOf s) e (left.1 a)).1)

  pub not_of : (IsOf s x → ⊥) → AreOf s all → ⊥
  not_of not a = not (subst (AreOf s) e (left.1 a)).0

pub all_of : (s : Shape) (rest all : List Constant) → rest ≡ [] → AreLeftOf s rest all → AreOf s all
all_of s rest all e left = left.0 (subst (AreOf s) (sym e) tt)

-- the constant of a number
pub drop_constant : (cs : List Constant) (i : ℕ) (d : Constant) → i < length cs → drop i cs ≡ get_or cs i d ∷ drop (i + 1) cs
drop_constant cs i d lt = drop_more cs i d lt

-- ---- what can begin

-- those that are left can, where all can
abbrev pub AllLeft : List Shape → List Declared → List Declared → Type 0
AllLeft ts rest all = AllCanBegin ts rest ↔ AllCanBegin ts all

module _ (ts : List Shape) (now rest all : List Declared) (d : Declared) (e : now ≡ d ∷ rest) (left : AllLeft ts now all) where
  abbrev s : Shape
  s = shape_in ts d.kind.of

  pub can_next : CanBegin s d → TypeCanBegin s → AllLeft ts rest all
  can_next can type = (λ r. left.0 (subst (AllCanBegin ts) (sym e) (can, type, r)), λ a. (subst (AllCanBegin ts) e (left.1 a)).2)

  pub not_can : (CanBegin s d → ⊥) → AllCanBegin ts all → ⊥
  not_can not a = not (subst (AllCanBegin ts) e (left.1 a)).0

  pub not_type : (TypeCanBegin s → ⊥) → AllCanBegin ts all → ⊥
  not_type not a = not (subst (AllCanBegin ts) e (left.1 a)).1

pub all_can : (ts : List Shape) (rest all : List Declared) → rest ≡ [] → AllLeft ts rest all → AllCanBegin ts all
all_can ts rest all e left = left.0 (subst (AllCanBegin ts) (sym e) tt)

-- ---- types

pub scalar_can : (ts : List Shape) (of : Base) → ((t : ℕ) → of ≡ base.Derived t → ⊥) → TypeCanBegin (shape_in ts of)
scalar_can ts base.Integer not = tt
scalar_can ts base.Long not = tt
scalar_can ts base.Logical not = tt
scalar_can ts (base.Derived t) not = absurd (not t refl)

pub whole_can : (s : Shape) → s ≡ Whole → TypeCanBegin s
whole_can s e = subst TypeCanBegin (sym e) tt

-- the scalar of a type that is not there
pub whole_of : (s : Shape) (c : Constant) (z : ℤ) → s ≡ Whole → c ≡ constant.Number z → IsOf s c
whole_of s c z e is = subst (λ r. IsOf r c) (sym e) (subst (IsOf Whole) (sym is) tt)

pub whole_not : (s : Shape) (c : Constant) (b : Bool) → s ≡ Whole → c ≡ constant.Truth b → IsOf s c → ⊥
whole_not s c b e is of = subst (IsOf Whole) is (subst (λ r. IsOf r c) e of)

record_not : (s : Shape) (t : ℕ) (parts : Parts) (c : Constant) → s ≡ Record t parts → IsOf s c → ⊥
record_not s t parts c e of = subst (λ r. IsOf r c) e of

some_there : (xs : List Derived) (t : ℕ) → t < length xs → (x : Derived) × (x ≡ get_or xs t x)
some_there [] t lt = absurd (omega arith)
some_there (x ∷ xs) zero lt = (x, refl)
some_there (x ∷ xs) (suc t) lt = some_there xs t (omega arith)

pub record_of : (xs : List Derived) (of : Base) (t : ℕ) (c : Constant) → of ≡ base.Derived t → t < length xs → (nat_le (length xs) t ≡ true) ↔ IsOf (shape_in (shapes_of xs) of) c
record_of xs of t c is lt =
    let x = some_there xs t lt in
    let e = ap (shape_in (shapes_of xs)) is ∙ tree_is xs t x.0 x.0 lt x.1 in (
      λ e. absurd (let h : length xs ≤ t = leb-true (length xs) t e in omega arith),
      λ o. absurd (record_not (shape_in (shapes_of xs) of) t (parts_in (shapes_of (take t xs)) x.0.components.items) c e o),
    )
