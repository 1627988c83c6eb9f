-- Components of types, as variables one after another.
use Rattle.std.proofs.Common.{◌≡◌, ℕ, zero, suc, ◌+◌, ◌<◌, List, [], ◌∷◌, ◌++◌, length, take, drop, get_or, refl, sym, ap, subst, ◌∙◌, arith, add-one}
use Rattle.f3_program.specs.declared.declarations.Base.{Base}
use Rattle.f3_program.specs.declared.declarations.Base.TheVariants as base
use Rattle.f3_program.specs.declared.declarations.Component.{Component}
use Rattle.f3_program.specs.declared.declarations.Declared.{Declared}
use Rattle.f3_program.specs.declared.declarations.Derived.{Derived}
use Rattle.f3_meaning_whole.specs.Shape.{Shape, Record, shape_in, shapes_of, parts_in}
use Rattle.f3_rooms.specs.Forms.{words_for, words_for_parts, room, total}
use Rattle.f3_room_places.proofs.Trees.{tree_is}
use Rattle.f3_room_levels.specs.Initial.{declared_each, object_words, parts_words, variable_words, initial_words, TypeCanBegin, PartsCanBegin, AllCanBegin}

pub parts_total : (ts : List Shape) (cs : List Component) → words_for_parts (parts_in ts cs) ≡ total ts (declared_each cs)
parts_total ts [] = refl
parts_total ts (c ∷ cs) = ap (λ n. room ts c.declared + n) (parts_total ts cs)

pub parts_initial : (ts : List Shape) (cs : List Component) → parts_words (parts_in ts cs) ≡ initial_words ts (declared_each cs)
parts_initial ts [] = refl
parts_initial ts (c ∷ cs) = ap (λ ws. variable_words ts c.declared ++ ws) (parts_initial ts cs)

pub parts_can : (ts : List Shape) (cs : List Component) → PartsCanBegin (parts_in ts cs) → AllCanBegin ts (declared_each cs)
parts_can ts [] can = tt
parts_can ts (c ∷ cs) can = (can.0, can.1, parts_can ts cs can.2)

can_parts : (ts : List Shape) (cs : List Component) → AllCanBegin ts (declared_each cs) → PartsCanBegin (parts_in ts cs)
can_parts ts [] can = tt
can_parts ts (c ∷ cs) can = (can.0, can.1, can_parts ts cs can.2)

-- a type that is there
module _ (xs : List Derived) (of : Base) (t : ℕ) (x d : Derived) (cs : List Component) (is : of ≡ base.Derived t) (lt : t < length xs) (e : x ≡ get_or xs t d) (its : cs ≡ x.components.items) where
  pub tree_of : shape_in (shapes_of xs) of ≡ Record t (parts_in (shapes_of (take t xs)) cs)
  tree_of = ap (shape_in (shapes_of xs)) is ∙ tree_is xs t x d lt e ∙ ap (λ ys. Record t (parts_in (shapes_of (take t xs)) ys)) (sym its)

  pub type_total : words_for (shape_in (shapes_of xs) of) ≡ total (shapes_of (take t xs)) (declared_each cs)
  type_total = ap words_for tree_of ∙ parts_total (shapes_of (take t xs)) cs

  pub type_initial : object_words (shape_in (shapes_of xs) of) ≡ initial_words (shapes_of (take t xs)) (declared_each cs)
  type_initial = ap object_words tree_of ∙ parts_initial (shapes_of (take t xs)) cs

  pub type_can : TypeCanBegin (shape_in (shapes_of xs) of) → AllCanBegin (shapes_of (take t xs)) (declared_each cs)
  type_can can = parts_can (shapes_of (take t xs)) cs (subst TypeCanBegin tree_of can)

  pub can_type : AllCanBegin (shapes_of (take t xs)) (declared_each cs) → TypeCanBegin (shape_in (shapes_of xs) of)
  can_type can = subst TypeCanBegin (sym tree_of) (can_parts (shapes_of (take t xs)) cs can)

-- the component of a number, in front of those behind it
pub drop_part : (cs : List Component) (i : ℕ) (c : Component) → i < length cs → c ≡ get_or cs i c
    → drop i (declared_each cs) ≡ c.declared ∷ drop (i + 1) (declared_each cs)
drop_part cs i c lt is = rw add-one (by cs i lt is)
  where
    by : (xs : List Component) (k : ℕ) → k < length xs → c ≡ get_or xs k c → drop k (declared_each xs) ≡ c.declared ∷ drop (suc k) (declared_each xs)
    by [] k l e = absurd (omega arith)
    by (x ∷ xs) zero l e = ap (λ (y : Component). y.declared ∷ declared_each xs) (sym e)
    by (x ∷ xs) (suc k) l e = by xs k (omega arith) e

pub drop_variable : (ds : List Declared) (i : ℕ) (d : Declared) → i < length ds → d ≡ get_or ds i d → drop i ds ≡ d ∷ drop (i + 1) ds
drop_variable ds i d lt is = rw add-one (by ds i lt is)
  where
    by : (xs : List Declared) (k : ℕ) → k < length xs → d ≡ get_or xs k d → drop k xs ≡ d ∷ drop (suc k) xs
    by [] k l e = absurd (omega arith)
    by (x ∷ xs) zero l e = ap (λ y. y ∷ xs) (sym e)
    by (x ∷ xs) (suc k) l e = by xs k (omega arith) e

pub many_parts : (cs : List Component) → length (declared_each cs) ≡ length cs
many_parts [] = refl
many_parts (c ∷ cs) = ap suc (many_parts cs)
