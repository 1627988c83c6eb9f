-- Values of constant expressions, and what hangs on them, are the same where the values of all named constants that are asked are.
use Rattle.std.proofs.Common.{◌≡◌, refl, ℕ, Bool, true, false, not, ◌&&◌, ◌||◌, if◌then◌else◌, List, [], map, Option, None, Some, ap, ◌∙◌}
use Rattle.std.specs.Prelude.{pos, nat_eq}
use Rattle.std.specs.List.{flat_map, list_all}
use Rattle.f3_rules.specs.declared.rule.Rule.TheVariants.{T2}
use Rattle.f3_lookups.specs.declared.lookup.Lookup.{Lookup}
use Rattle.f3_lookups.specs.declared.lookup.Lookup.TheVariants.{One, Nothing, Several}
use Rattle.f3_tree.specs.declared.expression.IntegerKind.TheVariants.{Four}
use Rattle.f3_tree.specs.Expressions.{Tree, integer, truth, text, designator, group, array, signed, negation, comparison, chain, Rest, no_more, more}
use Rattle.f3_tree.specs.Expressions.{Trees, no_trees, trees, Parts, no_parts, parts, bare, within}
use Rattle.f3_tree.specs.Declarations.{Bounds, ShapeTree, explicit, deferred, AttributeTree, dimension}
use Rattle.f3_kinds.specs.declared.types.DataType.{DataType}
use Rattle.f3_kinds.specs.declared.types.DataType.TheVariants.{Integer, Logical, Derived}
use Rattle.f3_kinds.specs.declared.types.Scalar.{Scalar}
use Rattle.f3_kinds.specs.declared.types.Scalar.TheVariants.{Number}
use Rattle.f3_kinds.specs.declared.said.Said.{Said}
use Rattle.f3_kinds.specs.Things.{map_or, Context, look_here}
use Rattle.f3_kinds.specs.Rows.{at_place, unless}
use Rattle.f3_kinds.specs.Values.{value_at, named_value, value_of, chain_value, is_power, apply, signed_value, denied, compared, converted, has_value, is_number}
use Rattle.f3_type_rules.specs.Constants.{speaks, constant_rows}
use Rattle.f3_type_rules.specs.Shapes.{bound_rows, shape_rows, dimension_rows, extent, bounds_extent, product, elements, count, all_converted, initial_fits, initial_right, at_most, are_dimensions_small}
use Rattle.f3_order_laws.proofs.Expressions.{valued, joined, said_same, breaks_same}

pub either : {X : Type 0} (t : Bool) {p q r s : X} → p ≡ r → q ≡ s → (if t then p else q) ≡ (if t then r else s)
either true e f = e
either false e f = f

pub same_pieces : {X Y : Type 0} {f g : X → List Y} (xs : List X) → ((x : X) → f x ≡ g x) → flat_map f xs ≡ flat_map g xs
same_pieces {X} {Y} {f} {g} xs h = let same : f ≡ g = λ i x. h x i in ap (λ (p : X → List Y). flat_map p xs) same

module _ (c : Context) (v w : ℕ → Option Scalar) (sees : (symbol e : ℕ) → c.look c.scope symbol ≡ One e → v e ≡ w e) where
  abbrev a : Context
  a = valued c v

  abbrev b : Context
  b = valued c w

  value_at_same : (symbol : ℕ) (l : Lookup) → c.look c.scope symbol ≡ l → value_at a l ≡ value_at b l
  value_at_same symbol (One e) h = sees symbol e h
  value_at_same symbol Nothing h = refl
  value_at_same symbol Several h = refl

  named_same : (ps : Parts) → named_value a ps ≡ named_value b ps
  named_same no_parts = refl
  named_same (parts n bare no_parts) = value_at_same n.symbol (look_here c n.symbol) refl
  named_same (parts n bare (parts m h ps)) = refl
  named_same (parts n (within list) ps) = refl

  mutual
    pub value_same : (e : Tree) → value_of a e ≡ value_of b e
    value_same (integer p n) = refl
    value_same (truth p t) = refl
    value_same (text p k) = refl
    value_same (designator ps) = named_same ps
    value_same (group p e) = value_same e
    value_same (array p es) = refl
    value_same (signed p s e) = ap (signed_value s) (value_same e)
    value_same (negation p e) = ap denied (value_same e)
    value_same (comparison e r f) = ap (λ (x : Option Scalar). compared r x (value_of a f)) (value_same e) ∙ ap (compared r (value_of b e)) (value_same f)
    value_same (chain e os) = ap (λ (x : Option Scalar). chain_value a x os) (value_same e) ∙ chain_same (value_of b e) os

    chain_same : (x : Option Scalar) (os : Rest) → chain_value a x os ≡ chain_value b x os
    chain_same x no_more = refl
    chain_same x (more o e os) =
        either (is_power o)
        (ap (apply o x) (ap (λ (y : Option Scalar). chain_value a y os) (value_same e) ∙ chain_same (value_of b e) os))
        (ap (λ (y : Option Scalar). chain_value a (apply o x y) os) (value_same e) ∙ chain_same (apply o x (value_of b e)) os)

  pub constant_same : (phase : ℕ) {x y : Bool} → x ≡ y → (e : Tree) → constant_rows phase a x e ≡ constant_rows phase b y e
  constant_same phase {x} {y} same e =
      ap (λ (z : Bool). constant_rows phase a z e) same
      ∙ joined (breaks_same c v w e) (ap (λ (s : Said). unless (not (speaks s) || y) (at_place phase T2 s.place)) (said_same c v w e))

  bound_same : (e : Tree) → bound_rows a e ≡ bound_rows b e
  bound_same e = constant_same 5 (ap is_number (value_same e)) e

  lower_same : (e : Option Tree) → map_or [] (bound_rows a) e ≡ map_or [] (bound_rows b) e
  lower_same None = refl
  lower_same (Some e) = bound_same e

  pub shape_same : (s : Option ShapeTree) → shape_rows a s ≡ shape_rows b s
  shape_same None = refl
  shape_same (Some (explicit bs)) = same_pieces bs (λ (x : Bounds). joined (lower_same x.lower) (bound_same x.upper))
  shape_same (Some (deferred ls)) = same_pieces ls lower_same

  pub dimension_same : (x : AttributeTree) → dimension_rows a x ≡ dimension_rows b x
  dimension_same (dimension s) = shape_same (Some s)
  dimension_same _ = refl

  lower_value : (e : Option Tree) → map_or (Some (Number Four (pos 1))) (value_of a) e ≡ map_or (Some (Number Four (pos 1))) (value_of b) e
  lower_value None = refl
  lower_value (Some e) = value_same e

  extent_same : (x : Bounds) → bounds_extent a x ≡ bounds_extent b x
  extent_same x =
      ap (λ (z : Option Scalar). extent z (value_of a x.upper)) (lower_value x.lower)
      ∙ ap (extent (map_or (Some (Number Four (pos 1))) (value_of b) x.lower)) (value_same x.upper)

  extents_same : bounds_extent a ≡ bounds_extent b
  extents_same = λ i x. extent_same x i

  pub elements_same : (s : Option ShapeTree) → elements a s ≡ elements b s
  elements_same None = refl
  elements_same (Some (explicit bs)) = ap (λ (f : Bounds → Option ℕ). product (Some 1) (map f bs)) extents_same
  elements_same (Some (deferred ls)) = refl

  all_converted_same : (t : DataType) (es : Trees) → all_converted a t es ≡ all_converted b t es
  all_converted_same t no_trees = refl
  all_converted_same t (trees e es) =
      ap (λ (x : Option Scalar). has_value (converted t x) && all_converted a t es) (value_same e)
      ∙ ap (λ (x : Bool). has_value (converted t (value_of b e)) && x) (all_converted_same t es)

  fits_same : (t : DataType) (rank : ℕ) (size : Option ℕ) (e : Tree) → initial_fits a t rank size e ≡ initial_fits b t rank size e
  fits_same t rank size (array p es) = ap (λ (x : Bool). nat_eq rank 1 && x && map_or true (nat_eq (count es)) size) (all_converted_same t es)
  fits_same t rank size (integer p n) = refl
  fits_same t rank size (truth p x) = refl
  fits_same t rank size (text p k) = refl
  fits_same t rank size (designator ps) = ap (λ (x : Option Scalar). has_value (converted t x)) (value_same (designator ps))
  fits_same t rank size (group p e) = ap (λ (x : Option Scalar). has_value (converted t x)) (value_same (group p e))
  fits_same t rank size (signed p s e) = ap (λ (x : Option Scalar). has_value (converted t x)) (value_same (signed p s e))
  fits_same t rank size (negation p e) = ap (λ (x : Option Scalar). has_value (converted t x)) (value_same (negation p e))
  fits_same t rank size (comparison e r f) = ap (λ (x : Option Scalar). has_value (converted t x)) (value_same (comparison e r f))
  fits_same t rank size (chain e os) = ap (λ (x : Option Scalar). has_value (converted t x)) (value_same (chain e os))

  pub initial_same : (d : Option DataType) (rank : ℕ) {m n : Option ℕ} → m ≡ n → (e : Tree) → initial_right a d rank m e ≡ initial_right b d rank n e
  initial_same None rank same e = refl
  initial_same (Some (Derived t)) rank same e = refl
  initial_same (Some (Integer k)) rank {m} {n} same e = ap (λ (z : Option ℕ). initial_fits a (Integer k) rank z e) same ∙ fits_same (Integer k) rank n e
  initial_same (Some Logical) rank {m} {n} same e = ap (λ (z : Option ℕ). initial_fits a Logical rank z e) same ∙ fits_same Logical rank n e

  pub dimensions_same : (s : Option ShapeTree) → are_dimensions_small a s ≡ are_dimensions_small b s
  dimensions_same None = refl
  dimensions_same (Some (explicit bs)) = ap (λ (f : Bounds → Option ℕ). list_all (λ (x : Bounds). at_most 9223372036854775807 (f x)) bs) extents_same
  dimensions_same (Some (deferred ls)) = refl
