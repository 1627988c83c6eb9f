-- Subscripts, and one part of a designator.
use Rattle.std.proofs.Common.{◌≡◌, ℕ, zero, suc, Bool, true, false, ◌&&◌, ◌||◌, not, List, [], ◌∷◌, length, map, filter, Option, Some, None, refl, sym, ap, ◌∙◌}
use Rattle.std.proofs.Common.{if◌then◌else◌, cond, nat_eq, nat_lt, arith, inl, inr}
use Rattle.std.specs.Prelude.{◌==◌}
use Rattle.std.specs.List.{list_all}
use Rattle.std.proofs.lemmas.Bool.Decides.{leb_tells}
use Rattle.f3_program.specs.declared.declarations.Declared.{Declared}
use Rattle.f3_program.specs.declared.declarations.Kind.{Kind}
use Rattle.f3_program.specs.declared.program.Program.{Program}
use Rattle.f3_kinds.specs.declared.types.Object.{Object}
use Rattle.f3_kinds.specs.declared.types.Wanted.TheVariants as wanted
use Rattle.f3_kinds.specs.declared.said.Said.{Said}
use Rattle.f3_kinds.specs.declared.said.Given.{Given}
use Rattle.f3_kinds.specs.declared.said.Given.TheVariants.{Value, Triplet}
use Rattle.f3_kinds.specs.Designators.{subscript_fits, fits_perhaps, is_triplet, are_fit, count_is_right, triplets, rank_left, is_bare}
use Rattle.f3_meaning_whole.specs.Formed.{of_kind, found, only, some, given_all, count_ranges, same_truth, is_whole_number}
use Rattle.f3_elaboration.specs.Nodes as n
use Rattle.f3_elaboration.specs.Nodes.{ExpressionNode, SelectionNode}
use Rattle.f3_elaboration.specs.Context.{Surroundings, base}
use Rattle.f3_elaboration.specs.Expressions as x
use Rattle.f3_elaboration.specs.Expressions.{or_one, selection, is_held, held}
use Rattle.f3_lawful_laws.proofs.Facts.{no, both, left, right}
use Rattle.f3_lawful_laws.proofs.Positions.{eq_same}
use Rattle.f3_formed_laws.specs.Nodes.{value_kind, taken, taken_of_each, subscript, subscripts}
use Rattle.f3_formed_laws.specs.Agreement.{kind_of}
use Rattle.f3_formed_laws.proofs.Facts.{when_only, same_self, long}
use Rattle.f3_formed_laws.proofs.Alike.{MayBeOf, IsGiven, AreGiven, IsBehind}
use Rattle.f3_formed_laws.proofs.Scalars.{scalar, whole_number}

pub positive : (n : ℕ) → not (nat_eq n 0) ≡ true → nat_lt 0 n ≡ true
positive zero e = no (sym e)
positive (suc n) e = elim (leb_tells 1 (suc n)) [ inl h ↦ h.0 | inr h ↦ (let x = h.1 in absurd (omega (arith, x))) ]

counted : (ys : List Given) → count_ranges (map is_triplet ys) ≡ triplets ys
counted [] = refl
counted (y ∷ ys) = go (is_triplet y) (counted ys)
  where
    go : (b : Bool) → count_ranges (map is_triplet ys) ≡ triplets ys → count_ranges (b ∷ map is_triplet ys) ≡ length (cond b (y ∷ filter is_triplet ys) (filter is_triplet ys))
    go true h = ap suc h
    go false h = h

module _ (p : Program) (vs : List Declared) (ns : List Kind) (s : Surroundings) where
  -- ---- subscripts

  pub perhaps_whole : (a : Option ExpressionNode) (b : Option Said) → MayBeOf p vs ns s a b → fits_perhaps b ≡ true
      → some (value_kind p vs ns (or_one a)) is_whole_number ≡ true
  perhaps_whole None None h f = refl
  perhaps_whole None (Some y) h f = absurd h
  perhaps_whole (Some e) None h f = absurd h
  perhaps_whole (Some e) (Some y) h f = whole_number p vs ns s e (scalar p vs ns s wanted.Integer e y.has h f)

  pub subscript_is : (g : x.Given) (y : Given) → IsGiven p vs ns s g y → subscript_fits y ≡ true → subscript p vs ns (x.subscript g) ≡ Some (is_triplet y)
  subscript_is (x.value k e) (Value None y) h f = when_only _ false (whole_number p vs ns s e (scalar p vs ns s wanted.Integer e y.has h.1 f))
  subscript_is (x.value k e) (Value (Some l) y) h f = no (sym f)
  subscript_is (x.value k e) (Triplet q a b c) h f = absurd h
  subscript_is (x.triplet a b c) (Value l y) h f = absurd h
  subscript_is (x.triplet a b c) (Triplet q d e z) h f =
      when_only _ true
      (both _ _ (perhaps_whole a d h.0 (left _ _ (left _ _ f)))
      (both _ _ (perhaps_whole b e h.1 (right (fits_perhaps d) _ (left _ _ f))) (perhaps_whole c z h.2 (right (fits_perhaps d && fits_perhaps e) _ f))))

  pub subscripts_are : (gs : List x.Given) (ys : List Given) → AreGiven p vs ns s gs ys → list_all subscript_fits ys ≡ true
      → given_all (subscripts p vs ns (x.subscripts gs)) ≡ Some (map is_triplet ys)
  subscripts_are [] [] h f = refl
  subscripts_are [] (y ∷ ys) h f = absurd h
  subscripts_are (g ∷ gs) [] h f = absurd h
  subscripts_are (g ∷ gs) (y ∷ ys) h f =
      ap (λ o. found o (λ z. found (given_all (subscripts p vs ns (x.subscripts gs))) (λ zs. Some (z ∷ zs)))) (subscript_is g y h.0 (left _ _ f))
      ∙ ap (λ o. found o (λ zs. Some (is_triplet y ∷ zs))) (subscripts_are gs ys h.1 (right (subscript_fits y) _ f))

  -- ---- one part

  -- of a scalar, or of what is no component
  pub taken_is : (o : Object) (g : Option (List x.Given)) (b : Option (List Given)) → IsBehind p vs ns s g b → are_fit b ≡ true → count_is_right false o b ≡ true
      → taken p vs ns (selection o g) (kind_of s o) ≡ Some (of_kind (base s o.data_type) (rank_left false o b))
  taken_is o None None h f c = go o.is_allocatable
    where
      go : (b : Bool) → taken p vs ns (if b then n.contents else n.whole) (record { of = base s o.data_type; rank = o.rank; is_allocatable = b })
          ≡ Some (of_kind (base s o.data_type) o.rank)
      go true = refl
      go false = refl
  taken_is o None (Some ys) h f c = absurd h
  taken_is o (Some gs) None h f c = absurd h
  taken_is o (Some gs) (Some ys) h f c =
      let size : (length ys == o.rank) ≡ true = left _ _ (left _ _ c) in
      let some_given : not (length ys == 0) ≡ true = right (length ys == o.rank) _ (left _ _ c) in
      ap (λ z. found z (λ bs. only (same_truth o.is_allocatable o.is_allocatable && (nat_eq (length bs) o.rank && nat_lt 0 o.rank)) (of_kind (base s o.data_type) (count_ranges bs))))
      (subscripts_are gs ys h f)
      ∙ when_only _ (of_kind (base s o.data_type) (count_ranges (map is_triplet ys)))
      (both (same_truth o.is_allocatable o.is_allocatable) _ (same_self o.is_allocatable)
      (both _ _ (ap (λ k. nat_eq k o.rank) (long is_triplet ys) ∙ size) (ap (nat_lt 0) (sym (eq_same (length ys) o.rank size)) ∙ positive (length ys) some_given)))
      ∙ ap (λ k. Some (of_kind (base s o.data_type) k)) (counted ys)

  -- of each element of an array
  pub each_is : (o : Object) (g : Option (List x.Given)) (b : Option (List Given)) (array : Kind) → IsBehind p vs ns s g b → are_fit b ≡ true → count_is_right false o b ≡ true
      → o.is_allocatable ≡ false → (rank_left false o b == 0) ≡ true
      → taken_of_each p vs ns (selection o g) array (kind_of s o) ≡ Some (of_kind (base s o.data_type) array.rank)
  each_is o g b array h f c a r = go o.is_allocatable a g b h f c r
    where
      go : (z : Bool) → z ≡ false → (g : Option (List x.Given)) (b : Option (List Given)) → IsBehind p vs ns s g b → are_fit b ≡ true → count_is_right false o b ≡ true
          → (rank_left false o b == 0) ≡ true
          → taken_of_each p vs ns (selection (record o { is_allocatable = z }) g) array (record { of = base s o.data_type; rank = o.rank; is_allocatable = z })
          ≡ Some (of_kind (base s o.data_type) array.rank)
      go true e g b h f c r = no e
      go false e None None h f c r = when_only _ (of_kind (base s o.data_type) array.rank) r
      go false e None (Some ys) h f c r = absurd h
      go false e (Some gs) None h f c r = absurd h
      go false e (Some gs) (Some ys) h f c r =
          let size : (length ys == o.rank) ≡ true = left _ _ (left _ _ c) in
          ap (λ z. found z (λ bs. only (nat_eq (length bs) o.rank && nat_eq (count_ranges bs) 0) (of_kind (base s o.data_type) array.rank))) (subscripts_are gs ys h f)
          ∙ when_only _ (of_kind (base s o.data_type) array.rank)
          (both _ _ (ap (λ k. nat_eq k o.rank) (long is_triplet ys) ∙ size) (ap (λ k. nat_eq k 0) (counted ys) ∙ r))

  -- a whole allocatable
  pub held_is : (o : Object) (g : Option (List x.Given)) (b : Option (List Given)) → IsBehind p vs ns s g b
      → (o.is_allocatable && (is_bare b || false)) ≡ is_held (selection o g)
  held_is o None None h = go o.is_allocatable
    where
      go : (z : Bool) → (z && true) ≡ is_held (if z then n.contents else n.whole)
      go true = refl
      go false = refl
  held_is o None (Some ys) h = absurd h
  held_is o (Some gs) None h = absurd h
  held_is o (Some gs) (Some ys) h = go o.is_allocatable
    where
      go : (z : Bool) → (z && false) ≡ false
      go true = refl
      go false = refl
