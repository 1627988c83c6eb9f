-- What is declared without a break has a dimension for each rank, unless it is allocatable, and a type with a number.
use Rattle.std.proofs.Common.{◌≡◌, ℕ, ◌<◌, Bool, true, false, ◌&&◌, ◌||◌, not, length, suc, nat_eq, nat_lt, Option, Some, None, refl, sym, ap, ◌∙◌, if◌then◌else◌, arith, inl, inr}
use Rattle.std.specs.Prelude.{slice_get}
use Rattle.std.specs.List.{list_any}
use Rattle.std.proofs.lemmas.Bool.Decides.{leb_tells}
use Rattle.f3_lookups.specs.declared.lookup.Lookup.{Lookup}
use Rattle.f3_lookups.specs.declared.lookup.Lookup.TheVariants.{One, Nothing, Several}
use Rattle.f3_scopes.specs.declared.outline.EntityKind.{EntityKind}
use Rattle.f3_scopes.specs.declared.outline.EntityKind.TheVariants as entity
use Rattle.f3_tree.specs.declared.expression.IntegerKind.TheVariants.{Four, Eight}
use Rattle.f3_tree.specs.declared.declaration.TypeSpecifier.{TypeSpecifier}
use Rattle.f3_tree.specs.declared.declaration.TypeSpecifier.TheVariants as specifier
use Rattle.f3_tree.specs.Declarations as t
use Rattle.f3_tree.specs.Declarations.{ShapeTree, explicit, deferred, AttributeTree, DeclarationTree}
use Rattle.f3_kinds.specs.declared.types.DataType.{DataType}
use Rattle.f3_kinds.specs.declared.types.DataType.TheVariants.{Integer, Logical, Derived}
use Rattle.f3_kinds.specs.Things.{map_or}
use Rattle.f3_meaning_whole.specs.Formed.{is_before}
use Rattle.f3_type_rules.specs.Attributes.{has, is_deferred, is_open, conflicts}
use Rattle.f3_type_rules.specs.Names.{Declared, attributes_of, shape_of, is_allocatable, dimensions as dimension_count, type_of, type_named, type_if, is_given}
use Rattle.f3_type_rules.specs.Walks.{Spot, is_among}
use Rattle.f3_elaboration.specs.Declarations.{Whole, context, dimension, dimensions, declared}
use Rattle.f3_elaboration.specs.Numbers.{number_in, base_of}
use Rattle.f3_lawful_laws.proofs.Facts.{no, nothing, both}
use Rattle.f3_lawful_laws.proofs.Positions.{eq_self}
use Rattle.f3_formed_laws.specs.Nodes.{is_declared}
use Rattle.f3_formed_laws.proofs.Facts.{neither, long}

-- ---- attributes that stand together

-- what does not conflict: an allocatable's shape, an initializer, SAVE and a shape of `:`
pub record Stands (s : Spot) (x : Declared) : Type 0 where
  pub opened : (has t.allocatable x.0 && (has t.parameter x.0 || is_given (x.1).initial || not (is_open (shape_of x)))) ≡ false
  pub initial : (is_given (x.1).initial && (is_among s.dummies x.1 || is_among s.results x.1)) ≡ false
  pub saved : (has t.save x.0 && (is_among s.dummies x.1 || is_among s.results x.1)) ≡ false
  pub deferring : (is_deferred (shape_of x) && not (has t.allocatable x.0) && not (is_among s.dummies x.1)) ≡ false

but_first : (a b c : Bool) → (a && (b || c)) ≡ false → (a && b) ≡ false
but_first true b c e = (neither b c e).0
but_first false b c e = refl

pub stands : (s : Spot) (x : Declared) → conflicts s x ≡ false → Stands s x
stands s x e =
    let i = neither _ _ e in
    let h = neither _ _ i.0 in
    let g = neither _ _ h.0 in
    let f = neither _ _ g.0 in
    let e' = neither _ _ f.0 in
    let d = neither _ _ e'.0 in
    let c = neither _ _ d.0 in
    let b = neither _ _ c.0 in
    record {
      opened = b.1;
      initial = but_first (is_given (x.1).initial) (is_among s.dummies x.1 || is_among s.results x.1) _ d.1;
      saved = e'.1;
      deferring = g.1;
    }

-- ---- dimensions

module _ (w : Whole) where
  -- as many as ranks, and none of an allocatable
  dimensioned : (u sc : ℕ) (held : Bool) (shape : Option ShapeTree) (c i dummy : Bool) → (held && (c || i || not (is_open shape))) ≡ false
      → (is_deferred shape && not held && not dummy) ≡ false → dummy ≡ false
      → (if held then nat_eq (length (dimensions (context w u sc) shape)) 0 else nat_eq (length (dimensions (context w u sc) shape)) (map_or 0 dimension_count shape)) ≡ true
  dimensioned u sc true None c i dummy e f d = refl
  dimensioned u sc true (Some (deferred ls)) c i dummy e f d = refl
  dimensioned u sc true (Some (explicit bs)) c i dummy e f d = no (neither (c || i) true e).1
  dimensioned u sc false None c i dummy e f d = refl
  dimensioned u sc false (Some (explicit bs)) c i dummy e f d = ap (λ k. nat_eq k (length bs)) (long (dimension (context w u sc)) bs) ∙ eq_self (length bs)
  dimensioned u sc false (Some (deferred ls)) c i dummy e f d = no (sym (ap not d) ∙ f)

  -- ---- types

  below : (k n : ℕ) → k < n → nat_lt k n ≡ true
  below k n lt = elim (leb_tells (suc k) n) [ inl h ↦ h.0 | inr h ↦ (let x = h.1 in let y : k < n = lt in absurd (omega (arith, x, y))) ]

  -- a type with a number below a count
  pub typed_before : (n : ℕ) (d : Option DataType) → ((e : ℕ) → d ≡ Some (Derived e) → number_in (w.numbers).types e < n) → is_before n (base_of w.numbers d) ≡ true
  typed_before n None h = refl
  typed_before n (Some (Integer Four)) h = refl
  typed_before n (Some (Integer Eight)) h = refl
  typed_before n (Some Logical) h = refl
  typed_before n (Some (Derived e)) h = below (number_in (w.numbers).types e) n (h e refl)

  -- the type that a name means is one that is declared
  pub named_type : (sc e : ℕ) (x : TypeSpecifier) → type_of (w.scene).names sc x ≡ Some (Derived e) → slice_get ((w.scene).names).kinds e ≡ Some entity.DerivedType
  named_type sc e (specifier.Integer k) h = let q : Some (Integer k) ≡ Some (Derived e) = h in cc
  named_type sc e specifier.Logical h = let q : Some Logical ≡ Some (Derived e) = h in cc
  named_type sc e (specifier.Derived m) h = by_look (((w.scene).names).look sc m.symbol) h
    where
      by_kind : (i : ℕ) (o : Option EntityKind) → slice_get ((w.scene).names).kinds i ≡ o → type_if i o ≡ Some (Derived e) → slice_get ((w.scene).names).kinds e ≡ Some entity.DerivedType
      by_kind i (Some entity.DerivedType) is h =
          let q : Some (Derived i) ≡ Some (Derived e) = h in
          let one : i ≡ e = cc in
          ap (slice_get ((w.scene).names).kinds) (sym one) ∙ is
      by_kind i (Some entity.Constant) is h = nothing h
      by_kind i (Some entity.Variable) is h = nothing h
      by_kind i (Some entity.Subroutine) is h = nothing h
      by_kind i (Some entity.Function) is h = nothing h
      by_kind i None is h = nothing h

      by_look : (l : Lookup) → type_named (w.scene).names l ≡ Some (Derived e) → slice_get ((w.scene).names).kinds e ≡ Some entity.DerivedType
      by_look (One i) h = by_kind i (slice_get ((w.scene).names).kinds i) refl h
      by_look Nothing h = nothing h
      by_look Several h = nothing h

  -- ---- one declared name

  pub declared_is : (n u sc : ℕ) (s : Spot) (x : Declared) → Stands s x → is_among s.dummies x.1 ≡ false
      → ((e : ℕ) → type_of (w.scene).names sc (x.0).specifier ≡ Some (Derived e) → number_in (w.numbers).types e < n) → is_declared n (declared w u sc x) ≡ true
  declared_is n u sc s x h d below_all =
      both (is_before n (base_of w.numbers (type_of (w.scene).names sc (x.0).specifier))) _ (typed_before n (type_of (w.scene).names sc (x.0).specifier) below_all)
      (dimensioned u sc (list_any is_allocatable (attributes_of x.0)) (shape_of x) (has t.parameter x.0) (is_given (x.1).initial) (is_among s.dummies x.1) h.opened h.deferring d)
