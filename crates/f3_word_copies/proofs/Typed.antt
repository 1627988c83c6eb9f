-- All types can begin with their values, in programs that make sense.
use Rattle.std.proofs.Common.{◌≡◌, refl, inl, inr, ℕ, zero, suc, Bool, true, false, List, [], ◌∷◌, ◌++◌, length, nat_eq, nat_lt, arith}
use Rattle.std.specs.Prelude.{◌⊎◌, ◌&&◌, ◌||◌, Some, slice_get, slice_index_or, if◌then◌else◌}
use Rattle.std.proofs.lemmas.Bool.{eqb-true, ltb-true}
use Rattle.f3_program.specs.declared.declarations.Base.{Base}
use Rattle.f3_program.specs.declared.declarations.Base.TheVariants as base
use Rattle.f3_program.specs.declared.declarations.Component.{Component}
use Rattle.f3_program.specs.declared.declarations.Constant.{Constant}
use Rattle.f3_program.specs.declared.declarations.Constant.TheVariants as constant
use Rattle.f3_program.specs.declared.declarations.Declared.{Declared}
use Rattle.f3_program.specs.declared.declarations.Derived.{Derived}
use Rattle.f3_program.specs.declared.declarations.Dimension.{Dimension}
use Rattle.f3_program.specs.declared.program.Program.{Program}
use Rattle.f3_program.specs.declared.program.Static.{Static}
use Rattle.f3_meaning_whole.specs.Value.{count}
use Rattle.f3_meaning_whole.specs.Shape.{Shape, Whole, Record, shape_in, shapes_from, parts_in, spans_declared}
use Rattle.f3_meaning_whole.specs.Formed.{all, is_declared, is_final, are_types, are_declared, is_procedure, IsWellFormed}
use Rattle.f3_cell_kinds.specs.Sense.{constant_fits, initial_fits, MakesSense}
use Rattle.f3_cell_kinds.proofs.Asked.{and_is}
use Rattle.f3_room_levels.specs.Initial.{IsOf, AreOf, AreEnough, CanBegin, TypeCanBegin, PartsCanBegin}
use Rattle.f3_word_cells.specs.Areas.{types_of, shape_for}

one-of : (acc : List Shape) (of : Base) (c : Constant) → constant_fits of c ≡ true → IsOf (shape_in acc of) c
one-of acc base.Integer (constant.Number z) e = tt
one-of acc base.Long (constant.Number z) e = tt
one-of acc base.Logical (constant.Number z) e = absurd cc
one-of acc (base.Derived t) (constant.Number z) e = absurd cc
one-of acc base.Integer (constant.Truth b) e = absurd cc
one-of acc base.Long (constant.Truth b) e = absurd cc
one-of acc base.Logical (constant.Truth b) e = tt
one-of acc (base.Derived t) (constant.Truth b) e = absurd cc

each-of : (acc : List Shape) (of : Base) (cs : List Constant) → all (constant_fits of) cs ≡ true → AreOf (shape_in acc of) cs
each-of acc of [] e = tt
each-of acc of (c ∷ cs) e = let a = and_is _ _ e in (one-of acc of c a.0, each-of acc of cs a.1)

or-split : (a b : Bool) → (a || b) ≡ true → (a ≡ true) ⊎ (b ≡ true)
or-split true b e = inl refl
or-split false b e = inr e

no-dimensions : (b : Bool) (n : ℕ) → (if b then nat_eq n 0 else nat_eq n 0) ≡ true → n ≡ 0
no-dimensions true n e = eqb-true n 0 e
no-dimensions false n e = eqb-true n 0 e

enough-of : (b : Bool) (rank : ℕ) (ds : List Dimension) (cs : List Constant) → (if b then nat_eq (length ds) 0 else nat_eq (length ds) rank) ≡ true
    → (nat_lt (length cs) 2 || nat_eq (length cs) (count (spans_declared ds))) ≡ true → AreEnough rank (count (spans_declared ds)) cs
enough-of b zero ds [] many e = tt
enough-of b zero ds (c ∷ []) many e = tt
enough-of b zero [] (c ∷ d ∷ cs) many e = elim (or-split (nat_lt (length (c ∷ d ∷ cs)) 2) (nat_eq (length (c ∷ d ∷ cs)) 1) e) [
  | inl h ↦ (let lt = ltb-true (length (c ∷ d ∷ cs)) 2 h in absurd (omega arith))
  | inr h ↦ (let is = eqb-true (length (c ∷ d ∷ cs)) 1 h in absurd (omega arith))
]
enough-of b zero (x ∷ ds) (c ∷ d ∷ cs) many e = let none = no-dimensions b (length (x ∷ ds)) many in absurd (omega arith)
enough-of b (suc rank) ds [] many e = tt
enough-of b (suc rank) ds (c ∷ []) many e = tt
enough-of b (suc rank) ds (c ∷ d ∷ cs) many e = elim (or-split (nat_lt (length (c ∷ d ∷ cs)) 2) (nat_eq (length (c ∷ d ∷ cs)) (count (spans_declared ds))) e) [
  | inl h ↦ (let lt = ltb-true (length (c ∷ d ∷ cs)) 2 h in absurd (omega arith))
  | inr h ↦ eqb-true (length (c ∷ d ∷ cs)) (count (spans_declared ds)) h
]

one-can : (acc : List Shape) (n : ℕ) (d : Declared) → is_declared n d ≡ true → initial_fits d ≡ true → CanBegin (shape_in acc d.kind.of) d
one-can acc n d e fit =
    let a = and_is _ _ fit in
    record {
      typed = each-of acc d.kind.of d.initial.items a.0;
      enough = enough-of d.kind.is_allocatable d.kind.rank d.dimensions.items d.initial.items (and_is _ _ e).1 a.1;
    }

parts-can : (acc : List Shape) → ((of : Base) → TypeCanBegin (shape_in acc of)) → (n : ℕ) (cs : List Component) → all (λ (c : Component). is_declared n c.declared) cs ≡ true
    → all (λ (c : Component). initial_fits c.declared) cs ≡ true → PartsCanBegin (parts_in acc cs)
parts-can acc can n [] e fit = tt
parts-can acc can n (c ∷ cs) e fit = let a = and_is _ _ e in let b = and_is _ _ fit in (one-can acc n c.declared a.0 b.0, can c.declared.kind.of, parts-can acc can n cs a.1 b.1)

one-more : (acc : List Shape) (s : Shape) → ((u : ℕ) → TypeCanBegin (slice_index_or acc u Whole)) → TypeCanBegin s → (u : ℕ) → TypeCanBegin (slice_index_or (acc ++ s ∷ []) u Whole)
one-more [] s can new zero = new
one-more [] s can new (suc u) = tt
one-more (a ∷ acc) s can new zero = can 0
one-more (a ∷ acc) s can new (suc u) = one-more acc s (λ v. can (suc v)) new u

by-base : (acc : List Shape) → ((u : ℕ) → TypeCanBegin (slice_index_or acc u Whole)) → (of : Base) → TypeCanBegin (shape_in acc of)
by-base acc can base.Integer = tt
by-base acc can base.Long = tt
by-base acc can base.Logical = tt
by-base acc can (base.Derived t) = can t

all-can : (p : Program) (acc : List Shape) (n : ℕ) (ts : List Derived) → ((u : ℕ) → TypeCanBegin (slice_index_or acc u Whole)) → are_types p n ts ≡ true
    → ((k : ℕ) (t : Derived) → slice_get ts k ≡ Some t → all (λ (c : Component). initial_fits c.declared) t.components.items ≡ true) → (u : ℕ) → TypeCanBegin (slice_index_or (shapes_from acc ts) u Whole)
all-can p acc n [] can are fit = can
all-can p acc n (t ∷ ts) can are fit =
    let a = and_is (all (λ (c : Component). is_declared n c.declared) t.components.items) (all (is_final p) t.finals.items && are_types p (suc n) ts) are in
    let b = and_is (all (is_final p) t.finals.items) (are_types p (suc n) ts) a.1 in
    all-can p (acc ++ Record (length acc) (parts_in acc t.components.items) ∷ []) (suc n) ts
    (one-more acc (Record (length acc) (parts_in acc t.components.items)) can (parts-can acc (by-base acc can) n t.components.items a.0 (fit 0 t refl))) b.1 (λ k y e. fit (suc k) y e)

none-can : (u : ℕ) → TypeCanBegin (slice_index_or [] u Whole)
none-can zero = tt
none-can (suc u) = tt

-- the type of an object
pub type-can : (p : Program) → IsWellFormed p → MakesSense p → (of : Base) → TypeCanBegin (shape_for p of)
type-can p formed sense of =
    let a = and_is (are_types p 0 p.types.items) (all (λ (y : Static). is_declared (length p.types.items) y.declared) p.statics.items
    && (all (are_declared p) (p.main ∷ p.procedures.items) && all (is_procedure p) (p.main ∷ p.procedures.items))) formed in
    by-base (types_of p) (all-can p [] 0 p.types.items none-can a.0 (λ k y e. sense.components k y e)) of
