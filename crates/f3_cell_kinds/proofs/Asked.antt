-- What follows where something asked of kinds holds.
use Rattle.std.proofs.Common.{◌≡◌, ℕ, Bool, true, false, ◌&&◌, not, List, Option, Some, None, refl, sym, ap, ◌∙◌, subst, if◌then◌else◌}
use Rattle.std.specs.Prelude.{◌||◌}
use Rattle.std.proofs.lemmas.Bool.{eqb-true}
use Rattle.f3_program.specs.declared.declarations.Declared.{Declared}
use Rattle.f3_program.specs.declared.program.Program.{Program}
use Rattle.f3_program.specs.declared.declarations.Base.{Base}
use Rattle.f3_program.specs.declared.declarations.Base.TheVariants as base
use Rattle.f3_program.specs.declared.declarations.Kind.{Kind}
use Rattle.f3_meaning_whole.specs.Permitted.{same_type}
use Rattle.f3_meaning_whole.specs.Formed.{some, found, only, same_truth, same_kind}
use Rattle.f3_cell_kinds.specs.Values.{kind_or}

pub some_same : {A : Type 0} {x y : A} → Some x ≡ Some y → x ≡ y
some_same e = cc

pub found_is : {A B : Type 0} (o : Option A) (f : A → Option B) (y : B) → found o f ≡ Some y → (x : A) × (o ≡ Some x) × (f x ≡ Some y)
found_is None f y e = cc
found_is (Some x) f y e = (x, refl, e)

pub found_kind : {B : Type 0} (o : Option Kind) (f : Kind → Option B) (y : B) → found o f ≡ Some y → (o ≡ Some (kind_or o)) × (f (kind_or o) ≡ Some y)
found_kind None f y e = cc
found_kind (Some x) f y e = (refl, e)

-- where what is found can be only this
pub found_at : {A B : Type 0} (o : Option A) (x : A) (f : A → Option B) (y : B) → ((z : A) → o ≡ Some z → z ≡ x) → found o f ≡ Some y →
    (o ≡ Some x) × (f x ≡ Some y)
found_at None x f y one e = cc
found_at (Some z) x f y one e =
    let same = one z refl in
    (ap (λ w. Some w) same, subst (λ w. f w ≡ Some y) same e)

pub some_at : {A : Type 0} (o : Option A) (x : A) (f : A → Bool) → ((z : A) → o ≡ Some z → z ≡ x) → some o f ≡ true → f x ≡ true
some_at None x f one e = cc
some_at (Some z) x f one e = subst (λ w. f w ≡ true) (one z refl) e

pub only_is : {A : Type 0} (b : Bool) (x y : A) → only b x ≡ Some y → (b ≡ true) × (x ≡ y)
only_is true x y e = (refl, some_same e)
only_is false x y e = cc

pub unless_is : {A : Type 0} (b : Bool) (x : Option A) (y : A) → (if b then None else x) ≡ Some y → (b ≡ false) × (x ≡ Some y)
unless_is true x y e = cc
unless_is false x y e = (refl, e)

pub and_is : (a b : Bool) → (a && b) ≡ true → (a ≡ true) × (b ≡ true)
and_is true b e = (refl, e)
and_is false b e = cc

pub not_is : (a : Bool) → not a ≡ true → a ≡ false
not_is true e = cc
not_is false e = refl

pub some_is : {A : Type 0} (o : Option A) (f : A → Bool) → some o f ≡ true → (x : A) × (o ≡ Some x) × (f x ≡ true)
some_is None f e = cc
some_is (Some x) f e = (x, refl, e)

pub some_kind : (o : Option Kind) (f : Kind → Bool) → some o f ≡ true → (o ≡ Some (kind_or o)) × (f (kind_or o) ≡ true)
some_kind None f e = cc
some_kind (Some x) f e = (refl, e)

pub kind_is : (o : Option Kind) (k : Kind) → o ≡ Some k → kind_or o ≡ k
kind_is o k e = ap kind_or e

pub itself : (o : Option Kind) (k : Kind) → o ≡ Some k → o ≡ Some (kind_or o)
itself o k e = e ∙ ap (λ j. Some j) (sym (kind_is o k e))

pub or_is : (a b : Bool) → (a || b) ≡ true → a ≡ false → b ≡ true
or_is true b e f = cc
or_is false b e f = e

pub base_same : (t u : Base) → same_type t u ≡ true → t ≡ u
base_same base.Integer base.Integer e = refl
base_same base.Long base.Long e = refl
base_same base.Logical base.Logical e = refl
base_same (base.Derived t) (base.Derived u) e = ap base.Derived (eqb-true t u e)
base_same t u e = cc

pub truth_same : (a b : Bool) → same_truth a b ≡ true → a ≡ b
truth_same true b e = sym e
truth_same false true e = cc
truth_same false false e = refl

pub kind_same : (k : Kind) (of : Base) (rank : ℕ) (b : Bool) → k.of ≡ of → k.rank ≡ rank → k.is_allocatable ≡ b →
    k ≡ record { of = of; rank = rank; is_allocatable = b }
kind_same k of rank b e f g =
    ap (λ (x : Base). record { of = x; rank = k.rank; is_allocatable = k.is_allocatable }) e
    ∙ ap (λ (x : ℕ). record { of = of; rank = x; is_allocatable = k.is_allocatable }) f
    ∙ ap (λ (x : Bool). record { of = of; rank = rank; is_allocatable = x }) g

module _ (p : Program) (variables : List Declared) (names : List Kind) where
  pub kinds_same : (k j : Kind) → same_kind p variables names k j ≡ true → k ≡ j
  kinds_same k j e =
      let a = and_is _ _ e in
      let b = and_is _ _ a.1 in
      kind_same k j.of j.rank j.is_allocatable (base_same _ _ a.0) (eqb-true k.rank j.rank b.0) (truth_same _ _ b.1)
