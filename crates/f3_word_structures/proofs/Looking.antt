-- Arguments are looked at from the first on.
use Rattle.std.proofs.Common.{◌≡◌, ◌∙◌, ℕ, ◌+◌, ◌<◌, ◌≤◌, Bool, true, false, List, [], ◌∷◌, length, drop, refl, sym, ap, arith}
use Rattle.std.specs.Prelude.{None, Some, nat_eq, if◌then◌else◌, slice_index_or}
use Rattle.std.proofs.lemmas.List.{drop_all, drop_more}
use Rattle.f3_word_cells.specs.declared.cell.Cell.{Cell}
use Rattle.f3_word_cells.specs.declared.cell.Cell.TheVariants as c
use Rattle.f3_word_cells.specs.declared.cell.Datum.{Datum}
use Rattle.f3_word_cells.specs.declared.cell.Passed.TheVariants as passed
use Rattle.f3_word_structures.specs.Members.{given_in}

-- one that has another number, or is no value
other-next : (k : ℕ) (z : Cell) (zs : List Cell) → given_in k (z ∷ []) ≡ None → given_in k (z ∷ zs) ≡ given_in k zs
other-next k (c.Argument (passed.Given j d)) zs e = by (nat_eq j k) e
  where
    by : (b : Bool) → (if b then Some d else None) ≡ None → (if b then Some d else given_in k zs) ≡ given_in k zs
    by true f = absurd cc
    by false f = refl
other-next k (c.Argument (passed.Lent j x)) zs e = refl
other-next k (c.Datum x) zs e = refl
other-next k (c.Object x) zs e = refl
other-next k (c.Each x i) zs e = refl
other-next k (c.Choice x) zs e = refl
other-next k (c.Bound x) zs e = refl
other-next k (c.Bounds x) zs e = refl
other-next k (c.Turns x i) zs e = refl
other-next k (c.Objects x) zs e = refl
other-next k (c.Selector x) zs e = refl
other-next k (c.Level x i) zs e = refl
other-next k (c.Outside x) zs e = refl
other-next k (c.Going x) zs e = refl

-- one that has it
this-one : (k : ℕ) (z : Cell) (zs : List Cell) (d : Datum) → given_in k (z ∷ []) ≡ Some d → given_in k (z ∷ zs) ≡ Some d
this-one k (c.Argument (passed.Given j x)) zs d e = by (nat_eq j k) e
  where
    by : (b : Bool) → (if b then Some x else None) ≡ Some d → (if b then Some x else given_in k zs) ≡ Some d
    by true f = f
    by false f = absurd cc
this-one k (c.Argument (passed.Lent j x)) zs d e = absurd cc
this-one k (c.Datum x) zs d e = absurd cc
this-one k (c.Object x) zs d e = absurd cc
this-one k (c.Each x i) zs d e = absurd cc
this-one k (c.Choice x) zs d e = absurd cc
this-one k (c.Bound x) zs d e = absurd cc
this-one k (c.Bounds x) zs d e = absurd cc
this-one k (c.Turns x i) zs d e = absurd cc
this-one k (c.Objects x) zs d e = absurd cc
this-one k (c.Selector x) zs d e = absurd cc
this-one k (c.Level x i) zs d e = absurd cc
this-one k (c.Outside x) zs d e = absurd cc
this-one k (c.Going x) zs d e = absurd cc

module _ (k : ℕ) (zs : List Cell) (i : ℕ) (so : given_in k zs ≡ given_in k (drop i zs)) where
  module _ (z : Cell) (is : z ≡ slice_index_or zs i z) (lt : i < length zs) where
    here : drop i zs ≡ z ∷ drop (i + 1) zs
    here = drop_more zs i z lt ∙ ap (λ y. y ∷ drop (i + 1) zs) (sym is)

    pub looking-more : given_in k (z ∷ []) ≡ None → given_in k zs ≡ given_in k (drop (i + 1) zs)
    looking-more none = so ∙ ap (given_in k) here ∙ other-next k z (drop (i + 1) zs) none

    pub looking-found : (d : Datum) → given_in k (z ∷ []) ≡ Some d → given_in k zs ≡ Some d
    looking-found d some = so ∙ ap (given_in k) here ∙ this-one k z (drop (i + 1) zs) d some

  pub looking-done : length zs ≤ i → given_in k zs ≡ None
  looking-done past = so ∙ ap (given_in k) (drop_all i zs past)
