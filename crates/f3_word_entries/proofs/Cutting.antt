-- The arguments on top are cut from the cells.
use Rattle.std.proofs.Common.{◌≡◌, ◌∙◌, ℕ, suc, ◌+◌, ◌-◌, ◌≤◌, List, [], ◌∷◌, ◌++◌, length, take, drop, append_assoc, sym, ap, arith}
use Rattle.std.proofs.lemmas.List.{length-append, length-drop, take_all, take-append-drop}
use Rattle.std.specs.Prelude.{None, Some}
use Rattle.f3_places.specs.declared.source.Place.{Place}
use Rattle.f3_word_cells.specs.declared.state.Caller.{Caller}
use Rattle.f3_word_cells.specs.declared.cell.Cell.{Cell}
use Rattle.f3_word_cells.specs.declared.cell.Here.{Here}
use Rattle.f3_word_cells.specs.States.{cells_blocks, cell_blocks, datum_blocks}
use Rattle.f3_word_cells.specs.declared.cell.Datum.{Datum}
use Rattle.f3_word_cells.specs.declared.cell.Datum.TheVariants as datum
use Rattle.f3_word_cells.specs.declared.cell.Passed.TheVariants as passed
use Rattle.f3_word_cells.specs.declared.cell.Association.TheVariants as association
use Rattle.f3_word_cells.specs.declared.cell.Cell.TheVariants as c

module _ (xs : List Cell) (len count : ℕ) (all : len ≡ length xs) (enough : count ≤ length xs) where
  pub cut_many : length (drop (len - count) xs) ≡ count
  cut_many = length-drop (len - count) xs ∙ omega (arith, all, enough)

  pub cut_left : len - count ≡ length (take (len - count) xs)
  cut_left =
      let whole = ap length (take-append-drop (len - count) xs) in
      let both = length-append (take (len - count) xs) (drop (len - count) xs) in
      let many = cut_many in
      omega (arith, all, enough, whole, both, many)

pub cut_split : (k : ℕ) (xs : List Cell) → xs ≡ take k xs ++ drop k xs
cut_split k xs = sym (take-append-drop k xs)

datum_few : (d : Datum) → length (datum_blocks d) ≤ 1
datum_few (datum.Scalar k) = omega arith
datum_few (datum.Block a) = omega arith

cell_few : (z : Cell) → length (cell_blocks z) ≤ 1
cell_few (c.Datum d) = datum_few d
cell_few (c.Argument (passed.Given k d)) = datum_few d
cell_few (c.Argument (passed.Lent k d)) = omega arith
cell_few (c.Selector (association.Holds of d)) = datum_few d
cell_few (c.Selector (association.Means z)) = omega arith
cell_few z = omega arith

-- a cell has one block at most
pub blocks_few : (zs : List Cell) → length (cells_blocks zs) ≤ length zs
blocks_few [] = omega arith
blocks_few (z ∷ zs) =
    let one = cell_few z in let more = blocks_few zs in let both = length-append (cell_blocks z) (cells_blocks zs) in omega (arith, one, more, both)

-- two items more, one behind another
pub two_more : {A : Type 0} (xs ys zs : List A) (x y : A) → ys ≡ xs ++ x ∷ [] → zs ≡ ys ++ y ∷ [] → zs ≡ xs ++ (x ∷ y ∷ [])
two_more xs ys zs x y e f = f ∙ ap (λ l. l ++ y ∷ []) e ∙ append_assoc xs (x ∷ []) (y ∷ [])

pub many_more : {A : Type 0} (xs bs ys zs : List A) (y : A) → ys ≡ xs ++ bs → zs ≡ ys ++ y ∷ [] → zs ≡ xs ++ (bs ++ y ∷ [])
many_more xs bs ys zs y e f = f ∙ ap (λ l. l ++ y ∷ []) e ∙ append_assoc xs bs (y ∷ [])

pub here_is : (place : Place) (unit number a b from first many count : ℕ) → a ≡ b → from ≡ first → many ≡ count → ◌≡◌ {A = Here}
    (record { place = place; unit = unit; level = a + 1; procedure = Some number; names = record { from = from; count = many }; selected = None })
    (record { place = place; unit = unit; level = suc b; procedure = Some number; names = record { from = first; count = count }; selected = None })
here_is place unit number a b from first many count e f g =
    let up : a + 1 ≡ suc b = omega (arith, e) in
    let h : ℕ → ℕ → ℕ → Here = λ l i k. record { place = place; unit = unit; level = l; procedure = Some number; names = record { from = i; count = k }; selected = None } in
    ap (λ l. h l from many) up ∙ ap (λ i. h (suc b) i many) f ∙ ap (h (suc b) first) g

pub caller_is : (xs ys : List Caller) (pc base a b from first many count : ℕ) (place : Place) (here : Here) → a ≡ b → from ≡ first → many ≡ count
    → ys ≡ xs ++ record { pc = pc; here = here; base = base; place = place; level = a; dummies = record { from = from; count = many } } ∷ []
    → ys ≡ xs ++ record { pc = pc; here = here; base = base; place = place; level = b; dummies = record { from = first; count = count } } ∷ []
caller_is xs ys pc base a b from first many count place here e f g is =
    let h : ℕ → ℕ → ℕ → Caller = λ l i k. record { pc = pc; here = here; base = base; place = place; level = l; dummies = record { from = i; count = k } } in
    is ∙ ap (λ l. xs ++ h l from many ∷ []) e ∙ ap (λ i. xs ++ h b i many ∷ []) f ∙ ap (λ k. xs ++ h b first k ∷ []) g

-- the rest of a list from one on
pub rest_is : (k : ℕ) (xs ys : List Cell) → ys ≡ xs → take (length ys - k) (drop k ys) ≡ drop k xs
rest_is k xs ys e =
    ap (λ l. take (length l - k) (drop k l)) e
    ∙ take_all (length xs - k) (drop k xs) (let many = length-drop k xs in omega (arith, many))
