-- Names and levels that stand one behind another, where activations and constructs end.
use Rattle.std.proofs.Common.{◌≡◌, ◌∙◌, ℕ, zero, suc, ◌<◌, ◌≤◌, List, [], ◌∷◌, length, take, refl, sym, ap, subst, arith}
use Rattle.f3_program.specs.declared.program.Program.{Program}
use Rattle.f3_cell_kinds.specs.Types.{CellType, Untold}
use Rattle.f3_cell_kinds.specs.Holds.{InScope}
use Rattle.f3_cell_kinds.specs.Laws.{site_at}
use Rattle.f3_rooms.specs.Rooms.{Slot}
use Rattle.f3_word_cells.specs.declared.cell.Here.{Here}
use Rattle.f3_word_cells.specs.declared.cell.Cell.{Cell}
use Rattle.f3_word_cells.specs.declared.cell.Cell.TheVariants as c
use Rattle.f3_word_cells.specs.declared.state.Caller.{Caller}
use Rattle.f3_word_cells.specs.States.{AreAtHand, AreCalled, AreTight, IsOrderly, cells_from}
use Rattle.f3_word_cells.proofs.Orderly.{IsAfter, in_scope}

-- ---- an activation at another line

-- with other names
pub orderly_to : (p : Program) (from to n j : ℕ) (h k : Here) (zs ys : List Cell) (ks : List CellType) → IsAfter p from to ks
    → (AreAtHand n h zs → AreAtHand j k ys) → IsOrderly p from n h zs → IsOrderly p to j k ys
orderly_to p from to n j h k zs ys ks after f are =
    subst (λ o. InScope p.types.items (λ z. AreAtHand j k ys) o) (sym after.scope)
    (in_scope p.types.items (λ z. AreAtHand n h zs) (λ z. AreAtHand j k ys) (site_at p from).scope (λ z. f) are)

-- one that looks at its caller
pub orderly_untold : (p : Program) (to j : ℕ) (k : Here) (ys : List Cell) → (site_at p to).scope ≡ Untold → IsOrderly p to j k ys
orderly_untold p to j k ys scope = subst (λ o. InScope p.types.items (λ z. AreAtHand j k ys) o) (sym scope) tt

-- ---- levels

take_twice : {A : Type 0} (k j : ℕ) (xs : List A) → k ≤ j → take k (take j xs) ≡ take k xs
take_twice zero j xs less = refl
take_twice (suc k) zero xs less = absurd (omega (arith, less))
take_twice (suc k) (suc j) [] less = refl
take_twice (suc k) (suc j) (x ∷ xs) less = ap (λ ys. x ∷ ys) (take_twice k j xs (omega (arith, less)))

taken_less : {A : Type 0} (k j : ℕ) (xs : List A) → k < length (take j xs) → (k ≤ j) × (k < length xs)
taken_less k zero xs less = absurd (omega (arith, less))
taken_less k (suc j) [] less = absurd (omega (arith, less))
taken_less zero (suc j) (x ∷ xs) less = (omega arith, omega arith)
taken_less (suc k) (suc j) (x ∷ xs) less =
    let more = taken_less k j xs (omega (arith, less)) in
    let a = more.0 in
    let b = more.1 in
    (omega (arith, a), omega (arith, b))

-- ---- what stands beneath an activation

module _ (p : Program) (ys : List Cell) (f : Caller) (fs : List Caller) where
  -- the caller, with the names before the dummies, and the levels before that of the values that are held for it
  abbrev pub IsBack : List (List Slot) → Type 0
  IsBack ls = (f.level < length ls) × IsOrderly p f.pc f.dummies.from f.here (cells_from f.base ys)
      × AreTight (AreCalled p (take f.base ys) fs) (take f.level ls) f.dummies.from (cells_from f.base ys)

  back_less : (ls : List (List Slot)) (k : ℕ) → IsBack (take k ls) → IsBack ls
  back_less ls k is =
      let less = taken_less f.level k ls is.0 in (
        less.1,
        is.1,
        subst (λ zs. AreTight (AreCalled p (take f.base ys) fs) zs f.dummies.from (cells_from f.base ys)) (take_twice f.level k ls less.0) is.2,
      )

  -- whatever the activation at work has
  pub called_back : (ls : List (List Slot)) (n : ℕ) (zs : List Cell) → AreTight (AreCalled p ys (f ∷ fs)) ls n zs → IsBack ls
  called_back ls n [] are = let e = are.0.levels in (omega (arith, e), are.1, are.2)
  called_back ls n (c.Level level range ∷ zs) are = back_less ls level (called_back (take level ls) range.from zs are.3)
  called_back ls n (c.Datum d ∷ zs) are = called_back ls n zs are
  called_back ls n (c.Object d ∷ zs) are = called_back ls n zs are
  called_back ls n (c.Each d e ∷ zs) are = called_back ls n zs are
  called_back ls n (c.Argument d ∷ zs) are = called_back ls n zs are
  called_back ls n (c.Choice d ∷ zs) are = called_back ls n zs are
  called_back ls n (c.Bound d ∷ zs) are = called_back ls n zs are
  called_back ls n (c.Bounds d ∷ zs) are = called_back ls n zs are
  called_back ls n (c.Turns d e ∷ zs) are = called_back ls n zs are
  called_back ls n (c.Objects d ∷ zs) are = called_back ls n zs are
  called_back ls n (c.Selector d ∷ zs) are = called_back ls n zs are
  called_back ls n (c.Outside d ∷ zs) are = called_back ls n zs are
  called_back ls n (c.Going d ∷ zs) are = called_back ls n zs are

-- the names that are left
pub length_cut : {A : Type 0} (k : ℕ) (xs : List A) → k ≤ length xs → length (take k xs) ≡ k
length_cut zero xs less = refl
length_cut (suc k) [] less = absurd (omega (arith, less))
length_cut (suc k) (x ∷ xs) less = let e = length_cut k xs (omega (arith, less)) in omega (arith, e)
