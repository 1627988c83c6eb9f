-- Of which kinds the values in blocks are, where cells come and go.
use Rattle.std.proofs.Common.{◌≡◌, ℕ, List, [], ◌∷◌, ◌++◌, length, sym, subst, arith}
use Rattle.f3_program.specs.declared.program.Program.{Program}
use Rattle.f3_cell_kinds.specs.Types.{CellType}
use Rattle.f3_word_cells.specs.declared.cell.Cell.{Cell}
use Rattle.f3_word_cells.specs.declared.state.State.{State}
use Rattle.f3_word_cells.specs.States.{AreKnown, IsKnown, own}
use Rattle.f3_word_cells.specs.Moves.{Popped, Pushed}

module _ (p : Program) where
  -- one cell
  pub known_popped : (k : CellType) (ks : List CellType) (c : Cell) (old new : State) → AreKnown p (k ∷ ks) (own old) → Popped c old new
      → IsKnown p k c × AreKnown p ks (own new)
  known_popped k ks c old new known popped = subst (λ (cs : List Cell). AreKnown p (k ∷ ks) cs) popped.cells known

  pub known_pushed : (k : CellType) (ks : List CellType) (c : Cell) (to : ℕ) (old new : State) → AreKnown p ks (own old) → Pushed c to old new → IsKnown p k c
      → AreKnown p (k ∷ ks) (own new)
  known_pushed k ks c to old new known pushed is = subst (λ (cs : List Cell). AreKnown p (k ∷ ks) cs) (sym pushed.cells) (is, known)

  -- cells that stay beneath others, and the others
  pub known_below : (ks js : List CellType) (cs bs : List Cell) → length ks ≡ length cs → AreKnown p (ks ++ js) (cs ++ bs) → AreKnown p js bs
  known_below [] js [] bs same known = known
  known_below [] js (a ∷ cs) bs same known = absurd (omega (arith, same))
  known_below (k ∷ ks) js [] bs same known = absurd (omega (arith, same))
  known_below (k ∷ ks) js (a ∷ cs) bs same known = known_below ks js cs bs (omega (arith, same)) known.1

  pub known_both : (ks js : List CellType) (cs bs : List Cell) → length ks ≡ length cs → AreKnown p ks cs → AreKnown p js bs → AreKnown p (ks ++ js) (cs ++ bs)
  known_both [] js [] bs same known below = below
  known_both [] js (a ∷ cs) bs same known below = absurd (omega (arith, same))
  known_both (k ∷ ks) js [] bs same known below = absurd (omega (arith, same))
  known_both (k ∷ ks) js (a ∷ cs) bs same known below = (known.0, known_both ks js cs bs (omega (arith, same)) known.1 below)
