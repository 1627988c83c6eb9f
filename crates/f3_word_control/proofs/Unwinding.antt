-- So many cells that go, one after another.
use Rattle.std.proofs.Common.{◌≡◌, ◌∙◌, ℕ, zero, suc, ◌+◌, ◌<◌, List, [], ◌∷◌, ◌++◌, drop, length, refl, sym, subst, ap, arith}
use Rattle.std.specs.Prelude.{Some, map, slice_get}
use Rattle.f3_program.specs.declared.declarations.Derived.{Derived}
use Rattle.f3_program.specs.declared.program.Program.{Program}
use Rattle.f3_live_blocks.specs.Blocks.{Live}
use Rattle.f3_code.specs.declared.instruction.Instruction.TheVariants as i
use Rattle.f3_code.specs.State.{Line}
use Rattle.f3_code.specs.State as s
use Rattle.f3_cell_kinds.specs.Types.{CellType, sort_of_type}
use Rattle.f3_cell_kinds.specs.Laws.{site_at}
use Rattle.f3_store_kinds.specs.Clean.{ArePlain, IsClean}
use Rattle.f3_rooms.specs.Laws.{without}
use Rattle.f3_rooms.specs.Rooms.{Rooms}
use Rattle.f3_word_cells.specs.declared.cell.Cell.{Cell}
use Rattle.f3_word_cells.specs.declared.state.State.{State}
use Rattle.f3_word_cells.specs.Free.{AreFree}
use Rattle.f3_word_cells.specs.Scenes.{code_of}
use Rattle.f3_word_cells.specs.States.{cell_blocks, own}
use Rattle.f3_word_cells.specs.Moves.{Popped}
use Rattle.f3_word_cells.specs.Does.{IsTold}
use Rattle.f3_word_cells.proofs.OnTop.{AreOf, cells_taken, line_kinds}
use Rattle.f3_word_cells.proofs.Flat.{IsFlat, plain_is_flat}
use Rattle.f3_word_cells.proofs.Amid.{Amid, amid_popped, amid_some}
use Rattle.f3_word_cells.proofs.InHand.{amid_without, hand_free}

-- the cell of a number, counted from the top, may go by itself
pub record Next (k : ℕ) (ks : List CellType) (stack : List s.Cell) : Type 0 where
  pub type : CellType
  pub cell : s.Cell
  pub kinds : drop k ks ≡ type ∷ drop (k + 1) ks
  pub split : drop k stack ≡ cell ∷ drop (k + 1) stack
  pub flat : IsFlat cell

deeper : {k : ℕ} {y : CellType} {b : s.Cell} {ks : List CellType} {stack : List s.Cell} → Next k ks stack → Next (suc k) (y ∷ ks) (b ∷ stack)
deeper {k = k} {y = y} {b = b} {ks = ks} {stack = stack} next =
    let e : k + 1 + 1 ≡ suc (k + 1) = omega arith in
    let f : suc k + 1 ≡ suc (k + 1) = omega arith in
    record {
      type = next.type;
      cell = next.cell;
      kinds = next.kinds ∙ ap (λ n. next.type ∷ drop n (y ∷ ks)) (sym f);
      split = next.split ∙ ap (λ n. next.cell ∷ drop n (b ∷ stack)) (sym f);
      flat = next.flat;
    }

pub next_of : (types : List Derived) (k n : ℕ) (xs rest : List CellType) (tops below : List s.Cell) → AreOf types xs tops → length xs ≡ n
    → ArePlain n (map sort_of_type (xs ++ rest)) → k < n → Next k (xs ++ rest) (tops ++ below)
next_of types k n [] rest tops below are many plain less = absurd (omega (arith, many, less))
next_of types k n (x ∷ xs) rest [] below are many plain less = absurd are
next_of types k zero (x ∷ xs) rest (b ∷ tops) below are many plain less = absurd (omega (arith, less))
next_of types zero (suc n) (x ∷ xs) rest (b ∷ tops) below are many plain less =
    record { type = x; cell = b; kinds = refl; split = refl; flat = plain_is_flat types x b plain.0 are.0 }
next_of types (suc k) (suc n) (x ∷ xs) rest (b ∷ tops) below are many plain less =
    deeper (next_of types k n xs rest tops below are.1 (omega (arith, many)) plain.1 (omega (arith, less)))

dropped : (n : ℕ) (xs rest : List CellType) → length xs ≡ n → drop n (xs ++ rest) ≡ rest
dropped zero [] rest many = refl
dropped zero (x ∷ xs) rest many = absurd (omega (arith, many))
dropped (suc n) [] rest many = absurd (omega (arith, many))
dropped (suc n) (x ∷ xs) rest many = dropped n xs rest (omega (arith, many))

module _ (p : Program) (t : s.State) (l : Line) (count : ℕ) (told : IsTold p t) (there : slice_get (code_of p).lines t.pc ≡ Some l) (is : l.act ≡ i.Unwind count) where
  pub next_at : (k : ℕ) → k < count → Next k (site_at p t.pc).cells t.stack
  next_at k less =
      let lead = line_kinds p t l _ told there is in
      let top = cells_taken p t lead.0 lead.2.rest told lead.2.before in
      let clean : IsClean (i.Unwind count) (map sort_of_type (site_at p t.pc).cells) =
      subst (λ a. IsClean a (map sort_of_type (site_at p t.pc).cells)) is (told.clean t.pc l there) in
      let next = next_of p.types.items k count lead.0 lead.2.rest top.tops top.below top.are lead.1
      (subst (λ ks. ArePlain count (map sort_of_type ks)) lead.2.before clean) less in
      subst (λ bs. Next k (site_at p t.pc).cells bs) (sym top.split) (subst (λ ks. Next k ks (top.tops ++ top.below)) (sym lead.2.before) next)

  -- the kinds that are left
  pub rest_of : drop count (site_at p t.pc).cells ≡ (line_kinds p t l (i.Unwind count) told there is).2.rest
  rest_of =
      let lead = line_kinds p t l (i.Unwind count) told there is in
      ap (drop count) lead.2.before ∙ dropped count lead.0 lead.2.rest lead.1

  module _ (n : Live) (old now : State) (x : Rooms) (k : ℕ) (less : k < count)
      (amid : Amid p t n old now x (drop k (site_at p t.pc).cells) (drop k t.stack) t.world.store []) where
    with_next : Amid p t n old now x ((next_at k less).type ∷ drop (k + 1) (site_at p t.pc).cells) ((next_at k less).cell ∷ drop (k + 1) t.stack) t.world.store []
    with_next = subst (λ bs. Amid p t n old now x ((next_at k less).type ∷ drop (k + 1) (site_at p t.pc).cells) bs t.world.store []) (next_at k less).split
        (subst (λ ks. Amid p t n old now x ks (drop k t.stack) t.world.store []) (next_at k less).kinds amid)

    -- there is one more
    pub one_more : own now ≡ [] → ⊥
    one_more e = amid_some p t n old now x _ _ _ t.world.store [] with_next e

    module _ (then : State) (a : Cell) (popped : Popped a now then) where
      taken_off : Amid p t n old then x (drop (k + 1) (site_at p t.pc).cells) (drop (k + 1) t.stack) t.world.store (cell_blocks a ++ [])
      taken_off = (amid_popped p t n old now then x _ _ _ _ t.world.store [] a with_next popped (next_at k less).flat).2

      pub free_then : AreFree n (cell_blocks a)
      free_then = hand_free p t n old then x _ _ t.world.store (cell_blocks a) [] taken_off

      pub less_by_one : Amid p t (without (cell_blocks a) n) old then x (drop (k + 1) (site_at p t.pc).cells) (drop (k + 1) t.stack) t.world.store []
      less_by_one = amid_without p t n old then x _ _ t.world.store (cell_blocks a) [] taken_off
