-- The arguments go, one after another.
use Rattle.std.proofs.Common.{◌≡◌, ◌≢◌, ◌∙◌, ℕ, zero, suc, ◌+◌, ◌<◌, ◌≤◌, ℤ, List, [], ◌∷◌, ◌++◌, length, map, refl, sym, ap, subst, arith}
use Rattle.std.specs.Prelude.{Option, None, Some}
use Rattle.f3_program.specs.declared.program.Program.{Program}
use Rattle.f3_live_blocks.specs.Blocks.{Live, words_in, words_of}
use Rattle.f3_live_blocks.proofs.Laws.{get-remove_other}
use Rattle.f3_meaning_whole.specs.Act as m
use Rattle.f3_meaning_whole.specs.Formed as formed
use Rattle.f3_code.specs.State as s
use Rattle.f3_cell_kinds.specs.Types as cell
use Rattle.f3_rooms.specs.Held.{times}
use Rattle.f3_rooms.specs.Laws.{without}
use Rattle.f3_rooms.specs.Rooms.{Rooms}
use Rattle.f3_rooms.proofs.Framing.{one_here, times_append}
use Rattle.f3_word_cells.specs.declared.cell.Cell.{Cell}
use Rattle.f3_word_cells.specs.declared.state.State.{State}
use Rattle.f3_word_cells.specs.Does.{Keeps}
use Rattle.f3_word_cells.specs.Free.{AreFree}
use Rattle.f3_word_cells.specs.Moves.{Popped, PoppedOr}
use Rattle.f3_word_cells.specs.States.{cell_blocks, own}
use Rattle.f3_word_cells.proofs.Amid.{Amid, amid_popped, amid_some}
use Rattle.f3_word_cells.proofs.InHand.{amid_without, hand_free}
use Rattle.f3_word_structures.proofs.Given.{AreMembers, OnStructure}

-- what other blocks go is no matter for a block
other-words : (b : ℕ) (bs : List ℕ) (m : Live) → times b bs ≡ 0 → words_of (without bs m) b ≡ words_of m b
other-words b [] m none = refl
other-words b (q ∷ bs) m none =
    other-words b bs _ (let e = times_append b (q ∷ []) bs in omega (arith, none, e))
    ∙ ap words_in (get-remove_other m q b (λ e. let f = times_append b (q ∷ []) bs in let g = one_here q [] in let h : times b (q ∷ []) ≡ times q (q ∷ []) = ap (λ i. times i (q ∷ [])) e in absurd (omega (arith, none, f, g, h))))

module _ (p : Program) (t : s.State) (of n : ℕ) (h : OnStructure p t of n) (old : State) (x : Rooms) (block : ℕ) (ws : List ℤ) where
  abbrev Between : Live → State → List formed.Given → List m.Passed → List ℕ → Type 0
  Between live now gs ps hand = Amid p t live old now x (map cell.Argument gs ++ h.rest) (map s.Argument ps ++ h.below) (t.world).store hand

  -- so many went
  pub record Went (live : Live) (now : State) (number : ℕ) : Type 0 where
    pub givens : List formed.Given
    pub items : List m.Passed
    pub are : AreMembers p h.type givens items
    pub left : length items + number ≡ n
    pub amid : Between live now givens items (block ∷ [])
    pub words : words_of live block ≡ ws

  module _ (live : Live) (now : State) (number : ℕ) (went : Went live now number) (lt : number < n) where
    -- one is there
    pub some-left : own now ≡ [] → ⊥
    some-left none = by went.givens went.items went.are went.left went.amid
      where
        by : (gs : List formed.Given) (ps : List m.Passed) → AreMembers p h.type gs ps → length ps + number ≡ n → Between live now gs ps (block ∷ []) → ⊥
        by [] [] are left amid = omega (arith, left, lt)
        by [] (q ∷ ps) are left amid = are
        by (g ∷ gs) [] are left amid = are
        by (g ∷ gs) (m.Lent k r ∷ ps) are left amid = are
        by (g ∷ gs) (m.Given k v ∷ ps) are left amid =
            amid_some p t live old now x (map cell.Argument (g ∷ gs) ++ h.rest) (s.Argument (m.Given k v)) (map s.Argument ps ++ h.below) (t.world).store (block ∷ []) amid none

    module _ (mid : State) (z : Cell) (popped : Popped z now mid) where
      record Gone : Type 0 where
        pub givens : List formed.Given
        pub items : List m.Passed
        pub are : AreMembers p h.type givens items
        pub left : length items + (number + 1) ≡ n
        pub amid : Between live mid givens items (cell_blocks z ++ block ∷ [])

      gone : Gone
      gone = by went.givens went.items went.are went.left went.amid
        where
          by : (gs : List formed.Given) (ps : List m.Passed) → AreMembers p h.type gs ps → length ps + number ≡ n → Between live now gs ps (block ∷ []) → Gone
          by [] [] are left amid = absurd (omega (arith, left, lt))
          by [] (q ∷ ps) are left amid = absurd are
          by (g ∷ gs) [] are left amid = absurd are
          by (g ∷ gs) (m.Lent k r ∷ ps) are left amid = absurd are
          by (g ∷ gs) (m.Given k v ∷ ps) are left amid = record {
            givens = gs;
            items = ps;
            are = are.2;
            left = omega (arith, left);
            amid = (amid_popped p t live old now mid x (cell.Argument g) (map cell.Argument gs ++ h.rest) (s.Argument (m.Given k v)) (map s.Argument ps ++ h.below) (t.world).store
                (block ∷ []) z amid popped tt).2;
          }

      pub went-free : AreFree live (cell_blocks z)
      went-free = hand_free p t live old mid x _ _ (t.world).store (cell_blocks z) (block ∷ []) gone.amid

      pub went-more : (new : Live) → new ≡ without (cell_blocks z) live → Went new mid (number + 1)
      went-more new is =
          let none : times block (cell_blocks z) ≡ 0 =
          (let one = gone.amid.once block in let e = times_append block (cell_blocks z) (block ∷ []) in let f = one_here block [] in omega (arith, one, e, f)) in
          subst (λ (l : Live). Went l mid (number + 1)) (sym is) (record {
            givens = gone.givens;
            items = gone.items;
            are = gone.are;
            left = gone.left;
            amid = amid_without p t live old mid x _ _ (t.world).store (cell_blocks z) (block ∷ []) gone.amid;
            words = other-words block (cell_blocks z) live none ∙ went.words;
          })

  pub went-all : (live : Live) (now : State) → Went live now n → Amid p t live old now x h.rest h.below (t.world).store (block ∷ [])
  went-all live now went = by went.givens went.items went.are went.left went.amid
    where
      by : (gs : List formed.Given) (ps : List m.Passed) → AreMembers p h.type gs ps → length ps + n ≡ n → Between live now gs ps (block ∷ [])
          → Amid p t live old now x h.rest h.below (t.world).store (block ∷ [])
      by [] [] are left amid = amid
      by [] (q ∷ ps) are left amid = absurd are
      by (g ∷ gs) [] are left amid = absurd are
      by (g ∷ gs) (q ∷ ps) are left amid = absurd (omega (arith, left))
