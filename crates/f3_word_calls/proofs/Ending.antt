-- The values that an ASSOCIATE held end.
use Rattle.std.proofs.Common.{◌≡◌, ◌∙◌, ℕ, ◌+◌, ◌≤◌, List, [], ◌∷◌, ◌++◌, length, take, drop, reverse, sym, ap, subst, arith}
use Rattle.std.specs.Prelude.{Ok, None, Some, slice_get}
use Rattle.f3_program.specs.declared.declarations.Kind.{Kind}
use Rattle.f3_program.specs.declared.program.Program.{Program}
use Rattle.f3_live_blocks.specs.Blocks.{Live}
use Rattle.f3_meaning_whole.specs.Exec.{Flow}
use Rattle.f3_meaning_whole.specs.Reference.{Reference}
use Rattle.f3_meaning_whole.specs.Ran.{Ended}
use Rattle.f3_meaning_whole.specs.Store.{Store}
use Rattle.f3_code.specs.declared.instruction.Instruction.TheVariants as i
use Rattle.f3_code.specs.Heap.{with_answers}
use Rattle.f3_code.specs.Machine.{on}
use Rattle.f3_code.specs.State.{Line}
use Rattle.f3_code.specs.State as s
use Rattle.f3_cell_kinds.specs.Types.{CellType}
use Rattle.f3_cell_kinds.specs.Types as cell
use Rattle.f3_cell_kinds.specs.Laws.{site_at}
use Rattle.f3_cells.specs.Cells.{flow_of}
use Rattle.f3_cells.specs.declared.cell.Flow.{Flow as Way}
use Rattle.f3_rooms.specs.Held.{times}
use Rattle.f3_rooms.specs.Laws.{before_level}
use Rattle.f3_rooms.specs.Rooms.{Rooms, Slot}
use Rattle.f3_rooms.proofs.Framing.{Kept, kept_fewer}
use Rattle.f3_word_cells.specs.declared.cell.Range.{Range}
use Rattle.f3_word_cells.specs.declared.cell.Cell.{Cell}
use Rattle.f3_word_cells.specs.declared.cell.Cell.TheVariants as c
use Rattle.f3_word_cells.specs.declared.state.Name.{Name}
use Rattle.f3_word_cells.specs.declared.state.Caller.{Caller}
use Rattle.f3_word_cells.specs.declared.state.State.{State}
use Rattle.f3_word_cells.specs.Cells.{AreCells}
use Rattle.f3_word_cells.specs.Scenes.{code_of}
use Rattle.f3_word_cells.specs.States.{AreAtHand, AreCalled, AreCallers, AreKnown, AreTight, IsOrderly, Stands, beneath, end_of, cells_blocks, levels_rooms, own}
use Rattle.f3_word_cells.specs.Moves.{Popped, Pushed}
use Rattle.f3_word_cells.specs.Does.{Becomes, IsTold, stream}
use Rattle.f3_word_cells.proofs.OnTop.{line_kinds, of_going, of_level, of_objects, three_on_top}
use Rattle.f3_word_cells.proofs.Stacks.{cells_blocks_reverse, cells_blocks_split}
use Rattle.f3_word_cells.proofs.Staying.{callers_stay, cells_stay}
use Rattle.f3_word_cells.proofs.Moving.{Beneath}
use Rattle.f3_word_cells.proofs.Orderly.{IsAfter, after_way}
use Rattle.f3_word_cells.proofs.Lines.{answering, line_goes, performs_does, with_stack}
use Rattle.f3_word_calls.specs.Gone.{Gone, MayGo, first_block}
use Rattle.f3_word_calls.specs.Taken.{Took, level_cell}
use Rattle.f3_word_calls.proofs.Giving.{gone_none}
use Rattle.f3_word_calls.proofs.Tight.{length_cut, orderly_to}
use Rattle.f3_word_calls.proofs.Leaving.{blocks_ended, kept_left, left_stands, levels_go}
use Rattle.f3_word_calls.proofs.Tops.{going_cell, level_is, objects_cell, top_is}

module _ (p : Program) (m : Live) (old : State) (x : Rooms) (t : s.State) (l : Line) (told : IsTold p t)
    (there : slice_get (code_of p).lines t.pc ≡ Some l) (is : l.act ≡ i.EndAssociate) (st : Stands p m old x t) where
  -- what stands on top
  pub record AtEnd : Type 0 where
    pub left : List Reference
    pub flow : Flow
    pub level : ℕ
    pub objects : List Reference
    pub below : List s.Cell
    pub split : t.stack ≡ s.Objects left ∷ s.Going flow ∷ s.Level level objects ∷ below
    pub names : List Kind
    pub others : List Kind
    pub rest : List CellType
    pub kinds : (site_at p t.pc).cells ≡ cell.Objects names ∷ cell.Going ∷ cell.Level others ∷ rest
    pub next : IsAfter p t.pc (t.pc + 1) (cell.Going ∷ rest)

  pub at_end : AtEnd
  at_end =
      let lead = line_kinds p t l i.EndAssociate told there is in
      let three = three_on_top p t (cell.Objects lead.0) cell.Going (cell.Level lead.1) lead.2.rest told lead.2.before in
      let objects = of_objects p.types.items lead.0 three.cell three.is in
      let going = of_going p.types.items three.next three.next_is in
      let level = of_level p.types.items lead.1 three.third three.third_is in
      record {
        left = objects.0;
        flow = going.0;
        level = level.0;
        objects = level.1;
        below = three.below;
        split = three.split ∙ ap (λ b. b ∷ three.next ∷ three.third ∷ three.below) objects.1
            ∙ ap (λ b. s.Objects objects.0 ∷ b ∷ three.third ∷ three.below) going.1
            ∙ ap (λ b. s.Objects objects.0 ∷ s.Going going.0 ∷ b ∷ three.below) level.2;
        names = lead.0;
        others = lead.1;
        rest = lead.2.rest;
        kinds = lead.2.before;
        next = after_way p t.pc (t.pc + 1) (cell.Going ∷ []) lead.2.rest lead.2.next;
      }

  abbrev Rest : Rooms → List Name → Type 0
  Rest = Beneath p m old t.frames

  abbrev ns : List Name
  ns = old.names.items.items

  abbrev two_ : List s.Cell
  two_ = s.Going at_end.flow ∷ s.Level at_end.level at_end.objects ∷ at_end.below

  old_cells : AreCells p m Rest x ns old.here t.here (own old) (s.Objects at_end.left ∷ two_)
  old_cells = subst (λ bs. AreCells p m Rest x ns old.here t.here (own old) bs) at_end.split st.stack

  pub some_objects : (new : State) → Took c.Objects None old new → ⊥
  some_objects new none =
      let top = top_is p m x Rest ns old.here t.here (own old) _ _ old_cells in
      let cell = objects_cell p m x ns top.0 _ top.3 in
      none cell.0 top.1 (top.2 ∙ ap (λ a. a ∷ top.1) cell.1)

  module _ (range : Range) (one : State) (popped : Popped (c.Objects range) old one) where
    one_cells : AreCells p m Rest x ns old.here t.here (own one) two_
    one_cells =
        let cells : AreCells p m Rest x ns old.here t.here (c.Objects range ∷ own one) (s.Objects at_end.left ∷ two_) =
        subst (λ zs. AreCells p m Rest x ns old.here t.here zs (s.Objects at_end.left ∷ two_)) popped.cells old_cells in
        cells.2

    pub some_going : (new : State) → Took c.Going None one new → ⊥
    some_going new none =
        let top = top_is p m x Rest ns old.here t.here (own one) _ _ one_cells in
        let cell = going_cell p m x ns top.0 _ top.3 in
        none cell.0 top.1 (top.2 ∙ ap (λ a. a ∷ top.1) cell.1)

    module _ (way : Way) (two : State) (taken : Popped (c.Going way) one two) where
      going_cells : AreCells p m Rest x ns old.here t.here (c.Going way ∷ own two) two_
      going_cells = subst (λ zs. AreCells p m Rest x ns old.here t.here zs two_) taken.cells one_cells

      two_cells : AreCells p m Rest x ns old.here t.here (own two) (s.Level at_end.level at_end.objects ∷ at_end.below)
      two_cells = going_cells.2

      flow_is : at_end.flow ≡ flow_of way
      flow_is = going_cells.0

      pub some_level : (new : State) → Took level_cell None two new → ⊥
      some_level new none =
          let top = top_is p m x Rest ns old.here t.here (own two) _ _ two_cells in
          let cell = level_is p m x ns top.0 _ _ top.3 in
          none cell.0 top.1 (top.2 ∙ ap (λ a. a ∷ top.1) cell.1)

      module _ (k : ℕ) (objects : Range) (three : State) (leveled : Popped (c.Level k objects) two three) where
        level_cells : AreCells p m Rest x ns old.here t.here (c.Level k objects ∷ own three) (s.Level at_end.level at_end.objects ∷ at_end.below)
        level_cells = subst (λ zs. AreCells p m Rest x ns old.here t.here zs (s.Level at_end.level at_end.objects ∷ at_end.below)) leveled.cells two_cells

        same_level : at_end.level ≡ k
        same_level = level_cells.0.0

        three_cells : AreCells p m Rest (before_level x k) (take objects.from ns) old.here t.here (own three) at_end.below
        three_cells = level_cells.2

        same_blocks : three.blocks ≡ old.blocks
        same_blocks = leveled.same.blocks ∙ taken.same.blocks ∙ popped.same.blocks

        same_levels : three.levels ≡ old.levels
        same_levels = leveled.same.levels ∙ taken.same.levels ∙ popped.same.levels

        same_values : (q : ℕ) → times q (cells_blocks old.cells.items.items) ≡ times q (cells_blocks three.cells.items.items) + times q []
        same_values q = let a = popped.blocks q in let b = taken.blocks q in let e = leveled.blocks q in omega (arith, a, b, e)

        first_same : first_block three.levels.items.items three.blocks.items.items k ≡ first_block old.levels.items.items old.blocks.items.items k
        first_same =
            ap (λ w. first_block w.items.items three.blocks.items.items k) same_levels
            ∙ ap (λ w. first_block old.levels.items.items w.items.items k) same_blocks

        ended_is : drop (first_block three.levels.items.items three.blocks.items.items k) three.blocks.items.items ≡ levels_rooms (drop k x.levels)
        ended_is =
            ap (λ j. drop j three.blocks.items.items) first_same
            ∙ ap (λ w. drop (first_block old.levels.items.items old.blocks.items.items k) w.items.items) same_blocks
            ∙ blocks_ended p m old x t st k

        pub levels_may : MayGo m (drop (first_block three.levels.items.items three.blocks.items.items k) three.blocks.items.items)
        levels_may = subst (λ bs. MayGo m bs) (sym ended_is)
            (levels_go p m old x t st k m [] (cells_blocks three.cells.items.items) same_values (gone_none m))

        -- the state before the way on is put on top
        module _ (n : Live) (mid new : State)
            (ended : Gone (drop (first_block three.levels.items.items three.blocks.items.items k) three.blocks.items.items) m n)
            (pc_is : mid.pc ≡ three.pc) (cells_is : mid.cells ≡ three.cells) (base_is : mid.base ≡ three.base)
            (here_is : mid.here ≡ three.here) (names_is : mid.names.items.items ≡ take objects.from three.names.items.items)
            (callers_is : mid.callers ≡ three.callers) (statics_is : mid.statics ≡ three.statics)
            (blocks_is : mid.blocks.items.items ≡ take (first_block three.levels.items.items three.blocks.items.items k) three.blocks.items.items)
            (levels_is : mid.levels.items.items ≡ take k three.levels.items.items)
            (pushed : Pushed (c.Going way) (mid.pc + 1) mid new) where
          all_gone : Gone ([] ++ levels_rooms (drop k x.levels)) m n
          all_gone = subst (λ bs. Gone bs m n) ended_is ended

          kept : Kept m n (cells_blocks three.cells.items.items)
          kept = kept_left p m old x t st k n [] (cells_blocks three.cells.items.items) same_values all_gone

          own_mid : own mid ≡ own three
          own_mid = ap (λ w. reverse (drop mid.base w.items.items)) cells_is ∙ ap (λ b. reverse (drop b three.cells.items.items)) base_is

          own_new : own new ≡ c.Going way ∷ own three
          own_new = pushed.cells ∙ ap (λ zs. c.Going way ∷ zs) own_mid

          beneath_new : beneath new ≡ beneath old
          beneath_new =
              pushed.same.beneath ∙ ap (λ w. take mid.base w.items.items) cells_is ∙ ap (λ b. take b three.cells.items.items) base_is
              ∙ leveled.same.beneath ∙ taken.same.beneath ∙ popped.same.beneath

          abbrev New : Rooms → List Name → Type 0
          New = AreCallers p n (beneath old) (reverse old.callers.items.items) t.frames

          kept_own : Kept m n (cells_blocks (own three))
          kept_own = kept_fewer m n (cells_blocks three.cells.items.items) (cells_blocks (own three))
              (λ q. let a = cells_blocks_split q three.base three.cells.items.items in
              let b = cells_blocks_reverse q (drop three.base three.cells.items.items) in omega (arith, a, b)) kept

          kept_beneath : Kept m n (cells_blocks (beneath old))
          kept_beneath = kept_fewer m n (cells_blocks three.cells.items.items) (cells_blocks (beneath old))
              (λ q. let a = cells_blocks_split q three.base three.cells.items.items in
              let b : times q (cells_blocks (beneath three)) ≡ times q (cells_blocks (beneath old)) =
              ap (λ zs. times q (cells_blocks zs)) (leveled.same.beneath ∙ taken.same.beneath ∙ popped.same.beneath) in
              omega (arith, a, b)) kept

          end_cells : AreCells p n New (before_level x k) (take objects.from ns) old.here t.here (c.Going way ∷ own three) (s.Going at_end.flow ∷ at_end.below)
          end_cells = (
            flow_is,
            tt,
            cells_stay p m n Rest New (callers_stay p m n (beneath old) (reverse old.callers.items.items) t.frames kept_beneath) (before_level x k)
                (take objects.from ns) old.here t.here (own three) at_end.below kept_own three_cells,
          )

          pub end_do : Becomes p l t (Ok tt) n new
          end_do =
              let bs : List s.Cell = s.Going at_end.flow ∷ at_end.below in
              let y : Rooms = before_level x k in
              let names_so : new.names.items.items ≡ take objects.from ns =
              ap (λ w. w.items.items) pushed.same.names ∙ names_is
              ∙ ap (λ w. take objects.from w.items.items) (leveled.same.names ∙ taken.same.names ∙ popped.same.names) in
              let here_so : new.here ≡ old.here = pushed.same.here ∙ here_is ∙ leveled.same.here ∙ taken.same.here ∙ popped.same.here in
              let callers_so : new.callers ≡ old.callers = pushed.same.callers ∙ callers_is ∙ leveled.same.callers ∙ taken.same.callers ∙ popped.same.callers in
              let a : AreCells p n New y new.names.items.items old.here t.here (c.Going way ∷ own three) bs =
              subst (λ ms. AreCells p n New y ms old.here t.here (c.Going way ∷ own three) bs) (sym names_so) end_cells in
              let b : AreCells p n New y new.names.items.items new.here t.here (c.Going way ∷ own three) bs =
              subst (λ h. AreCells p n New y new.names.items.items h t.here (c.Going way ∷ own three) bs) (sym here_so) a in
              let d : AreCells p n New y new.names.items.items new.here t.here (own new) bs =
              subst (λ zs. AreCells p n New y new.names.items.items new.here t.here zs bs) (sym own_new) b in
              let e : AreCells p n (AreCallers p n (beneath new) (reverse old.callers.items.items) t.frames) y new.names.items.items new.here t.here (own new) bs =
              subst (λ zs. AreCells p n (AreCallers p n zs (reverse old.callers.items.items) t.frames) y new.names.items.items new.here t.here (own new) bs)
              (sym beneath_new) d in
              let f : AreCells p n (Beneath p n new t.frames) y new.names.items.items new.here t.here (own new) bs =
              subst (λ cs. AreCells p n (AreCallers p n (beneath new) (reverse cs.items.items) t.frames) y new.names.items.items new.here t.here (own new) bs)
              (sym callers_so) e in
              let own_old : own old ≡ c.Objects range ∷ c.Going way ∷ c.Level k objects ∷ own three =
              popped.cells ∙ ap (λ zs. c.Objects range ∷ zs) taken.cells ∙ ap (λ zs. c.Objects range ∷ c.Going way ∷ zs) leveled.cells in
              let was : AreKnown p (cell.Objects at_end.names ∷ cell.Going ∷ cell.Level at_end.others ∷ at_end.rest)
              (c.Objects range ∷ c.Going way ∷ c.Level k objects ∷ own three) =
              subst (λ zs. AreKnown p (cell.Objects at_end.names ∷ cell.Going ∷ cell.Level at_end.others ∷ at_end.rest) zs) own_old
              (subst (λ ks. AreKnown p ks (own old)) at_end.kinds st.known) in
              let known : AreKnown p (site_at p (t.pc + 1)).cells (own new) =
              subst (λ ks. AreKnown p ks (own new)) (sym at_end.next.cells)
              (subst (λ zs. AreKnown p (cell.Going ∷ at_end.rest) zs) (sym own_new) (tt, was.1.1.1)) in
              let Called : List Cell → List Caller → List (List Slot) → ℕ → Type 0 = AreCalled p in
              let were : AreTight (Called (beneath old) (reverse old.callers.items.items)) x.levels (length ns)
              (c.Objects range ∷ c.Going way ∷ c.Level k objects ∷ own three) =
              subst (λ zs. AreTight (Called (beneath old) (reverse old.callers.items.items)) x.levels (length ns) zs) own_old st.tight in
              let ended_at : end_of objects ≡ length ns = were.2 in
              let size : length new.names.items.items ≡ objects.from = ap length names_so ∙ length_cut objects.from ns (omega (arith, ended_at)) in
              let left_tight : AreTight (Called (beneath old) (reverse old.callers.items.items)) (take k x.levels) objects.from (c.Going way ∷ own three) = were.3 in
              let tight_one : AreTight (Called (beneath old) (reverse old.callers.items.items)) (take k x.levels) (length new.names.items.items) (own new) =
              subst (λ j. AreTight (Called (beneath old) (reverse old.callers.items.items)) (take k x.levels) j (own new)) (sym size)
              (subst (λ zs. AreTight (Called (beneath old) (reverse old.callers.items.items)) (take k x.levels) objects.from zs) (sym own_new) left_tight) in
              let tight : AreTight (Called (beneath new) (reverse new.callers.items.items)) (take k x.levels) (length new.names.items.items) (own new) =
              subst (λ zs. AreTight (Called zs (reverse new.callers.items.items)) (take k x.levels) (length new.names.items.items) (own new)) (sym beneath_new)
              (subst (λ cs. AreTight (Called (beneath old) (reverse cs.items.items)) (take k x.levels) (length new.names.items.items) (own new)) (sym callers_so) tight_one) in
              let orderly : IsOrderly p (t.pc + 1) (length new.names.items.items) new.here (own new) =
              orderly_to p t.pc (t.pc + 1) (length ns) (length new.names.items.items) old.here new.here (own old) (own new) (cell.Going ∷ at_end.rest) at_end.next
              (λ are. subst (λ h. AreAtHand (length new.names.items.items) h (own new)) (sym here_so)
              (subst (λ j. AreAtHand j old.here (own new)) (sym size)
              (subst (λ zs. AreAtHand objects.from old.here zs) (sym own_new)
              (subst (λ zs. AreAtHand (length ns) old.here zs) own_old are)))) st.orderly in
              let store : Store = record { statics = t.world.store.statics; levels = take at_end.level t.world.store.levels } in
              let u : s.State = record { pc = t.pc + 1; stack = bs; here = t.here; frames = t.frames; world = answering store t.world.answers } in
              let on_top : List s.Cell = s.Objects at_end.left ∷ two_ in
              record {
                next = u;
                rooms = y;
                goes = line_goes p l t i.EndAssociate on_top u [] tt (Ended at_end.level ∷ []) is at_end.split
                    (λ rest. performs_does (λ z. Ended at_end.level ∷ []) (answering t.world.store rest)
                    (λ done w. on (with_answers (stream [] rest) (with_stack on_top t)) bs w));
                stands = left_stands p m old x t st k n new u (record {
                  went = [];
                  counts = λ q. let g = same_values q in let h = pushed.blocks q in
                      let j : times q (cells_blocks mid.cells.items.items) ≡ times q (cells_blocks three.cells.items.items) =
                      ap (λ w. times q (cells_blocks w.items.items)) cells_is in
                      omega (arith, g, h, j);
                  gone = all_gone;
                  blocks = ap (λ w. w.items.items) pushed.same.blocks ∙ blocks_is ∙ ap (λ j. take j three.blocks.items.items) first_same
                      ∙ ap (λ w. take (first_block old.levels.items.items old.blocks.items.items k) w.items.items) same_blocks;
                  levels = ap (λ w. w.items.items) pushed.same.levels ∙ levels_is ∙ ap (λ w. take k w.items.items) same_levels;
                  statics = pushed.same.statics ∙ statics_is ∙ leveled.same.statics ∙ taken.same.statics ∙ popped.same.statics;
                  store = ap (λ j. let z : Store = record { statics = t.world.store.statics; levels = take j t.world.store.levels } in z) same_level;
                  pc = ap (λ j. j + 1) (st.pc ∙ sym (pc_is ∙ leveled.pc ∙ taken.pc ∙ popped.pc)) ∙ sym pushed.pc;
                  bottom = pushed.same.bottom
                      (let under : three.base ≤ length three.cells.items.items =
                      leveled.same.bottom (taken.same.bottom (popped.same.bottom st.bottom)) in
                      let j = base_is in let h : length mid.cells.items.items ≡ length three.cells.items.items = ap (λ w. length w.items.items) cells_is in
                      omega (arith, under, j, h));
                  known = known;
                  stack = f;
                  orderly = orderly;
                  tight = tight;
                });
              }
