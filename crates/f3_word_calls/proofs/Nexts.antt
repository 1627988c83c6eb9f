-- Objects of names, one after another.
use Rattle.std.proofs.Common.{◌≡◌, ◌∙◌, ℕ, zero, suc, ◌+◌, ◌≤◌, Bool, true, false, List, [], ◌∷◌, length, take, drop, refl, sym, ap, subst, inl, inr, arith}
use Rattle.std.specs.Prelude.{⊤, ◌⊎◌, Ok, Result, Some, None, slice_get, Option}
use Rattle.f3_program.specs.declared.declarations.Kind.{Kind}
use Rattle.f3_program.specs.declared.program.Program.{Program}
use Rattle.f3_live_blocks.specs.Blocks.{Live}
use Rattle.f3_meaning_whole.specs.Reference.{Reference}
use Rattle.f3_code.specs.declared.instruction.Instruction.{Instruction}
use Rattle.f3_code.specs.declared.instruction.Instruction.TheVariants as i
use Rattle.f3_code.specs.State.{Line, Goes}
use Rattle.f3_code.specs.Heap.{with_answers}
use Rattle.f3_code.specs.Exec.{is_held}
use Rattle.f3_code.specs.Machine.{next_argument, passed_in}
use Rattle.f3_meaning_whole.specs.Act.{passed_at}
use Rattle.f3_code.specs.State as s
use Rattle.f3_cell_kinds.proofs.Standing.{in_is}
use Rattle.f3_cell_kinds.specs.Types.{CellType, Scope}
use Rattle.f3_cell_kinds.specs.Types as cell
use Rattle.f3_cell_kinds.specs.Effect.{on}
use Rattle.f3_cell_kinds.specs.Kinds.{Leads}
use Rattle.f3_cell_kinds.specs.Holds.{AllRefer}
use Rattle.f3_cell_kinds.specs.Laws.{site_at}
use Rattle.f3_rooms.specs.Rooms.{Rooms}
use Rattle.f3_word_cells.specs.declared.cell.Object.{Object}
use Rattle.f3_word_cells.specs.declared.cell.Range.{Range}
use Rattle.f3_word_cells.specs.declared.cell.Cell.TheVariants as c
use Rattle.f3_word_cells.specs.declared.state.Name.{Name}
use Rattle.f3_word_cells.specs.declared.state.State.{State}
use Rattle.f3_word_cells.specs.declared.state.Stop.{Stop}
use Rattle.f3_word_cells.specs.Areas.{IsObject}
use Rattle.f3_word_cells.specs.Cells.{AreNamed, AreNames, IsHere, names_in}
use Rattle.f3_word_cells.specs.Scenes.{code_of}
use Rattle.f3_word_cells.specs.States.{Stands, own}
use Rattle.f3_word_cells.specs.Moves.{Popped, Pushed, WentAhead}
use Rattle.f3_word_cells.specs.Does.{Becomes, IsTold}
use Rattle.f3_word_cells.proofs.OnTop.{line_kinds, of_objects, one_on_top}
use Rattle.f3_word_cells.proofs.Within.{here_stands}
use Rattle.f3_word_cells.proofs.Moving.{Beneath, moved_to}
use Rattle.f3_word_cells.proofs.Orderly.{IsAfter, after_way}
use Rattle.f3_word_cells.proofs.Amid.{Amid, amid_first, amid_popped, amid_pushed}
use Rattle.f3_word_cells.proofs.Lines.{becomes_ahead, does_so, line_goes, with_stack}
use Rattle.f3_word_calls.specs.Nexts.{HasNext, IsFirst}
use Rattle.f3_word_calls.specs.Taken.{Took}
use Rattle.f3_word_calls.proofs.Tops.{objects_cell, top_is}
use Rattle.f3_word_calls.proofs.Going.{goes_with}

-- ---- the next of some objects

drop_first : {A : Type 0} (xs : List A) (k : ℕ) (x : A) → slice_get xs k ≡ Some x → drop k xs ≡ x ∷ drop (k + 1) xs
drop_first [] k x e = absurd (cc)
drop_first (y ∷ xs) zero x e = let same : y ≡ x = cc in ap (λ z. z ∷ xs) same
drop_first (y ∷ xs) (suc k) x e =
    let more : suc k + 1 ≡ suc (k + 1) = omega arith in
    drop_first xs k x e ∙ ap (λ j. x ∷ drop j (y ∷ xs)) (sym more)

names_first : (ns : List Name) (range rest : Range) (n : Name) → slice_get ns range.from ≡ Some n → rest.from ≡ range.from + 1 → range.count ≡ rest.count + 1
    → names_in range ns ≡ n ∷ names_in rest ns
names_first ns range rest n there from fewer =
    let more : range.count ≡ suc rest.count = omega (arith, fewer) in
    ap (λ k. take k (drop range.from ns)) more ∙ ap (take (suc rest.count)) (drop_first ns range.from n there)
    ∙ ap (λ k. n ∷ take rest.count (drop k ns)) (sym from)

module _ (p : Program) (x : Rooms) where
  pub named_next : (ns : List Name) (range rest : Range) (o : Object) (r : Reference) (rs : List Reference) → AreNamed p x ns range (r ∷ rs)
      → IsFirst ns range o rest → IsObject p x o r × AreNamed p x ns rest rs
  named_next ns range rest o r rs named first =
      let names : AreNames p x (first.name ∷ names_in rest ns) (r ∷ rs) =
      subst (λ ms. AreNames p x ms (r ∷ rs)) (names_first ns range rest first.name first.there first.from first.fewer) named.names in
      let count = named.count in
      let fewer = first.fewer in
      let from = first.from in
      let within = named.within in (
        subst (λ z. IsObject p x z r) (sym first.is) names.0,
        record { names = names.1; count = omega (arith, count, fewer); within = omega (arith, within, fewer, from) },
      )

  pub named_some : (ns : List Name) (range : Range) (r : Reference) (rs : List Reference) → AreNamed p x ns range (r ∷ rs)
      → (range.count ≡ 0) ⊎ (length ns ≤ range.from) → ⊥
  named_some ns range r rs named (inl none) = let count = named.count in omega (arith, count, none)
  named_some ns range r rs named (inr past) = let count = named.count in let within = named.within in omega (arith, count, within, past)

-- ---- what lines do

some_refer : (k : Kind) (ks : List Kind) (rs : List Reference) → AllRefer (k ∷ ks) rs → (r : Reference) × (others : List Reference) × (rs ≡ r ∷ others)
some_refer k ks [] h = absurd h
some_refer k ks (r ∷ rs) h = (r, rs, refl)

module _ (p : Program) (live : Live) (old : State) (x : Rooms) (t : s.State) (l : Line) (told : IsTold p t)
    (there : slice_get (code_of p).lines t.pc ≡ Some l) (st : Stands p live old x t) where
  pub is_here : IsHere p x old.names.items.items old.here t.here
  is_here = here_stands p live (Beneath p live old t.frames) x old.names.items.items old.here t.here (own old) t.stack st.stack

  pub dummies_do : (new : State) → l.act ≡ i.Dummies → Pushed (c.Objects old.here.names) (old.pc + 1) old new → Becomes p l t (Ok tt) live new
  dummies_do new is pushed =
      let site = site_at p t.pc in
      let Here : Scope → Type 0 = λ o. Leads (site_at p) t.pc (on site [] (cell.Objects o.names ∷ [])) in
      let lead = in_is site.scope Here (line_kinds p t l i.Dummies told there is) in
      let leads = lead.2 in
      goes_with p live old x t l st old new (cell.Objects (lead.0).names) leads.rest (s.Objects t.here.names) t.stack (c.Objects old.here.names)
      (amid_first p t live old x leads.rest t.stack st leads.before refl) refl pushed tt is_here.names tt
      (after_way p t.pc (t.pc + 1) (cell.Objects (lead.0).names ∷ []) leads.rest leads.next)
      (line_goes p l t i.Dummies t.stack (moved_to t (t.pc + 1) (s.Objects t.here.names ∷ t.stack) t.here t.world) [] tt [] is refl (λ rest. refl))

  -- some objects on top, and the first of them
  pub record FirstOnTop (k : Kind) (ks : List Kind) : Type 0 where
    pub first : Reference
    pub others : List Reference
    pub below : List s.Cell
    pub split : t.stack ≡ s.Objects (first ∷ others) ∷ below

  pub first_on_top : (k : Kind) (ks : List Kind) (rest : List CellType) → (site_at p t.pc).cells ≡ cell.Objects (k ∷ ks) ∷ rest → FirstOnTop k ks
  first_on_top k ks rest e =
      let top = one_on_top p t (cell.Objects (k ∷ ks)) rest told e in
      let objects = of_objects p.types.items (k ∷ ks) top.cell top.is in
      let some = some_refer k ks objects.0 objects.2 in
      record {
        first = some.0;
        others = some.1;
        below = top.below;
        split = top.split ∙ ap (λ z. z ∷ top.below) (objects.1 ∙ ap s.Objects some.2);
      }

  module _ (k : Kind) (ks : List Kind) (rest : List CellType) (before : (site_at p t.pc).cells ≡ cell.Objects (k ∷ ks) ∷ rest) where
    abbrev top : FirstOnTop k ks
    top = first_on_top k ks rest before

    amid_old : Amid p t live old old x (cell.Objects (k ∷ ks) ∷ rest) (s.Objects (top.first ∷ top.others) ∷ top.below) t.world.store []
    amid_old = amid_first p t live old x (cell.Objects (k ∷ ks) ∷ rest) (s.Objects (top.first ∷ top.others) ∷ top.below) st before top.split

    -- they are there
    pub not_none : (new : State) → Took c.Objects None old new → ⊥
    not_none new none =
        let cells = top_is p live x (Beneath p live old t.frames) old.names.items.items old.here t.here (own old) _ _ amid_old.cells in
        let is = objects_cell p live x old.names.items.items cells.0 _ cells.3 in
        none is.0 cells.1 (cells.2 ∙ ap (λ a. a ∷ cells.1) is.1)

    module _ (range : Range) (mid : State) (popped : Popped (c.Objects range) old mid) where
      taken : AreNamed p x old.names.items.items range (top.first ∷ top.others) × ⊤ × Amid p t live old mid x rest top.below t.world.store []
      taken = amid_popped p t live old old mid x (cell.Objects (k ∷ ks)) rest (s.Objects (top.first ∷ top.others)) top.below t.world.store [] (c.Objects range)
          amid_old popped tt

      -- there is a next one
      pub not_last : (result : Option (Object × Range)) → HasNext result mid.names.items.items range → result ≡ None → ⊥
      not_last None none e =
          named_some p x old.names.items.items range top.first top.others taken.0
          (subst (λ w. (range.count ≡ 0) ⊎ (length w.items.items ≤ range.from)) popped.same.names none)
      not_last (Some r) first e = cc

      module _ (o : Object) (others : Range) (first : IsFirst mid.names.items.items range o others) where
        next : IsObject p x o top.first × AreNamed p x old.names.items.items others top.others
        next = named_next p x old.names.items.items range others o top.first top.others taken.0
            (subst (λ w. IsFirst w.items.items range o others) popped.same.names first)

        -- the others are on top again
        module _ (more : State) (pushed : Pushed (c.Objects others) mid.pc mid more) where
          amid_more : Amid p t live old more x (cell.Objects ks ∷ rest) (s.Objects top.others ∷ top.below) t.world.store []
          amid_more = amid_pushed p t live old mid more x (cell.Objects ks) rest (s.Objects top.others) top.below t.world.store [] (c.Objects others) mid.pc
              taken.2 pushed tt next.1 tt

          -- and the first one above them
          pub next_goes : (act : Instruction) (new : State) → l.act ≡ act → Pushed (c.Object o) (more.pc + 1) more new
              → IsAfter p t.pc (t.pc + 1) (cell.Object k ∷ cell.Objects ks ∷ rest)
              → ((r : ℕ → Bool) → does_so p l t act (s.Objects (top.first ∷ top.others) ∷ top.below) [] r
              ≡ Goes [] (with_answers r (moved_to t (t.pc + 1) (s.Object top.first ∷ s.Objects top.others ∷ top.below) t.here t.world)))
              → Becomes p l t (Ok tt) live new
          next_goes act new is put kinds goes =
              goes_with p live old x t l st more new (cell.Object k) (cell.Objects ks ∷ rest) (s.Object top.first) (s.Objects top.others ∷ top.below) (c.Object o)
              amid_more (pushed.pc ∙ popped.pc) put tt next.0 tt kinds
              (line_goes p l t act (s.Objects (top.first ∷ top.others) ∷ top.below)
              (moved_to t (t.pc + 1) (s.Object top.first ∷ s.Objects top.others ∷ top.below) t.here t.world) [] tt [] is top.split goes)

          -- or so far on
          pub others_ahead : (act : Instruction) (d total : ℕ) (new : State) (result : Result ⊤ Stop) → l.act ≡ act → WentAhead d total result more new
              → length (code_of p).lines ≡ total → IsAfter p t.pc (t.pc + 1 + d) (cell.Objects ks ∷ rest)
              → ((r : ℕ → Bool) → does_so p l t act (s.Objects (top.first ∷ top.others) ∷ top.below) [] r
              ≡ Goes [] (with_answers r (moved_to t (t.pc + 1 + d) (s.Objects top.others ∷ top.below) t.here t.world)))
              → Becomes p l t result live new
          others_ahead act d total new result is went size kinds goes =
              becomes_ahead p live live old more new x (cell.Objects ks ∷ rest) t l (s.Objects top.others ∷ top.below) d total result st amid_more
              (pushed.pc ∙ popped.pc) kinds size went
              (line_goes p l t act (s.Objects (top.first ∷ top.others) ∷ top.below)
              (moved_to t (t.pc + 1 + d) (s.Objects top.others ∷ top.below) t.here t.world) [] tt [] is top.split goes)

          -- by an argument
          pub argument_goes : (number d : ℕ) (new : State) → l.act ≡ i.NextArgument number d → Pushed (c.Object o) (more.pc + 1) more new
              → IsAfter p t.pc (t.pc + 1) (cell.Object k ∷ cell.Objects ks ∷ rest) → is_held (passed_at number (passed_in t.frames)) ≡ true
              → Becomes p l t (Ok tt) live new
          argument_goes number d new is put kinds held =
              next_goes (i.NextArgument number d) new is put kinds (λ r. ap (λ b. next_argument (top.first ∷ top.others) b d
              (with_answers r (with_stack (s.Objects (top.first ∷ top.others) ∷ top.below) t)) top.below) held)

          pub argument_ahead : (number d total : ℕ) (new : State) (result : Result ⊤ Stop) → l.act ≡ i.NextArgument number d
              → WentAhead d total result more new → length (code_of p).lines ≡ total → IsAfter p t.pc (t.pc + 1 + d) (cell.Objects ks ∷ rest)
              → is_held (passed_at number (passed_in t.frames)) ≡ false → Becomes p l t result live new
          argument_ahead number d total new result is went size kinds held =
              others_ahead (i.NextArgument number d) d total new result is went size kinds (λ r. ap (λ b. next_argument (top.first ∷ top.others) b d
              (with_answers r (with_stack (s.Objects (top.first ∷ top.others) ∷ top.below) t)) top.below) held)
