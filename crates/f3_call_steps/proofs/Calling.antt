-- A procedure is called.
use Rattle.std.proofs.Common.{◌≡◌, ℕ, zero, suc, ◌≤◌, ◌<◌, List, [], ◌∷◌, length, map, reverse, true, false, refl, sym, ap, ◌∙◌, subst}
use Rattle.std.proofs.lemmas.List.{length-map, length-reverse}
use Rattle.std.proofs.lemmas.Bool.{le-ltb, lt-ltb}
use Rattle.std.specs.Prelude.{⊤, nat_lt, if◌then◌else◌, Option, None, Some, Result, Ok, Err, slice_get}
use Rattle.f3_places.specs.declared.source.Place.{Place}
use Rattle.f3_program.specs.declared.program.Procedure.{Procedure}
use Rattle.f3_program.specs.declared.program.Program.{Program}
use Rattle.f3_meaning_whole.specs.Value as m
use Rattle.f3_meaning_whole.specs.Store as st
use Rattle.f3_meaning_whole.specs.declared.run_error.RunError.TheVariants.{CallsTooDeep}
use Rattle.f3_meaning_whole.specs.Ran.{World, Entered, effect, looks, does, asks, gives, ◌>>=◌}
use Rattle.f3_meaning_whole.specs.Act as a
use Rattle.f3_meaning_whole.specs.Act.{Setting, at}
use Rattle.f3_meaning_whole.specs.Exec.{held, variables}
use Rattle.f3_meaning_whole.specs.Run.{setting_of}
use Rattle.f3_code.specs.declared.instruction.Instruction.TheVariants.{Call}
use Rattle.f3_code.specs.State.{Entry, Next, Goes, Stays, Failed}
use Rattle.f3_code.specs.State as s
use Rattle.f3_code.specs.Machine.{argument_of, begun, entered, called_at, on_many, performs}
use Rattle.f3_gen_values.specs.Emission.{entries_in}
use Rattle.f3_data.specs.Stores.{store_of}
use Rattle.f3_cells.specs.declared.cell.Cell.{Cell}
use Rattle.f3_cells.specs.declared.cell.Here as memory
use Rattle.f3_cells.specs.declared.cell.Passed.{Passed}
use Rattle.f3_cells.specs.Popped.{PoppedMany}
use Rattle.f3_cells.specs.declared.scene.Scene.{Scene}
use Rattle.f3_cells.specs.declared.state.State.{State}
use Rattle.f3_cells.specs.declared.state.Stop.{Stop}
use Rattle.f3_cells.specs.declared.state.Stop.TheVariants as stop
use Rattle.f3_cells.specs.Cells.{passed_of, here_of, cells_of}
use Rattle.f3_cells.specs.Follows.{Follows, DoesThere}
use Rattle.f3_cells.specs.States.{state_of, frame_of, code_of, granted}
use Rattle.f3_call_steps.specs.Inner.Entering.{entry_in, IsEntry, EnteredAt, CalledWith}

-- ---- procedures by their numbers

pub entry_there : (g : Setting) (qs : List Procedure) (ks : List ℕ) (f : ℕ) (q : Procedure) (k : ℕ) → slice_get qs f ≡ Some q → slice_get ks f ≡ Some k
    → slice_get (entries_in g qs ks) f ≡ Some (entry_in g q k)
entry_there g [] ks f q k is at = let no : None ≡ Some q = is in absurd cc
entry_there g (x ∷ qs) [] f q k is at = let no : None ≡ Some k = at in absurd cc
entry_there g (x ∷ qs) (y ∷ ks) zero q k is at =
    let one : x ≡ q = search is in
    let two : y ≡ k = search at in
    ap (λ z. Some (entry_in g z y)) one ∙ ap (λ z. Some (entry_in g q z)) two
entry_there g (x ∷ qs) (y ∷ ks) (suc f) q k is at = entry_there g qs ks f q k is at

pub no_procedure : (g : Setting) (qs : List Procedure) (ks : List ℕ) (f : ℕ) → slice_get qs f ≡ None → slice_get (entries_in g qs ks) f ≡ None
no_procedure g [] ks f is = refl
no_procedure g (x ∷ qs) [] f is = refl
no_procedure g (x ∷ qs) (y ∷ ks) zero is = let no : Some x ≡ None = is in absurd cc
no_procedure g (x ∷ qs) (y ∷ ks) (suc f) is = no_procedure g qs ks f is

pub no_line : (g : Setting) (qs : List Procedure) (ks : List ℕ) (f : ℕ) → slice_get ks f ≡ None → slice_get (entries_in g qs ks) f ≡ None
no_line g [] ks f is = refl
no_line g (x ∷ qs) [] f is = refl
no_line g (x ∷ qs) (y ∷ ks) zero is = let no : Some y ≡ None = is in absurd cc
no_line g (x ∷ qs) (y ∷ ks) (suc f) is = no_line g qs ks f is

-- ---- one call

-- storage is claimed, and the levels begin
begun_is : (ps : List a.Passed) (initial : List m.Value) (here : a.Here) (store : st.Store) (next : ℕ → World → s.State)
    → performs (begun ps initial here) (record { store = store; answers = granted }) next
    ≡ Goes (Entered (held ps) ∷ Entered initial ∷ []) (next (length store.levels)
    (record { store = effect (Entered initial) (effect (Entered (held ps)) store); answers = granted }))
unfolding ◌>>=◌ asks gives looks does
begun_is ps initial here store next = refl

pub entered_so : (x : Scene) (f : ℕ) (q : Procedure) (line : ℕ) (ps : List Passed) (place : Place) (old new : State) → IsEntry x f q line
    → EnteredAt x.program.now q line ps place old new → CalledWith x f ps place (Ok tt) old new
entered_so x f q line ps place old new is entered_at =
    let p = x.program.now in
    let e = entry_in (setting_of p) q line in
    let here = at place (here_of p old.here) in (
      Entered (held (map passed_of ps)) ∷ Entered (variables (setting_of p) q) ∷ [],
      ap (λ o. called_at o (state_of p old) (cells_of p old.stack.items) here (map passed_of ps)) is.1
          ∙ begun_is (map passed_of ps) e.initial here (store_of old.store) (entered (state_of p old) (cells_of p old.stack.items) here e (map passed_of ps))
          ∙ ap (Goes (Entered (held (map passed_of ps)) ∷ Entered (variables (setting_of p) q) ∷ [])) (sym entered_at),
      refl,
    )

-- ---- the instruction

-- what is on the stack of the state does not matter
alike : (o : Option Entry) (old mid : State) (p : Program) (stack : List s.Cell) (here : a.Here) (ps : List a.Passed) → mid ≡ record old { stack = mid.stack }
    → called_at o (state_of p old) stack here ps ≡ called_at o (state_of p mid) stack here ps
alike None old mid p stack here ps same = ap (λ (t : State). called_at None (state_of p (record t { stack = old.stack })) stack here ps) (sym same)
alike (Some e) old mid p stack here ps same = ap (λ (t : State). called_at (Some e) (state_of p (record t { stack = old.stack })) stack here ps) (sym same)

frames_are : (p : Program) (old : State) → length (state_of p old).frames ≡ length old.frames.items
frames_are p old = length-map (reverse old.frames.items) (frame_of p) ∙ length-reverse old.frames.items

module _ (x : Scene) (f k : ℕ) (place : Place) (v : m.Value) (old : State) where
  -- what follows the arguments
  abbrev follows : List a.Passed → List s.Cell → Next
  follows ps stack = if nat_lt (length (state_of x.program.now old).frames) 1000
      then called_at (slice_get (code_of x).procedures f) (state_of x.program.now old) stack (at place (here_of x.program.now old.here)) ps
      else Stays [] (Failed CallsTooDeep place)

  pub no_arguments : (e : Stop) (new : State) (stack : List Cell) → PoppedMany passed_of argument_of k (Err e) old.stack.items stack
      → DoesThere x (Call f k) v place (Err e) old new
  no_arguments stop.Stuck new stack none = ([], none x.program.now follows, refl)
  no_arguments stop.Memory new stack none = tt
  no_arguments stop.Done new stack none = absurd none
  no_arguments (stop.Stopped number) new stack none = absurd none
  no_arguments (stop.Failed error) new stack none = absurd none
  no_arguments stop.Lost new stack none = absurd none
  no_arguments stop.Refused new stack none = absurd none

  module _ (args : List Passed) (stack : List Cell) (popped : (p : Program) (f : List a.Passed → List s.Cell → Next)
      → on_many argument_of k [] (cells_of p old.stack.items) f ≡ f (map passed_of args) (cells_of p stack)) where
    pub too_deep : (new : State) → 1000 ≤ length old.frames.items → DoesThere x (Call f k) v place (Err (stop.Failed CallsTooDeep)) old new
    too_deep new deep =
        let no : nat_lt (length (state_of x.program.now old).frames) 1000 ≡ false = le-ltb _ _ (subst (λ n. 1000 ≤ n) (sym (frames_are x.program.now old))
        deep) in (
          [],
          popped x.program.now follows
              ∙ ap (λ b. if b then called_at (slice_get (code_of x).procedures f) (state_of x.program.now old) (cells_of x.program.now stack)
              (at place (here_of x.program.now old.here)) (map passed_of args) else Stays [] (Failed CallsTooDeep place)) no,
          refl,
        )

    pub calls : (mid new : State) (result : Result ⊤ Stop) → length old.frames.items < 1000 → mid ≡ record old { stack = mid.stack } → mid.stack.items ≡ stack
        → CalledWith x f args place result mid new → DoesThere x (Call f k) v place result old new
    calls mid new result shallow same cells m =
        let yes : nat_lt (length (state_of x.program.now old).frames) 1000 ≡ true = lt-ltb _ _ (subst (λ n. n < 1000) (sym (frames_are x.program.now old))
        shallow) in
        subst (λ next. Follows (code_of x) next result (state_of x.program.now new) place)
        (sym (popped x.program.now follows
        ∙ ap (λ b. if b then called_at (slice_get (code_of x).procedures f) (state_of x.program.now old) (cells_of x.program.now stack)
        (at place (here_of x.program.now old.here)) (map passed_of args) else Stays [] (Failed CallsTooDeep place)) yes
        ∙ alike (slice_get (code_of x).procedures f) old mid x.program.now (cells_of x.program.now stack) (at place (here_of x.program.now old.here)) (map
        passed_of args) same
        ∙ ap (λ cs. called_at (slice_get (code_of x).procedures f) (state_of x.program.now mid) (cells_of x.program.now cs) (at place (here_of
        x.program.now old.here))
        (map passed_of args)) (sym cells)
        ∙ ap (λ (h : memory.Here). called_at (slice_get (code_of x).procedures f) (state_of x.program.now mid) (cells_of x.program.now mid.stack.items)
        (at place (here_of x.program.now h)) (map passed_of args)) (sym (ap (λ (t : State). t.here) same))))
        m
