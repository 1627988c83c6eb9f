-- What a call does over values.
use Rattle.std.proofs.Common.{◌≡◌, ◌∙◌, ℕ, Bool, true, false, List, [], ◌∷◌, ◌++◌, length, refl, ap, if◌then◌else◌}
use Rattle.std.specs.Prelude.{nat_lt, Some, slice_get}
use Rattle.f3_program.specs.declared.program.Program.{Program}
use Rattle.f3_meaning_whole.specs.Value.{Value}
use Rattle.f3_meaning_whole.specs.Store.{Store}
use Rattle.f3_meaning_whole.specs.declared.run_error.RunError.TheVariants.{CallsTooDeep, HeapHasNoRoom}
use Rattle.f3_meaning_whole.specs.Ran.{Entered, World, asks, does, fails, gives, looks, ◌>>=◌}
use Rattle.f3_meaning_whole.specs.Act.{Here, Passed}
use Rattle.f3_meaning_whole.specs.Exec.{held}
use Rattle.f3_code.specs.declared.instruction.Instruction.TheVariants as i
use Rattle.f3_code.specs.State.{Entry, Failed, Goes, Line, Next, Stays, placed}
use Rattle.f3_code.specs.State as s
use Rattle.f3_code.specs.Heap.{with_answers}
use Rattle.f3_code.specs.Machine.{begun, called_at, entered, performs}
use Rattle.f3_word_cells.specs.Does.{GoesOn, RefusedAt, StopsSo, stream}
use Rattle.f3_word_cells.specs.Scenes.{code_of}
use Rattle.f3_word_cells.proofs.Lines.{answering, does_so, line_goes, line_refused, line_stops, with_stack}
use Rattle.f3_word_entries.proofs.Arguments.{arguments_taken, passed_on}

-- a store with two levels more
abbrev pub with_levels : Store → List Value → List Value → Store
with_levels store vs us = record { statics = store.statics; levels = (store.levels ++ vs ∷ []) ++ us ∷ [] }

module _ (ps : List Passed) (initial : List Value) (here : Here) (store : Store) (rest : ℕ → Bool) where
  begun_goes : (f : ℕ → World → s.State) → performs (begun ps initial here) (answering store (stream (false ∷ []) rest)) f
      ≡ Goes (Entered (held ps) ∷ Entered initial ∷ []) (f (length store.levels) (answering (with_levels store (held ps) initial) rest))
  unfolding asks gives looks does ◌>>=◌
  begun_goes f = refl

  begun_refused : (f : ℕ → World → s.State) → performs (begun ps initial here) (answering store (stream (true ∷ []) rest)) f
      ≡ Stays [] (Failed HeapHasNoRoom here.place)
  unfolding asks fails gives looks does ◌>>=◌
  begun_refused f = refl

by_true : {A : Type 0} (b : Bool) (x y : A) → b ≡ true → (if b then x else y) ≡ x
by_true true x y e = refl
by_true false x y e = absurd (cc)

by_false : {A : Type 0} (b : Bool) (x y : A) → b ≡ false → (if b then x else y) ≡ y
by_false true x y e = absurd (cc)
by_false false x y e = refl

module _ (p : Program) (l : Line) (t : s.State) (f n : ℕ) (ps : List Passed) (below : List s.Cell) (act : l.act ≡ i.Call f n) (stack : t.stack ≡ passed_on ps below)
    (many : length ps ≡ n) where
  abbrev here : Here
  here = placed l.place t.here

  abbrev limited : List Bool → (ℕ → Bool) → Next
  limited given rest =
      if nat_lt (length t.frames) 1000 then called_at (slice_get (code_of p).procedures f) (with_answers (stream given rest) (with_stack (passed_on ps below) t)) below here ps
      else Stays [] (Failed CallsTooDeep here.place)

  so_far : (given : List Bool) (rest : ℕ → Bool) → does_so p l t (i.Call f n) (passed_on ps below) given rest ≡ limited given rest
  so_far given rest = arguments_taken (λ qs st.
      if nat_lt (length t.frames) 1000 then called_at (slice_get (code_of p).procedures f) (with_answers (stream given rest) (with_stack (passed_on ps below) t)) st here qs
      else Stays [] (Failed CallsTooDeep here.place)) n ps below many

  -- 1000 procedures are active
  pub too_deep : nat_lt (length t.frames) 1000 ≡ false → StopsSo p l t (Failed CallsTooDeep here.place) []
  too_deep deep = line_stops p l t (i.Call f n) (passed_on ps below) (Failed CallsTooDeep here.place) [] tt act stack
      (λ rest. so_far [] rest ∙ by_false (nat_lt (length t.frames) 1000) _ _ deep)

  module _ (e : Entry) (at : slice_get (code_of p).procedures f ≡ Some e) (few : nat_lt (length t.frames) 1000 ≡ true) where
    -- the state in which the procedure begins
    abbrev pub callee : s.State
    callee = entered t below here e ps (length t.world.store.levels) (answering (with_levels t.world.store (held ps) e.initial) (λ k. false))

    entering : (given : List Bool) (rest : ℕ → Bool) → does_so p l t (i.Call f n) (passed_on ps below) given rest
        ≡ performs (begun ps e.initial here) (answering t.world.store (stream given rest)) (entered t below here e ps)
    entering given rest =
        so_far given rest ∙ by_true (nat_lt (length t.frames) 1000) _ _ few
        ∙ ap (λ o. called_at o (with_answers (stream given rest) (with_stack (passed_on ps below) t)) below here ps) at

    pub goes_there : GoesOn p l t callee []
    goes_there = line_goes p l t (i.Call f n) (passed_on ps below) callee (false ∷ []) tt (Entered (held ps) ∷ Entered e.initial ∷ []) act stack
        (λ rest. entering (false ∷ []) rest ∙ begun_goes ps e.initial here t.world.store rest (entered t below here e ps))

    -- the heap refuses storage
    pub refused_there : RefusedAt p l t
    refused_there = line_refused p l t (i.Call f n) (passed_on ps below) act stack
        (λ rest. entering (true ∷ []) rest ∙ begun_refused ps e.initial here t.world.store rest (entered t below here e ps))
