-- What the machine over the greatest heap does, line by line.
use Rattle.std.proofs.Common.{◌≡◌, ℕ, zero, suc, ◌+◌, Bool, true, false, List, [], ◌∷◌, ◌++◌, Option, None, Some, refl, sym, ap, subst, ◌∙◌, arith, append-nil}
use Rattle.std.specs.Prelude.{slice_get}
use Rattle.std.proofs.Math.Path.{fun_ext}
use Rattle.f3_program.specs.declared.program.Program.{Program}
use Rattle.f3_meaning_whole.specs.Ran.{Event}
use Rattle.f3_meaning_whole.specs.Run.{output}
use Rattle.f3_code.specs.declared.instruction.Instruction.{Instruction}
use Rattle.f3_code.specs.declared.instruction.Instruction.TheVariants as i
use Rattle.f3_code.specs.State.{Course, Goes, Line, Next, State, Stays, placed}
use Rattle.f3_code.specs.Machine.{act, does_line, run}
use Rattle.f3_code.specs.Heap.{granted, heap_does_line, heap_run, heap_step, with_answers}
use Rattle.f3_courses.specs.Courses.{Tells, next_by, state_by}
use Rattle.f3_answers.proofs.Regular.{AllGranted, ahead}
use Rattle.f3_answers.proofs.Steered.{next_with}
use Rattle.f3_granted_laws.specs.Laws.{greatest}
use Rattle.f3_granted_laws.proofs.Granting.{asked, runs_are}
use Rattle.f3_there_laws.specs.Plain.{HasNoAllocatables, has_subscripts}
use Rattle.f3_there_laws.proofs.Running.{plain_runs_accord}
use Rattle.f3_cells.specs.States.{setting}
use Rattle.f3_word_cells.specs.Plain.{IsPlain, is_plain_act}
use Rattle.f3_word_cells.specs.Scenes.{code_of}
use Rattle.f3_word_cells.specs.Does.{AreGranted, GoesOn, IsTold, stream}
use Rattle.f3_word_laws.specs.Comes.{Comes}
use Rattle.f3_word_laws.proofs.Coming.{runs_go_on}
use Rattle.f3_word_needs.specs.Room.{HasRoom, IsOfRun}
use Rattle.f3_word_needs.proofs.Keeping.{lines_keep_room}
use Rattle.f3_word_parts.specs.Laws.{GreatestLeads, Leads}
use Rattle.f3_word_parts.proofs.Parts.{parts_are_of_runs}

-- ---- answers

stream_ahead : (given : List Bool) (rest : ℕ → Bool) (n : ℕ) → stream given rest n ≡ ahead given rest n
stream_ahead [] rest n = refl
stream_ahead (b ∷ bs) rest zero = refl
stream_ahead (b ∷ bs) rest (suc n) = stream_ahead bs rest n

all_granted : (given : List Bool) → AllGranted given → AreGranted given
all_granted [] h = tt
all_granted (false ∷ bs) h = all_granted bs h.1
all_granted (true ∷ bs) h = absurd cc

granted_at : (given : List Bool) → AreGranted given → (n : ℕ) → stream given granted n ≡ granted n
granted_at [] a n = refl
granted_at (false ∷ bs) a zero = refl
granted_at (false ∷ bs) a (suc n) = granted_at bs a n
granted_at (true ∷ bs) a n = absurd a

-- ---- one line

module _ (p : Program) (t u : State) (out : List Event) (e : heap_step greatest 1000 (setting p) (code_of p) t ≡ Goes out u) where
  -- it stands there, and leads so
  record Found : Type 0 where
    line : Line
    there : slice_get (code_of p).lines t.pc ≡ Some line
    goes : GoesOn p line t u (output out)

  at_line : (o : Option Line) → slice_get (code_of p).lines t.pc ≡ o → heap_does_line greatest 1000 (setting p) (code_of p) o t ≡ Goes out u → Found
  at_line None there is = absurd cc
  at_line (Some l) there is =
      let one = asked (setting p) (code_of p) t in record {
        line = l;
        there = there;
        goes = record {
          out = out;
          given = one.0;
          granted = all_granted one.0 one.1;
          printed = refl;
          goes = λ rest.
              ap (λ a. act 1000 (setting p) (code_of p) l.act l.value (placed l.place t.here) (with_answers a t)) (fun_ext (stream_ahead one.0 rest))
              ∙ sym (ap (λ o. does_line 1000 (setting p) (code_of p) o (with_answers (ahead one.0 rest) t)) there)
              ∙ one.2 rest ∙ ap (next_with rest) e;
        };
      }

  line_goes : Found
  line_goes = at_line (slice_get (code_of p).lines t.pc) refl e

-- ---- states of runs

subscripts : (x : Instruction) → is_plain_act x ≡ true → has_subscripts x ≡ true
subscripts (i.SelectOf true m n) e = absurd cc
subscripts (i.SelectOf false m n) e = e
subscripts x e = refl

none_allocatable : (p : Program) → IsPlain p → HasNoAllocatables p
none_allocatable p h = record {
  types = h.types;
  statics = h.statics;
  main = h.main;
  procedures = h.procedures;
  lines = λ pc l there. subscripts l.act (h.lines pc l there);
}

-- of another state of a run the kinds are told
told_too : (p : Program) (t u : State) → IsTold p t → IsOfRun p u → IsTold p u
told_too p t u told r =
    let rest : ℕ → Bool = (u.world).answers in
    let h = plain_runs_accord 1000 p (none_allocatable p told.plain) told.formed told.sense (stream r.given rest) r.lines u (r.comes rest) in record {
      plain = told.plain;
      formed = told.formed;
      sense = told.sense;
      kinds = told.kinds;
      clean = told.clean;
      fits = h.0;
      stands = h.1;
      typing = h.2;
      accords = h.3;
    }

-- ---- line by line

module _ (p : Program) (t to : State) where
  -- from a state to which it has come
  by_next : (n k : ℕ) (u : State) (bytes : List ℕ) → Comes p t u k bytes → IsTold p u → HasRoom p u
      → ((v : State) (more : List ℕ) → Comes p t v (k + 1) more → IsTold p v → HasRoom p v → state_by greatest (setting p) (code_of p) n v ≡ Some to
      → (all : List ℕ) × Leads p t to (k + 1 + n) all)
      → (x : Next) → heap_step greatest 1000 (setting p) (code_of p) u ≡ x → next_by x (state_by greatest (setting p) (code_of p) n) ≡ Some to
      → (all : List ℕ) × Leads p t to (k + 1 + n) all
  by_next n k u bytes c told room more (Goes out v) is e =
      let l = line_goes p u v out is in
      let comes : Comes p t v (k + 1) (bytes ++ output out) = (runs_go_on).1 p t u v l.line k bytes (output out) c l.there l.goes in
      let one : Comes p u v (0 + 1) ([] ++ output out) = (runs_go_on).1 p u u v l.line 0 [] (output out) ((runs_go_on).0 p u) l.there l.goes in
      let told' = told_too p u v told (parts_are_of_runs p u v (0 + 1) ([] ++ output out) room.run one) in
      more v (bytes ++ output out) comes told' (lines_keep_room p u v l.line (output out) told l.there l.goes told' room) e
  by_next n k u bytes c told room more (Stays out halt) is e = absurd cc

  further : (n k : ℕ) (u : State) (bytes : List ℕ) → Comes p t u k bytes → IsTold p u → HasRoom p u → state_by greatest (setting p) (code_of p) n u ≡ Some to
      → (all : List ℕ) × Leads p t to (k + n) all
  further zero k u bytes c told room e =
      let same : u ≡ to = cc in
      let none : k ≡ k + 0 = omega arith in
      subst (λ v. (all : List ℕ) × Leads p t v (k + 0) all) same
      (subst (λ j. (all : List ℕ) × Leads p t u j all) none (bytes, record { comes = c; told = told; room = room }))
  further (suc n) k u bytes c told room e =
      let sum : k + 1 + n ≡ k + suc n = omega arith in
      subst (λ j. (all : List ℕ) × Leads p t to j all) sum
      (by_next n k u bytes c told room (λ v more comes told room e. further n (k + 1) v more comes told room e)
      (heap_step greatest 1000 (setting p) (code_of p) u) refl e)

-- ---- the whole part

granted_told : (p : Program) (t : State) → IsTold p t → HasRoom p t → IsTold p (with_answers granted t)
granted_told p t told room = told_too p t (with_answers granted t) told (record { lines = room.run.lines; given = room.run.given; comes = room.run.comes })

granted_room : (p : Program) (t : State) → HasRoom p t → HasRoom p (with_answers granted t)
granted_room p t room = record {
  run = record { lines = room.run.lines; given = room.run.given; comes = room.run.comes };
  names = room.names;
  callers = room.callers;
  levels = room.levels;
}

-- what is printed is the same
same_bytes : (p : Program) (t u : State) (k : ℕ) (bytes more : List ℕ) → Comes p t u k more → Tells greatest (setting p) (code_of p) k (with_answers granted t) u bytes → more ≡ bytes
same_bytes p t u k bytes more c h =
    let a : ℕ → Bool = stream c.given granted in
    let all : a ≡ granted = fun_ext (granted_at c.given c.granted) in
    let course : Course = run 1000 (setting p) (code_of p) (k + 0) (with_answers granted t) in
    let one : course ≡ record { out = c.out ++ []; halt = _ } =
    sym (ap (λ a. run 1000 (setting p) (code_of p) (k + 0) (with_answers a t)) all) ∙ c.comes granted 0 in
    let other : course ≡ record { out = h.out ++ []; halt = _ } = sym (runs_are (setting p) (code_of p) (k + 0) (with_answers granted t)) ∙ h.goes_on 0 in
    sym c.printed ∙ ap output (sym (append-nil c.out)) ∙ ap (λ (y : Course). output y.out) (sym one ∙ other) ∙ ap output (append-nil h.out) ∙ h.prints

pub greatest_leads : GreatestLeads
greatest_leads p t u k bytes told room h =
    let from = with_answers granted t in
    let some = further p from u k 0 from [] ((runs_go_on).0 p from) (granted_told p t told room) (granted_room p t room) h.comes in
    let sum : 0 + k ≡ k = omega arith in
    let found = subst (λ j. Leads p from u j some.0) sum some.1 in
    let comes : Comes p t u k some.0 = record {
      out = found.comes.out;
      given = found.comes.given;
      granted = found.comes.granted;
      printed = found.comes.printed;
      leads = found.comes.leads;
      comes = found.comes.comes;
    } in
    let same : some.0 ≡ bytes = same_bytes p t u k bytes some.0 comes h in
    record { comes = subst (Comes p t u k) same comes; told = found.told; room = found.room }
