-- The code of a whole program follows it.
use Rattle.std.proofs.Common.{◌≡◌, ◌≢◌, ⊎_elim, ℕ, suc, ◌+◌, ◌≤◌, Bool, List, [], ◌∷◌, ◌++◌, length, Option, Some, None, refl, sym, ap, ◌∙◌, subst, arith, append-nil}
use Rattle.std.specs.Prelude.{⊤, slice_get}
use Rattle.std.proofs.lemmas.Bool.{cases_lt}
use Rattle.f3_places.specs.declared.source.Place.{Place}
use Rattle.f3_meaning_whole.specs.declared.run_error.RunError.{RunError}
use Rattle.f3_meaning_whole.specs.Ran.{Event, World, End, Gives, Fails, Stops, Beyond, Ran, go_on, ◌>>=◌}
use Rattle.f3_meaning_whole.specs.Act.{Setting, Here, at, begins, claim, enter}
use Rattle.f3_meaning_whole.specs.Exec.{Flow, Onward, Cycled, Left, Returned}
use Rattle.f3_code.specs.Core as c
use Rattle.f3_code.specs.Exec.{exec}
use Rattle.f3_code.specs.CoreRun.{core_setting, core_here, core_world, core_calls, core_runs, core_run_of}
use Rattle.f3_code.specs.declared.instruction.Instruction.TheVariants as i
use Rattle.f3_code.specs.State.{line, Code, Frame, State, Course, Halt, Running, Done, Stopped, Failed, Stuck, Next, Stays}
use Rattle.f3_code.specs.Machine.{before, performs, ends_so, advance, step, run, course}
use Rattle.f3_code.specs.Code.{code_of, main_ways, main_code, procedures_code, routines_code, places_of, program_code}
use Rattle.f3_code.specs.Run.{start, after, Agrees, Behaves}
use Rattle.f3_code_laws.proofs.Places.{HasAt, has_front, has_back, has_all}
use Rattle.f3_code_laws.proofs.Reaching.{ReachesAs, Reaches, Ends, bind_ends, bind_assoc}
use Rattle.f3_code_laws.proofs.Ending.{begins_ends, claim_ends, enter_ends}
use Rattle.f3_code_laws.proofs.FollowValue.{state, is_at, at_line}
use Rattle.f3_code_laws.proofs.FollowStatement.{leads}
use Rattle.f3_code_laws.proofs.FollowAssociate.{exec_follows}
use Rattle.f3_code_laws.proofs.FollowRoutines.{TableEnds, routines_at, routines_follow}
use Rattle.f3_code_laws.proofs.FollowCalls.{all_at, calls_follow}
use Rattle.f3_code_laws.proofs.Steady.{Steady, steady}

-- what a course has come to, for what a run does and its end
record Matches (c : ℕ → Course) (n : ℕ) (out : List Event) (end : End ⊤) : Type 0 where
  k : ℕ
  turns : end ≡ Beyond → n ≤ k
  same : (c k).out ≡ out
  halt : Agrees (c k).halt end

abbrev Giving : World → Type 0
Giving w = let x : End ⊤ = Gives tt w in x ≡ Beyond

abbrev Failing : RunError → Place → Type 0
Failing error place = let x : End ⊤ = Fails error place in x ≡ Beyond

abbrev Stopping : Option ℕ → Type 0
Stopping number = let x : End ⊤ = Stops number in x ≡ Beyond

module _ (limit : ℕ) (g : Setting) (code : Code) where
  -- a part that the machine follows, and then what has an end
  reach_matches : {A : Type 0} {n : ℕ} {s : State} {m : Ran A} {f : A → Ran ⊤} {w : World} {mid : A → World → State} → Reaches limit g code n s m w mid →
      ((x : A) (w : World) → Matches (λ k. run limit g code k (mid x w)) n ((f x).from w).out ((f x).from w).end) →
      Matches (λ k. run limit g code k s) n ((m >>= f).from w).out ((m >>= f).from w).end
  unfolding ◌>>=◌
  reach_matches {A = A} {n = n} {s = s} {m = m} {f = f} {w = w} {mid = mid} h rest = by_end (m.from w).out (m.from w).end h.as_said
    where
      by_end : (out : List Event) (end : End A) → ReachesAs limit g code n s out end mid →
          Matches (λ k. run limit g code k s) n (go_on out end f).out (go_on out end f).end
      by_end out (Gives x w) comes =
          let later = rest x w in
          let a = comes.by later.k in
          record {
            k = a.0;
            turns = λ b. (let le = later.turns b in omega (arith, le, a.1));
            same = ap (λ (c : Course). c.out) a.2 ∙ ap (λ l. out ++ l) later.same;
            halt = subst (λ (c : Course). Agrees c.halt ((f x).from w).end) (sym a.2) later.halt;
          }
      by_end out (Fails error place) ends = record {
        k = ends.0;
        turns = λ b. absurd (let e : Failing error place = b in cc);
        same =
            ap (λ (c : Course). c.out) ends.1;
        halt = subst (λ (c : Course). Agrees c.halt (Fails error place)) (sym ends.1) (refl, refl);
      }
      by_end out (Stops number) ends = record {
        k = ends.0;
        turns = λ b. absurd (let e : Stopping number = b in cc);
        same =
            ap (λ (c : Course). c.out) ends.1;
        halt = subst (λ (c : Course). Agrees c.halt (Stops number)) (sym ends.1) refl;
      }
      by_end out Beyond ends = record {
        k = ends.0;
        turns = λ b. ends.1;
        same = ap (λ (c : Course). c.out) ends.2;
        halt =
            subst (λ (c : Course). Agrees c.halt Beyond) (sym ends.2) tt;
      }

  -- a part that the machine follows to its end
  reach_done : {n : ℕ} {s : State} {r : Ran ⊤} {w : World} {next : ⊤ → World → State} → Reaches limit g code n s r w next →
      ((x : ⊤) (w : World) → step limit g code (next x w) ≡ Stays [] Done) → Matches (λ k. run limit g code k s) n (r.from w).out (r.from w).end
  reach_done {n = n} {s = s} {r = r} {w = w} {next = next} h done = by_end (r.from w).out (r.from w).end h.as_said
    where
      by_end : (out : List Event) (end : End ⊤) → ReachesAs limit g code n s out end next → Matches (λ k. run limit g code k s) n out end
      by_end out (Gives x w) comes =
          let a = comes.by 1 in
          let e = a.2 ∙ ap (before out) (ap (λ x. advance limit g code x (run limit g code 0)) (done x w)) in
          record {
            k = a.0;
            turns = λ b. absurd (let e : Giving w = b in cc);
            same = ap (λ (c : Course). c.out) e ∙ append-nil out;
            halt =
                subst (λ (c : Course). Agrees c.halt (Gives x w)) (sym e) tt;
          }
      by_end out (Fails error place) ends = record {
        k = ends.0;
        turns = λ b. absurd (let e : Failing error place = b in cc);
        same =
            ap (λ (c : Course). c.out) ends.1;
        halt = subst (λ (c : Course). Agrees c.halt (Fails error place)) (sym ends.1) (refl, refl);
      }
      by_end out (Stops number) ends = record {
        k = ends.0;
        turns = λ b. absurd (let e : Stopping number = b in cc);
        same =
            ap (λ (c : Course). c.out) ends.1;
        halt = subst (λ (c : Course). Agrees c.halt (Stops number)) (sym ends.1) refl;
      }
      by_end out Beyond ends = record {
        k = ends.0;
        turns = λ b. ends.1;
        same = ap (λ (c : Course). c.out) ends.2;
        halt =
            subst (λ (c : Course). Agrees c.halt Beyond) (sym ends.2) tt;
      }

  -- a part first that needs no turns
  behind_first : {A : Type 0} (n : ℕ) (m : Ran A) (f : A → Ran ⊤) (w : World) (next : A → World → State) → Ends m →
      ((x : A) (w : World) → Matches (λ k. run limit g code k (next x w)) n ((f x).from w).out ((f x).from w).end) →
      Matches (course limit g code (performs m w next)) n ((m >>= f).from w).out ((m >>= f).from w).end
  unfolding ◌>>=◌
  behind_first {A = A} n m f w next ends rest = by_end (m.from w).out (m.from w).end (ends.by w)
    where
      by_end : (out : List Event) (end : End A) → end ≢ Beyond → Matches (course limit g code (ends_so out end next)) n (go_on out end f).out
          (go_on out end f).end
      by_end out (Gives x w) b = let later = rest x w in record {
        k = suc later.k;
        turns = λ e. (let le = later.turns e in omega (arith, le));
        same =
            ap (λ l. out ++ l) later.same;
        halt = later.halt;
      }
      by_end out (Fails error place) b = record { k = 1; turns = λ e. absurd (let e : Failing error place = e in cc); same = refl; halt = (refl, refl) }
      by_end out (Stops number) b = record { k = 1; turns = λ e. absurd (let e : Stopping number = e in cc); same = refl; halt = refl }
      by_end out Beyond b = absurd (b refl)

  -- the END of the main program, wherever its statements lead
  end_matches : (n : ℕ) (end : Place) (on : ℕ) (here : Here) (flow : Flow) (w : World) → slice_get code.lines on ≡ Some (line (Some end) i.Begin) →
      slice_get code.lines (on + 1) ≡ Some (line None i.Finish) → Matches (λ k. run limit g code k (leads on on on on 0 [] here [] flow w)) n
      ((begins (at end here)).from w).out ((begins (at end here)).from w).end
  end_matches n end on here flow w begin finish = by_flow flow
    where
      from_here : (inner : Here) → Matches (λ k. run limit g code k (state on [] inner [] w)) n ((begins (at end inner)).from w).out
          ((begins (at end inner)).from w).end
      from_here inner = reach_done (at_line limit g code n [] {next = λ done w. state (on + 1) [] inner [] w} (begins (at end inner)) on [] inner w
          (line (Some end) i.Begin) (begins_ends (at end inner)) begin refl) (λ done w. is_at limit g code n [] (on + 1) [] inner w (line None i.Finish) finish)

      by_flow : (flow : Flow) → Matches (λ k. run limit g code k (leads on on on on 0 [] here [] flow w)) n ((begins (at end here)).from w).out
          ((begins (at end here)).from w).end
      by_flow Onward = from_here here
      by_flow Cycled = from_here here
      by_flow Left = from_here here
      by_flow (Returned place) = from_here (at place here)

module _ (limit : ℕ) (p : c.Program) (n : ℕ) where
  -- the statements of the main program and its END
  main_matches : (w : World) → Matches (λ k. run limit (core_setting p) (program_code p) k (start p w)) n
      ((exec (core_setting p) n p.routines (core_calls limit p n) p.main.body (core_here p) >>= λ flow. begins (at p.main.end (core_here p))).from w).out
      ((exec (core_setting p) n p.routines (core_calls limit p n) p.main.body (core_here p) >>= λ flow. begins (at p.main.end (core_here p))).from w).end
  main_matches w =
      let g = core_setting p in
      let code = program_code p in
      let here = core_here p in
      let m = length p.routines in
      let cm = main_code m p.main in let cr = routines_code p.routines in let cp = procedures_code m p.procedures in
      let cx = code_of m None p.main.body main_ways in
      let calls = core_calls limit p n in
      let whole = has_all (cm ++ (cr ++ cp)) [] in
      let main = has_front code.lines 0 cm (cr ++ cp) whole in
      let base : 0 + length cm ≡ length cm = omega arith in
      let others = subst (λ q. HasAt code.lines q (cr ++ cp)) base (has_back code.lines 0 cm (cr ++ cp) whole) in
      let has_routines = routines_at code.lines (length cm) p.routines (has_front code.lines (length cm) cr cp others) in
      let has_procedures = all_at m code.lines (length cm + length cr) p.procedures (has_back code.lines (length cm) cr cp others) in
      let full : length {A = Frame} [] + limit ≡ limit = omega arith in
      let follow = calls_follow limit p code n (length cm + length cr) (length cm) has_procedures refl has_routines refl limit [] full in
      let ends : TableEnds code.routines (places_of (length cm) p.routines) = record { by = λ t go none lt. refl } in
      let works_so = routines_follow limit g code n [] calls follow p.routines (length cm) has_routines ends in
      let on = 0 + length cx in
      let on_is : on ≡ on + 0 = omega arith in
      let last = has_back code.lines 0 cx (line (Some p.main.end) i.Begin ∷ line None i.Finish ∷ []) main in
      let runs = exec_follows limit g code n [] calls follow m p.routines works_so p.main.body None main_ways 0 on on on on [] here w
      (has_front code.lines 0 cx _ main) refl on_is on_is on_is in
      reach_matches limit g code runs (λ flow w. end_matches limit g code n p.main.end on here flow w last.0 last.1.0)

pub agrees_over : (h : Halt) (end : End ⊤) → end ≢ Beyond → Agrees h end → h ≢ Running
agrees_over Running (Gives x w) b h = absurd h
agrees_over Running (Fails error place) b h = absurd h
agrees_over Running (Stops number) b h = absurd h
agrees_over Running Beyond b h = absurd (b refl)
agrees_over Done end b h = λ e. cc
agrees_over (Stopped number) end b h = λ e. cc
agrees_over (Failed error place) end b h = λ e. cc
agrees_over Stuck end b h = λ e. cc

pub beyond_running : (h : Halt) → Agrees h Beyond → h ≡ Running
beyond_running Running h = refl
beyond_running Done h = absurd h
beyond_running (Stopped number) h = absurd h
beyond_running (Failed error place) h = absurd h
beyond_running Stuck h = absurd h

module _ (c : ℕ → Course) (so : Steady c) where
  -- where the code has stopped, so has the program, after as many turns as instructions
  over_too : (k : ℕ) (out : List Event) (end : End ⊤) → Matches c k out end → (c k).halt ≢ Running → (out ≡ (c k).out) × Agrees (c k).halt end
  over_too k out end m over = by_end end refl
    where
      ends : end ≢ Beyond → (out ≡ (c k).out) × Agrees (c k).halt end
      ends b =
          let same : c m.k ≡ c k = ⊎_elim (λ lt. so.longer k m.k (omega arith) over) (λ le. sym (so.longer m.k k le (agrees_over (c m.k).halt end b m.halt)))
          (cases_lt k m.k) in
          (sym m.same ∙ ap (λ (c : Course). c.out) same, subst (λ (c : Course). Agrees c.halt end) same m.halt)

      by_end : (e : End ⊤) → end ≡ e → (out ≡ (c k).out) × Agrees (c k).halt end
      by_end (Gives x w) is = ends (λ b. let e : Gives x w ≡ Beyond = sym is ∙ b in cc)
      by_end (Fails error place) is = ends (λ b. let e : Fails error place ≡ Beyond = sym is ∙ b in cc)
      by_end (Stops number) is = ends (λ b. let e : Stops number ≡ Beyond = sym is ∙ b in cc)
      by_end Beyond is =
          let same = so.longer k m.k (m.turns is) over in
          absurd (over (ap (λ (c : Course). c.halt) (sym same) ∙ beyond_running (c m.k).halt (subst (Agrees (c m.k).halt) is m.halt)))

  begins_run : (k : ℕ) (out : List Event) (end : End ⊤) → Matches c k out end → (rest : List Event) × (out ≡ (c k).out ++ rest)
  begins_run k out end m = by_end end refl
    where
      later : k ≤ m.k → (rest : List Event) × (out ≡ (c k).out ++ rest)
      later le = let f = so.front k m.k le in (f.0, sym m.same ∙ f.1)

      ends : end ≢ Beyond → (rest : List Event) × (out ≡ (c k).out ++ rest)
      ends b = ⊎_elim (λ lt. later (omega arith)) (λ le. let same =
          so.longer m.k k le (agrees_over (c m.k).halt end b m.halt) in (
            [],
            sym m.same ∙ ap (λ (c : Course). c.out) (sym same) ∙
                sym (append-nil (c k).out),
          )) (cases_lt k m.k)

      by_end : (e : End ⊤) → end ≡ e → (rest : List Event) × (out ≡ (c k).out ++ rest)
      by_end (Gives x w) is = ends (λ b. let e : Gives x w ≡ Beyond = sym is ∙ b in cc)
      by_end (Fails error place) is = ends (λ b. let e : Fails error place ≡ Beyond = sym is ∙ b in cc)
      by_end (Stops number) is = ends (λ b. let e : Stops number ≡ Beyond = sym is ∙ b in cc)
      by_end Beyond is = later (m.turns is)

module _ (limit : ℕ) (p : c.Program) (answers : ℕ → Bool) where
  abbrev first : Next
  first = performs (claim (core_here p) >>= λ done. enter p.main.initial) (core_world p answers) (λ done w. start p w)

  matches : (n : ℕ) → Matches (course limit (core_setting p) (program_code p) first) n (core_runs limit p n answers).out (core_runs limit p n answers).end
  unfolding core_runs
  matches n =
      let rest : ⊤ → Ran ⊤ = λ done. exec (core_setting p) n p.routines (core_calls limit p n) p.main.body (core_here p) >>= λ flow.
      begins (at p.main.end (core_here p)) in
      let first_so = behind_first limit (core_setting p) (program_code p) n (claim (core_here p) >>= λ done. enter p.main.initial) rest
      (core_world p answers) (λ done w. start p w) (bind_ends (claim_ends (core_here p)) (λ done. enter_ends p.main.initial))
      (λ done w. main_matches limit p n w) in
      subst (λ r. Matches (course limit (core_setting p) (program_code p) first) n (r.from (core_world p answers)).out (r.from (core_world p answers)).end)
      (bind_assoc (claim (core_here p)) (λ done. enter p.main.initial) rest) first_so

pub behaves : (p : c.Program) (answers : ℕ → Bool) → Behaves p (program_code p) answers
unfolding after core_run_of
behaves p answers =
    let so = steady 1000 (core_setting p) (program_code p) (first 1000 p answers) in
    record {
      follows = λ n. let m = matches 1000 p answers n in (m.k, m.turns, m.same, m.halt);
      only = λ k over. let o = over_too _ so k (core_runs 1000 p k answers).out (core_runs 1000 p k answers).end (matches 1000 p answers k) over
          in (k, o.0, o.1);
      begins = λ k. let o = begins_run _ so k (core_runs 1000 p k answers).out (core_runs 1000 p k answers).end (matches 1000 p answers k) in (k, o.0, o.1);
    }
