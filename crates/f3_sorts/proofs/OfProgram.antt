-- The sorts of the code of procedures, routines and programs.
use Rattle.std.proofs.Common.{◌≡◌, ℕ, zero, suc, ◌+◌, List, [], ◌∷◌, ◌++◌, length, None, Some, refl, subst, arith, append_assoc, length-append}
use Rattle.std.specs.Prelude.{slice_get, slice_index_or}
use Rattle.std.proofs.Math.Seq.{get_or-append_seam}
use Rattle.f3_program.specs.declared.expression.Name.TheVariants as name
use Rattle.f3_code.specs.Work as w
use Rattle.f3_code.specs.Core as c
use Rattle.f3_code.specs.declared.instruction.Instruction.TheVariants as i
use Rattle.f3_code.specs.State.{line, Entry}
use Rattle.f3_code.specs.Code.{work_code, begin_code, finish_code, discard_code, body_ways, last_code, body_code, main_ways, main_code, procedures_code, entries, routines_code, places_of, program_code}
use Rattle.f3_sorts.specs.Sorts.{IsAt, RoutinesBegin, AreSorts}
use Rattle.f3_sorts.specs.Effect.{Sort}
use Rattle.f3_sorts.specs.Effect as sort
use Rattle.f3_sorts.specs.Program.{work_sorts, each_sorts, finish_sorts, last_sorts, body_sorts, main_sorts, procedures_sorts, routines_sorts, program_sorts}
use Rattle.f3_sorts.proofs.Parts.{SortsAt, LinesAt, sorts_front, sorts_back, lines_on, line_of, same_sorts, Part, Onto, nothing, behind_with, behind, seq, before_end, plain, drops, first}
use Rattle.f3_sorts.proofs.OfWork.{work_part}
use Rattle.f3_sorts.proofs.OfParts.{one_part}
use Rattle.f3_sorts.proofs.OfStatements.{statement_part}

-- what may be behind
abbrev pub Any : ℕ → Type 0
Any e = Unit {0}

module _ (sorts : ℕ → List Sort) (m : ℕ) where
  begin_part : (xs : List w.Work) (h : List Sort) → Part sorts (Onto sorts (sort.Objects ∷ h)) (begin_code m xs) (each_sorts m h xs) (sort.Objects ∷ h)
  begin_part [] h = nothing sorts (sort.Objects ∷ h)
  begin_part (x ∷ xs) h = one_part sorts m None (line None (i.NextObject (length (work_code m None x) + 1))) (work_code m None x) (work_sorts m (sort.Objects ∷ h) x) h
      (λ pc x. x) (work_part sorts m None x (sort.Objects ∷ h)) (begin_part xs h)

  discard_part : (xs : List w.Work) (k : ℕ) (h : List Sort) → Part sorts (Onto sorts (sort.Objects ∷ h)) (discard_code m k xs) (each_sorts m h xs) (sort.Objects ∷ h)
  discard_part [] k h = nothing sorts (sort.Objects ∷ h)
  discard_part (x ∷ xs) k h = one_part sorts m None (line None (i.NextArgument k (length (work_code m None x) + 1))) (work_code m None x) (work_sorts m (sort.Objects ∷ h) x) h
      (λ pc x. x) (work_part sorts m None x (sort.Objects ∷ h)) (discard_part xs (suc k) h)

  finish_part : (xs : List w.Work) (k : ℕ) → Part sorts (Onto sorts []) (finish_code m k xs) (finish_sorts m xs) []
  finish_part [] k = nothing sorts []
  finish_part (x ∷ xs) k = first sorts (plain sorts (line None (i.Refer (name.Local k))) [] refl (λ pc x. x))
      (seq sorts (work_part sorts m None x []) (first sorts (drops sorts (line None i.Drop) sort.Object [] (λ pc x. x)) (finish_part xs (suc k))))

  last_part : (p : c.Procedure) → Part sorts Any (last_code m p) (last_sorts m p) []
  last_part p = seq sorts (finish_part p.finish 0) (first sorts (plain sorts (line None (i.ResultOf p.result)) [] refl (λ pc x. x))
      (first sorts (plain sorts (line None i.Outward) (sort.Datum ∷ []) refl (λ pc x. x)) (seq sorts (discard_part p.discard 0 (sort.Datum ∷ []))
      (before_end sorts (line None i.Return) (λ pc is out. record { rest = []; before = is; next = tt; far = tt })))))

  -- an END and what is behind it
  record Ending (e : ℕ) : Type 0 where
    begins : sorts e ≡ []
    places : sorts (e + 1) ≡ []
    goes : sorts (e + 2) ≡ []

  ending_keeps : (p : c.Procedure) (pc : ℕ) → SortsAt sorts pc ([] ∷ [] ∷ last_sorts m p) →
      Any (pc + length (line (Some p.end) i.Begin ∷ line (Some p.end) i.SetPlace ∷ last_code m p)) →
      Ending pc × LinesAt sorts pc (line (Some p.end) i.Begin ∷ line (Some p.end) i.SetPlace ∷ last_code m p)
  ending_keeps p pc has out =
      let r = (last_part p).keeps (pc + 1 + 1) has.1.1 tt in
      let goes = same_sorts sorts (pc + 2) (pc + 1 + 1) (omega arith) r.0 in (
        record { begins = has.0; places = has.1.0; goes = goes },
        (
          record { rest = []; before = has.0; next = has.1.0; far = tt },
          (record { rest = []; before = has.1.0; next = r.0; far = tt }, r.1),
        ),
      )

  pub body_part : (p : c.Procedure) → Part sorts Any (body_code m p) (body_sorts m p) []
  body_part p = first sorts (plain sorts (line None i.Dummies) [] refl (λ pc x. x)) (seq sorts (begin_part p.begin [])
      (first sorts (drops sorts (line None i.Drop) sort.Objects [] (λ pc x. x))
      (behind_with sorts {In = Ending} (line (Some p.end) i.Begin ∷ line (Some p.end) i.SetPlace ∷ last_code m p) ([] ∷ [] ∷ last_sorts m p)
      (omega (arith, (last_part p).same)) (ending_keeps p) (λ e l out. record {
        here = l.begins;
        cycle = l.places;
        exit = l.places;
        left = [];
        cells = record { gone = []; many = refl; is = refl };
        ret = l.goes;
      }) (statement_part sorts m p.body None body_ways []))))

  pub main_part : (p : c.Procedure) → Part sorts Any (main_code m p) (main_sorts m p) []
  main_part p = behind sorts (λ e is out.
      let on = same_sorts sorts (e + 0) e (omega arith) is in
      record { here = is; cycle = on; exit = on; left = []; cells = record { gone = []; many = refl; is = refl }; ret = on })
      (statement_part sorts m p.body None main_ways []) (first sorts (plain sorts (line (Some p.end) i.Begin) [] refl (λ pc x. x))
      (before_end sorts (line None i.Finish) (λ pc is out. record { rest = []; before = is; next = tt; far = tt })))

module _ (sorts : ℕ → List Sort) where
  -- a routine and its way back
  pub routine_part : (x : w.Work) (m : ℕ) → Part sorts Any (work_code m None x ++ line None i.Back ∷ []) (work_sorts m [] x ++ (sort.Object ∷ []) ∷ []) (sort.Object ∷ [])
  routine_part x m = seq sorts (work_part sorts m None x []) (before_end sorts (line None i.Back) (λ pc is out. is))

  abbrev EntriesBegin : List Entry → Type 0
  EntriesBegin es = (f : ℕ) (e : Entry) → slice_get es f ≡ Some e → sorts e.at ≡ []

  entry_first : (x : Entry) (es : List Entry) → sorts x.at ≡ [] → EntriesBegin es → EntriesBegin (x ∷ es)
  entry_first x es h k zero e is = let same : x ≡ e = cc in subst (λ y. sorts y.at ≡ []) same h
  entry_first x es h k (suc f) e is = k f e is

  procedures_same : (m : ℕ) (ps : List c.Procedure) → length (procedures_sorts m ps) ≡ length (procedures_code m ps)
  procedures_same m [] = refl
  procedures_same m (p ∷ ps) = omega (
    arith,
    length-append (body_sorts m p) (procedures_sorts m ps),
    length-append (body_code m p) (procedures_code m ps),
    (body_part sorts m p).same,
    procedures_same m ps,
  )

  procedures_keep : (m : ℕ) (ps : List c.Procedure) (pc : ℕ) → SortsAt sorts pc (procedures_sorts m ps) →
      LinesAt sorts pc (procedures_code m ps) × EntriesBegin (entries m pc ps)
  procedures_keep m [] pc has = (tt, λ f e is. cc)
  procedures_keep m (p ∷ ps) pc has =
      let b = body_part sorts m p in
      let r = b.keeps pc (sorts_front sorts pc (body_sorts m p) (procedures_sorts m ps) has) tt in
      let has' = subst (λ n. SortsAt sorts (pc + n) (procedures_sorts m ps)) b.same
      (sorts_back sorts pc (body_sorts m p) (procedures_sorts m ps) has) in
      let more = procedures_keep m ps (pc + length (body_code m p)) has' in
      (lines_on sorts pc (body_code m p) (procedures_code m ps) r.1 more.0, entry_first _ (entries m (pc + length (body_code m p)) ps) r.0 more.1)

  pub routines_same : (xs : List w.Work) → length (routines_sorts xs) ≡ length (routines_code xs)
  routines_same [] = refl
  routines_same (x ∷ xs) =
      let cx = work_code (length xs) None x in let hx = work_sorts (length xs) [] x in
      omega (
        arith,
        length-append hx ((sort.Object ∷ []) ∷ routines_sorts xs),
        length-append cx (line None i.Back ∷ routines_code xs),
        (work_part sorts (length xs) None x []).same,
        routines_same xs,
      )

  routines_keep : (xs : List w.Work) (pc : ℕ) → SortsAt sorts pc (routines_sorts xs) →
      LinesAt sorts pc (routines_code xs) × RoutinesBegin sorts (places_of pc xs)
  routines_keep [] pc has = (tt, tt)
  routines_keep (x ∷ xs) pc has =
      let cx = work_code (length xs) None x in let hx = work_sorts (length xs) [] x in
      let p = work_part sorts (length xs) None x [] in
      let has' = subst (λ n. SortsAt sorts (pc + n) ((sort.Object ∷ []) ∷ routines_sorts xs)) p.same (sorts_back sorts pc hx ((sort.Object ∷ []) ∷ routines_sorts xs) has) in
      let r = p.keeps pc (sorts_front sorts pc hx ((sort.Object ∷ []) ∷ routines_sorts xs) has) has'.0 in
      let more = routines_keep xs (pc + length cx + 1) has'.1 in
      (lines_on sorts pc cx (line None i.Back ∷ routines_code xs) r.1 (has'.0, more.0), (r.0, more.1))

  pub program_keeps : (p : c.Program) → SortsAt sorts 0 (program_sorts p) → AreSorts sorts (program_code p)
  program_keeps p has =
      let m = length p.routines in
      let cm = main_code m p.main in let hm = main_sorts m p.main in
      let cr = routines_code p.routines in let hr = routines_sorts p.routines in
      let cp = procedures_code m p.procedures in let hp = procedures_sorts m p.procedures in
      let b = main_part sorts m p.main in
      let rm = b.keeps 0 (sorts_front sorts 0 hm (hr ++ hp) has) tt in
      let e1 : 0 + length hm ≡ length cm = omega (arith, b.same) in
      let has1 = subst (λ n. SortsAt sorts n (hr ++ hp)) e1 (sorts_back sorts 0 hm (hr ++ hp) has) in
      let rr = routines_keep p.routines (length cm) (sorts_front sorts (length cm) hr hp has1) in
      let has2 = subst (λ n. SortsAt sorts (length cm + n) hp) (routines_same p.routines) (sorts_back sorts (length cm) hr hp has1) in
      let rp = procedures_keep m p.procedures (length cm + length cr) has2 in
      let e2 : length cm ≡ 0 + length cm = omega arith in
      let tail = lines_on sorts (length cm) cr cp rr.0 rp.0 in
      let all = lines_on sorts 0 cm (cr ++ cp) rm.1 (subst (λ n. LinesAt sorts n (cr ++ cp)) e2 tail) in
      record {
        lines = λ pc l is. let at : 0 + pc ≡ pc = omega arith in subst (λ n. IsAt sorts n l.act) at (line_of sorts (cm ++ (cr ++ cp)) 0 pc l all is);
        procedures = rp.1;
        routines = rr.1;
      }

  pub program_same : (p : c.Program) → length (program_sorts p) ≡ length (program_code p).lines
  program_same p =
      let m = length p.routines in
      let cm = main_code m p.main in let hm = main_sorts m p.main in
      let cr = routines_code p.routines in let hr = routines_sorts p.routines in
      let cp = procedures_code m p.procedures in let hp = procedures_sorts m p.procedures in
      omega (
        arith,
        length-append hm (hr ++ hp),
        length-append hr hp,
        length-append cm (cr ++ cp),
        length-append cr cp,
        (main_part sorts m p.main).same,
        routines_same p.routines,
        procedures_same m p.procedures,
      )

-- each of a list of sorts is that of its line
pub sorts_all : (hs pre : List (List Sort)) → SortsAt (λ pc. slice_index_or (pre ++ hs) pc []) (length pre) hs
sorts_all [] pre = tt
sorts_all (h ∷ hs) pre =
    let n : length (pre ++ h ∷ []) ≡ length pre + 1 = omega (arith, length-append pre (h ∷ [])) in
    let rest = sorts_all hs (pre ++ h ∷ []) in
    let rest' = subst (λ l. SortsAt (λ pc. slice_index_or l pc []) (length (pre ++ h ∷ [])) hs) (append_assoc pre (h ∷ []) hs) rest in
    (get_or-append_seam pre h hs [], subst (λ m. SortsAt (λ pc. slice_index_or (pre ++ h ∷ hs) pc []) m hs) n rest')

pub code_has_sorts : (p : c.Program) → (length (program_sorts p) ≡ length (program_code p).lines) ×
    AreSorts (λ pc. slice_index_or (program_sorts p) pc []) (program_code p)
code_has_sorts p =
    let sorts : ℕ → List Sort = λ pc. slice_index_or (program_sorts p) pc [] in
    (program_same sorts p, program_keeps sorts p (sorts_all (program_sorts p) []))

-- the main program begins with no cell
pub program_starts : (p : c.Program) → slice_index_or (program_sorts p) 0 [] ≡ []
program_starts p =
    let sorts : ℕ → List Sort = λ pc. slice_index_or (program_sorts p) pc [] in
    let m = length p.routines in
    let hm = main_sorts m p.main in
    let has = sorts_front sorts 0 hm (routines_sorts p.routines ++ procedures_sorts m p.procedures) (sorts_all (program_sorts p) []) in
    ((main_part sorts m p.main).keeps 0 has tt).0
