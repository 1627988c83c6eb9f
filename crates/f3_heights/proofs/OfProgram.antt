-- The heights of the code of procedures, routines and programs.
use Rattle.std.proofs.Common.{◌≡◌, ℕ, zero, suc, ◌+◌, List, [], ◌∷◌, ◌++◌, length, None, Some, refl, subst, arith, append_assoc, length-append}
use Rattle.std.specs.Prelude.{slice_get, slice_index}
use Rattle.std.proofs.Math.Seq.{get_or-append_seam}
use Rattle.f3_program.specs.declared.expression.Name.TheVariants as name
use Rattle.f3_code.specs.Work as w
use Rattle.f3_code.specs.Core as c
use Rattle.f3_code.specs.declared.instruction.Instruction.TheVariants as i
use Rattle.f3_code.specs.State.{line, Entry}
use Rattle.f3_code.specs.Code.{work_code, begin_code, finish_code, discard_code, body_ways, last_code, body_code, main_ways, main_code, procedures_code, entries, routines_code, places_of, program_code}
use Rattle.f3_heights.specs.Heights.{IsAt, RoutinesBegin, AreHeights}
use Rattle.f3_heights.specs.Program.{work_heights, each_heights, finish_heights, last_heights, body_heights, main_heights, procedures_heights, routines_heights, program_heights}
use Rattle.f3_heights.proofs.Parts.{HeightsAt, LinesAt, heights_front, heights_back, lines_on, line_of, same_height, Part, Onto, nothing, behind_with, behind, seq, before_end, plain, first}
use Rattle.f3_heights.proofs.OfWork.{work_part}
use Rattle.f3_heights.proofs.OfParts.{one_part}
use Rattle.f3_heights.proofs.OfStatements.{statement_part}

-- what may be behind
abbrev pub Any : ℕ → Type 0
Any e = Unit {0}

module _ (height : ℕ → ℕ) (m : ℕ) where
  begin_part : (xs : List w.Work) (h : ℕ) → Part height (Onto height (suc h)) (begin_code m xs) (each_heights m h xs) (suc h)
  begin_part [] h = nothing height (suc h)
  begin_part (x ∷ xs) h = one_part height m None (line None (i.NextObject (length (work_code m None x) + 1))) (work_code m None x) (work_heights m (suc h) x) h
      (λ pc x. x) (work_part height m None x (suc h)) (begin_part xs h)

  discard_part : (xs : List w.Work) (k h : ℕ) → Part height (Onto height (suc h)) (discard_code m k xs) (each_heights m h xs) (suc h)
  discard_part [] k h = nothing height (suc h)
  discard_part (x ∷ xs) k h = one_part height m None (line None (i.NextArgument k (length (work_code m None x) + 1))) (work_code m None x) (work_heights m (suc h) x) h
      (λ pc x. x) (work_part height m None x (suc h)) (discard_part xs (suc k) h)

  finish_part : (xs : List w.Work) (k : ℕ) → Part height (Onto height 0) (finish_code m k xs) (finish_heights m xs) 0
  finish_part [] k = nothing height 0
  finish_part (x ∷ xs) k = first height (plain height (line None (i.Refer (name.Local k))) 0 1 0 (λ pc x. x))
      (seq height (work_part height m None x 0) (first height (plain height (line None i.Drop) 1 0 0 (λ pc x. x)) (finish_part xs (suc k))))

  last_part : (p : c.Procedure) → Part height Any (last_code m p) (last_heights m p) 0
  last_part p = seq height (finish_part p.finish 0) (first height (plain height (line None (i.ResultOf p.result)) 0 1 0 (λ pc x. x))
      (first height (plain height (line None i.Outward) 0 1 1 (λ pc x. x)) (seq height (discard_part p.discard 0 1)
      (before_end height (line None i.Return) (λ pc is out. record { rest = 0; before = omega (arith, is); next = tt; far = tt })))))

  -- an END and what is behind it
  record Ending (e : ℕ) : Type 0 where
    begins : height e ≡ 0
    places : height (e + 1) ≡ 0
    goes : height (e + 2) ≡ 0

  ending_keeps : (p : c.Procedure) (pc : ℕ) → HeightsAt height pc (0 ∷ 0 ∷ last_heights m p) →
      Any (pc + length (line (Some p.end) i.Begin ∷ line (Some p.end) i.SetPlace ∷ last_code m p)) →
      Ending pc × LinesAt height pc (line (Some p.end) i.Begin ∷ line (Some p.end) i.SetPlace ∷ last_code m p)
  ending_keeps p pc has out =
      let r = (last_part p).keeps (pc + 1 + 1) has.1.1 tt in
      let goes = same_height height (pc + 2) (pc + 1 + 1) (omega arith) r.0 in (
        record { begins = has.0; places = has.1.0; goes = goes },
        (
          record { rest = 0; before = omega (arith, has.0); next = omega (arith, has.1.0); far = tt },
          (record { rest = 0; before = omega (arith, has.1.0); next = omega (arith, r.0); far = tt }, r.1),
        ),
      )

  pub body_part : (p : c.Procedure) → Part height Any (body_code m p) (body_heights m p) 0
  body_part p = first height (plain height (line None i.Dummies) 0 1 0 (λ pc x. x)) (seq height (begin_part p.begin 0)
      (first height (plain height (line None i.Drop) 1 0 0 (λ pc x. x))
      (behind_with height {In = Ending} (line (Some p.end) i.Begin ∷ line (Some p.end) i.SetPlace ∷ last_code m p) (0 ∷ 0 ∷ last_heights m p)
      (omega (arith, (last_part p).same)) (ending_keeps p) (λ e l out. record {
        here = l.begins;
        cycle = l.places;
        exit = l.places;
        left = 0;
        cells = refl;
        ret = l.goes;
      }) (statement_part height m p.body None body_ways 0))))

  pub main_part : (p : c.Procedure) → Part height Any (main_code m p) (main_heights m p) 0
  main_part p = behind height (λ e is out.
      let on = same_height height (e + 0) e (omega arith) is in
      record { here = is; cycle = on; exit = on; left = 0; cells = refl; ret = on })
      (statement_part height m p.body None main_ways 0) (first height (plain height (line (Some p.end) i.Begin) 0 0 0 (λ pc x. x))
      (before_end height (line None i.Finish) (λ pc is out. record { rest = 0; before = omega (arith, is); next = tt; far = tt })))

module _ (height : ℕ → ℕ) where
  -- a routine and its way back
  pub routine_part : (x : w.Work) (m : ℕ) → Part height Any (work_code m None x ++ line None i.Back ∷ []) (work_heights m 0 x ++ 1 ∷ []) 1
  routine_part x m = seq height (work_part height m None x 0) (before_end height (line None i.Back) (λ pc is out. is))

  abbrev EntriesBegin : List Entry → Type 0
  EntriesBegin es = (f : ℕ) (e : Entry) → slice_get es f ≡ Some e → height e.at ≡ 0

  entry_first : (x : Entry) (es : List Entry) → height x.at ≡ 0 → EntriesBegin es → EntriesBegin (x ∷ es)
  entry_first x es h k zero e is = let same : x ≡ e = cc in subst (λ y. height y.at ≡ 0) same h
  entry_first x es h k (suc f) e is = k f e is

  procedures_same : (m : ℕ) (ps : List c.Procedure) → length (procedures_heights m ps) ≡ length (procedures_code m ps)
  procedures_same m [] = refl
  procedures_same m (p ∷ ps) = omega (
    arith,
    length-append (body_heights m p) (procedures_heights m ps),
    length-append (body_code m p) (procedures_code m ps),
    (body_part height m p).same,
    procedures_same m ps,
  )

  procedures_keep : (m : ℕ) (ps : List c.Procedure) (pc : ℕ) → HeightsAt height pc (procedures_heights m ps) →
      LinesAt height pc (procedures_code m ps) × EntriesBegin (entries m pc ps)
  procedures_keep m [] pc has = (tt, λ f e is. cc)
  procedures_keep m (p ∷ ps) pc has =
      let b = body_part height m p in
      let r = b.keeps pc (heights_front height pc (body_heights m p) (procedures_heights m ps) has) tt in
      let has' = subst (λ n. HeightsAt height (pc + n) (procedures_heights m ps)) b.same
      (heights_back height pc (body_heights m p) (procedures_heights m ps) has) in
      let more = procedures_keep m ps (pc + length (body_code m p)) has' in
      (lines_on height pc (body_code m p) (procedures_code m ps) r.1 more.0, entry_first _ (entries m (pc + length (body_code m p)) ps) r.0 more.1)

  pub routines_same : (xs : List w.Work) → length (routines_heights xs) ≡ length (routines_code xs)
  routines_same [] = refl
  routines_same (x ∷ xs) =
      let cx = work_code (length xs) None x in let hx = work_heights (length xs) 0 x in
      omega (
        arith,
        length-append hx (1 ∷ routines_heights xs),
        length-append cx (line None i.Back ∷ routines_code xs),
        (work_part height (length xs) None x 0).same,
        routines_same xs,
      )

  routines_keep : (xs : List w.Work) (pc : ℕ) → HeightsAt height pc (routines_heights xs) →
      LinesAt height pc (routines_code xs) × RoutinesBegin height (places_of pc xs)
  routines_keep [] pc has = (tt, tt)
  routines_keep (x ∷ xs) pc has =
      let cx = work_code (length xs) None x in let hx = work_heights (length xs) 0 x in
      let p = work_part height (length xs) None x 0 in
      let has' = subst (λ n. HeightsAt height (pc + n) (1 ∷ routines_heights xs)) p.same (heights_back height pc hx (1 ∷ routines_heights xs) has) in
      let r = p.keeps pc (heights_front height pc hx (1 ∷ routines_heights xs) has) has'.0 in
      let more = routines_keep xs (pc + length cx + 1) has'.1 in
      (lines_on height pc cx (line None i.Back ∷ routines_code xs) r.1 (has'.0, more.0), (r.0, more.1))

  pub program_keeps : (p : c.Program) → HeightsAt height 0 (program_heights p) → AreHeights height (program_code p)
  program_keeps p has =
      let m = length p.routines in
      let cm = main_code m p.main in let hm = main_heights m p.main in
      let cr = routines_code p.routines in let hr = routines_heights p.routines in
      let cp = procedures_code m p.procedures in let hp = procedures_heights m p.procedures in
      let b = main_part height m p.main in
      let rm = b.keeps 0 (heights_front height 0 hm (hr ++ hp) has) tt in
      let e1 : 0 + length hm ≡ length cm = omega (arith, b.same) in
      let has1 = subst (λ n. HeightsAt height n (hr ++ hp)) e1 (heights_back height 0 hm (hr ++ hp) has) in
      let rr = routines_keep p.routines (length cm) (heights_front height (length cm) hr hp has1) in
      let has2 = subst (λ n. HeightsAt height (length cm + n) hp) (routines_same p.routines) (heights_back height (length cm) hr hp has1) in
      let rp = procedures_keep m p.procedures (length cm + length cr) has2 in
      let e2 : length cm ≡ 0 + length cm = omega arith in
      let tail = lines_on height (length cm) cr cp rr.0 rp.0 in
      let all = lines_on height 0 cm (cr ++ cp) rm.1 (subst (λ n. LinesAt height n (cr ++ cp)) e2 tail) in
      record {
        lines = λ pc l is. let at : 0 + pc ≡ pc = omega arith in subst (λ n. IsAt height n l.act) at (line_of height (cm ++ (cr ++ cp)) 0 pc l all is);
        procedures = rp.1;
        routines = rr.1;
      }

  pub program_same : (p : c.Program) → length (program_heights p) ≡ length (program_code p).lines
  program_same p =
      let m = length p.routines in
      let cm = main_code m p.main in let hm = main_heights m p.main in
      let cr = routines_code p.routines in let hr = routines_heights p.routines in
      let cp = procedures_code m p.procedures in let hp = procedures_heights m p.procedures in
      omega (
        arith,
        length-append hm (hr ++ hp),
        length-append hr hp,
        length-append cm (cr ++ cp),
        length-append cr cp,
        (main_part height m p.main).same,
        routines_same p.routines,
        procedures_same m p.procedures,
      )

-- each of a list of heights is that of its line
pub heights_all : (hs pre : List ℕ) → HeightsAt (slice_index (pre ++ hs)) (length pre) hs
heights_all [] pre = tt
heights_all (h ∷ hs) pre =
    let n : length (pre ++ h ∷ []) ≡ length pre + 1 = omega (arith, length-append pre (h ∷ [])) in
    let rest = heights_all hs (pre ++ h ∷ []) in
    let rest' = subst (λ l. HeightsAt (slice_index l) (length (pre ++ h ∷ [])) hs) (append_assoc pre (h ∷ []) hs) rest in
    (get_or-append_seam pre h hs 0, subst (λ m. HeightsAt (slice_index (pre ++ h ∷ hs)) m hs) n rest')

pub code_has_heights : (p : c.Program) → (length (program_heights p) ≡ length (program_code p).lines) × AreHeights (slice_index (program_heights p)) (program_code p)
code_has_heights p =
    let height = slice_index (program_heights p) in
    (program_same height p, program_keeps height p (heights_all (program_heights p) []))
