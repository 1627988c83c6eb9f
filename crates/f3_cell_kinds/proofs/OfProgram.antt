-- The kinds of the code of procedures, routines and programs.
use Rattle.std.proofs.Common.{◌≡◌, ◌∙◌, sym, ap, ℕ, zero, suc, ◌+◌, true, ◌&&◌, List, [], ◌∷◌, ◌++◌, map, length, Option, None, Some, refl, subst, arith, append_assoc, length-append}
use Rattle.std.specs.Prelude.{slice_get, slice_index_or}
use Rattle.std.proofs.Math.Seq.{get_or-append_seam}
use Rattle.f3_program.specs.declared.declarations.Base.TheVariants as base
use Rattle.f3_program.specs.declared.declarations.Declared.{Declared}
use Rattle.f3_program.specs.declared.declarations.Kind.{Kind}
use Rattle.f3_program.specs.declared.expression.Name.TheVariants as name
use Rattle.f3_program.specs.declared.program.Dummy.{Dummy}
use Rattle.f3_program.specs.declared.program.Procedure.{Procedure}
use Rattle.f3_program.specs.declared.program.Program.{Program}
use Rattle.f3_program.specs.declared.program.Static.{Static}
use Rattle.f3_meaning_whole.specs.Exec.{with_result, declared_in}
use Rattle.f3_meaning_whole.specs.Formed.{all, of_kind, kinds_of, kind_of_name, found, is_formed, is_procedure, is_declared, are_types, are_declared, IsWellFormed}
use Rattle.f3_meaning_whole.specs.Run.{setting_of}
use Rattle.f3_code.specs.Work as w
use Rattle.f3_code.specs.Core as c
use Rattle.f3_code.specs.Lower.{end_work, out_work, discard_work, result_number, lowered_procedure, lowered_main, lowered_program}
use Rattle.f3_code.specs.declared.instruction.Instruction.TheVariants as i
use Rattle.f3_code.specs.State.{line}
use Rattle.f3_code.specs.Code.{work_code, begin_code, finish_code, discard_code, body_ways, last_code, body_code, main_ways, main_code, procedures_code, entries, routines_code, places_of, program_code}
use Rattle.f3_cell_kinds.specs.Types.{Untold, CellType, Scope, Site}
use Rattle.f3_cell_kinds.specs.Types as cell
use Rattle.f3_cell_kinds.specs.Effect.{on, declared_kind, result_in}
use Rattle.f3_cell_kinds.specs.Kinds.{Leads, IsAt, first_site, main_site, routine_site, ProceduresBegin, RoutinesBegin, AreKinds}
use Rattle.f3_cell_kinds.specs.Values.{kind_or, at, stacked, work_sites}
use Rattle.f3_cell_kinds.specs.Program.{variable_in, in_routine, each_sites, finish_sites, scope_of, returns_of, outward, last_sites, body_sites, main_sites, procedures_sites, routines_sites, program_sites}
use Rattle.f3_cell_kinds.specs.Sense.{procedure_fits, statement_fits, MakesSense}
use Rattle.f3_cell_kinds.specs.Laws.{nowhere, site_at}
use Rattle.f3_cell_kinds.proofs.Asked.{and_is, itself}
use Rattle.f3_cell_kinds.proofs.Parts.{SitesAt, LinesAt, lands, in_scope, sites_front, sites_back, lines_on, line_of, same_site, Part, Onto, nothing, behind_with, behind, seq, before, before_end, plain, first, forked}
use Rattle.f3_cell_kinds.proofs.Steps.{on_leads, fork_leads, drops}
use Rattle.f3_cell_kinds.proofs.OfWork.{WorkFits, work_part}
use Rattle.f3_cell_kinds.proofs.Fitting.{FinalsFit, end_fits, out_fits, discard_fits, RoutinesFit, routines_fit}
use Rattle.f3_cell_kinds.proofs.OfStatements.{statement_part}

-- what may be behind
abbrev pub Any : ℕ → Type 0
Any e = Unit {0}

-- ---- variables

get_front : (xs ys : List Declared) (k : ℕ) (y : Declared) → slice_get xs k ≡ Some y → slice_get (xs ++ ys) k ≡ Some y
get_front [] ys k y e = cc
get_front (x ∷ xs) ys zero y e = e
get_front (x ∷ xs) ys (suc k) y e = get_front xs ys k y e

get_seam : (xs : List Declared) (y : Declared) → slice_get (xs ++ y ∷ []) (length xs) ≡ Some y
get_seam [] y = refl
get_seam (x ∷ xs) y = get_seam xs y

with_front : (xs : List Declared) (o : Option Declared) (k : ℕ) (y : Declared) → slice_get xs k ≡ Some y → slice_get (with_result xs o) k ≡ Some y
with_front xs None k y e = e
with_front xs (Some d) k y e = get_front xs (d ∷ []) k y e

result_is : (p : Program) (xs : List Declared) (o : Option Declared) → result_in (with_result xs o) (result_number (setting_of p) o (length xs)) ≡ Some (declared_kind o)
result_is p xs None = refl
result_is p xs (Some d) = ap (λ (x : Option Declared). found x (λ (y : Declared). Some y.kind)) (get_seam xs d)

returns_is : (p : Program) (q : Procedure) → returns_of p (lowered_procedure (setting_of p) q) ≡ declared_kind q.result
returns_is p q = ap kind_or (result_is p q.locals.items q.result)

module _ (p : Program) (sites : ℕ → Site) (finals : FinalsFit p) (m : ℕ) where
  module _ (r : Kind) (s : Scope) where
    begin_part : (ds : List Dummy) (h : List CellType) →
        Part p sites (Onto p sites (at r s (cell.Objects [] ∷ h))) (begin_code m (map (λ (d : Dummy). out_work (setting_of p) d.intent d.kind) ds))
        (each_sites p m (at r s h) (kinds_of ds) (map (λ (d : Dummy). out_work (setting_of p) d.intent d.kind) ds)) (at r s (cell.Objects (kinds_of ds) ∷ h))
    begin_part [] h = nothing p sites (at r s (cell.Objects [] ∷ h))
    begin_part (d ∷ ds) h =
        let x = out_work (setting_of p) d.intent d.kind in let ks = kinds_of ds in
        first p sites (plain p sites (line None (i.NextObject (length (work_code m None x) + 1))) (at r s h) (cell.Objects (d.kind ∷ ks) ∷ []) (cell.Object d.kind ∷ cell.Objects ks ∷ [])
        (λ pc live c b. (d.kind, ks, b)))
        (seq p sites (work_part p sites m None x (at r s (cell.Objects ks ∷ h)) d.kind (λ live. out_fits p finals d.intent d.kind))
        (first p sites (drops p sites None (at r s (cell.Objects ks ∷ h)) (cell.Object d.kind)) (begin_part ds h)))

    finish_part : (ds : List Declared) (n : ℕ) → ((k : ℕ) (y : Declared) → slice_get ds k ≡ Some y → slice_get s.variables (n + k) ≡ Some y) →
        Part p sites (Onto p sites (at r s [])) (finish_code m n (map (λ (d : Declared). end_work (setting_of p) d.kind) ds))
        (finish_sites p m (at r s []) n (map (λ (d : Declared). end_work (setting_of p) d.kind) ds)) (at r s [])
    finish_part [] n f = nothing p sites (at r s [])
    finish_part (d ∷ ds) n f =
        let x = end_work (setting_of p) d.kind in
        let k = variable_in (slice_get s.variables n) in
        let e : n + 0 ≡ n = omega arith in
        let is : slice_get s.variables n ≡ Some d = ap (slice_get s.variables) (sym e) ∙ f 0 d refl in
        let same : d.kind ≡ k = ap variable_in (sym is) in
        let named : kind_of_name p s.variables s.names (name.Local n) ≡ Some k =
        ap (λ (o : Option Declared). found o (λ (y : Declared). Some y.kind)) is ∙ ap (λ (z : Kind). Some z) same in
        first p sites (plain p sites (line None (i.Refer (name.Local n))) (at r s []) [] (cell.Object k ∷ [])
        (λ pc live c b. in_scope (sites pc).scope s _ c (k, named, b)))
        (seq p sites (work_part p sites m None x (at r s []) k (λ live. subst (λ (z : Kind). WorkFits p z x) same (end_fits p finals d.kind)))
        (first p sites (drops p sites None (at r s []) (cell.Object k))
        (finish_part ds (suc n) (λ j y e. let there : suc n + j ≡ n + suc j = omega arith in ap (slice_get s.variables) there ∙ f (suc j) y e))))

  discard_part : (ds : List Dummy) (n : ℕ) (h : Site) →
      Part p sites (Onto p sites (stacked (cell.Objects [] ∷ []) h)) (discard_code m n (map (λ (d : Dummy). discard_work d.kind) ds))
      (each_sites p m h (kinds_of ds) (map (λ (d : Dummy). discard_work d.kind) ds)) (stacked (cell.Objects (kinds_of ds) ∷ []) h)
  discard_part [] n h = nothing p sites (stacked (cell.Objects [] ∷ []) h)
  discard_part (d ∷ ds) n h =
      let x = discard_work d.kind in let ks = kinds_of ds in let k = d.kind in
      let cx = work_code m None x in
      forked p sites {n = stacked (cell.Objects ks ∷ []) h} (line None (i.NextArgument n (length cx + 1))) (line None i.Drop)
      (λ pc is next far t. (
        k,
        ks,
        fork_leads p sites h (cell.Objects (k ∷ ks) ∷ []) (cell.Object k ∷ cell.Objects ks ∷ []) (cell.Objects ks ∷ []) (length cx + 1) pc
            (ap (λ (z : Site). z.is_reached) (sym is) ∙ t) is next far,
      ))
      (λ e is out live. is) (λ e is next out. (drops p sites None (stacked (cell.Objects ks ∷ []) h) (cell.Object k)).by e is next)
      (work_part p sites m None x (stacked (cell.Objects ks ∷ []) h) k (λ live. discard_fits p k k)) (discard_part ds (suc n) h)

  return_part : (r : Kind) → Part p sites Any (line None i.Return ∷ []) (outward p r (cell.Objects [] ∷ cell.Datum r ∷ []) ∷ []) (outward p r (cell.Objects [] ∷ cell.Datum r ∷ []))
  return_part r = before_end p sites (line None i.Return) (λ pc is out live. (
    ap (λ (z : Site). z.scope) is,
    [],
    record {
      rest = [];
      before = subst (λ (z : Site). z.cells ≡ cell.Objects [] ∷ cell.Datum z.returns ∷ []) (sym is) refl;
      next = tt;
      far = tt;
    },
  ))

  module _ (q : Procedure) where
    abbrev core : c.Procedure
    core = lowered_procedure (setting_of p) q

    abbrev r : Kind
    r = returns_of p core

    abbrev s : Scope
    s = scope_of p core

    last_part : Part p sites Any (last_code m core) (last_sites p m core) (at r s [])
    last_part = seq p sites (finish_part r s q.locals.items 0 (λ k y e. let same : 0 + k ≡ k = omega arith in
        ap (slice_get (declared_in q)) same ∙ with_front q.locals.items q.result k y e))
        (before p sites {m = at r s (cell.Datum r ∷ [])} (line None (i.ResultOf core.result)) (λ pc is next out live.
        let same : r ≡ (sites pc).returns = ap (λ (z : Site). z.returns) (sym is) in
        let known = itself _ _ (result_is p q.locals.items q.result) in
        in_scope (sites pc).scope s _ (ap (λ (z : Site). z.scope) is) (
          known ∙ ap (λ (z : Kind). Some z) same,
          subst (λ (z : Kind). Leads sites pc (on (sites pc) [] (cell.Datum z ∷ []))) same (on_leads p sites (at r s []) [] (cell.Datum r ∷ []) pc refl is next),
        ))
        (before p sites {m = outward p r (cell.Objects s.names ∷ cell.Datum r ∷ [])} (line None i.Outward) (λ pc is next out live.
        in_scope (sites pc).scope s _ (ap (λ (z : Site). z.scope) is) (record {
          rest = cell.Datum r ∷ [];
          before = ap (λ (z : Site). z.cells) is;
          next = next refl ∙ lands (at r s (cell.Datum r ∷ [])) [] (cell.Objects s.names ∷ []) Untold (sites pc) refl is;
          far = tt;
        }))
        (seq p sites (discard_part q.dummies.items 0 (outward p r (cell.Datum r ∷ []))) (return_part r))))

    -- an END and what is behind it
    record Ending (e : ℕ) : Type 0 where
      begins : sites e ≡ at r s []
      places : sites (e + 1) ≡ at r s []
      goes : sites (e + 2) ≡ at r s []

    ending_keeps : (pc : ℕ) → SitesAt p sites pc (at r s [] ∷ at r s [] ∷ last_sites p m core) →
        Any (pc + length (line (Some q.end) i.Begin ∷ line (Some q.end) i.SetPlace ∷ last_code m core)) →
        Ending pc × LinesAt p sites pc (line (Some q.end) i.Begin ∷ line (Some q.end) i.SetPlace ∷ last_code m core)
    ending_keeps pc has out =
        let x = last_part.keeps (pc + 1 + 1) has.1.1 tt in
        let goes = same_site p sites (pc + 2) (pc + 1 + 1) (omega arith) (x.0 refl) in (
          record { begins = has.0; places = has.1.0; goes = goes },
          (
            λ live. on_leads p sites (at r s []) [] [] pc refl has.0 (λ t. has.1.0),
            (λ live. on_leads p sites (at r s []) [] [] (pc + 1) refl has.1.0 x.0, x.1),
          ),
        )

    pub body_part : is_procedure p q ≡ true → procedure_fits p q ≡ true → Part p sites Any (body_code m core) (body_sites p m core) (at r s [])
    body_part formed fit = before p sites {m = at r s (cell.Objects s.names ∷ [])} (line None i.Dummies) (λ pc is next out live.
        in_scope (sites pc).scope s _ (ap (λ (z : Site). z.scope) is) (on_leads p sites (at r s []) [] (cell.Objects s.names ∷ []) pc refl is next))
        (seq p sites (begin_part r s q.dummies.items []) (first p sites (drops p sites None (at r s []) (cell.Objects []))
        (behind_with p sites {In = Ending} (line (Some q.end) i.Begin ∷ line (Some q.end) i.SetPlace ∷ last_code m core) (at r s [] ∷ at r s [] ∷ last_sites p m core)
        (omega (arith, last_part.same)) ending_keeps (λ e l out. record {
          here = l.begins;
          cycle = l.places;
          exit = l.places;
          left = [];
          cells = record { gone = []; many = refl; is = refl };
          ret = l.goes;
        }) (statement_part p sites finals m r q.body None body_ways s [] formed fit))))

  pub main_part : p.main.dummies.items ≡ [] → is_procedure p p.main ≡ true → procedure_fits p p.main ≡ true →
      Part p sites Any (main_code m (lowered_main (setting_of p) p.main)) (main_sites p m (lowered_main (setting_of p) p.main)) (main_site p.main)
  main_part none formed fit =
      let q = lowered_main (setting_of p) p.main in
      let r = returns_of p q in let s = scope_of p q in
      behind p sites (λ e is out.
      let on = same_site p sites (e + 0) e (omega arith) (is refl) in
      record { here = is refl; cycle = on; exit = on; left = []; cells = record { gone = []; many = refl; is = refl }; ret = on })
      (statement_part p sites finals m r p.main.body None main_ways s []
      (subst (λ (ds : List Dummy). is_formed p (declared_in p.main) p.main.body (kinds_of ds) ≡ true) none formed)
      (subst (λ (ds : List Dummy). statement_fits p p.main.body (record { variables = declared_in p.main; names = kinds_of ds; selected = None }) ≡ true) none fit))
      (first p sites (plain p sites (line (Some p.main.end) i.Begin) (at r s []) [] [] (λ pc live c b. b))
      (before_end p sites (line None i.Finish) (λ pc is out live. record { rest = []; before = ap (λ (z : Site). z.cells) is; next = tt; far = tt })))

  -- ---- procedures

  procedures_same : (qs : List Procedure) → all (is_procedure p) qs ≡ true → all (procedure_fits p) qs ≡ true →
      length (procedures_sites p m (map (lowered_procedure (setting_of p)) qs)) ≡ length (procedures_code m (map (lowered_procedure (setting_of p)) qs))
  procedures_same [] formed fit = refl
  procedures_same (q ∷ qs) formed fit =
      let a = and_is (is_procedure p q) (all (is_procedure p) qs) formed in let f = and_is (procedure_fits p q) (all (procedure_fits p) qs) fit in
      let x = lowered_procedure (setting_of p) q in let xs = map (lowered_procedure (setting_of p)) qs in
      omega (
        arith,
        length-append (body_sites p m x) (procedures_sites p m xs),
        length-append (body_code m x) (procedures_code m xs),
        (body_part q a.0 f.0).same,
        procedures_same qs a.1 f.1,
      )

  procedures_keep : (qs : List Procedure) (pc : ℕ) → all (is_procedure p) qs ≡ true → all (procedure_fits p) qs ≡ true →
      SitesAt p sites pc (procedures_sites p m (map (lowered_procedure (setting_of p)) qs)) →
      LinesAt p sites pc (procedures_code m (map (lowered_procedure (setting_of p)) qs)) × ProceduresBegin sites qs (entries m pc (map (lowered_procedure (setting_of p)) qs))
  procedures_keep [] pc formed fit has = (tt, tt)
  procedures_keep (q ∷ qs) pc formed fit has =
      let a = and_is _ _ formed in let f = and_is _ _ fit in
      let x = lowered_procedure (setting_of p) q in let xs = map (lowered_procedure (setting_of p)) qs in
      let b = body_part q a.0 f.0 in
      let k = b.keeps pc (sites_front p sites pc (body_sites p m x) (procedures_sites p m xs) has) tt in
      let has' = subst (λ n. SitesAt p sites (pc + n) (procedures_sites p m xs)) b.same (sites_back p sites pc (body_sites p m x) (procedures_sites p m xs) has) in
      let more = procedures_keep qs (pc + length (body_code m x)) a.1 f.1 has' in
      let begins : sites pc ≡ first_site q = k.0 refl ∙ ap (λ (z : Kind). at z (scope_of p x) []) (returns_is p q) in
      (lines_on p sites pc (body_code m x) (procedures_code m xs) k.1 more.0, (begins, refl, refl, more.1))

module _ (p : Program) (sites : ℕ → Site) where
  -- ---- routines

  places_count : (xs : List w.Work) (pc : ℕ) → length (places_of pc xs) ≡ length xs
  places_count [] pc = refl
  places_count (x ∷ xs) pc = ap suc (places_count xs _)

  routines_same : (xs : List w.Work) → RoutinesFit p xs → length (routines_sites p xs) ≡ length (routines_code xs)
  routines_same [] fit = refl
  routines_same (x ∷ xs) fit =
      let t = length xs in
      let k = of_kind (base.Derived t) 0 in
      let cx = work_code t None x in let hx = work_sites p t (in_routine t) k x in
      omega (
        arith,
        length-append hx (stacked (cell.Object k ∷ []) (in_routine t) ∷ routines_sites p xs),
        length-append cx (line None i.Back ∷ routines_code xs),
        (work_part p sites t None x (in_routine t) k (λ live. fit.0)).same,
        routines_same xs fit.1,
      )

  routines_keep : (xs : List w.Work) (pc : ℕ) → RoutinesFit p xs → SitesAt p sites pc (routines_sites p xs) →
      LinesAt p sites pc (routines_code xs) × RoutinesBegin sites (places_of pc xs)
  routines_keep [] pc fit has = (tt, tt)
  routines_keep (x ∷ xs) pc fit has =
      let t = length xs in
      let k = of_kind (base.Derived t) 0 in
      let cx = work_code t None x in let hx = work_sites p t (in_routine t) k x in
      let end = stacked (cell.Object k ∷ []) (in_routine t) in
      let b = work_part p sites t None x (in_routine t) k (λ live. fit.0) in
      let has' = subst (λ n. SitesAt p sites (pc + n) (end ∷ routines_sites p xs)) b.same (sites_back p sites pc hx (end ∷ routines_sites p xs) has) in
      let f = b.keeps pc (sites_front p sites pc hx (end ∷ routines_sites p xs) has) (λ live. has'.0) in
      let more = routines_keep xs (pc + length cx + 1) fit.1 has'.1 in
      let back : IsAt p sites (pc + length cx) (line None i.Back) = λ live. subst (λ (z : Site). z.cells ≡ cell.Object z.returns ∷ []) (sym has'.0) refl in
      let begins : sites pc ≡ routine_site (length (places_of (pc + length cx + 1) xs)) = f.0 refl ∙ ap routine_site (sym (places_count xs (pc + length cx + 1))) in
      (lines_on p sites pc cx (line None i.Back ∷ routines_code xs) f.1 (back, more.0), (begins, more.1))

-- what is known of each procedure and of the main program
record Known (p : Program) : Type 0 where
  finals : FinalsFit p
  none : p.main.dummies.items ≡ []
  main : is_procedure p p.main ≡ true
  main_fits : procedure_fits p p.main ≡ true
  rest : all (is_procedure p) p.procedures.items ≡ true
  rest_fits : all (procedure_fits p) p.procedures.items ≡ true

known_of : (p : Program) → IsWellFormed p → MakesSense p → Known p
known_of p formed sense =
    let a = and_is (are_types p 0 p.types.items) (all (λ (y : Static). is_declared (length p.types.items) y.declared) p.statics.items
    && (all (are_declared p) (p.main ∷ p.procedures.items) && all (is_procedure p) (p.main ∷ p.procedures.items))) formed in
    let b = and_is _ _ a.1 in let d = and_is _ _ b.1 in
    let e = and_is _ _ d.1 in let f = and_is _ _ sense.statements in
    record { finals = sense.finals; none = sense.main; main = e.0; main_fits = f.0; rest = e.1; rest_fits = f.1 }

module _ (p : Program) (sites : ℕ → Site) (known : Known p) where
  abbrev whole : c.Program
  whole = lowered_program p

  abbrev m : ℕ
  m = length whole.routines

  program_keeps : SitesAt p sites 0 (program_sites p) → AreKinds p sites (program_code whole)
  program_keeps has =
      let cm = main_code m whole.main in let hm = main_sites p m whole.main in
      let cr = routines_code whole.routines in let hr = routines_sites p whole.routines in
      let cp = procedures_code m whole.procedures in let hp = procedures_sites p m whole.procedures in
      let fit = routines_fit p known.finals in
      let b = main_part p sites known.finals m known.none known.main known.main_fits in
      let rm = b.keeps 0 (sites_front p sites 0 hm (hr ++ hp) has) tt in
      let e1 : 0 + length hm ≡ length cm = omega (arith, b.same) in
      let has1 = subst (λ n. SitesAt p sites n (hr ++ hp)) e1 (sites_back p sites 0 hm (hr ++ hp) has) in
      let rr = routines_keep p sites whole.routines (length cm) fit (sites_front p sites (length cm) hr hp has1) in
      let has2 = subst (λ n. SitesAt p sites (length cm + n) hp) (routines_same p sites whole.routines fit) (sites_back p sites (length cm) hr hp has1) in
      let rp = procedures_keep p sites known.finals m p.procedures.items (length cm + length cr) known.rest known.rest_fits has2 in
      let e2 : length cm ≡ 0 + length cm = omega arith in
      let tail = lines_on p sites (length cm) cr cp rr.0 rp.0 in
      let all = lines_on p sites 0 cm (cr ++ cp) rm.1 (subst (λ n. LinesAt p sites n (cr ++ cp)) e2 tail) in
      record {
        lines = λ pc l is. let at : 0 + pc ≡ pc = omega arith in subst (λ n. IsAt p sites n l) at (line_of p sites (cm ++ (cr ++ cp)) 0 pc l all is);
        main = rm.0 refl;
        procedures = rp.1;
        routines = rr.1;
      }

  program_same : length (program_sites p) ≡ length (program_code whole).lines
  program_same =
      let cm = main_code m whole.main in let hm = main_sites p m whole.main in
      let cr = routines_code whole.routines in let hr = routines_sites p whole.routines in
      let cp = procedures_code m whole.procedures in let hp = procedures_sites p m whole.procedures in
      omega (
        arith,
        length-append hm (hr ++ hp),
        length-append hr hp,
        length-append cm (cr ++ cp),
        length-append cr cp,
        (main_part p sites known.finals m known.none known.main known.main_fits).same,
        routines_same p sites whole.routines (routines_fit p known.finals),
        procedures_same p sites known.finals m p.procedures.items known.rest known.rest_fits,
      )

-- each of a list of sites is that of its line
sites_all : (p : Program) (hs pre : List Site) → SitesAt p (λ pc. slice_index_or (pre ++ hs) pc nowhere) (length pre) hs
sites_all p [] pre = tt
sites_all p (h ∷ hs) pre =
    let n : length (pre ++ h ∷ []) ≡ length pre + 1 = omega (arith, length-append pre (h ∷ [])) in
    let rest = sites_all p hs (pre ++ h ∷ []) in
    let rest' = subst (λ l. SitesAt p (λ pc. slice_index_or l pc nowhere) (length (pre ++ h ∷ [])) hs) (append_assoc pre (h ∷ []) hs) rest in
    (get_or-append_seam pre h hs nowhere, subst (λ m. SitesAt p (λ pc. slice_index_or (pre ++ h ∷ hs) pc nowhere) m hs) n rest')

pub code_has_kinds : (p : Program) → IsWellFormed p → MakesSense p → (length (program_sites p) ≡ length (program_code (lowered_program p)).lines)
    × AreKinds p (site_at p) (program_code (lowered_program p))
code_has_kinds p formed sense =
    let known = known_of p formed sense in
    (program_same p (site_at p) known, program_keeps p (site_at p) known (sites_all p (program_sites p) []))
