-- The needs of the code of a Core program.
use Rattle.std.proofs.Common.{◌≡◌, ℕ, zero, suc, ◌+◌, ◌<◌, ◌≤◌, true, List, [], ◌∷◌, ◌++◌, length, None, Some, refl, sym, ap, ◌∙◌, subst, arith, append_assoc, length-append}
use Rattle.std.specs.Prelude.{slice_get, nat_eq, nat_lt}
use Rattle.f3_code.specs.Work as w
use Rattle.f3_code.specs.Core as c
use Rattle.f3_code.specs.declared.instruction.Instruction.TheVariants as i
use Rattle.f3_code.specs.State.{Line, line, Entry}
use Rattle.f3_code.specs.Code.{work_code, body_code, main_code, procedures_code, entries, routines_code, places_of, program_code}
use Rattle.f3_heights.specs.Program.{work_heights, code_heights, body_heights, main_heights, procedures_heights, routines_heights, program_heights}
use Rattle.f3_heights.specs.Room.{greatest, alike, routines_need, procedure_need, main_need, routines_needs, procedures_needs, program_needs}
use Rattle.f3_heights.specs.Needs.{IsKept, RoutineHasRoom}
use Rattle.f3_heights.proofs.Parts.{HeightsAt, heights_front, heights_back}
use Rattle.f3_heights.proofs.OfWork.{work_part}
use Rattle.f3_heights.proofs.OfProgram.{routine_part, body_part, main_part, routines_same}
use Rattle.f3_heights.proofs.Regions.{AllAt, all_on, all_of, all_map, Own, own}
use Rattle.f3_heights.proofs.Older.{IsOlder, work_older}

all_zip : {P Q R : ℕ → Line → Type 0} (pc : ℕ) (lines : List Line) → ((k : ℕ) (l : Line) → P k l → Q k l → R k l) → AllAt P pc lines → AllAt Q pc lines →
    AllAt R pc lines
all_zip pc [] f h k = tt
all_zip pc (l ∷ ls) f h k = (f pc l h.0 k.0, all_zip (pc + 1) ls f h.1 k.1)

alike_length : (c : ℕ) (hs : List ℕ) → length (alike c hs) ≡ length hs
alike_length c [] = refl
alike_length c (h ∷ hs) = ap suc (alike_length c hs)

pub places_length : (at : ℕ) (xs : List w.Work) → length (places_of at xs) ≡ length xs
places_length at [] = refl
places_length at (x ∷ xs) = ap suc (places_length (at + length (work_code (length xs) None x) + 1) xs)

module _ (height room : ℕ → ℕ) where
  -- the first of lines that are alike
  alike_first : (c pc : ℕ) (a : List ℕ) (h : ℕ) (b : List ℕ) → HeightsAt room pc (alike c (a ++ (h ∷ b))) → room pc ≡ c
  alike_first c pc [] h b r = r.0
  alike_first c pc (x ∷ a) h b r = r.0

  -- and each of them
  alike_all : (c pc : ℕ) (hs : List ℕ) → HeightsAt room pc (alike c hs) → (j : ℕ) → j < length hs → room (pc + j) ≡ c
  alike_all c pc [] r j lt = absurd (omega arith)
  alike_all c pc (x ∷ hs) r zero lt = let e : pc + 0 ≡ pc = omega arith in ap room e ∙ r.0
  alike_all c pc (x ∷ hs) r (suc j) lt =
      let e : pc + suc j ≡ pc + 1 + j = omega arith in ap room e ∙ alike_all c (pc + 1) hs r.1 j (omega arith)

  -- ---- routines

  -- the routines begin at these places, and need so much
  abbrev RoomsBegin : ℕ → List w.Work → Type 0
  RoomsBegin at [] = Unit {0}
  RoomsBegin at (x ∷ xs) = (height at ≡ 1) × (room at ≡ routines_need (x ∷ xs)) × RoomsBegin (at + length (work_code (length xs) None x) + 1) xs

  record AtRoutine (g c pc : ℕ) : Type 0 where
    low : height pc ≤ g
    same : room pc ≡ c

  at_routine : (g c pc : ℕ) (l : Line) → Own height room g c pc l → AtRoutine g c pc
  at_routine g c pc l h = record { low = h.low; same = h.same }

  enter_all : (g c pc t : ℕ) → AtRoutine g c pc → (at : ℕ) (xs : List w.Work) → routines_need xs + g ≤ c → RoomsBegin at xs →
      RoutineHasRoom height room pc t (places_of at xs)
  enter_all g c pc t h at [] le b = tt
  enter_all g c pc t h at (x ∷ xs) le b =
      (λ is. omega (arith, b.1, le, h.low, h.same), enter_all g c pc t h (at + length (work_code (length xs) None x) + 1) xs (omega (arith, le)) b.2)

  enter_older : (g c pc t : ℕ) → AtRoutine g c pc → (at : ℕ) (newer xs : List w.Work) → nat_lt t (length xs) ≡ true → routines_need xs + g ≤ c →
      RoomsBegin at (newer ++ xs) → RoutineHasRoom height room pc t (places_of at (newer ++ xs))
  enter_older g c pc t h at [] xs lt le b = enter_all g c pc t h at xs le b
  enter_older g c pc t h at (x ∷ newer) xs lt le b =
      let next = at + length (work_code (length (newer ++ xs)) None x) + 1 in
      let n : length (places_of next (newer ++ xs)) ≡ length newer + length xs = places_length next (newer ++ xs) ∙ length-append newer xs in
      (λ is. absurd (too_old t (length (places_of next (newer ++ xs))) (length newer) (length xs) lt is n), enter_older g c pc t h next newer xs lt le b.2)
    where
      too_old : (t k a b : ℕ) → nat_lt t b ≡ true → nat_eq t k ≡ true → k ≡ a + b → ⊥
      too_old t k a b lt is n = grind arith

  -- what is said of a line, where the routines stand there
  abbrev LineOf : List ℕ → ℕ → Line → Type 0
  LineOf table pc l = IsKept room pc l.act × ((t : ℕ) → l.act ≡ i.Routine t → RoutineHasRoom height room pc t table)

  -- ---- a routine and those behind it

  record Pieces (x : w.Work) (xs : List w.Work) (at : ℕ) : Type 0 where
    lines : AllAt (Own height room (greatest (work_heights (length xs) 0 x ++ 1 ∷ [])) (routines_need (x ∷ xs))) at
        (work_code (length xs) None x ++ line None i.Back ∷ [])
    begins : height at ≡ 1
    needs : room at ≡ routines_need (x ∷ xs)
    heights : HeightsAt height (at + length (work_code (length xs) None x) + 1) (routines_heights xs)
    rooms : HeightsAt room (at + length (work_code (length xs) None x) + 1) (routines_needs xs)

  pieces : (x : w.Work) (xs : List w.Work) (at : ℕ) → HeightsAt height at (routines_heights (x ∷ xs)) → HeightsAt room at (routines_needs (x ∷ xs)) →
      Pieces x xs at
  pieces x xs at h r =
      let cx = work_code (length xs) None x in
      let hx = work_heights (length xs) 0 x in
      let whole = hx ++ 1 ∷ [] in
      let need = routines_need (x ∷ xs) in
      let h' = subst (λ hs. HeightsAt height at hs) (sym (append_assoc hx (1 ∷ []) (routines_heights xs))) h in
      let rx = heights_front room at (alike need whole) (routines_needs xs) r in
      let o = own height room need at (cx ++ line None i.Back ∷ []) whole 1 (λ height. routine_part height x (length xs))
      (heights_front height at whole (routines_heights xs) h') rx in
      let same = (work_part height (length xs) None x 0).same in
      let e1 : at + length whole ≡ at + length cx + 1 = omega (arith, same, length-append hx (1 ∷ [])) in
      let e2 : at + length (alike need whole) ≡ at + length cx + 1 = omega (arith, e1, alike_length need whole) in
      record {
        lines = o.1;
        begins = o.0;
        needs = alike_first need at hx 1 [] rx;
        heights = subst (λ n. HeightsAt height n (routines_heights xs)) e1 (heights_back height at whole (routines_heights xs) h');
        rooms = subst (λ n. HeightsAt room n (routines_needs xs)) e2 (heights_back room at (alike need whole) (routines_needs xs) r);
      }

  rooms_begin : (xs : List w.Work) (at : ℕ) → HeightsAt height at (routines_heights xs) → HeightsAt room at (routines_needs xs) → RoomsBegin at xs
  rooms_begin [] at h r = tt
  rooms_begin (x ∷ xs) at h r =
      let p = pieces x xs at h r in
      (p.begins, p.needs, rooms_begin xs (at + length (work_code (length xs) None x) + 1) p.heights p.rooms)

  routine_lines : (base : ℕ) (all newer xs : List w.Work) → RoomsBegin base all → all ≡ newer ++ xs → (at : ℕ) → HeightsAt height at (routines_heights xs) →
      HeightsAt room at (routines_needs xs) → AllAt (LineOf (places_of base all)) at (routines_code xs)
  routine_lines base all newer [] b e at h r = tt
  routine_lines base all newer (x ∷ xs) b e at h r =
      let cx = work_code (length xs) None x in
      let back = line None i.Back in
      let g = greatest (work_heights (length xs) 0 x ++ 1 ∷ []) in
      let p = pieces x xs at h r in
      let e' : all ≡ (newer ++ x ∷ []) ++ xs = e ∙ sym (append_assoc newer (x ∷ []) xs) in
      let b' = subst (λ ws. RoomsBegin base ws) e' b in
      let older = all_on (IsOlder (length xs)) at cx (back ∷ []) (work_older (length xs) None x at) (λ t is. cc, tt) in
      let first : AllAt (LineOf (places_of base all)) at (cx ++ back ∷ []) = all_zip at (cx ++ back ∷ []) (λ k l o old. (
        o.kept,
        λ t is.
            subst (λ ws. RoutineHasRoom height room k t (places_of base ws)) (sym e') (enter_older g (routines_need (x ∷ xs)) k t
            (at_routine g (routines_need (x ∷ xs)) k l o) base (newer ++ x ∷ []) xs (old t is) (omega arith) b'),
      )) p.lines older in
      let rest = routine_lines base all (newer ++ x ∷ []) xs b e' (at + length cx + 1) p.heights p.rooms in
      let here : at + length cx + 1 ≡ at + length (cx ++ back ∷ []) = omega (arith, length-append cx (back ∷ [])) in
      subst (λ ls. AllAt (LineOf (places_of base all)) at ls) (append_assoc cx (back ∷ []) (routines_code xs))
      (all_on (LineOf (places_of base all)) at (cx ++ back ∷ []) (routines_code xs) first
      (subst (λ n. AllAt (LineOf (places_of base all)) n (routines_code xs)) here rest))

  -- ---- procedures, with all routines

  procedure_lines : (base : ℕ) (p : c.Program) → RoomsBegin base p.routines → (qs : List c.Procedure) (at : ℕ) →
      HeightsAt height at (procedures_heights (length p.routines) qs) → HeightsAt room at (procedures_needs p qs) →
      AllAt (LineOf (places_of base p.routines)) at (procedures_code (length p.routines) qs)
  procedure_lines base p b [] at h r = tt
  procedure_lines base p b (q ∷ qs) at h r =
      let m = length p.routines in
      let cq = body_code m q in let hq = body_heights m q in
      let need = procedure_need p q in
      let o = own height room need at cq hq 0 (λ height. body_part height m q) (heights_front height at hq (procedures_heights m qs) h)
      (heights_front room at (alike need hq) (procedures_needs p qs) r) in
      let same = (body_part height m q).same in
      let e1 : at + length hq ≡ at + length cq = omega (arith, same) in
      let e2 : at + length (alike need hq) ≡ at + length cq = omega (arith, same, alike_length need hq) in
      let first = all_map at cq (λ k l o. (
        o.kept,
        λ t is. enter_all (greatest hq) need k t (at_routine (greatest hq) need k l o) base p.routines
            (omega arith) b,
      )) o.1 in
      all_on (LineOf (places_of base p.routines)) at cq (procedures_code m qs) first (procedure_lines base p b qs (at + length cq)
      (subst (λ n. HeightsAt height n (procedures_heights m qs)) e1 (heights_back height at hq (procedures_heights m qs) h))
      (subst (λ n. HeightsAt room n (procedures_needs p qs)) e2 (heights_back room at (alike need hq) (procedures_needs p qs) r)))

  pub lines_need : (p : c.Program) (qs : List c.Procedure) (at : ℕ) → HeightsAt room at (procedures_needs p qs) → (f : ℕ) (e : Entry) (q : c.Procedure) →
      slice_get (entries (length p.routines) at qs) f ≡ Some e → slice_get qs f ≡ Some q → (j : ℕ) → j < length (body_code (length p.routines) q) →
      room (e.at + j) ≡ procedure_need p q
  lines_need p [] at r f e q a b j lt = cc
  lines_need p (x ∷ qs) at r zero e q a b j lt =
      let same : x ≡ q = cc in
      let here : record { at = at; unit = x.unit; dummies = x.dummies; variables = x.variables; initial = x.initial } ≡ e = cc in
      let lt' : j < length (body_heights (length p.routines) x) = omega (
        arith,
        lt,
        (body_part height (length p.routines) x).same,
        ap (λ y. length (body_code (length p.routines) y)) same,
      ) in
      let first = alike_all (procedure_need p x) at (body_heights (length p.routines) x)
      (heights_front room at (alike (procedure_need p x) (body_heights (length p.routines) x)) (procedures_needs p qs) r) j lt' in
      subst (λ y. room (y.at + j) ≡ procedure_need p q) here (subst (λ y. room (at + j) ≡ procedure_need p y) same first)
  lines_need p (x ∷ qs) at r (suc f) e q a b j lt =
      let m = length p.routines in
      let hx = body_heights m x in
      let n : at + length (alike (procedure_need p x) hx) ≡ at + length (body_code m x) =
      omega (arith, (body_part height m x).same, alike_length (procedure_need p x) hx) in
      lines_need p qs (at + length (body_code m x))
      (subst (λ k. HeightsAt room k (procedures_needs p qs)) n (heights_back room at (alike (procedure_need p x) hx) (procedures_needs p qs) r)) f e q a b j lt

  -- ---- the whole

  routines_needs_length : (xs : List w.Work) → length (routines_needs xs) ≡ length (routines_code xs)
  routines_needs_length [] = refl
  routines_needs_length (x ∷ xs) =
      let cx = work_code (length xs) None x in let hx = work_heights (length xs) 0 x in
      let whole = alike (routines_need (x ∷ xs)) (hx ++ 1 ∷ []) in
      omega (
        arith,
        length-append whole (routines_needs xs),
        alike_length (routines_need (x ∷ xs)) (hx ++ 1 ∷ []),
        length-append hx (1 ∷ []),
        length-append cx (line None i.Back ∷ routines_code xs),
        (work_part height (length xs) None x 0).same,
        routines_needs_length xs,
      )

  procedures_needs_length : (p : c.Program) (qs : List c.Procedure) → length (procedures_needs p qs) ≡ length (procedures_code (length p.routines) qs)
  procedures_needs_length p [] = refl
  procedures_needs_length p (q ∷ qs) =
      let m = length p.routines in
      omega (
        arith,
        length-append (alike (procedure_need p q) (body_heights m q)) (procedures_needs p qs),
        alike_length (procedure_need p q) (body_heights m q),
        length-append (body_code m q) (procedures_code m qs),
        (body_part height m q).same,
        procedures_needs_length p qs,
      )

  pub record Whole (p : c.Program) : Type 0 where
    pub kept : (pc : ℕ) (l : Line) → slice_get (program_code p).lines pc ≡ Some l → IsKept room pc l.act
    pub routines : (pc : ℕ) (l : Line) (t : ℕ) → slice_get (program_code p).lines pc ≡ Some l → l.act ≡ i.Routine t →
        RoutineHasRoom height room pc t (program_code p).routines
    pub main : (j : ℕ) → j < length (main_code (length p.routines) p.main) → room j ≡ main_need p
    pub some : 0 < length (main_code (length p.routines) p.main)
    pub begins : height 0 ≡ 0
    pub entry : (f : ℕ) (e : Entry) (q : c.Procedure) → slice_get (program_code p).procedures f ≡ Some e → slice_get p.procedures f ≡ Some q →
        (j : ℕ) → j < length (body_code (length p.routines) q) → room (e.at + j) ≡ procedure_need p q

  pub whole : (p : c.Program) → HeightsAt height 0 (program_heights p) → HeightsAt room 0 (program_needs p) → Whole p
  whole p h r =
      let m = length p.routines in
      let cm = main_code m p.main in let hm = main_heights m p.main in
      let cr = routines_code p.routines in let hr = routines_heights p.routines in
      let cp = procedures_code m p.procedures in let hp = procedures_heights m p.procedures in
      let need = main_need p in
      let rs = routines_needs p.routines in let ps = procedures_needs p p.procedures in
      let rm = heights_front room 0 (alike need hm) (rs ++ ps) r in
      let o = own height room need 0 cm hm 0 (λ height. main_part height m p.main) (heights_front height 0 hm (hr ++ hp) h) rm in
      let same = (main_part height m p.main).same in
      let e1 : 0 + length hm ≡ length cm = omega (arith, same) in
      let e2 : 0 + length (alike need hm) ≡ length cm = omega (arith, same, alike_length need hm) in
      let h1 = subst (λ n. HeightsAt height n (hr ++ hp)) e1 (heights_back height 0 hm (hr ++ hp) h) in
      let r1 = subst (λ n. HeightsAt room n (rs ++ ps)) e2 (heights_back room 0 (alike need hm) (rs ++ ps) r) in
      let e3 : length cm + length hr ≡ length cm + length cr = omega (arith, routines_same height p.routines) in
      let e4 : length cm + length rs ≡ length cm + length cr = omega (arith, routines_needs_length p.routines) in
      let h2 = subst (λ n. HeightsAt height n hp) e3 (heights_back height (length cm) hr hp h1) in
      let r2 = subst (λ n. HeightsAt room n ps) e4 (heights_back room (length cm) rs ps r1) in
      let hr1 = heights_front height (length cm) hr hp h1 in let rr1 = heights_front room (length cm) rs ps r1 in
      let b = rooms_begin p.routines (length cm) hr1 rr1 in
      let table = places_of (length cm) p.routines in
      let lines_m : AllAt (LineOf table) 0 cm = all_map 0 cm (λ k l o. (
        o.kept,
        λ t is. enter_all (greatest hm) need k t (at_routine (greatest hm) need k l o) (length cm)
            p.routines (omega arith) b,
      )) o.1 in
      let lines_r = routine_lines (length cm) p.routines [] p.routines b refl (length cm) hr1 rr1 in
      let lines_p = procedure_lines (length cm) p b p.procedures (length cm + length cr) h2 r2 in
      let e5 : length cm ≡ 0 + length cm = omega arith in
      let tail = subst (λ n. AllAt (LineOf table) n (cr ++ cp)) e5 (all_on (LineOf table) (length cm) cr cp lines_r lines_p) in
      let all = all_on (LineOf table) 0 cm (cr ++ cp) lines_m tail in
      let line_at : (pc : ℕ) (l : Line) → slice_get (cm ++ (cr ++ cp)) pc ≡ Some l → LineOf table pc l =
      λ pc l is. let at : 0 + pc ≡ pc = omega arith in subst (λ n. LineOf table n l) at (all_of (LineOf table) (cm ++ (cr ++ cp)) 0 pc l all is) in
      record {
        kept = λ pc l is. (line_at pc l is).0;
        routines = λ pc l t is e. (line_at pc l is).1 t e;
        main = λ j lt.
            let lt' : j < length hm = omega (arith, lt, same) in let at : j ≡ 0 + j = omega arith in ap room at ∙ alike_all need 0 hm rm j lt';
        some = omega (arith, same, length-append (code_heights m 0 0 p.main.body) (0 ∷ 0 ∷ []));
        begins = o.0;
        entry = λ f e q a b j lt. lines_need p p.procedures (length cm + length cr) r2 f e q a b j lt;
      }

-- one for each line
pub needs_length : (height : ℕ → ℕ) (p : c.Program) → length (program_needs p) ≡ length (program_code p).lines
needs_length height p =
    let m = length p.routines in
    let cm = main_code m p.main in let hm = main_heights m p.main in
    let cr = routines_code p.routines in let rs = routines_needs p.routines in
    let cp = procedures_code m p.procedures in let ps = procedures_needs p p.procedures in
    omega (
      arith,
      length-append (alike (main_need p) hm) (rs ++ ps),
      length-append rs ps,
      alike_length (main_need p) hm,
      length-append cm (cr ++ cp),
      length-append cr cp,
      (main_part height m p.main).same,
      routines_needs_length height height p.routines,
      procedures_needs_length height height p p.procedures,
    )
