-- At whose lines activations are.
use Rattle.std.proofs.Common.{◌≡◌, ◌≤◌, ◌<◌, ◌⊎◌, inl, inr, ℕ, zero, suc, ◌+◌, ◌-◌, List, [], ◌∷◌, ◌++◌, length, None, Some, refl, sym, ap, ◌∙◌, subst, arith, length-append}
use Rattle.std.specs.Prelude.{slice_get, slice_index}
use Rattle.f3_code.specs.Work as w
use Rattle.f3_code.specs.Core as c
use Rattle.f3_code.specs.declared.instruction.Instruction.TheVariants as i
use Rattle.f3_code.specs.State.{Line, line, Entry, Code, Cell, To}
use Rattle.f3_code.specs.Code.{work_code, body_code, main_code, procedures_code, entries, routines_code, program_code}
use Rattle.f3_heights.specs.Heights.{RoutinesBegin, AreHeights}
use Rattle.f3_heights.specs.Needs.{IsKept}
use Rattle.f3_heights.specs.Program.{work_heights, body_heights, main_heights, routines_heights, procedures_heights, program_heights}
use Rattle.f3_heights.specs.Room.{alike, home}
use Rattle.f3_heights.proofs.Parts.{HeightsAt, heights_front, heights_back}
use Rattle.f3_heights.proofs.OfProgram.{routines_same}
use Rattle.f3_heights.proofs.Regions.{AllAt, all_on, all_of, all_map, own}
use Rattle.f3_heights.proofs.Keeping.{Plan, Above, Rules}
use Rattle.f3_heights.proofs.Stepping.{RoutinesEnter, Sound}
use Rattle.f3_sizes.specs.Needs.{IsLineOf}
use Rattle.f3_sizes.proofs.Pieces.{Piece, lines_of, heights_of, as_many, main_piece, routine_piece, procedure_piece, routine_pieces, procedure_pieces, routine_lines, routine_heights, procedure_lines, procedure_heights}
use Rattle.f3_sizes.proofs.Tiles.{alike_length}

-- ---- marks of lines: 0 of routines, 1 of the main program, and 2 more than its number of a procedure

abbrev pub routine_marks : List w.Work → List ℕ
routine_marks [] = []
routine_marks (x ∷ xs) = alike 0 (work_heights (length xs) 0 x ++ 1 ∷ []) ++ routine_marks xs

abbrev pub procedure_marks : ℕ → ℕ → List c.Procedure → List ℕ
procedure_marks m k [] = []
procedure_marks m k (q ∷ qs) = alike k (body_heights m q) ++ procedure_marks m (suc k) qs

abbrev pub marks : c.Program → List ℕ
marks p = alike 1 (main_heights (length p.routines) p.main) ++ (routine_marks p.routines ++ procedure_marks (length p.routines) 2 p.procedures)

routine_many : (xs : List w.Work) → length (routine_marks xs) ≡ length (routines_code xs)
routine_many [] = refl
routine_many (x ∷ xs) =
    let p = routine_piece x (length xs) in
    let cx = work_code (length xs) None x in
    omega (
      arith,
      length-append (alike 0 p.heights) (routine_marks xs),
      alike_length 0 p.heights,
      as_many p,
      length-append cx (line None i.Back ∷ routines_code xs),
      length-append cx (line None i.Back ∷ []),
      routine_many xs,
    )

-- ---- they are kept

module _ (height mark : ℕ → ℕ) where
  abbrev IsKeptAt : ℕ → Line → Type 0
  IsKeptAt pc l = IsKept mark pc l.act

  record Stepped (at : ℕ) (p : Piece) (hs ms : List ℕ) : Type 0 where
    begins : height at ≡ p.first
    kept : AllAt IsKeptAt at p.lines
    heights : HeightsAt height (at + length p.lines) hs
    marked : HeightsAt mark (at + length p.lines) ms

  piece_step : (k at : ℕ) (p : Piece) (hs ms : List ℕ) → HeightsAt height at (p.heights ++ hs) → HeightsAt mark at (alike k p.heights ++ ms) → Stepped at p hs ms
  piece_step k at p hs ms h r =
      let same : at + length p.heights ≡ at + length p.lines = omega (arith, as_many p) in
      let same' : at + length (alike k p.heights) ≡ at + length p.lines = omega (arith, as_many p, alike_length k p.heights) in
      let o = own height mark k at p.lines p.heights p.first p.is (heights_front height at p.heights hs h) (heights_front mark at (alike k p.heights) ms r) in
      record {
        begins = o.0;
        kept = all_map at p.lines (λ n l y. y.kept) o.1;
        heights = subst (λ n. HeightsAt height n hs) same (heights_back height at p.heights hs h);
        marked = subst (λ n. HeightsAt mark n ms) same' (heights_back mark at (alike k p.heights) ms r);
      }

  routines_kept : (at : ℕ) (xs : List w.Work) → HeightsAt height at (heights_of (routine_pieces xs)) → HeightsAt mark at (routine_marks xs) →
      AllAt IsKeptAt at (lines_of (routine_pieces xs))
  routines_kept at [] h r = tt
  routines_kept at (x ∷ xs) h r =
      let p = routine_piece x (length xs) in
      let s = piece_step 0 at p (heights_of (routine_pieces xs)) (routine_marks xs) h r in
      all_on IsKeptAt at p.lines (lines_of (routine_pieces xs)) s.kept (routines_kept (at + length p.lines) xs s.heights s.marked)

  procedures_kept : (m k at : ℕ) (qs : List c.Procedure) → HeightsAt height at (heights_of (procedure_pieces m qs)) → HeightsAt mark at (procedure_marks m k qs) →
      AllAt IsKeptAt at (lines_of (procedure_pieces m qs))
  procedures_kept m k at [] h r = tt
  procedures_kept m k at (q ∷ qs) h r =
      let p = procedure_piece m q in
      let s = piece_step k at p (heights_of (procedure_pieces m qs)) (procedure_marks m (suc k) qs) h r in
      all_on IsKeptAt at p.lines (lines_of (procedure_pieces m qs)) s.kept (procedures_kept m (suc k) (at + length p.lines) qs s.heights s.marked)

  entry_marked : (m k at : ℕ) (qs : List c.Procedure) → HeightsAt mark at (procedure_marks m k qs) → (f : ℕ) (e : Entry) → slice_get (entries m at qs) f ≡ Some e → mark e.at ≡ k + f
  entry_marked m k at [] r f e is = cc
  entry_marked m k at (q ∷ qs) r zero e is =
      let same : record { at = at; unit = q.unit; dummies = q.dummies; variables = q.variables; initial = q.initial } ≡ e = cc in
      let z : k ≡ k + 0 = omega arith in
      subst (λ (y : Entry). mark y.at ≡ k + 0) same (r.0 ∙ z)
  entry_marked m k at (q ∷ qs) r (suc f) e is =
      let hs = body_heights m q in
      let same : at + length (alike k hs) ≡ at + length (body_code m q) = omega (arith, as_many (procedure_piece m q), alike_length k hs) in
      let rest = subst (λ n. HeightsAt mark n (procedure_marks m (suc k) qs)) same (heights_back mark at (alike k hs) (procedure_marks m (suc k) qs) r) in
      let z : suc k + f ≡ k + suc f = omega arith in
      entry_marked m (suc k) (at + length (body_code m q)) qs rest f e is ∙ z

  pub record OfProgram (p : c.Program) : Type 0 where
    pub begins : height 0 ≡ 0
    pub kept : (pc : ℕ) (l : Line) → slice_get (program_code p).lines pc ≡ Some l → IsKept mark pc l.act
    pub entries : (f : ℕ) (e : Entry) → slice_get (program_code p).procedures f ≡ Some e → mark e.at ≡ 2 + f
    pub start : mark 0 ≡ 1

  pub of_program : (p : c.Program) → HeightsAt height 0 (program_heights p) → HeightsAt mark 0 (marks p) → OfProgram p
  of_program p h r =
      let m = length p.routines in
      let main = main_piece p in
      let cm = main_code m p.main in
      let rs = routines_code p.routines in
      let qs = procedures_code m p.procedures in
      let s = piece_step 1 0 main (routines_heights p.routines ++ procedures_heights m p.procedures) (routine_marks p.routines ++ procedure_marks m 2 p.procedures) h r in
      let at = 0 + length cm in
      let h1 = heights_front height at (routines_heights p.routines) (procedures_heights m p.procedures) s.heights in
      let r1 = heights_front mark at (routine_marks p.routines) (procedure_marks m 2 p.procedures) s.marked in
      let e2 : at + length (routines_heights p.routines) ≡ at + length rs = omega (arith, routines_same height p.routines) in
      let e3 : at + length (routine_marks p.routines) ≡ at + length rs = omega (arith, routine_many p.routines) in
      let h2 = subst (λ n. HeightsAt height n (procedures_heights m p.procedures)) e2 (heights_back height at (routines_heights p.routines) (procedures_heights m p.procedures) s.heights) in
      let r2 = subst (λ n. HeightsAt mark n (procedure_marks m 2 p.procedures)) e3 (heights_back mark at (routine_marks p.routines) (procedure_marks m 2 p.procedures) s.marked) in
      let of_routines = subst (λ ls. AllAt IsKeptAt at ls) (routine_lines p.routines)
      (routines_kept at p.routines (subst (λ hs. HeightsAt height at hs) (sym (routine_heights p.routines)) h1) r1) in
      let of_procedures = subst (λ ls. AllAt IsKeptAt (at + length rs) ls) (procedure_lines m p.procedures)
      (procedures_kept m 2 (at + length rs) p.procedures (subst (λ hs. HeightsAt height (at + length rs) hs) (sym (procedure_heights m p.procedures)) h2) r2) in
      let all = all_on IsKeptAt 0 cm (rs ++ qs) s.kept (all_on IsKeptAt at rs qs of_routines of_procedures) in
      let z : at + length rs ≡ length cm + length rs = omega arith in
      let some : 0 < length (main_heights m p.main) = omega (arith, main.some, as_many main) in
      record {
        begins = s.begins;
        kept = λ pc l is. let e : 0 + pc ≡ pc = omega arith in subst (λ n. IsKept mark n l.act) e (all_of IsKeptAt (cm ++ (rs ++ qs)) 0 pc l all is);
        entries = λ f e is. entry_marked m 2 (length cm + length rs) p.procedures (subst (λ n. HeightsAt mark n (procedure_marks m 2 p.procedures)) z r2) f e is;
        start = first_mark (main_heights m p.main) some (heights_front mark 0 (alike 1 (main_heights m p.main)) (routine_marks p.routines ++ procedure_marks m 2 p.procedures) r);
      }
    where
      first_mark : (hs : List ℕ) → 0 < length hs → HeightsAt mark 0 (alike 1 hs) → mark 0 ≡ 1
      first_mark [] lt r = absurd (omega (arith, lt))
      first_mark (h ∷ hs) lt r = r.0

-- ---- and tell whose the lines are

index_append : (a b : List ℕ) (k : ℕ) → ((k < length a) × (slice_index (a ++ b) k ≡ slice_index a k)) ⊎ ((length a ≤ k) × (slice_index (a ++ b) k ≡ slice_index b (k - length a)))
index_append [] b k = let z : k ≡ k - 0 = omega arith in inr (omega arith, ap (slice_index b) z)
index_append (x ∷ a) b zero = inl (omega arith, refl)
index_append (x ∷ a) b (suc k) = by_side (index_append a b k)
  where
    by_side : ((k < length a) × (slice_index (a ++ b) k ≡ slice_index a k)) ⊎ ((length a ≤ k) × (slice_index (a ++ b) k ≡ slice_index b (k - length a))) →
        ((suc k < length (x ∷ a)) × (slice_index (a ++ b) k ≡ slice_index a k)) ⊎ ((length (x ∷ a) ≤ suc k) × (slice_index (a ++ b) k ≡ slice_index b (suc k - length (x ∷ a))))
    by_side (inl h) = inl (omega (arith, h.0), h.1)
    by_side (inr h) = let z : k - length a ≡ suc k - length (x ∷ a) = omega arith in inr (omega (arith, h.0), h.1 ∙ ap (slice_index b) z)

alike_index : (k : ℕ) (hs : List ℕ) (j : ℕ) → j < length hs → slice_index (alike k hs) j ≡ k
alike_index k [] j lt = absurd (omega (arith, lt))
alike_index k (h ∷ hs) zero lt = refl
alike_index k (h ∷ hs) (suc j) lt = alike_index k hs j (omega (arith, lt))

zero_index : (hs : List ℕ) (j : ℕ) → slice_index (alike 0 hs) j ≡ 0
zero_index [] j = refl
zero_index (h ∷ hs) zero = refl
zero_index (h ∷ hs) (suc j) = zero_index hs j

routine_zero : (xs : List w.Work) (j : ℕ) → slice_index (routine_marks xs) j ≡ 0
routine_zero [] j = refl
routine_zero (x ∷ xs) j = front (work_heights (length xs) 0 x ++ 1 ∷ []) (routine_marks xs) j (routine_zero xs)
  where
    by_side : (hs ms : List ℕ) (j : ℕ) → ((j < length (alike 0 hs)) × (slice_index (alike 0 hs ++ ms) j ≡ slice_index (alike 0 hs) j))
        ⊎ ((length (alike 0 hs) ≤ j) × (slice_index (alike 0 hs ++ ms) j ≡ slice_index ms (j - length (alike 0 hs)))) →
        ((i : ℕ) → slice_index ms i ≡ 0) → slice_index (alike 0 hs ++ ms) j ≡ 0
    by_side hs ms j (inl h) r = h.1 ∙ zero_index hs j
    by_side hs ms j (inr h) r = h.1 ∙ r (j - length (alike 0 hs))

    front : (hs ms : List ℕ) (j : ℕ) → ((i : ℕ) → slice_index ms i ≡ 0) → slice_index (alike 0 hs ++ ms) j ≡ 0
    front hs ms j r = by_side hs ms j (index_append (alike 0 hs) ms j) r

-- a line of the procedure of a number
record In (m k at : ℕ) (qs : List c.Procedure) (j : ℕ) : Type 0 where
  f : ℕ
  e : Entry
  q : c.Procedure
  number : slice_index (procedure_marks m k qs) j ≡ k + f
  entry : slice_get (entries m at qs) f ≡ Some e
  procedure : slice_get qs f ≡ Some q
  low : e.at ≤ at + j
  high : at + j < e.at + length (body_code m q)

module _ (m k at : ℕ) (q : c.Procedure) (qs : List c.Procedure) (j : ℕ) where
  abbrev First : List ℕ
  First = alike k (body_heights m q)

  abbrev Others : List ℕ
  Others = procedure_marks m (suc k) qs

  first_or_other : ((j < length First) × (slice_index (First ++ Others) j ≡ slice_index First j))
      ⊎ ((length First ≤ j) × (slice_index (First ++ Others) j ≡ slice_index Others (j - length First))) →
      (slice_index Others (j - length First) ≡ 0) ⊎ In m (suc k) (at + length (body_code m q)) qs (j - length First) →
      (slice_index (First ++ Others) j ≡ 0) ⊎ In m k at (q ∷ qs) j
  first_or_other (inl h) r =
      let many = alike_length k (body_heights m q) in
      let many' = as_many (procedure_piece m q) in
      let is = alike_index k (body_heights m q) j (omega (arith, h.0, many)) in
      let z : k ≡ k + 0 = omega arith in
      inr (record {
        f = 0;
        e = record { at = at; unit = q.unit; dummies = q.dummies; variables = q.variables; initial = q.initial };
        q = q;
        number = h.1 ∙ is ∙ z;
        entry = refl;
        procedure = refl;
        low = omega arith;
        high = omega (arith, h.0, many, many');
      })
  first_or_other (inr h) (inl n) = inl (h.1 ∙ n)
  first_or_other (inr h) (inr y) =
      let many = alike_length k (body_heights m q) in
      let many' = as_many (procedure_piece m q) in
      let z : suc k + y.f ≡ k + suc y.f = omega arith in
      inr (record {
        f = suc y.f;
        e = y.e;
        q = y.q;
        number = h.1 ∙ y.number ∙ z;
        entry = y.entry;
        procedure = y.procedure;
        low = omega (arith, h.0, many, many', y.low);
        high = omega (arith, h.0, many, many', y.high);
      })

procedure_in : (m k at : ℕ) (qs : List c.Procedure) (j : ℕ) → (slice_index (procedure_marks m k qs) j ≡ 0) ⊎ In m k at qs j
procedure_in m k at [] j = inl refl
procedure_in m k at (q ∷ qs) j =
    first_or_other m k at q qs j (index_append (alike k (body_heights m q)) (procedure_marks m (suc k) qs) j)
    (procedure_in m (suc k) (at + length (body_code m q)) qs (j - length (alike k (body_heights m q))))

-- a line with a mark is one of the main program, or of the procedure of a number
pub record Whose (p : c.Program) (pc : ℕ) : Type 0 where
  pub main : slice_index (marks p) pc ≡ 1 → IsLineOf p None pc
  pub procedure : 2 ≤ slice_index (marks p) pc → (f : ℕ) × IsLineOf p (Some f) pc

module _ (p : c.Program) (pc : ℕ) where
  abbrev m : ℕ
  m = length p.routines

  abbrev Main : List ℕ
  Main = alike 1 (main_heights m p.main)

  abbrev Routines : List ℕ
  Routines = routine_marks p.routines

  abbrev Procedures : List ℕ
  Procedures = procedure_marks m 2 p.procedures

  main_many : length Main ≡ length (main_code m p.main)
  main_many = alike_length 1 (main_heights m p.main) ∙ as_many (main_piece p)

  none_so : slice_index (marks p) pc ≡ 0 → Whose p pc
  none_so e = record { main = λ h. absurd (omega (arith, e, h)); procedure = λ h. absurd (omega (arith, e, h)) }

  in_procedures : length Main ≤ pc → length Routines ≤ pc - length Main → slice_index (marks p) pc ≡ slice_index Procedures (pc - length Main - length Routines) →
      (slice_index Procedures (pc - length Main - length Routines) ≡ 0)
      ⊎ In m 2 (length (main_code m p.main) + length (routines_code p.routines)) p.procedures (pc - length Main - length Routines) → Whose p pc
  in_procedures a b e (inl z) = none_so (e ∙ z)
  in_procedures a b e (inr y) =
      let many = routine_many p.routines in record {
        main = λ h. absurd (omega (arith, e, h, y.number));
        procedure = λ h. (
          y.f,
          (y.e, y.q, y.entry, y.procedure, omega (arith, a, b, main_many, many, y.low), omega (arith, a, b, main_many, many, y.high)),
        );
      }

  behind_main : length Main ≤ pc → slice_index (marks p) pc ≡ slice_index (Routines ++ Procedures) (pc - length Main) →
      ((pc - length Main < length Routines) × (slice_index (Routines ++ Procedures) (pc - length Main) ≡ slice_index Routines (pc - length Main)))
      ⊎ ((length Routines ≤ pc - length Main)
      × (slice_index (Routines ++ Procedures) (pc - length Main) ≡ slice_index Procedures (pc - length Main - length Routines))) → Whose p pc
  behind_main a e (inl h) = none_so (e ∙ h.1 ∙ routine_zero p.routines (pc - length Main))
  behind_main a e (inr h) = in_procedures a h.0 (e ∙ h.1)
      (procedure_in m 2 (length (main_code m p.main) + length (routines_code p.routines)) p.procedures (pc - length Main - length Routines))

  by_place : ((pc < length Main) × (slice_index (marks p) pc ≡ slice_index Main pc))
      ⊎ ((length Main ≤ pc) × (slice_index (marks p) pc ≡ slice_index (Routines ++ Procedures) (pc - length Main))) → Whose p pc
  by_place (inl h) =
      let is = alike_index 1 (main_heights m p.main) pc (omega (arith, h.0, alike_length 1 (main_heights m p.main))) in
      record { main = λ e. omega (arith, h.0, main_many); procedure = λ e. absurd (omega (arith, h.1, is, e)) }
  by_place (inr h) = behind_main h.0 h.1 (index_append Routines Procedures (pc - length Main))

  pub whose : Whose p pc
  whose = by_place (index_append Main (Routines ++ Procedures) pc)

-- ---- activations

module _ (height mark : ℕ → ℕ) where
  -- an activation of a mark has so many cells at a line of a mark, and so beneath the ways back of routines
  abbrev pub Chain : ℕ → ℕ → ℕ → List Cell → Type 0
  Chain need at zero [] = at ≡ need
  Chain need at (suc h) [] = ⊥
  Chain need at zero (To back place ∷ below) = (h : ℕ) × (height back ≡ suc h) × Chain need (mark back) h below
  Chain need at zero (c ∷ below) = ⊥
  Chain need at (suc h) (c ∷ below) = Chain need at h below

  abbrev pub plan : Plan
  plan = record { height = height; mark = mark; under = λ need at st. Chain need at 0 st }

  chain_above : (need at h : ℕ) (st : List Cell) → Chain need at h st → Above plan need at h st
  chain_above need at zero st s = s
  chain_above need at (suc h) [] s = s
  chain_above need at (suc h) (x ∷ st) s = chain_above need at h st s

  pub above_chain : (need at h : ℕ) (st : List Cell) → Above plan need at h st → Chain need at h st
  above_chain need at zero st s = s
  above_chain need at (suc h) [] s = s
  above_chain need at (suc h) (x ∷ st) s = above_chain need at h st s

  rules : Rules plan
  rules = record { back = λ need at pc place st s. (s.0, s.1, chain_above need (mark pc) s.0 st s.2); begin = λ at. refl }

  enters_at : (pc t : ℕ) (pcs : List ℕ) → RoutinesBegin height pcs → RoutinesEnter plan pc t pcs
  enters_at pc t [] b = tt
  enters_at pc t (to ∷ pcs) b = (
    λ is. record { one = b.0; under = λ need place st k e s. (k, e, above_chain need (mark (pc + 1)) k st s) },
    enters_at pc t pcs b.1,
  )

  pub sound : (code : Code) → AreHeights height code → ((pc : ℕ) (l : Line) → slice_get code.lines pc ≡ Some l → IsKept mark pc l.act) → Sound plan code
  sound code h kept = record {
    rules = rules;
    lines = h.lines;
    kept = kept;
    enters = λ pc l is t e. enters_at pc t code.routines h.routines;
    procedures = h.procedures;
  }

  pub chain_home : (need pc h : ℕ) (st : List Cell) → Chain need (mark pc) h st → mark (home height pc h st) ≡ need
  chain_home need pc zero [] s = s
  chain_home need pc (suc h) [] s = absurd s
  chain_home need pc zero (To back place ∷ below) s =
      let e : height back - 1 ≡ s.0 = omega (arith, s.1) in
      ap (λ h. mark (home height back h below)) e ∙ chain_home need back s.0 below s.2
  chain_home need pc zero (c ∷ below) s = absurd s
  chain_home need pc (suc h) (c ∷ below) s = chain_home need pc h below s
