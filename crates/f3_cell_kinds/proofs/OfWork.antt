-- The kinds of the code of work on an object.
use Rattle.std.proofs.Common.{◌≡◌, refl, ap, ℕ, ◌+◌, ◌-◌, Bool, true, false, not, List, [], ◌∷◌, ◌++◌, length, Option, Some, subst, arith, length-append, if◌then◌else◌}
use Rattle.std.specs.Prelude.{nat_lt, nat_eq}
use Rattle.f3_places.specs.declared.source.Place.{Place}
use Rattle.f3_program.specs.declared.declarations.Base.TheVariants as base
use Rattle.f3_program.specs.declared.declarations.Component.{Component}
use Rattle.f3_program.specs.declared.declarations.Kind.{Kind}
use Rattle.f3_program.specs.declared.program.Program.{Program}
use Rattle.f3_meaning_whole.specs.Act.{component_of}
use Rattle.f3_meaning_whole.specs.Formed.{Given, of_kind, is_scalar, referenced}
use Rattle.f3_meaning_whole.specs.Run.{setting_of}
use Rattle.f3_code.specs.Work as w
use Rattle.f3_code.specs.Lower.{initial}
use Rattle.f3_code.specs.declared.instruction.Instruction.TheVariants as i
use Rattle.f3_code.specs.State.{Line, line, line_with}
use Rattle.f3_code.specs.Code.{work_code}
use Rattle.f3_cell_kinds.specs.Types.{CellType, Site}
use Rattle.f3_cell_kinds.specs.Types as cell
use Rattle.f3_cell_kinds.specs.Effect.{on, held_kind, declared_kind}
use Rattle.f3_cell_kinds.specs.Kinds.{Leads}
use Rattle.f3_cell_kinds.specs.Values.{stacked, reached_if, kind_of_part, kind_of_procedure, returned, component_at, work_sites}
use Rattle.f3_cell_kinds.proofs.Asked.{found_is, and_is, not_is}
use Rattle.f3_cell_kinds.proofs.Parts.{SitesAt, sites_front, sites_back, lines_on, same_at, live_of, Part, Onto, wider, nothing, seq, before, plain, first, last, forked}
use Rattle.f3_cell_kinds.proofs.Steps.{fork_leads, either_leads, less, goes_on, goes_back, drops}

-- an object that is passed to a final subroutine
abbrev pub passed : Kind → Given
passed k = record { number = 0; kind = k; is_variable = true }

module _ (p : Program) where
  -- work fits an object of a kind
  abbrev pub WorkFits : Kind → w.Work → Type 0
  WorkFits k w.Rest = Unit {0}
  WorkFits k (w.And x y) = WorkFits k x × WorkFits k y
  WorkFits k (w.Lending x) = WorkFits k x
  WorkFits k (w.Of_rank rank x y) = (k.is_allocatable ≡ false) × (nat_eq rank k.rank ≡ true → WorkFits k x) × (nat_eq rank k.rank ≡ false → WorkFits k y)
  WorkFits k (w.Final f) = (j : Kind) × (referenced p [] [] f (passed k ∷ []) ≡ Some j)
  WorkFits k (w.Routine t) = k ≡ of_kind (base.Derived t) 0
  WorkFits k (w.Of_component n x) = (is_scalar k ≡ true) × (c : Component) × (component_of p.types.items k.of n ≡ Some c) × WorkFits (component_at p k n) x
  WorkFits k (w.Of_elements x) = (k.is_allocatable ≡ false) × WorkFits (of_kind k.of 0) x
  WorkFits k (w.If_allocated x) = (k.is_allocatable ≡ true) × WorkFits k x
  WorkFits k (w.Of_contents x) = (k.is_allocatable ≡ true) × WorkFits (held_kind k) x
  WorkFits k w.Clear = Unit {0}
  WorkFits k (w.Set v) = (k.is_allocatable ≡ false) × (v ≡ initial (setting_of p) k.of)
  WorkFits k w.Discard = Unit {0}

module _ (p : Program) (sites : ℕ → Site) (m : ℕ) (o : Option Place) where
  abbrev Work : List Line → List Site → Site → Kind → Type 0
  Work lines hs h k = Part p sites (Onto p sites (stacked (cell.Object k ∷ []) h)) lines hs (stacked (cell.Object k ∷ []) h)

  routine_part : (b : Bool) (t : ℕ) (h : Site) (k : Kind) → (h.is_reached ≡ true → k ≡ of_kind (base.Derived t) 0) →
      Work (if b then line o (i.Routine t) ∷ [] else []) (if b then stacked (cell.Object k ∷ []) h ∷ [] else []) h k
  routine_part true t h k fits = last p sites (plain p sites (line o (i.Routine t)) h (cell.Object k ∷ []) (cell.Object k ∷ [])
      (λ pc live c b. subst (λ (y : Kind). Leads sites pc (on (sites pc) (cell.Object y ∷ []) (cell.Object y ∷ []))) (fits live) b))
  routine_part false t h k fits = nothing p sites (stacked (cell.Object k ∷ []) h)

  -- element by element: the code of a turn leads back to its first line
  walk_part : (cx : List Line) (hx : List Site) (h : Site) (k : Kind) →
      Work cx hx (stacked (cell.Elements k.of ∷ cell.Object k ∷ []) h) (of_kind k.of 0) →
      Part p sites (Onto p sites (stacked (cell.Object k ∷ []) h)) (line o (i.WalkNext (length cx + 2)) ∷ (cx ++ (line o i.Drop ∷ line o (i.GoBack (length cx + 2)) ∷ [])))
      (stacked (cell.Elements k.of ∷ cell.Object k ∷ []) h ∷ (hx ++ (stacked (cell.Object (of_kind k.of 0) ∷ cell.Elements k.of ∷ cell.Object k ∷ []) h
      ∷ stacked (cell.Elements k.of ∷ cell.Object k ∷ []) h ∷ []))) (stacked (cell.Elements k.of ∷ cell.Object k ∷ []) h)
  walk_part cx hx h k x = record {
    same = omega (arith, length-append hx ends, length-append cx tail, x.same);
    keeps = λ pc has out.
        let has_tail = subst (λ n. SitesAt p sites (pc + 1 + n) ends) x.same (sites_back p sites (pc + 1) hx ends has.1) in
        let rx = x.keeps (pc + 1) (sites_front p sites (pc + 1) hx ends has.1) (λ live. has_tail.0) in
        let over = same_at p sites {h = stacked (cell.Object k ∷ []) h} (pc + 1 + (length cx + 2)) (pc + length (line o (i.WalkNext (length cx + 2)) ∷ (cx ++ tail)))
        (omega (arith, length-append cx tail)) out in
        let back = same_at p sites {h = walking} (pc + 1 + length cx + 1 - (length cx + 2)) pc (omega arith) (λ live. has.0) in (
          λ live. has.0,
          (
            λ r. (
              k,
              fork_leads p sites h (cell.Elements k.of ∷ cell.Object k ∷ []) (cell.Object (of_kind k.of 0) ∷ cell.Elements k.of ∷ cell.Object k ∷ [])
                  (cell.Object k ∷ []) (length cx + 2) pc (live_of p sites h (cell.Elements k.of ∷ cell.Object k ∷ []) pc has.0 r) has.0 rx.0 over,
            ),
            lines_on p sites (pc + 1) cx tail rx.1 (
              (drops p sites o walking (cell.Object (of_kind k.of 0))).by (pc + 1 + length cx) has_tail.0 (λ live. has_tail.1.0),
              (goes_back p sites o (length cx + 2) walking (pc + 1 + length cx + 1) has_tail.1.0 back, tt),
            ),
          ),
        );
  }
    where
      walking : Site
      walking = stacked (cell.Elements k.of ∷ cell.Object k ∷ []) h

      ends : List Site
      ends = stacked (cell.Object (of_kind k.of 0) ∷ cell.Elements k.of ∷ cell.Object k ∷ []) h ∷ walking ∷ []

      tail : List Line
      tail = line o i.Drop ∷ line o (i.GoBack (length cx + 2)) ∷ []

  final_part : (f : ℕ) (h : Site) (k : Kind) → (h.is_reached ≡ true → WorkFits p k (w.Final f)) → Work (work_code m o (w.Final f)) (work_sites p m h k (w.Final f)) h k
  final_part f h k fits = first p sites (plain p sites (line o i.PassObject) h (cell.Object k ∷ []) (cell.Argument (passed k) ∷ cell.Object k ∷ []) (λ pc live c b. (k, b)))
      (first p sites (plain p sites (line o (i.Call f 1)) (stacked (cell.Object k ∷ []) h) (cell.Argument (passed k) ∷ []) (cell.Datum (returned p f) ∷ []) (λ pc live c b.
      let fit = fits live in
      let v = found_is _ _ fit.0 fit.1 in
      let same : returned p f ≡ declared_kind v.0.result = ap kind_of_procedure v.1 in (
        passed k ∷ [],
        v.0,
        fit.0,
        refl,
        v.1,
        fit.1,
        subst (λ (y : Kind). Leads sites pc (on (sites pc) (cell.Argument (passed k) ∷ []) (cell.Datum y ∷ []))) same b,
      )))
      (last p sites (drops p sites o (stacked (cell.Object k ∷ []) h) (cell.Datum (returned p f)))))

  pub work_part : (x : w.Work) (h : Site) (k : Kind) → (h.is_reached ≡ true → WorkFits p k x) → Work (work_code m o x) (work_sites p m h k x) h k
  work_part w.Rest h k fits = nothing p sites (stacked (cell.Object k ∷ []) h)
  work_part (w.And x y) h k fits = seq p sites (work_part x h k (λ live. (fits live).0)) (work_part y h k (λ live. (fits live).1))
  work_part (w.Lending x) h k fits = first p sites (plain p sites (line o i.Lend) h (cell.Object k ∷ []) (cell.Object k ∷ []) (λ pc live c b. (k, b)))
      (seq p sites (work_part x h k fits) (last p sites (plain p sites (line o i.Unlend) (stacked (cell.Object k ∷ []) h) [] [] (λ pc live c b. b))))
  work_part (w.Of_rank rank x y) h k fits =
      let cx = work_code m o x in let cy = work_code m o y in
      let t = nat_eq rank k.rank in
      forked p sites (line o (i.SkipUnlessRank rank (length cx + 1))) (line o (i.GoOn (length cy)))
      (λ pc is next far r.
      let live = live_of p sites h (cell.Object k ∷ []) pc is r in
      (k, (fits live).0, either_leads p sites t h (cell.Object k ∷ []) (cell.Object k ∷ []) (cell.Object k ∷ []) (length cx + 1) pc live is next far))
      (λ e is out live. is)
      (λ e is next out. goes_on p sites o (length cy) (stacked (cell.Object k ∷ []) (reached_if t h)) e is (less p sites t (stacked (cell.Object k ∷ []) h) _ out))
      (work_part x (reached_if t h) k (λ live. let a = and_is t h.is_reached live in (fits a.1).1 a.0))
      (wider p sites (λ e out. less p sites (not t) (stacked (cell.Object k ∷ []) h) e out)
      (work_part y (reached_if (not t) h) k (λ live. let a = and_is (not t) h.is_reached live in (fits a.1).2 (not_is t a.0))))
  work_part (w.Final f) h k fits = final_part f h k fits
  work_part (w.Routine t) h k fits = routine_part (nat_lt t m) t h k fits
  work_part (w.Of_component n x) h k fits =
      let y = component_at p k n in
      first p sites (plain p sites (line o (i.WorkComponent n)) h (cell.Object k ∷ []) (cell.Object y ∷ cell.Object k ∷ []) (λ pc live c b.
      let fit = fits live in
      let same : y ≡ fit.1.declared.kind = ap kind_of_part fit.2 in
      (k, fit.1, fit.0, fit.2, subst (λ (z : Kind). Leads sites pc (on (sites pc) (cell.Object k ∷ []) (cell.Object z ∷ cell.Object k ∷ []))) same b)))
      (seq p sites (work_part x (stacked (cell.Object k ∷ []) h) y (λ live. (fits live).3)) (last p sites (drops p sites o (stacked (cell.Object k ∷ []) h) (cell.Object y))))
  work_part (w.Of_elements x) h k fits =
      first p sites (plain p sites (line o i.WalkBegin) h (cell.Object k ∷ []) (cell.Elements k.of ∷ cell.Object k ∷ []) (λ pc live c b. (k, (fits live).0, b)))
      (walk_part (work_code m o x) (work_sites p m (stacked (cell.Elements k.of ∷ cell.Object k ∷ []) h) (of_kind k.of 0) x) h k
      (work_part x (stacked (cell.Elements k.of ∷ cell.Object k ∷ []) h) (of_kind k.of 0) (λ live. (fits live).1)))
  work_part (w.If_allocated x) h k fits = before p sites (line o (i.SkipUnlessAllocated (length (work_code m o x))))
      (λ pc is next out r.
      let live = live_of p sites h (cell.Object k ∷ []) pc is r in
      (k, (fits live).0, fork_leads p sites h (cell.Object k ∷ []) (cell.Object k ∷ []) (cell.Object k ∷ []) (length (work_code m o x)) pc live is next out))
      (work_part x h k (λ live. (fits live).1))
  work_part (w.Of_contents x) h k fits =
      let y = held_kind k in
      first p sites (plain p sites (line o i.OpenContents) h (cell.Object k ∷ []) (cell.Object y ∷ cell.Object k ∷ []) (λ pc live c b. (k, (fits live).0, b)))
      (seq p sites (work_part x (stacked (cell.Object k ∷ []) h) y (λ live. (fits live).1)) (first p sites (drops p sites o (stacked (cell.Object k ∷ []) h) (cell.Object y))
      (last p sites (plain p sites (line o i.Free) h (cell.Object k ∷ []) (cell.Object k ∷ []) (λ pc live c b. (k, (fits live).0, b))))))
  work_part w.Clear h k fits = last p sites (plain p sites (line o i.Clear) h (cell.Object k ∷ []) (cell.Object k ∷ []) (λ pc live c b. (k, b)))
  work_part (w.Set v) h k fits = last p sites (plain p sites (line_with o v i.Set) h (cell.Object k ∷ []) (cell.Object k ∷ [])
      (λ pc live c b. (k, (fits live).0, (fits live).1, b)))
  work_part w.Discard h k fits = last p sites (plain p sites (line o i.Discard) (stacked (cell.Object k ∷ []) h) [] [] (λ pc live c b. b))
