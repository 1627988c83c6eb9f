-- The kinds of the code of parts of statements.
use Rattle.std.proofs.Common.{◌≡◌, ap, ℕ, ◌+◌, Bool, true, false, List, [], ◌∷◌, ◌++◌, length, Option, subst, arith, length-append, if◌then◌else◌}
use Rattle.std.specs.Prelude.{nat_eq, nat_lt}
use Rattle.f3_places.specs.declared.source.Place.{Place}
use Rattle.f3_program.specs.declared.declarations.Kind.{Kind}
use Rattle.f3_program.specs.declared.program.Program.{Program}
use Rattle.f3_meaning_whole.specs.Formed.{only, takes}
use Rattle.f3_meaning_whole.specs.Run.{setting_of}
use Rattle.f3_code.specs.Core as c
use Rattle.f3_code.specs.Lower.{initial}
use Rattle.f3_code.specs.declared.instruction.Instruction.TheVariants as i
use Rattle.f3_code.specs.State.{Line, line, line_with}
use Rattle.f3_code.specs.Code.{transfer_code}
use Rattle.f3_cell_kinds.specs.Types.{CellType, Scope, Site, selectors_on}
use Rattle.f3_cell_kinds.specs.Types as cell
use Rattle.f3_cell_kinds.specs.Effect.{Far, way, after, held_kind}
use Rattle.f3_cell_kinds.specs.Kinds.{IsNext, AreFar}
use Rattle.f3_cell_kinds.specs.Values.{stacked, reached_if}
use Rattle.f3_cell_kinds.specs.Program.{transfer_sites}
use Rattle.f3_cell_kinds.proofs.Asked.{and_is}
use Rattle.f3_cell_kinds.proofs.Parts.{At, SitesAt, sites_front, sites_back, lines_on, same_at, live_of, comes, Part, Onto, wider, seq, before, plain, first, last}
use Rattle.f3_cell_kinds.proofs.Steps.{less, goes_on}
use Rattle.f3_cell_kinds.proofs.OfWork.{WorkFits, work_part}

module _ (p : Program) where
  -- a transfer fits a variable and a value of kinds
  abbrev pub TransferFits : Kind → Kind → c.Transfer → Type 0
  TransferFits k j (c.Conforming x) = (takes k j ≡ true) × TransferFits k j x
  TransferFits k j (c.By_state x y z) = (k.is_allocatable ≡ true) × (takes k j ≡ true) × TransferFits k j x × (nat_lt 0 j.rank ≡ true → TransferFits k j y)
      × TransferFits k j z
  TransferFits k j (c.Of_rank rank x) = (takes k j ≡ true) × (nat_eq rank j.rank ≡ true → TransferFits k j x)
  TransferFits k j (c.Behind x y) = WorkFits p k x × TransferFits k j y
  TransferFits k j (c.New rank v x) = (k.is_allocatable ≡ true) × (takes k j ≡ true) × (k.rank ≡ rank) × (j.rank ≡ rank)
      × (v ≡ initial (setting_of p) k.of) × TransferFits k j x
  TransferFits k j (c.In_contents x) = (k.is_allocatable ≡ true) × TransferFits (held_kind k) j x
  TransferFits k j (c.Take of) = (k.of ≡ of) × (k.is_allocatable ≡ false) × (takes k j ≡ true)
  TransferFits k j (c.Fill of) = (k.of ≡ of) × (k.is_allocatable ≡ false) × (takes k j ≡ true)

module _ (p : Program) (sites : ℕ → Site) (m : ℕ) (o : Option Place) where
  -- on where this holds
  only_next : (b : Bool) (h : Site) (xs : List CellType) (pc : ℕ) → h.is_reached ≡ true → sites pc ≡ stacked xs h → At p sites (pc + 1) (stacked xs (reached_if b h)) →
      IsNext sites pc h.cells (only b (way (sites pc) xs))
  only_next true h xs pc live is next = comes p sites h xs xs pc (pc + 1) live is next
  only_next false h xs pc live is next = tt

  -- and so far on too
  if_far : (b : Bool) (h : Site) (xs : List CellType) (d pc : ℕ) (more : List Far) → h.is_reached ≡ true → sites pc ≡ stacked xs h → At p sites (pc + 1 + d) (stacked xs (reached_if b h)) →
      AreFar sites pc h.cells more → AreFar sites pc h.cells ((if b then after d (way (sites pc) xs) ∷ [] else []) ++ more)
  if_far true h xs d pc more live is far rest = (comes p sites h xs xs pc (pc + 1 + d) live is far, rest)
  if_far false h xs d pc more live is far rest = rest

  -- three ways, by the state of a variable
  state_part : (cx cy cz : List Line) (hx hy hz : List Site) (h : Site) (k j : Kind) →
      (h.is_reached ≡ true → (k.is_allocatable ≡ true) × (takes k j ≡ true)) →
      Part p sites (Onto p sites h) cx hx (stacked (cell.Object k ∷ cell.Datum j ∷ []) h) →
      Part p sites (Onto p sites (reached_if (nat_lt 0 j.rank) h)) cy hy (stacked (cell.Object k ∷ cell.Datum j ∷ []) (reached_if (nat_lt 0 j.rank) h)) →
      Part p sites (Onto p sites h) cz hz (stacked (cell.Object k ∷ cell.Datum j ∷ []) h) →
      Part p sites (Onto p sites h) (line o (i.ByState (length cx + 1) (length cx + 1 + (length cy + 1)))
      ∷ (cx ++ (line o (i.GoOn (length cy + 1 + length cz)) ∷ (cy ++ (line o (i.GoOn (length cz)) ∷ cz)))))
      (stacked (cell.Object k ∷ cell.Datum j ∷ []) h ∷ (hx ++ (h ∷ (hy ++ (reached_if (nat_lt 0 j.rank) h ∷ hz))))) (stacked (cell.Object k ∷ cell.Datum j ∷ []) h)
  state_part cx cy cz hx hy hz h k j fits x y z = record {
    same = omega (
      arith,
      length-append hx (h ∷ (hy ++ (some ∷ hz))),
      length-append hy (some ∷ hz),
      length-append cx onto_y,
      length-append cy onto_z,
      x.same,
      y.same,
      z.same,
    );
    keeps = λ pc has out.
        let p1 = pc + 1 + length cx in
        let has1 = subst (λ n. SitesAt p sites (pc + 1 + n) (h ∷ (hy ++ (some ∷ hz)))) x.same (sites_back p sites (pc + 1) hx (h ∷ (hy ++ (some ∷ hz))) has.1) in
        let p2 = p1 + 1 + length cy in
        let has2 = subst (λ n. SitesAt p sites (p1 + 1 + n) (some ∷ hz)) y.same (sites_back p sites (p1 + 1) hy (some ∷ hz) has1.1) in
        let e : p2 + 1 + length cz ≡ pc + length (line o (i.ByState (length cx + 1) (length cx + 1 + (length cy + 1))) ∷ (cx ++ onto_y)) =
        omega (arith, length-append cx onto_y, length-append cy onto_z) in
        let end = same_at p sites {h = h} (p2 + 1 + length cz) _ e out in
        let rz = z.keeps (p2 + 1) has2.1 end in
        let ry = y.keeps (p1 + 1) (sites_front p sites (p1 + 1) hy (some ∷ hz) has1.1) (λ live. has2.0) in
        let rx = x.keeps (pc + 1) (sites_front p sites (pc + 1) hx (h ∷ (hy ++ (some ∷ hz))) has.1) (λ live. has1.0) in
        let to_y = same_at p sites {h = stacked top some} (pc + 1 + (length cx + 1)) (p1 + 1) (omega arith) ry.0 in
        let to_z = same_at p sites {h = stacked top h} (pc + 1 + (length cx + 1 + (length cy + 1))) (p2 + 1) (omega arith) rz.0 in
        let to_end = same_at p sites {h = h} (p1 + 1 + (length cy + 1 + length cz)) (p2 + 1 + length cz) (omega arith) end in (
          λ live. has.0,
          (
            λ r.
                let live = live_of p sites h top pc has.0 r in (
                  k,
                  j,
                  (fits live).0,
                  (fits live).1,
                  record {
                    rest = h.cells;
                    before = ap (λ (s : Site). s.cells) has.0;
                    next = comes p sites h top top pc (pc + 1) live has.0 rx.0;
                    far = if_far (nat_lt 0 j.rank) h top (length cx + 1) pc _ live has.0 to_y
                        (comes p sites h top top pc (pc + 1 + (length cx + 1 + (length cy + 1))) live has.0 to_z, tt);
                  },
                ),
            lines_on p sites (pc + 1) cx onto_y rx.1 (
              goes_on p sites o (length cy + 1 + length cz) h p1 has1.0 to_end,
              lines_on p sites (p1 + 1) cy onto_z ry.1 (
                goes_on p sites o (length cz) some p2 has2.0 (less p sites (nat_lt 0 j.rank) h (p2 + 1 + length cz) end),
                rz.1,
              ),
            ),
          ),
        );
  }
    where
      top : List CellType
      top = cell.Object k ∷ cell.Datum j ∷ []

      some : Site
      some = reached_if (nat_lt 0 j.rank) h

      onto_z : List Line
      onto_z = line o (i.GoOn (length cz)) ∷ cz

      onto_y : List Line
      onto_y = line o (i.GoOn (length cy + 1 + length cz)) ∷ (cy ++ onto_z)

  pub transfer_part : (x : c.Transfer) (h : Site) (k j : Kind) → (h.is_reached ≡ true → TransferFits p k j x) →
      Part p sites (Onto p sites h) (transfer_code m o x) (transfer_sites p m h k j x) (stacked (cell.Object k ∷ cell.Datum j ∷ []) h)
  transfer_part (c.Conforming x) h k j fits =
      let top = cell.Object k ∷ cell.Datum j ∷ [] in
      first p sites (plain p sites (line o i.TestShape) h top top (λ pc live c b. (k, j, (fits live).0, b))) (transfer_part x h k j (λ live. (fits live).1))
  transfer_part (c.By_state x y z) h k j fits = state_part (transfer_code m o x) (transfer_code m o y) (transfer_code m o z)
      (transfer_sites p m h k j x) (transfer_sites p m (reached_if (nat_lt 0 j.rank) h) k j y) (transfer_sites p m h k j z) h k j
      (λ live. ((fits live).0, (fits live).1)) (transfer_part x h k j (λ live. (fits live).2))
      (transfer_part y (reached_if (nat_lt 0 j.rank) h) k j (λ live. let a = and_is (nat_lt 0 j.rank) h.is_reached live in (fits a.1).3 a.0))
      (transfer_part z h k j (λ live. (fits live).4))
  transfer_part (c.Of_rank rank x) h k j fits =
      let top = cell.Object k ∷ cell.Datum j ∷ [] in
      let t = nat_eq rank j.rank in
      before p sites (line o (i.TestRank rank)) (λ pc is next out r.
      let live = live_of p sites h top pc is r in
      (k, j, (fits live).0, record { rest = h.cells; before = ap (λ (s : Site). s.cells) is; next = only_next t h top pc live is next; far = tt }))
      (wider p sites (λ e out. less p sites t h e out) (transfer_part x (reached_if t h) k j (λ live. let a = and_is t h.is_reached live in (fits a.1).1 a.0)))
  transfer_part (c.Behind x y) h k j fits = seq p sites (work_part p sites m o x (stacked (cell.Datum j ∷ []) h) k (λ live. (fits live).0))
      (transfer_part y h k j (λ live. (fits live).1))
  transfer_part (c.New rank v x) h k j fits =
      let top = cell.Object k ∷ cell.Datum j ∷ [] in
      first p sites (plain p sites (line_with o v (i.New rank)) h top top
      (λ pc live c b. (k, j, (fits live).0, (fits live).1, (fits live).2, (fits live).3, (fits live).4, b))) (transfer_part x h k j (λ live. (fits live).5))
  transfer_part (c.In_contents x) h k j fits =
      first p sites (plain p sites (line o i.Contents) (stacked (cell.Datum j ∷ []) h) (cell.Object k ∷ []) (cell.Object (held_kind k) ∷ [])
      (λ pc live c b. (k, (fits live).0, b))) (transfer_part x h (held_kind k) j (λ live. (fits live).1))
  transfer_part (c.Take of) h k j fits = last p sites (plain p sites (line o (i.Take of)) h (cell.Object k ∷ cell.Datum j ∷ []) []
      (λ pc live c b. (k, j, (fits live).0, (fits live).1, (fits live).2, b)))
  transfer_part (c.Fill of) h k j fits = last p sites (plain p sites (line o (i.Fill of)) h (cell.Object k ∷ cell.Datum j ∷ []) []
      (λ pc live c b. (k, j, (fits live).0, (fits live).1, (fits live).2, b)))
