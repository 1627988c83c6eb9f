-- What units spell is read.
use Rattle.std.proofs.Common.{◌≡◌, ℕ, true, false, List, [], ◌∷◌, ◌++◌, Option, Some, None, refl, sym, ap, subst, ◌∙◌, append_assoc}
use Rattle.std.specs.Prelude.{option_and_then}
use Rattle.std.proofs.lemmas.List.{append-nil}
use Rattle.f3_places.specs.declared.source.Place.{Place}
use Rattle.f3_tree.specs.declared.expression.Name.{Name}
use Rattle.f3_tree.specs.declared.program.UnitKind.{UnitKind}
use Rattle.f3_tree.specs.declared.program.UnitKind.TheVariants.{Module, Program}
use Rattle.f3_tree.specs.Declarations.{PartTree}
use Rattle.f3_tree.specs.Statements.{Block, block_of}
use Rattle.f3_tree.specs.Tree.{ProcedureTree, UnitTree}
use Rattle.f3_blocks.specs.Pieces.{Placed}
use Rattle.f3_blocks.specs.Machine as blocks
use Rattle.f3_blocks.proofs.Nesting as nesting
use Rattle.f3_parts.specs.Parts.{IsPart}
use Rattle.f3_parts.specs.Machine as parts
use Rattle.f3_parts.proofs.Reading as reading
use Rattle.f3_units.specs.Units.{is_module, IsProcedure, AreProcedures, IsContained, IsBehind, IsUnit, AllIn, AreUnits}
use Rattle.f3_units.specs.Machine.{Scope, Opened, Begun, start, free, busy, fresh, step, run}
use Rattle.f3_units.proofs.Scopes.{stays, owner, own, within, own_part, own_block, within_part, within_block, run_part, run_scope, whole}

pub all_left : (file : ℕ) (ps qs : List Placed) → AllIn file (ps ++ qs) → AllIn file ps
all_left file [] qs h = tt
all_left file (p ∷ ps) qs h = (h.0, all_left file ps qs h.1)

pub all_right : (file : ℕ) (ps qs : List Placed) → AllIn file (ps ++ qs) → AllIn file qs
all_right file [] qs h = h
all_right file (p ∷ ps) qs h = all_right file ps qs h.1

pub all_both : (file : ℕ) (ps qs : List Placed) → AllIn file ps → AllIn file qs → AllIn file (ps ++ qs)
all_both file [] qs g h = h
all_both file (p ∷ ps) qs g h = (g.0, all_both file ps qs g.1 h)

abbrev pub a_unit : ℕ → Place → UnitKind → Name → Scope → Option Place → List ProcedureTree → Option Opened → Begun
a_unit file place kind name s c qs o = record { file = file; place = place; kind = kind; name = name; scope = s; contains = c; procedures = qs; procedure = o }

-- three lists and one element more
grouped : (ps qs : List Placed) (p : Placed) (r : List Placed) → (ps ++ (qs ++ p ∷ [])) ++ r ≡ ps ++ (qs ++ p ∷ r)
grouped ps qs p r = append_assoc ps (qs ++ p ∷ []) r ∙ ap (λ (x : List Placed). ps ++ x) (append_assoc qs (p ∷ []) r)

-- ---- procedures

module _ (done : List UnitTree) (file : ℕ) (place : Place) (kind : UnitKind) (name : Name) (s : Scope) (c : Place) where
  abbrev among : List ProcedureTree → Begun
  among qs = a_unit file place kind name s (Some c) qs None

  procedure_runs : (q : ProcedureTree) (qs : List ProcedureTree) (ps r : List Placed) → IsProcedure q ps → AllIn file ps → run (ps ++ r) (busy done (among qs)) ≡ run r (busy done (among (qs ++ q ∷ [])))
  procedure_runs q qs ps r h here =
      let inner = h.part ++ (h.body ++ h.last ∷ []) in
      let all : AllIn file (h.first ∷ inner) = subst (λ (x : List Placed). AllIn file x) h.is here in
      let rest : AllIn file (h.body ++ h.last ∷ []) = all_right file h.part (h.body ++ h.last ∷ []) all.1 in
      let opens : step h.first (busy done (among qs)) ≡ Some (within done (among qs) c q.header fresh) = stays h.first done (among qs) all.0 ∙ rw h.begins refl in
      let made : Block → Place → ProcedureTree = λ b e. record { header = q.header; part = q.part; body = b; end = e } in
      let here_last : (h.last.place).file ≡ file = (all_right file h.body (h.last ∷ []) rest).0 in
      let closes : step h.last (within done (among qs) c q.header (whole q.part q.body)) ≡ Some (busy done (among (qs ++ made (block_of (nesting.list_of q.body)) h.last.place ∷ []))) =
      stays h.last done (a_unit file place kind name s (Some c) qs (Some (record { header = q.header; scope = whole q.part q.body }))) here_last ∙ rw (h.ends, h.what_fits, h.label_fits) refl in
      ap (λ (x : List Placed). run (x ++ r) (busy done (among qs))) h.is
      ∙ ap (option_and_then (run (inner ++ r))) opens
      ∙ ap (λ (x : List Placed). run x (within done (among qs) c q.header fresh)) (grouped h.part h.body h.last r)
      ∙ run_scope true (within done (among qs) c q.header) file (within_part done (among qs) c q.header) (within_block done (among qs) c q.header) q.part q.body h.part h.body (h.last ∷ r)
      (all_left file h.part (h.body ++ h.last ∷ []) all.1) (all_left file h.body (h.last ∷ []) rest) h.is_part h.is_body
      ∙ ap (option_and_then (run r)) closes
      ∙ ap (λ (b : Block). run r (busy done (among (qs ++ made b h.last.place ∷ [])))) (nesting.block_list q.body)
      ∙ ap (λ (e : Place). run r (busy done (among (qs ++ made q.body e ∷ [])))) h.end

  procedures_run : (new qs : List ProcedureTree) (ps r : List Placed) → AreProcedures new ps → AllIn file ps → run (ps ++ r) (busy done (among qs)) ≡ run r (busy done (among (qs ++ new)))
  procedures_run [] qs ps r h here =
      ap (λ (x : List Placed). run (x ++ r) (busy done (among qs))) h ∙ ap (λ (x : List ProcedureTree). run r (busy done (among x))) (sym (append-nil qs))
  procedures_run (q ∷ new) qs ps r h here =
      let all : AllIn file (h.0 ++ h.1) = subst (λ (x : List Placed). AllIn file x) h.2 here in
      ap (λ (x : List Placed). run (x ++ r) (busy done (among qs))) h.2
      ∙ ap (λ (x : List Placed). run x (busy done (among qs))) (append_assoc h.0 h.1 r)
      ∙ procedure_runs q qs h.0 (h.1 ++ r) h.3 (all_left file h.0 h.1 all)
      ∙ procedures_run new (qs ++ q ∷ []) h.1 r h.4 (all_right file h.0 h.1 all)
      ∙ ap (λ (x : List ProcedureTree). run r (busy done (among x))) (append_assoc qs (q ∷ []) new)

-- ---- a unit

abbrev closed_part : PartTree → Scope
closed_part part = record { part = parts.closed part; block = blocks.start }

contained_runs : (c : Option Place) (done : List UnitTree) (file : ℕ) (place : Place) (name : Name) (part : PartTree) (qs : List ProcedureTree) (ps r : List Placed) → IsContained c qs ps → AllIn file ps
    → run (ps ++ r) (own done file place Module name (closed_part part)) ≡ run r (busy done (a_unit file place Module name (closed_part part) c qs None))
contained_runs None done file place name part qs ps r h here =
    ap (λ (x : List Placed). run (x ++ r) (own done file place Module name (closed_part part))) h.1
    ∙ ap (λ (x : List ProcedureTree). run r (busy done (a_unit file place Module name (closed_part part) None x None))) (sym h.0)
contained_runs (Some c) done file place name part qs ps r h here =
    let first = h.0 in
    let all : AllIn file (first ∷ h.1) = subst (λ (x : List Placed). AllIn file x) h.2 here in
    let goes : step first (own done file place Module name (closed_part part)) ≡ Some (busy done (a_unit file place Module name (closed_part part) (Some first.place) [] None)) =
    stays first done (owner file place Module name (closed_part part)) all.0 ∙ rw h.3 refl in
    ap (λ (x : List Placed). run (x ++ r) (own done file place Module name (closed_part part))) h.2
    ∙ ap (option_and_then (run (h.1 ++ r))) goes
    ∙ ap (λ (x : Place). run (h.1 ++ r) (busy done (a_unit file place Module name (closed_part part) (Some x) [] None))) h.4
    ∙ procedures_run done file place Module name (closed_part part) c qs [] h.1 r h.5 all.1

behind_runs : (kind : UnitKind) (done : List UnitTree) (file : ℕ) (place : Place) (name : Name) (part : PartTree) (b : Block) (c : Option Place) (qs : List ProcedureTree) (ps behind r : List Placed)
    → IsPart (is_module kind) part ps → IsBehind kind b c qs behind → AllIn file ps → AllIn file behind
    → run (ps ++ (behind ++ r)) (own done file place kind name fresh) ≡ run r (busy done (a_unit file place kind name (whole part b) c qs None))
behind_runs Module done file place name part b c qs ps behind r is_part h here there =
    run_part true (own done file place Module name) file (own_part done file place Module name) ps (behind ++ r) fresh (parts.closed part) here refl (reading.runs true part ps is_part)
    ∙ contained_runs c done file place name part qs behind r h.1 there
    ∙ ap (λ (x : Block). run r (busy done (a_unit file place Module name (whole part x) c qs None))) (sym h.0)
behind_runs Program done file place name part b c qs ps behind r is_part h here there =
    run_scope false (own done file place Program name) file (own_part done file place Program name) (own_block done file place name) part b ps behind r here there is_part h.2
    ∙ ap (λ (x : Option Place). run r (busy done (a_unit file place Program name (whole part b) x [] None))) (sym h.0)
    ∙ ap (λ (x : List ProcedureTree). run r (busy done (a_unit file place Program name (whole part b) c x None))) (sym h.1)

unit_runs : (u : UnitTree) (ps : List Placed) (done : List UnitTree) (file : ℕ) (r : List Placed) → IsUnit u ps → AllIn file ps → run (ps ++ r) (free done) ≡ run r (free (done ++ u ∷ []))
unit_runs u ps done file r h given =
    let inner = h.part ++ (h.behind ++ h.last ∷ []) in
    let all : AllIn file (h.first ∷ inner) = subst (λ (x : List Placed). AllIn file x) h.is given in
    let file = (h.first.place).file in
    let here : AllIn file inner = subst (λ (n : ℕ). AllIn n inner) (sym all.0) all.1 in
    let there : AllIn file (h.behind ++ h.last ∷ []) = all_right file h.part (h.behind ++ h.last ∷ []) here in
    let begun : step h.first (free done) ≡ Some (own done file h.first.place u.kind u.name fresh) = rw h.begins refl in
    let made : Place → Block → Place → UnitTree = λ p b e. record { place = p; kind = u.kind; name = u.name; part = u.part; body = b; contains = u.contains; procedures = u.procedures; end = e } in
    let closes : step h.last (busy done (a_unit file h.first.place u.kind u.name (whole u.part u.body) u.contains u.procedures None)) ≡ Some (free (done ++ made h.first.place (block_of (nesting.list_of u.body)) h.last.place ∷ [])) =
    stays h.last done (a_unit file h.first.place u.kind u.name (whole u.part u.body) u.contains u.procedures None) (all_right file h.behind (h.last ∷ []) there).0 ∙ rw (h.ends, h.what_fits, h.label_fits) refl in
    ap (λ (x : List Placed). run (x ++ r) (free done)) h.is
    ∙ ap (option_and_then (run (inner ++ r))) begun
    ∙ ap (λ (x : List Placed). run x (own done file h.first.place u.kind u.name fresh)) (grouped h.part h.behind h.last r)
    ∙ behind_runs u.kind done file h.first.place u.name u.part u.body u.contains u.procedures h.part h.behind (h.last ∷ r) h.is_part h.is_behind (all_left file h.part (h.behind ++ h.last ∷ []) here) (all_left file h.behind (h.last ∷ []) there)
    ∙ ap (option_and_then (run r)) closes
    ∙ ap (λ (b : Block). run r (free (done ++ made h.first.place b h.last.place ∷ []))) (nesting.block_list u.body)
    ∙ ap (λ (e : Place). run r (free (done ++ made h.first.place u.body e ∷ []))) h.end
    ∙ ap (λ (p : Place). run r (free (done ++ made p u.body u.end ∷ []))) h.place

units_run : (us : List UnitTree) (ps : List Placed) (done : List UnitTree) (r : List Placed) → AreUnits us ps → run (ps ++ r) (free done) ≡ run r (free (done ++ us))
units_run [] ps done r h = ap (λ (x : List Placed). run (x ++ r) (free done)) h ∙ ap (λ (x : List UnitTree). run r (free x)) (sym (append-nil done))
units_run (u ∷ us) ps done r h =
    ap (λ (x : List Placed). run (x ++ r) (free done)) h.3
    ∙ ap (λ (x : List Placed). run x (free done)) (append_assoc h.1 h.2 r)
    ∙ unit_runs u h.1 done h.0 (h.2 ++ r) h.5 h.4
    ∙ units_run us h.2 (done ++ u ∷ []) r h.6
    ∙ ap (λ (x : List UnitTree). run r (free x)) (append_assoc done (u ∷ []) us)

pub units_read : (us : List UnitTree) (ps : List Placed) → AreUnits us ps → run ps start ≡ Some (free us)
units_read us ps h = ap (λ (x : List Placed). run x start) (sym (append-nil ps)) ∙ units_run us ps [] [] h
