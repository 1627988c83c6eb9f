-- A program as tiles, and what is said of its activations.
use Rattle.std.proofs.Common.{◌≡◌, ◌≤◌, ◌<◌, ℕ, zero, suc, ◌+◌, ◌-◌, Bool, true, List, [], ◌∷◌, ◌++◌, map, length, Option, None, Some, refl, sym, ap, ◌∙◌, subst, arith, append_assoc, length-append, zero-add}
use Rattle.std.specs.Prelude.{slice_get, slice_index, nat_lt, nat_eq}
use Rattle.std.proofs.lemmas.List.{length-map}
use Rattle.f3_code.specs.Work as w
use Rattle.f3_code.specs.Core as c
use Rattle.f3_code.specs.declared.instruction.Instruction.TheVariants as i
use Rattle.f3_code.specs.State as code
use Rattle.f3_code.specs.State.{line, Entry, Frame, State}
use Rattle.f3_code.specs.Code.{work_code, body_code, main_code, procedures_code, entries, routines_code, places_of, program_code}
use Rattle.f3_heights.specs.Needs.{RoutineHasRoom}
use Rattle.f3_heights.specs.Program.{main_heights, routines_heights, program_heights}
use Rattle.f3_heights.specs.Room.{alike, home, routines_need, procedure_need}
use Rattle.f3_heights.proofs.Parts.{HeightsAt}
use Rattle.f3_heights.proofs.OfProgram.{heights_all, code_has_heights}
use Rattle.f3_heights.proofs.Regions.{all_on, all_of}
use Rattle.f3_heights.proofs.Older.{IsOlder, work_older}
use Rattle.f3_heights.proofs.Needing.{places_length}
use Rattle.f3_sizes.specs.declared.answer.Needs.{Needs}
use Rattle.f3_sizes.specs.Needs.{answer_for, IsLineOf, CallersWithinAnswers, AreNeverDeeper, AreNotPadded}
use Rattle.f3_sizes.proofs.Pieces.{Piece, lines_of, heights_of, as_many, main_piece, routine_piece, procedure_piece, routine_pieces, procedure_pieces, routine_lines, routine_heights, procedure_lines, procedure_heights}
use Rattle.f3_sizes.proofs.Tiles.{Explored, Tile, need_of, pieces_in, needs_in, reach, reach_within, AllTiles, tiles_front, tiles_back, TileAt, tiles_at, LineAt, tile_line, InTile, line_in_tile}
use Rattle.f3_sizes.proofs.Blanking.{IsCovered, FramesFew, states_steady, steady_few}

abbrev pub total : List ℕ → ℕ
total [] = 0
total (d ∷ ds) = d + total ds

abbrev pub AllExplored : List Piece → List ℕ → Type 0
AllExplored [] [] = Unit {0}
AllExplored [] (d ∷ ds) = ⊥
AllExplored (p ∷ ps) [] = ⊥
AllExplored (p ∷ ps) (d ∷ ds) = Explored p d × AllExplored ps ds

abbrev routine_tiles : (xs : List w.Work) (ds : List ℕ) → AllExplored (routine_pieces xs) ds → List Tile
routine_tiles [] ds h = []
routine_tiles (x ∷ xs) [] h = []
routine_tiles (x ∷ xs) (d ∷ ds) h = record { piece = routine_piece x (length xs); depth = d; more = total ds; found = h.0 } ∷ routine_tiles xs ds h.1

abbrev procedure_tiles : (m more : ℕ) (qs : List c.Procedure) (es : List ℕ) → AllExplored (procedure_pieces m qs) es → List Tile
procedure_tiles m more [] es h = []
procedure_tiles m more (q ∷ qs) [] h = []
procedure_tiles m more (q ∷ qs) (e ∷ es) h = record { piece = procedure_piece m q; depth = e; more = more; found = h.0 } ∷ procedure_tiles m more qs es h.1

routine_pieces_are : (xs : List w.Work) (ds : List ℕ) (h : AllExplored (routine_pieces xs) ds) → pieces_in (routine_tiles xs ds h) ≡ routine_pieces xs
routine_pieces_are [] ds h = refl
routine_pieces_are (x ∷ xs) [] h = absurd h
routine_pieces_are (x ∷ xs) (d ∷ ds) h = ap (λ ps. routine_piece x (length xs) ∷ ps) (routine_pieces_are xs ds h.1)

procedure_pieces_are : (m more : ℕ) (qs : List c.Procedure) (es : List ℕ) (h : AllExplored (procedure_pieces m qs) es) → pieces_in (procedure_tiles m more qs es h) ≡ procedure_pieces m qs
procedure_pieces_are m more [] es h = refl
procedure_pieces_are m more (q ∷ qs) [] h = absurd h
procedure_pieces_are m more (q ∷ qs) (e ∷ es) h = ap (λ ps. procedure_piece m q ∷ ps) (procedure_pieces_are m more qs es h.1)

pieces_append : (a b : List Tile) → pieces_in (a ++ b) ≡ pieces_in a ++ pieces_in b
pieces_append [] b = refl
pieces_append (t ∷ a) b = ap (λ ps. t.piece ∷ ps) (pieces_append a b)

lines_append : (a b : List Piece) → lines_of (a ++ b) ≡ lines_of a ++ lines_of b
lines_append [] b = refl
lines_append (p ∷ a) b = ap (λ ls. p.lines ++ ls) (lines_append a b) ∙ sym (append_assoc p.lines (lines_of a) (lines_of b))

heights_append : (a b : List Piece) → heights_of (a ++ b) ≡ heights_of a ++ heights_of b
heights_append [] b = refl
heights_append (p ∷ a) b = ap (λ hs. p.heights ++ hs) (heights_append a b) ∙ sym (append_assoc p.heights (heights_of a) (heights_of b))

alike_all : (N : ℕ → ℕ) (c pc : ℕ) (hs : List ℕ) → HeightsAt N pc (alike c hs) → (j : ℕ) → j < length hs → N (pc + j) ≡ c
alike_all N c pc [] r j lt = absurd (omega arith)
alike_all N c pc (x ∷ hs) r zero lt = let e : pc + 0 ≡ pc = omega arith in ap N e ∙ r.0
alike_all N c pc (x ∷ hs) r (suc j) lt = let e : pc + suc j ≡ pc + 1 + j = omega arith in ap N e ∙ alike_all N c (pc + 1) hs r.1 j (omega arith)

module _ (R : ℕ → Bool) (height N : ℕ → ℕ) where
  -- the first line of a tile, and what each of its lines says
  tile_begins : (at : ℕ) (t : Tile) → TileAt R height N at t → R at ≡ true
  tile_begins at t h = let e : at ≡ at + 0 = omega arith in ap R e ∙ h.reached 0 t.piece.some ∙ t.found.begins

  tile_needs : (at : ℕ) (t : Tile) → TileAt R height N at t → (j : ℕ) → j < length t.piece.lines → N (at + j) ≡ need_of t
  tile_needs at t h j lt = alike_all N (need_of t) at t.piece.heights h.needs j (omega (arith, lt, as_many t.piece))

  -- ---- routines

  abbrev RoomsBegin : List ℕ → List ℕ → Type 0
  RoomsBegin [] ds = Unit {0}
  RoomsBegin (pc ∷ pcs) [] = ⊥
  RoomsBegin (pc ∷ pcs) (d ∷ ds) = (R pc ≡ true) × (N pc ≡ d + total ds) × RoomsBegin pcs ds

  rooms_begin : (at : ℕ) (xs : List w.Work) (ds : List ℕ) (h : AllExplored (routine_pieces xs) ds) → AllTiles (TileAt R height N) at (routine_tiles xs ds h) → RoomsBegin (places_of at xs) ds
  rooms_begin at [] ds h a = tt
  rooms_begin at (x ∷ xs) [] h a = absurd h
  rooms_begin at (x ∷ xs) (d ∷ ds) h a =
      let cx = work_code (length xs) None x in
      let t : Tile = record { piece = routine_piece x (length xs); depth = d; more = total ds; found = h.0 } in
      let e : at + length (cx ++ line None i.Back ∷ []) ≡ at + length cx + 1 = omega (arith, length-append cx (line None i.Back ∷ [])) in
      let z : at ≡ at + 0 = omega arith in (
        tile_begins at t a.0,
        ap N z ∙ tile_needs at t a.0 0 t.piece.some,
        rooms_begin (at + length cx + 1) xs ds h.1 (subst (λ n. AllTiles (TileAt R height N) n (routine_tiles xs ds h.1)) e a.1),
      )

  rooms_reached : (pcs ds : List ℕ) → RoomsBegin pcs ds → (k at : ℕ) → slice_get pcs k ≡ Some at → R at ≡ true
  rooms_reached [] ds b k at e = cc
  rooms_reached (pc ∷ pcs) [] b k at e = absurd b
  rooms_reached (pc ∷ pcs) (d ∷ ds) b zero at e = let same : pc ≡ at = cc in subst (λ n. R n ≡ true) same b.0
  rooms_reached (pc ∷ pcs) (d ∷ ds) b (suc k) at e = rooms_reached pcs ds b.2 k at e

  -- the routine that is found needs no more than this
  abbrev RoomIn : ℕ → ℕ → List ℕ → Type 0
  RoomIn more u [] = Unit {0}
  RoomIn more u (at ∷ pcs) = (nat_eq u (length pcs) ≡ true → N at ≤ more) × RoomIn more u pcs

  room_all : (more u : ℕ) (pcs ds : List ℕ) → RoomsBegin pcs ds → total ds ≤ more → RoomIn more u pcs
  room_all more u [] ds b le = tt
  room_all more u (pc ∷ pcs) [] b le = absurd b
  room_all more u (pc ∷ pcs) (d ∷ ds) b le = (λ e. omega (arith, b.1, le), room_all more u pcs ds b.2 (omega (arith, le)))

  too_old : (u k a b : ℕ) → nat_lt u b ≡ true → nat_eq u k ≡ true → k ≡ a + b → ⊥
  too_old u k a b lt is n = grind arith

  room_older : (more u : ℕ) (newer pcs ds : List ℕ) → nat_lt u (length pcs) ≡ true → RoomsBegin pcs ds → total ds ≤ more → RoomIn more u (newer ++ pcs)
  room_older more u [] pcs ds lt b le = room_all more u pcs ds b le
  room_older more u (pc ∷ newer) pcs ds lt b le =
      (λ e. absurd (too_old u (length (newer ++ pcs)) (length newer) (length pcs) lt e (length-append newer pcs)), room_older more u newer pcs ds lt b le)

  room_enough : (pc more u : ℕ) (pcs : List ℕ) → RoomIn more u pcs → more + height pc ≤ N pc → RoutineHasRoom height N pc u pcs
  room_enough pc more u [] h le = tt
  room_enough pc more u (at ∷ pcs) h le = (λ e. omega (arith, h.0 e, le), room_enough pc more u pcs h.1 le)

  -- the routines that a tile runs
  abbrev Runs : List ℕ → Tile → Type 0
  Runs table t = (k : ℕ) (l : code.Line) (u : ℕ) → slice_get t.piece.lines k ≡ Some l → l.act ≡ i.Routine u → RoomIn t.more u table

  abbrev AllRun : List ℕ → List Tile → Type 0
  AllRun table [] = Unit {0}
  AllRun table (t ∷ ts) = Runs table t × AllRun table ts

  run_on : (table : List ℕ) (a b : List Tile) → AllRun table a → AllRun table b → AllRun table (a ++ b)
  run_on table [] b h k = k
  run_on table (t ∷ a) b h k = (h.0, run_on table a b h.1 k)

  abbrev Both : List ℕ → ℕ → Tile → Type 0
  Both table at t = TileAt R height N at t × Runs table t

  both : (table : List ℕ) (ts : List Tile) (at : ℕ) → AllTiles (TileAt R height N) at ts → AllRun table ts → AllTiles (Both table) at ts
  both table [] at h k = tt
  both table (t ∷ ts) at h k = ((h.0, k.0), both table ts (at + length t.piece.lines) h.1 k.1)

  routines_run : (table newer : List ℕ) (at : ℕ) (xs : List w.Work) (ds : List ℕ) (h : AllExplored (routine_pieces xs) ds) → table ≡ newer ++ places_of at xs →
      RoomsBegin (places_of at xs) ds → AllRun table (routine_tiles xs ds h)
  routines_run table newer at [] ds h e b = tt
  routines_run table newer at (x ∷ xs) [] h e b = absurd h
  routines_run table newer at (x ∷ xs) (d ∷ ds) h e b =
      let cx = work_code (length xs) None x in
      let rest = places_of (at + length cx + 1) xs in
      let e' : table ≡ (newer ++ at ∷ []) ++ rest = e ∙ sym (append_assoc newer (at ∷ []) rest) in
      let older = all_on (IsOlder (length xs)) 0 cx (line None i.Back ∷ []) (work_older (length xs) None x 0) (λ t is. cc, tt) in (
        λ k l u is act.
            let o = all_of (IsOlder (length xs)) (cx ++ line None i.Back ∷ []) 0 k l older is u act in
            let lt = subst (λ n. nat_lt u n ≡ true) (sym (places_length (at + length cx + 1) xs)) o in
            subst (λ pcs. RoomIn (total ds) u pcs) (sym e') (room_older (total ds) u (newer ++ at ∷ []) rest ds lt b.2 (omega arith)),
        routines_run table (newer ++ at ∷ []) (at + length cx + 1) xs ds h.1 e' b.2,
      )

  procedures_run : (table : List ℕ) (m more : ℕ) (qs : List c.Procedure) (es : List ℕ) (h : AllExplored (procedure_pieces m qs) es) → ((u : ℕ) → RoomIn more u table) →
      AllRun table (procedure_tiles m more qs es h)
  procedures_run table m more [] es h r = tt
  procedures_run table m more (q ∷ qs) [] h r = absurd h
  procedures_run table m more (q ∷ qs) (e ∷ es) h r = (λ k l u is act. r u, procedures_run table m more qs es h.1 r)

  -- ---- procedures

  entry_reached : (m more at : ℕ) (qs : List c.Procedure) (es : List ℕ) (h : AllExplored (procedure_pieces m qs) es) →
      AllTiles (TileAt R height N) at (procedure_tiles m more qs es h) → (f : ℕ) (e : Entry) → slice_get (entries m at qs) f ≡ Some e → R e.at ≡ true
  entry_reached m more at [] es h a f e is = cc
  entry_reached m more at (q ∷ qs) [] h a f e is = absurd h
  entry_reached m more at (q ∷ qs) (n ∷ es) h a zero e is =
      let same : record { at = at; unit = q.unit; dummies = q.dummies; variables = q.variables; initial = q.initial } ≡ e = cc in
      subst (λ (y : Entry). R y.at ≡ true) same (tile_begins at (record { piece = procedure_piece m q; depth = n; more = more; found = h.0 }) a.0)
  entry_reached m more at (q ∷ qs) (n ∷ es) h a (suc f) e is = entry_reached m more (at + length (body_code m q)) qs es h.1 a.1 f e is

  entry_needs : (m more at : ℕ) (qs : List c.Procedure) (es : List ℕ) (h : AllExplored (procedure_pieces m qs) es) →
      AllTiles (TileAt R height N) at (procedure_tiles m more qs es h) → (f : ℕ) (e : Entry) (q : c.Procedure) → slice_get (entries m at qs) f ≡ Some e → slice_get qs f ≡ Some q →
      (j : ℕ) → j < length (body_code m q) → N (e.at + j) ≡ slice_index (map (λ n. n + more) es) f
  entry_needs m more at [] es h a f e q is there j lt = cc
  entry_needs m more at (y ∷ qs) [] h a f e q is there j lt = absurd h
  entry_needs m more at (y ∷ qs) (n ∷ es) h a zero e q is there j lt =
      let entry : record { at = at; unit = y.unit; dummies = y.dummies; variables = y.variables; initial = y.initial } ≡ e = cc in
      let same : y ≡ q = cc in
      let lt' = subst (λ z. j < length (body_code m z)) (sym same) lt in
      subst (λ (z : Entry). N (z.at + j) ≡ n + more) entry (tile_needs at (record { piece = procedure_piece m y; depth = n; more = more; found = h.0 }) a.0 j lt')
  entry_needs m more at (y ∷ qs) (n ∷ es) h a (suc f) e q is there j lt = entry_needs m more (at + length (body_code m y)) qs es h.1 a.1 f e q is there j lt

line_there : (ls : List code.Line) (k : ℕ) → k < length ls → (l : code.Line) × (slice_get ls k ≡ Some l)
line_there [] k lt = absurd (omega arith)
line_there (l ∷ ls) zero lt = (l, refl)
line_there (l ∷ ls) (suc k) lt = line_there ls k (omega arith)

-- ---- a program

module _ (p : c.Program) (d : ℕ) (ds es : List ℕ) (hm : Explored (main_piece p) d) (hr : AllExplored (routine_pieces p.routines) ds)
    (hp : AllExplored (procedure_pieces (length p.routines) p.procedures) es) where
  abbrev m : ℕ
  m = length p.routines

  abbrev main_tile : Tile
  main_tile = record { piece = main_piece p; depth = d; more = total ds; found = hm }

  abbrev rt : List Tile
  rt = routine_tiles p.routines ds hr

  abbrev pt : List Tile
  pt = procedure_tiles m (total ds) p.procedures es hp

  abbrev tiles : List Tile
  tiles = main_tile ∷ (rt ++ pt)

  abbrev R : ℕ → Bool
  R = reach tiles

  abbrev height : ℕ → ℕ
  height = slice_index (program_heights p)

  abbrev N : ℕ → ℕ
  N = slice_index (needs_in tiles)

  abbrev cm : List code.Line
  cm = main_code m p.main

  pieces_are : pieces_in (rt ++ pt) ≡ routine_pieces p.routines ++ procedure_pieces m p.procedures
  pieces_are = pieces_append rt pt ∙ ap (λ ps. ps ++ pieces_in pt) (routine_pieces_are p.routines ds hr) ∙ ap (λ ps. routine_pieces p.routines ++ ps) (procedure_pieces_are m (total ds) p.procedures es hp)

  rest_lines : lines_of (pieces_in (rt ++ pt)) ≡ routines_code p.routines ++ procedures_code m p.procedures
  rest_lines = ap lines_of pieces_are ∙ lines_append (routine_pieces p.routines) (procedure_pieces m p.procedures)
      ∙ ap (λ ls. ls ++ lines_of (procedure_pieces m p.procedures)) (routine_lines p.routines) ∙ ap (λ ls. routines_code p.routines ++ ls) (procedure_lines m p.procedures)

  lines_are : lines_of (pieces_in tiles) ≡ (program_code p).lines
  lines_are = ap (λ ls. cm ++ ls) rest_lines

  heights_are : heights_of (pieces_in tiles) ≡ program_heights p
  heights_are = ap (λ hs. main_heights m p.main ++ hs) (ap heights_of pieces_are ∙ heights_append (routine_pieces p.routines) (procedure_pieces m p.procedures)
      ∙ ap (λ hs. hs ++ heights_of (procedure_pieces m p.procedures)) (routine_heights p.routines) ∙ ap (λ hs. routines_heights p.routines ++ hs) (procedure_heights m p.procedures))

  all : AllTiles (TileAt R height N) 0 tiles
  all = tiles_at R height N tiles 0 (λ k. ap (reach tiles) (zero-add k)) (subst (λ hs. HeightsAt height 0 hs) (sym heights_are) (heights_all (program_heights p) []))
      (heights_all (needs_in tiles) [])

  main_at : TileAt R height N 0 main_tile
  main_at = all.0

  rest_at : AllTiles (TileAt R height N) (length cm) (rt ++ pt)
  rest_at = subst (λ n. AllTiles (TileAt R height N) n (rt ++ pt)) (zero-add (length cm)) all.1

  abbrev table : List ℕ
  table = places_of (length cm) p.routines

  begins : RoomsBegin R height N table ds
  begins = rooms_begin R height N (length cm) p.routines ds hr (tiles_front (TileAt R height N) (length cm) rt pt rest_at)

  procedures_at : AllTiles (TileAt R height N) (length cm + length (routines_code p.routines)) pt
  procedures_at =
      let e : lines_of (pieces_in rt) ≡ routines_code p.routines = ap lines_of (routine_pieces_are p.routines ds hr) ∙ routine_lines p.routines in
      subst (λ ls. AllTiles (TileAt R height N) (length cm + length ls) pt) e (tiles_back (TileAt R height N) (length cm) rt pt rest_at)

  room_for : (u : ℕ) → RoomIn R height N (total ds) u table
  room_for u = room_all R height N (total ds) u table ds begins (omega arith)

  runs : AllRun R height N table tiles
  runs = (
    λ k l u is act. room_for u,
    run_on R height N table rt pt (routines_run R height N table [] (length cm) p.routines ds hr refl begins)
        (procedures_run R height N table m (total ds) p.procedures es hp room_for),
  )

  in_tile : (pc : ℕ) (l : code.Line) → slice_get (program_code p).lines pc ≡ Some l → InTile R height N (Both R height N table) pc l
  in_tile pc l is =
      let is' = subst (λ ls. slice_get ls pc ≡ Some l) (sym lines_are) is in
      subst (λ n. InTile R height N (Both R height N table) n l) (zero-add pc)
      (line_in_tile R height N (Both R height N table) tiles 0 pc l (both R height N table tiles 0 all runs) is')

  line_at : (pc : ℕ) (l : code.Line) (t : InTile R height N (Both R height N table) pc l) → LineAt R height N t.tile.depth (need_of t.tile) pc l
  line_at pc l t = subst (λ n. LineAt R height N t.tile.depth (need_of t.tile) n l) t.here (tile_line R height N t.at t.tile t.holds.0 t.k l t.is)

  low : (pc : ℕ) → R pc ≡ true → height pc ≤ N pc
  low pc r =
      let l = line_there (lines_of (pieces_in tiles)) pc (reach_within tiles pc r) in
      let t = in_tile pc l.0 (subst (λ ls. slice_get ls pc ≡ Some l.0) lines_are l.1) in
      let a = line_at pc l.0 t in
      omega (arith, a.low r, a.same)

  covered : IsCovered R height N (program_code p)
  covered = record {
    heights = (code_has_heights p).1;
    within = λ pc r. subst (λ ls. pc < length ls) lines_are (reach_within tiles pc r);
    kept = λ pc l is. (line_at pc l (in_tile pc l is)).kept;
    closed = λ pc l is r. (line_at pc l (in_tile pc l is)).closed r;
    low = low;
    begins = tile_begins R height N 0 main_tile main_at;
    start = (((main_piece p).is height).keeps 0 main_at.heights tt).0;
    procedures = λ f e is. entry_reached R height N m (total ds) (length cm + length (routines_code p.routines)) p.procedures es hp procedures_at f e is;
    routines = rooms_reached R height N table ds begins;
    rooms = λ pc l t is r act.
        let x = in_tile pc l is in
        let a = line_at pc l x in
        room_enough R height N pc x.tile.more t table (x.holds.1 x.k l t x.is act) (omega (arith, a.same, a.low r));
  }

  -- ---- answers

  module _ (n : Needs) (main : n.main ≡ d + total ds) (procedures : n.procedures.items ≡ map (λ e. e + total ds) es) where
    told : (whose : Option ℕ) (pc : ℕ) → IsLineOf p whose pc → N pc ≡ answer_for n whose
    told None pc lt = let e : pc ≡ 0 + pc = omega arith in ap N e ∙ tile_needs R height N 0 main_tile main_at pc lt ∙ sym main
    told (Some f) pc h =
        let e : pc ≡ h.0.at + (pc - h.0.at) = omega (arith, h.4) in
        ap N e ∙ entry_needs R height N m (total ds) (length cm + length (routines_code p.routines)) p.procedures es hp procedures_at f h.0 h.1 h.2 h.3 (pc - h.0.at) (omega (arith, h.4, h.5))
        ∙ ap (λ ns. slice_index ns f) (sym procedures)

    callers : (fs : List Frame) → FramesFew R height N (program_code p) covered fs → CallersWithinAnswers p n fs
    callers [] h = tt
    callers (f ∷ fs) h = (λ whose is. omega (arith, h.0, told whose (home height f.pc (height f.pc - 1) f.stack) is), callers fs h.1)

    pub never_deeper : AreNeverDeeper p n
    never_deeper = λ limit answers k s e.
        let few = steady_few R height N (program_code p) covered s (states_steady R height N (program_code p) covered limit p answers k s e) in
        (λ whose is. omega (arith, few.0, told whose (home height s.pc (height s.pc) s.stack) is), callers s.frames few.1)

-- ---- and no more

routines_few : (xs : List w.Work) (ds : List ℕ) → AllExplored (routine_pieces xs) ds → total ds ≤ routines_need xs
routines_few [] [] h = omega arith
routines_few [] (d ∷ ds) h = absurd h
routines_few (x ∷ xs) [] h = absurd h
routines_few (x ∷ xs) (d ∷ ds) h = omega (arith, h.0.met, routines_few xs ds h.1)

procedures_few : (p : c.Program) (more : ℕ) (qs : List c.Procedure) (es : List ℕ) → AllExplored (procedure_pieces (length p.routines) qs) es → more ≤ routines_need p.routines →
    (f : ℕ) (q : c.Procedure) → slice_get qs f ≡ Some q → slice_index (map (λ e. e + more) es) f ≤ procedure_need p q
procedures_few p more [] es h le f q is = cc
procedures_few p more (y ∷ qs) [] h le f q is = absurd h
procedures_few p more (y ∷ qs) (e ∷ es) h le zero q is =
    let same : y ≡ q = cc in
    subst (λ z. e + more ≤ procedure_need p z) same (omega (arith, h.0.met, le))
procedures_few p more (y ∷ qs) (e ∷ es) h le (suc f) q is = procedures_few p more qs es h.1 le f q is

as_many_explored : (m : ℕ) (qs : List c.Procedure) (es : List ℕ) → AllExplored (procedure_pieces m qs) es → length es ≡ length qs
as_many_explored m [] [] h = refl
as_many_explored m [] (e ∷ es) h = absurd h
as_many_explored m (q ∷ qs) [] h = absurd h
as_many_explored m (q ∷ qs) (e ∷ es) h = ap suc (as_many_explored m qs es h.1)

pub not_padded : (p : c.Program) (d : ℕ) (ds es : List ℕ) → Explored (main_piece p) d → AllExplored (routine_pieces p.routines) ds →
    AllExplored (procedure_pieces (length p.routines) p.procedures) es → (n : Needs) → n.main ≡ d + total ds → n.procedures.items ≡ map (λ e. e + total ds) es → AreNotPadded p n
not_padded p d ds es hm hr hp n main procedures =
    let few = routines_few p.routines ds hr in record {
      same = ap (λ (l : List ℕ). length l) procedures ∙ length-map es (λ e. e + total ds) ∙ as_many_explored (length p.routines) p.procedures es hp;
      main = omega (arith, main, hm.met, few);
      procedures = λ f q is. subst (λ ns. slice_index ns f ≤ procedure_need p q) (sym procedures) (procedures_few p (total ds) p.procedures es hp few f q is);
    }
