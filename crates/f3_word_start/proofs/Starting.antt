-- How a run begins.
use Rattle.std.proofs.Common.{◌≡◌, ◌≢◌, inl, inr, ℕ, zero, suc, ◌+◌, ◌<◌, Bool, true, false, List, [], ◌∷◌, ◌++◌, length, map, take, drop, reverse, refl, sym, ap, subst, ◌∙◌, arith}
use Rattle.std.proofs.lemmas.Bool.{cases_eq}
use Rattle.std.proofs.lemmas.Bool.Decides.{nat_tests}
use Rattle.std.proofs.Math.Path.{fun_ext}
use Rattle.std.specs.Prelude.{None, Some, nat_eq, if◌then◌else◌}
use Rattle.std.specs.FinMap.{get as find, empty, get-empty}
use Rattle.std.specs.Ordering.{nat_cmp}
use Rattle.f3_program.specs.declared.declarations.Declared.{Declared}
use Rattle.f3_program.specs.declared.program.Program.{Program}
use Rattle.f3_program.specs.declared.program.Static as static
use Rattle.f3_live_blocks.specs.Blocks.{Live, IsLive, pins_of, pins_in}
use Rattle.f3_meaning_whole.specs.Value.{Value}
use Rattle.f3_meaning_whole.specs.Store.{Store}
use Rattle.f3_meaning_whole.specs.Shape.{Shape}
use Rattle.f3_meaning_whole.specs.Exec.{declared_in, initial_value}
use Rattle.f3_meaning_whole.specs.Run.{setting_of}
use Rattle.f3_meaning_whole.specs.declared.run_error.RunError.TheVariants.{HeapHasNoRoom}
use Rattle.f3_meaning_whole.specs.Ran.{◌>>=◌, asks, gives, does, fails}
use Rattle.f3_code.specs.CoreRun.{core_here}
use Rattle.f3_code.specs.Lower.{lowered_program}
use Rattle.f3_code.specs.State.{Goes, Stays, Failed}
use Rattle.f3_code.specs.Machine.{advance, before, run}
use Rattle.f3_code.specs.Run.{after}
use Rattle.f3_cells.specs.States.{setting}
use Rattle.f3_heights.specs.Room.{state_after, state_next, state_run}
use Rattle.f3_register_states.specs.Inner.Alike.{AreAlike}
use Rattle.f3_register_states.proofs.Alike.{same_initial, same_room_values, same_stands}
use Rattle.f3_rooms.specs.Held.{times}
use Rattle.f3_rooms.specs.Rooms.{Rooms, Stands as Room, blocks_of, room_values, store_of}
use Rattle.f3_rooms.specs.Sound.{IsSound}
use Rattle.f3_rooms.proofs.Allocating.{at_most_one}
use Rattle.f3_room_levels.specs.Initial.{initial_values}
use Rattle.f3_room_levels.specs.Levels.{Begins as BeginsAt, BeginsLevel, begun}
use Rattle.f3_word_cells.specs.declared.cell.Cell.{Cell}
use Rattle.f3_word_cells.specs.declared.cell.Here.{Here}
use Rattle.f3_word_cells.specs.declared.state.Caller.{Caller}
use Rattle.f3_word_cells.specs.declared.state.Name.{Name}
use Rattle.f3_word_cells.specs.declared.state.State.{State}
use Rattle.f3_word_cells.specs.Areas.{types_of}
use Rattle.f3_word_cells.specs.Cells.{IsHere, AreCells}
use Rattle.f3_word_cells.specs.Does.{stream}
use Rattle.f3_word_cells.specs.Scenes.{code_of}
use Rattle.f3_cell_kinds.specs.Types.{Around, Told, Untold, InRoutine}
use Rattle.f3_cell_kinds.specs.Holds.{InScope}
use Rattle.f3_word_cells.specs.States.{AreAtHand, AreCalled, AreTight, end_of, Stands, AreCallers, AreKnown, beneath, own, loose_blocks, cells_blocks, statics_of}
use Rattle.f3_cell_kinds.specs.Types.{CellType}
use Rattle.f3_cell_kinds.specs.Laws.{site_at}
use Rattle.f3_word_start.specs.Begins.{Begins, IsRefused, first, first_state, first_events, further}
use Rattle.f3_word_start.specs.Inner.Stacks.{IsFirst}
use Rattle.f3_word_start.specs.Inner.Taken.{AreTaken}
use Rattle.f3_word_start.proofs.Taking.{elsewhere, pins_elsewhere, unpinned}

-- ---- the first instruction

granted : (p : Program) (rest : ℕ → Bool) → first p (stream (false ∷ []) rest) ≡ Goes (first_events p) (first_state p rest)
unfolding ◌>>=◌ asks gives does fails
granted p rest = refl

refused_first : (p : Program) (rest : ℕ → Bool) → first p (stream (true ∷ []) rest) ≡ Stays [] (Failed HeapHasNoRoom p.start)
unfolding ◌>>=◌ asks gives does fails
refused_first p rest = refl

-- the answers of a heap, by the first of them
by_first : (answers : ℕ → Bool) (b : Bool) → answers 0 ≡ b → answers ≡ stream (b ∷ []) (further answers)
by_first answers b e = fun_ext each
  where
    each : (n : ℕ) → answers n ≡ stream (b ∷ []) (further answers) n
    each zero = e
    each (suc n) = refl

goes_on : (p : Program) (answers : ℕ → Bool) → answers 0 ≡ false → first p answers ≡ Goes (first_events p) (first_state p (further answers))
goes_on p answers e = ap (first p) (by_first answers false e) ∙ granted p (further answers)

stays : (p : Program) (answers : ℕ → Bool) → answers 0 ≡ true → first p answers ≡ Stays [] (Failed HeapHasNoRoom p.start)
stays p answers e = ap (first p) (by_first answers true e) ∙ refused_first p (further answers)

begins_so : (p : Program) (answers : ℕ → Bool) → answers 0 ≡ false → state_after 1000 (lowered_program p) (code_of p) answers 0 ≡ Some (first_state p (further answers))
begins_so p answers e = ap (λ x. state_next x (state_run 1000 (setting p) (code_of p) 0)) (goes_on p answers e)

runs_so : (p : Program) (answers : ℕ → Bool) → answers 0 ≡ false → (k : ℕ) → after 1000 (lowered_program p) (code_of p) answers (suc k)
    ≡ before (first_events p) (run 1000 (setting p) (code_of p) k (first_state p (further answers)))
unfolding after
runs_so p answers e k = ap (λ x. advance 1000 (setting p) (code_of p) x (run 1000 (setting p) (code_of p) k)) (goes_on p answers e)

ends_so : (p : Program) (answers : ℕ → Bool) → answers 0 ≡ true → (k : ℕ) → after 1000 (lowered_program p) (code_of p) answers (suc k)
    ≡ record { out = []; halt = Failed HeapHasNoRoom p.start }
unfolding after
ends_so p answers e k = ap (λ x. advance 1000 (setting p) (code_of p) x (run 1000 (setting p) (code_of p) k)) (stays p answers e)

pub is_refused : (p : Program) → IsRefused p
is_refused p = record { stays = stays p; ends = ends_so p }

-- ---- blocks

counted : (q c : ℕ) (bs : List ℕ) → q ≡ c → 0 < times q (c ∷ bs)
counted q c bs e = by (nat_eq q c) refl
  where
    by : (t : Bool) → nat_eq q c ≡ t → 0 < (if t then 1 else 0) + times q bs
    by true f = omega arith
    by false f = let g : q ≢ c = grind (arith, nat_tests) in absurd (g e)

behind_one : (q c : ℕ) (bs : List ℕ) → 0 < times q bs → 0 < times q (c ∷ bs)
behind_one q c bs some = by (nat_eq q c)
  where
    by : (t : Bool) → 0 < (if t then 1 else 0) + times q bs
    by true = omega arith
    by false = omega arith

dead : (m : Live) (q : ℕ) → find m q ≡ None → IsLive m q → ⊥
dead m q none live = cc

none_known : (p : Program) (xs : List CellType) → AreKnown p xs []
none_known p [] = tt
none_known p (x ∷ xs) = tt

declared_begin : (p : Program) (ys : List static.Static) → map (initial_value (setting_of p)) (map (λ (y : static.Static). y.declared) ys)
    ≡ map (λ (y : static.Static). initial_value (setting_of p) y.declared) ys
declared_begin p [] = refl
declared_begin p (y ∷ ys) = ap (λ vs. initial_value (setting_of p) y.declared ∷ vs) (declared_begin p ys)

module _ (p : Program) (mid k : Live) (us vs : List Declared) (x y a b : ℕ) (su : AreAlike (statics_of p) us) (sv : AreAlike (declared_in p.main) vs)
    (statics_begin : BeginsAt (types_of p) empty mid us x a) (main_begin : BeginsAt (types_of p) mid k vs y b) where
  abbrev ts : List Shape
  ts = types_of p

  abbrev main_declared : List Declared
  main_declared = declared_in p.main

  -- ---- where the variables stand

  abbrev whole : Rooms
  whole = record { statics = begun a (statics_of p); levels = [] }

  abbrev rooms : Rooms
  rooms = record { statics = begun a (statics_of p); levels = (Room (begun b main_declared) ∷ []) ∷ [] }

  whole_sound : IsSound ts mid whole
  whole_sound = record { statics = same_stands ts mid a (statics_of p) us su statics_begin.room; levels = tt; apart = λ q. at_most_one q a }

  level : BeginsLevel ts mid k vs b whole
  level = main_begin.level whole whole_sound

  sound : IsSound ts k rooms
  sound =
      let all = level.sound in
      record { statics = all.statics; levels = ((same_stands ts k b main_declared vs sv main_begin.room, tt), tt); apart = all.apart }

  abbrev store_with : List Value → List Value → Store
  store_with xs ys = record { statics = xs; levels = ys ∷ [] }

  statics_values : room_values ts mid (begun a (statics_of p)) ≡ (lowered_program p).initial
  statics_values = sym (same_room_values ts mid a (statics_of p) us su) ∙ statics_begin.values ∙ same_initial ts (statics_of p) us su ∙ declared_begin p p.statics.items

  main_values : room_values ts k (begun b vs) ≡ room_values ts k (begun b main_declared)
  main_values = same_room_values ts k b main_declared vs sv

  store : store_of ts k rooms ≡ store_with (lowered_program p).initial (lowered_program p).main.initial
  store =
      ap (λ zs. store_with (room_values ts k (begun a (statics_of p))) (zs ++ [])) (sym main_values)
      ∙ level.store
      ∙ ap (λ zs. store_with zs (initial_values ts vs)) statics_values
      ∙ ap (store_with (lowered_program p).initial) (same_initial ts main_declared vs sv)

  all_unpinned : (q : ℕ) → pins_of k q ≡ 0
  all_unpinned q = elim (cases_eq q b) [
    | inl e ↦ ap (pins_of k) e ∙ unpinned ts mid k vs y b main_begin
    | inr ne ↦ pins_elsewhere ts mid k vs y b main_begin q ne ∙ before q
  ]
    where
      before : (q : ℕ) → pins_of mid q ≡ 0
      before q = elim (cases_eq q a) [
        | inl e ↦ ap (pins_of mid) e ∙ unpinned ts empty mid us x a statics_begin
        | inr ne ↦ pins_elsewhere ts empty mid us x a statics_begin q ne ∙ ap pins_in (get-empty nat_cmp q)
      ]

  all_counted : (q : ℕ) → IsLive k q → 0 < times q (a ∷ b ∷ [])
  all_counted q live = elim (cases_eq q b) [ inl e ↦ behind_one q a (b ∷ []) (counted q b [] e) | inr ne ↦ others ne ]
    where
      others : q ≢ b → 0 < times q (a ∷ b ∷ [])
      others ne = elim (cases_eq q a) [
        | inl e ↦ counted q a (b ∷ []) e
        | inr not ↦ absurd (dead k q (elsewhere ts mid k vs y b main_begin q ne ∙ elsewhere ts empty mid us x a statics_begin q not ∙ get-empty nat_cmp q) live)
      ]

  -- ---- the state

  module _ (w : State) (f : IsFirst p a b w) where
    abbrev names : List Name
    names = w.names.items.items

    loose_none : loose_blocks w ≡ []
    loose_none = ap (λ (cs : List Cell). cells_blocks cs) f.cells

    same_times : (q : ℕ) → times q (blocks_of rooms ++ loose_blocks w) ≡ times q (a ∷ b ∷ [])
    same_times q = ap (λ bs. times q (blocks_of rooms ++ bs)) loose_none

    own_none : own w ≡ []
    own_none = ap (λ n. reverse (drop n w.cells.items.items)) f.base ∙ ap (λ (cs : List Cell). reverse (drop 0 cs)) f.cells

    beneath_none : beneath w ≡ []
    beneath_none = ap (λ n. take n w.cells.items.items) f.base ∙ ap (λ (cs : List Cell). take 0 cs) f.cells

    callers_none : reverse w.callers.items.items ≡ []
    callers_none = ap (λ (fs : List Caller). reverse fs) f.callers

    first_here : IsHere p rooms names w.here (core_here (lowered_program p))
    first_here =
        subst (λ (ns : List Name). IsHere p rooms ns w.here (core_here (lowered_program p))) (sym f.names)
        (subst (λ (h : Here). IsHere p rooms [] h (core_here (lowered_program p))) (sym f.here) (record {
          place = refl;
          unit = refl;
          level = refl;
          variables = refl;
          names = record { names = tt; count = refl; within = omega arith };
          selected = (refl, refl);
          room = begun b main_declared;
          stands = refl;
          declared = refl;
        }))

    abbrev Callers : Rooms → List Name → Type 0
    Callers = AreCallers p k (beneath w) (reverse w.callers.items.items) []

    no_callers : Callers rooms names
    no_callers = subst (λ (cs : List Cell). AreCallers p k cs (reverse w.callers.items.items) [] rooms names) (sym beneath_none)
        (subst (λ (fs : List Caller). AreCallers p k [] fs [] rooms names) (sym callers_none) refl)

    no_names : length names ≡ 0
    no_names = ap (λ (ns : List Name). length ns) f.names

    at_hand : AreAtHand (length names) w.here (own w)
    at_hand = subst (λ (cs : List Cell). AreAtHand (length names) w.here cs) (sym own_none)
        (ap (λ (h : Here). end_of h.names) f.here ∙ sym no_names)

    orderly_first : (o : Around) → InScope p.types.items (λ z. AreAtHand (length names) w.here (own w)) o
    orderly_first (Told z) = at_hand
    orderly_first Untold = tt
    orderly_first InRoutine = tt

    abbrev Called : List Cell → List Caller → Type 0
    Called cs fs = AreCalled p cs fs rooms.levels (length names)

    tight_first : AreTight (AreCalled p (beneath w) (reverse w.callers.items.items)) rooms.levels (length names) (own w)
    tight_first = subst (λ (cs : List Cell). AreTight (AreCalled p (beneath w) (reverse w.callers.items.items)) rooms.levels (length names) cs) (sym own_none)
        (subst (λ (fs : List Caller). Called (beneath w) fs) (sym callers_none) (no_names, refl, omega arith))

    stands : (answers : ℕ → Bool) → Stands p k w rooms (first_state p answers)
    stands answers = record {
      sound = sound;
      store = sym store;
      statics = sym f.statics;
      declared = refl;
      bare = refl;
      all_bare = ((refl, tt), tt);
      blocks = f.blocks;
      levels = f.levels;
      pc = sym f.pc;
      bottom = let e = f.base in omega arith;
      known = subst (AreKnown p (site_at p 0).cells) (sym own_none) (none_known p (site_at p 0).cells);
      stack = subst (λ (cs : List Cell). AreCells p k Callers rooms names w.here (core_here (lowered_program p)) cs []) (sym own_none) (first_here, no_callers);
      orderly = orderly_first (site_at p 0).scope;
      tight = tight_first;
      once = λ q. let e = same_times q in let once = sound.apart q in omega arith;
      all = λ q live. let e = same_times q in let some = all_counted q live in omega arith;
      live = λ q some. let e = ap (times q) loose_none in absurd (omega arith);
      unpinned = all_unpinned;
    }

    pub starts : Begins p k w
    starts = record { rooms = rooms; stands = stands; goes = goes_on p; begins = begins_so p; runs = runs_so p }

-- so it begins with two blocks of a heap that had none
pub begins_with : (p : Program) (ss : List Shape) → ss ≡ types_of p → (m k : Live) → m ≡ empty → (us vs : List Declared) (x y : ℕ) (blocks : ℕ × ℕ)
    → AreAlike (statics_of p) us → AreAlike (declared_in p.main) vs → AreTaken ss m k us vs x y blocks → (w : State) → IsFirst p blocks.0 blocks.1 w → Begins p k w
begins_with p ss same m k none us vs x y blocks su sv taken w f =
    let statics : BeginsAt (types_of p) empty taken.mid us x blocks.0 =
    subst (λ rs. BeginsAt rs empty taken.mid us x blocks.0) same (subst (λ (n : Live). BeginsAt ss n taken.mid us x blocks.0) none taken.statics_begin) in
    let main : BeginsAt (types_of p) taken.mid k vs y blocks.1 = subst (λ rs. BeginsAt rs taken.mid k vs y blocks.1) same taken.main_begin in
    starts p taken.mid k us vs x y blocks.0 blocks.1 su sv statics main w f
