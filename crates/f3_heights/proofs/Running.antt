-- The states of a run have no more cells than they need.
use Rattle.std.proofs.Common.{◌≡◌, ℕ, zero, suc, ◌+◌, ◌-◌, ◌*◌, ◌<◌, ◌≤◌, Bool, List, [], ◌∷◌, ◌++◌, length, Some, refl, sym, ap, ◌∙◌, subst, arith, append_assoc}
use Rattle.std.specs.Prelude.{slice_get, slice_index}
use Rattle.std.proofs.Math.Nat.{mul-le-mul_right}
use Rattle.f3_meaning_whole.specs.Ran.{Event, World, End, Gives, Fails, Stops, Beyond, ◌>>=◌}
use Rattle.f3_meaning_whole.specs.Act.{Setting, claim, enter}
use Rattle.f3_code.specs.Work as w
use Rattle.f3_code.specs.Core as c
use Rattle.f3_code.specs.CoreRun.{core_setting, core_here, core_world}
use Rattle.f3_code.specs.State.{Code, Entry, Cell, To, Frame, State, Next, Goes}
use Rattle.f3_code.specs.State as state
use Rattle.f3_code.specs.Machine.{ends_so, step}
use Rattle.f3_code.specs.Code.{body_code, main_code, program_code}
use Rattle.f3_code.specs.Run.{start}
use Rattle.f3_heights.specs.Program.{work_heights, body_heights, main_heights, procedures_heights, routines_heights, program_heights}
use Rattle.f3_heights.specs.Heights.{AreHeights}
use Rattle.f3_heights.specs.Room.{greatest, home, alike, routines_need, procedure_need, main_need, routines_needs, procedures_needs, program_needs, Within, IsWithin, FramesHave, HasRoom, Change, Stays, Begins, Ends, frames_cells, all_cells, state_next, state_run, state_after}
use Rattle.f3_heights.proofs.Within.{steps_keep_room, all_have_room}
use Rattle.f3_heights.specs.Needs.{AreNeeds}
use Rattle.f3_heights.proofs.OfProgram.{heights_all, code_has_heights}
use Rattle.f3_heights.proofs.Regions.{greatest_first}
use Rattle.f3_heights.proofs.Needing.{Whole, whole, needs_length}

-- ---- heights are not above needs

abbrev AreBelow : List ℕ → List ℕ → Type 0
AreBelow [] rs = Unit {0}
AreBelow (h ∷ hs) [] = ⊥
AreBelow (h ∷ hs) (r ∷ rs) = (h ≤ r) × AreBelow hs rs

below_on : (a b : List ℕ) (c : ℕ) (rs : List ℕ) → greatest a ≤ c → AreBelow b rs → AreBelow (a ++ b) (alike c a ++ rs)
below_on [] b c rs le h = h
below_on (x ∷ a) b c rs le h =
    let top = greatest_first x a in
    (omega (arith, top.0, le), below_on a b c rs (omega (arith, top.1, le)) h)

below_index : (hs rs : List ℕ) (pc : ℕ) → AreBelow hs rs → slice_index hs pc ≤ slice_index rs pc
below_index [] rs pc h = omega arith
below_index (x ∷ hs) [] pc h = absurd h
below_index (x ∷ hs) (r ∷ rs) zero h = h.0
below_index (x ∷ hs) (r ∷ rs) (suc pc) h = below_index hs rs pc h.1

routines_below : (xs : List w.Work) (b rs : List ℕ) → AreBelow b rs → AreBelow (routines_heights xs ++ b) (routines_needs xs ++ rs)
routines_below [] b rs h = h
routines_below (x ∷ xs) b rs h =
    let hx = work_heights (length xs) 0 x in
    let need = routines_need (x ∷ xs) in
    let first = below_on (hx ++ 1 ∷ []) (routines_heights xs ++ b) need (routines_needs xs ++ rs) (omega arith) (routines_below xs b rs h) in
    let e1 = append_assoc hx (1 ∷ []) (routines_heights xs ++ b) in
    let e2 = append_assoc hx (1 ∷ routines_heights xs) b in
    let e3 = append_assoc (alike need (hx ++ 1 ∷ [])) (routines_needs xs) rs in
    subst (λ hs. AreBelow hs ((alike need (hx ++ 1 ∷ []) ++ routines_needs xs) ++ rs)) (e1 ∙ sym e2)
    (subst (λ ns. AreBelow ((hx ++ 1 ∷ []) ++ (routines_heights xs ++ b)) ns) (sym e3) first)

procedures_below : (p : c.Program) (qs : List c.Procedure) → AreBelow (procedures_heights (length p.routines) qs) (procedures_needs p qs)
procedures_below p [] = tt
procedures_below p (q ∷ qs) = below_on (body_heights (length p.routines) q) (procedures_heights (length p.routines) qs) (procedure_need p q)
    (procedures_needs p qs) (omega arith) (procedures_below p qs)

program_below : (p : c.Program) (pc : ℕ) → slice_index (program_heights p) pc ≤ slice_index (program_needs p) pc
program_below p pc = below_index (program_heights p) (program_needs p) pc
    (below_on (main_heights (length p.routines) p.main) (routines_heights p.routines ++ procedures_heights (length p.routines) p.procedures) (main_need p)
    (routines_needs p.routines ++ procedures_needs p p.procedures) (omega arith)
    (routines_below p.routines (procedures_heights (length p.routines) p.procedures) (procedures_needs p p.procedures) (procedures_below p p.procedures)))

module _ (p : c.Program) where
  abbrev height : ℕ → ℕ
  height = slice_index (program_heights p)

  abbrev room : ℕ → ℕ
  room = slice_index (program_needs p)

  all : Whole height room p
  all = whole height room p (heights_all (program_heights p) []) (heights_all (program_needs p) [])

  heights : AreHeights height (program_code p)
  heights = (code_has_heights p).1

  pub needs : AreNeeds height room (program_code p)
  needs = record { low = program_below p; lines = all.kept; routines = all.routines }

  pub room_of : (need : ℕ) (others : List ℕ) (s : State) → IsWithin height room need others s → HasRoom height room need others s
  room_of need others s h = (all_have_room (program_code p) height room needs need others s h).0

  pub lines_need : (f : ℕ) (e : Entry) (q : c.Procedure) → slice_get (program_code p).procedures f ≡ Some e → slice_get p.procedures f ≡ Some q →
      (j : ℕ) → j < length (body_code (length p.routines) q) → room (e.at + j) ≡ procedure_need p q
  lines_need f e q a b j lt = all.entry f e q a b j lt

  pub main_needs : (j : ℕ) → j < length (main_code (length p.routines) p.main) → room j ≡ main_need p
  main_needs j lt = all.main j lt

  pub starts_within : (w : World) → IsWithin height room (main_need p) [] (start p w)
  starts_within w = record { stack = subst (λ h. Within height room (main_need p) (room 0) h []) (sym all.begins) (all.main 0 all.some); frames = tt }

  -- ---- runs

  module _ (limit : ℕ) where
    abbrev pub HasNeeds : State → Type 0
    HasNeeds s = (need : ℕ) × (others : List ℕ) × IsWithin height room need others s × (length others ≤ limit)

    few_others : (need : ℕ) (others : List ℕ) (new need' : ℕ) (others' : List ℕ) → Change limit need others new need' others' → length others ≤ limit →
        length others' ≤ limit
    few_others need others new need' others' (Stays a b) le = omega (arith, ap (λ (l : List ℕ). length l) b, le)
    few_others need others new need' others' (Begins few a b) le = omega (arith, ap (λ (l : List ℕ). length l) b, few)
    few_others need others new need' others' (Ends b) le = omega (arith, ap (λ (l : List ℕ). length l) b, le)

    run_within : (g : Setting) (k : ℕ) (s t : State) → HasNeeds s → state_run limit g (program_code p) k s ≡ Some t → HasNeeds t
    run_within g zero s t h e = let same : s ≡ t = cc in subst (λ u. HasNeeds u) same h
    run_within g (suc k) s t h e = by_next (step limit g (program_code p) s) refl e (λ u h e. run_within g k u t h e)
      where
        by_next : (x : Next) → step limit g (program_code p) s ≡ x → state_next x (state_run limit g (program_code p) k) ≡ Some t →
            ((u : State) → HasNeeds u → state_run limit g (program_code p) k u ≡ Some t → HasNeeds t) → HasNeeds t
        by_next (Goes out u) is e more =
            let n = steps_keep_room limit g (program_code p) height room heights needs s u out h.0 h.1 h.2 is in
            more u (n.need', n.others', n.is, few_others h.0 h.1 (room u.pc) n.need' n.others' n.change h.3) e
        by_next (state.Stays out halt) is e more = cc

    pub runs_within : (answers : ℕ → Bool) (k : ℕ) (s : State) → state_after limit p (program_code p) answers k ≡ Some s → HasNeeds s
    runs_within answers k s e =
        let r = (claim (core_here p) >>= λ done. enter p.main.initial).from (core_world p answers) in by_end r.out r.end e
      where
        by_end : {A : Type 0} (out : List Event) (end : End A) →
            state_next (ends_so out end (λ done w. start p w)) (state_run limit (core_setting p) (program_code p) k) ≡ Some s → HasNeeds s
        by_end out (Gives x w) e = run_within (core_setting p) k (start p w) s (main_need p, [], starts_within w, omega arith) e
        by_end out (Fails error place) e = cc
        by_end out (Stops code) e = cc
        by_end out Beyond e = cc

pub runs_have_room : (limit : ℕ) (p : c.Program) (answers : ℕ → Bool) (k : ℕ) (s : State) → state_after limit p (program_code p) answers k ≡ Some s →
    (need : ℕ) × (others : List ℕ) × IsWithin (slice_index (program_heights p)) (slice_index (program_needs p)) need others s ×
    HasRoom (slice_index (program_heights p)) (slice_index (program_needs p)) need others s
runs_have_room limit p answers k s e = let h = runs_within p limit answers k s e in (h.0, h.1, h.2, room_of p h.0 h.1 s h.2)

-- ---- all cells together

index_greatest : (hs : List ℕ) (k : ℕ) → slice_index hs k ≤ greatest hs
index_greatest [] k = omega arith
index_greatest (h ∷ hs) zero = (greatest_first h hs).0
index_greatest (h ∷ hs) (suc k) = omega (arith, index_greatest hs k, (greatest_first h hs).1)

frames_bounded : (height needs : ℕ → ℕ) (g : ℕ) → ((pc : ℕ) → needs pc ≤ g) → (xs : List ℕ) (fs : List Frame) → FramesHave height needs xs fs →
    (length fs ≡ length xs) × (frames_cells fs ≤ length xs * g)
frames_bounded height needs g low [] [] h = (refl, omega arith)
frames_bounded height needs g low [] (f ∷ fs) h = absurd h
frames_bounded height needs g low (x ∷ xs) [] h = absurd h
frames_bounded height needs g low (x ∷ xs) (f ∷ fs) h =
    let more = frames_bounded height needs g low xs fs h.2 in
    let least = low (home height f.pc (height f.pc - 1) f.stack) in
    (ap suc more.0, omega (arith, more.1, h.0, h.1, least))

pub runs_are_bounded : (limit : ℕ) (p : c.Program) (answers : ℕ → Bool) (k : ℕ) (s : State) → state_after limit p (program_code p) answers k ≡ Some s →
    (length s.frames ≤ limit) × (all_cells s ≤ (limit + 1) * greatest (program_needs p))
runs_are_bounded limit p answers k s e =
    let h = runs_within p limit answers k s e in
    let r = room_of p h.0 h.1 s h.2 in
    let g = greatest (program_needs p) in
    let low : (pc : ℕ) → slice_index (program_needs p) pc ≤ g = λ pc. index_greatest (program_needs p) pc in
    let b = frames_bounded (slice_index (program_heights p)) (slice_index (program_needs p)) g low h.1 s.frames r.frames in
    let top = low (home (slice_index (program_heights p)) s.pc (slice_index (program_heights p) s.pc) s.stack) in
    let most : length h.1 * g ≤ limit * g = mul-le-mul_right g h.3 in
    (omega (arith, b.0, h.3), omega (arith, b.1, most, top, r.procedure, r.stack))

pub code_has_needs : (p : c.Program) → (length (program_needs p) ≡ length (program_code p).lines) ×
    AreNeeds (slice_index (program_heights p)) (slice_index (program_needs p)) (program_code p)
code_has_needs p = (needs_length (slice_index (program_heights p)) p, needs p)
