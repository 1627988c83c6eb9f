-- What names mean stands where it is located.
use Rattle.std.proofs.Common.{◌≡◌, ◌∙◌, ℕ, zero, suc, ◌+◌, ◌<◌, ◌^◌, ◌≤◌, Bool, true, false, List, [], ◌∷◌, ◌++◌, length, refl, sym, ap, subst, arith, get_or}
use Rattle.std.specs.Prelude.{None, Some, Option, slice_get, slice_index_or, ◌&&◌}
use Rattle.std.specs.List.{All}
use Rattle.std.specs.Option.{option_map}
use Rattle.std.proofs.lemmas.Option.{slice_get_within, slice_get-get_or}
use Rattle.f3_program.specs.declared.declarations.Declared.{Declared}
use Rattle.f3_program.specs.declared.declarations.Kind.{Kind}
use Rattle.f3_program.specs.declared.program.Procedure.{Procedure}
use Rattle.f3_program.specs.declared.program.Program.{Program}
use Rattle.f3_program.specs.declared.program.Static as static
use Rattle.f3_live_blocks.specs.Blocks.{Live}
use Rattle.f3_meaning_whole.specs.Act.{to_root, static_type, type_of, right_to, whole}
use Rattle.f3_meaning_whole.specs.Exec.{declared_in}
use Rattle.f3_meaning_whole.specs.Formed.{IsWellFormed, all, are_types, is_declared, are_declared}
use Rattle.f3_meaning_whole.specs.Reference.{Reference, Define, reach_of}
use Rattle.f3_meaning_whole.specs.Store.{Store, Root, Static, Local, get}
use Rattle.f3_code.specs.State as s
use Rattle.f3_cell_kinds.specs.Holds.{AllRefer}
use Rattle.f3_cells.specs.Cells.{variables_of, declared_by}
use Rattle.f3_rooms.specs.Forms.{room}
use Rattle.f3_rooms.specs.Rooms.{Room, Rooms, Slot, Known, store_of}
use Rattle.f3_rooms.specs.Rooms as slot
use Rattle.f3_rooms.specs.Places as places
use Rattle.f3_rooms.specs.Ways.{offset, variable_in}
use Rattle.f3_rooms.proofs.Whole.{statics_stand, locals_stand}
use Rattle.f3_word_areas.specs.Parts.{IsLaid}
use Rattle.f3_word_areas.proofs.Types.{all-at, declared-rank}
use Rattle.f3_word_areas.proofs.Variables.{begins-there, ends-within, variable-there}
use Rattle.f3_word_cells.specs.declared.cell.Area.{Area}
use Rattle.f3_word_cells.specs.declared.cell.Object.{Object}
use Rattle.f3_word_cells.specs.declared.scene.Frame.{Frame}
use Rattle.f3_word_cells.specs.declared.scene.Scene.{Scene}
use Rattle.f3_word_cells.specs.declared.state.Name.{Name}
use Rattle.f3_word_cells.specs.declared.state.State.{State}
use Rattle.f3_word_cells.specs.Areas.{AreThere, IsObject, types_of}
use Rattle.f3_word_cells.specs.Cells.{AreNames, IsHere, names_in}
use Rattle.f3_word_cells.specs.Plain.{ArePlain, IsPlain}
use Rattle.f3_word_cells.specs.Scenes.{IsFrame, IsScene}
use Rattle.f3_word_cells.specs.States.{Stands, level_rooms, levels_rooms, starts_of, statics_of}
use Rattle.f3_word_objects.specs.Variables.{IsBlockOf, IsLent, IsLocal, IsStatic, IsVariable}
use Rattle.f3_word_objects.proofs.Lists.{get-mapped}

both : (a b : Bool) → (a && b) ≡ true → (a ≡ true) × (b ≡ true)
both true b e = (refl, e)
both false b e = absurd cc

pub at-each : {A : Type 0} (P : A → Type 0) (xs : List A) (i : ℕ) (x : A) → All P xs → slice_get xs i ≡ Some x → P x
at-each {A} P xs i x h e =
    let lt = slice_get_within xs i x e in
    let same : get_or xs i x ≡ x = (let r : Some (get_or xs i x) ≡ Some x = sym (slice_get-get_or xs i x lt) ∙ e in cc) in
    subst P same (h i x lt)

-- ---- a variable of a frame

module _ (x : Scene) (rooms : Rooms) (m : Live) (root : Root) (r : Room) (ds : List Declared) (f : Frame) (block i : ℕ) (a : Area) where
  abbrev p : Program
  p = x.program.now

  pub frame-variable : (v : IsVariable x ds f block i a) → IsFrame (types_of p) ds f → r.declared ≡ ds → block ≡ r.block → v.declared.kind.is_allocatable ≡ false
      → length v.declared.dimensions.items ≡ v.declared.kind.rank
      → ((d : Declared) → slice_get r.declared i ≡ Some d → places.found (types_of p) rooms root [] ≡ Some (variable_in (types_of p) r i d))
      → AreThere p rooms a (whole root) (reach_of (whole root) (get (store_of (types_of p) m rooms) (whole root)))
  frame-variable v framed these same plain ranked leads =
      let d = v.declared in
      let starts : Some v.start ≡ Some (0 + offset (types_of p) ds i) = sym v.begins ∙ ap (λ xs. slice_get xs i) framed.starts ∙ begins-there (types_of p) ds 0 i d v.is in
      let start : v.start ≡ offset (types_of p) r.declared i = (let e : v.start ≡ 0 + offset (types_of p) ds i = cc in e ∙ omega arith) ∙ ap (λ zs. offset (types_of p) zs i) (sym these) in
      let laid = subst (λ (k : ℕ). IsLaid (types_of p) d r.block k a) start (subst (λ (b : ℕ). IsLaid (types_of p) d b v.start a) same v.laid) in
      let ends = ends-within (types_of p) ds i d v.is in
      let small : room (types_of p) d < 2 ^ 63 = (let t = framed.words in let s = framed.small in omega arith) in
      variable-there p m rooms root r i d a (leads d (ap (λ zs. slice_get zs i) these ∙ v.is)) laid plain ranked small

-- ---- variables that live for the whole run

module _ (x : Scene) (scene : IsScene x) (m : Live) (w : State) (rooms : Rooms) (t : s.State) (st : Stands x.program.now m w rooms t) (plain : IsPlain x.program.now) (formed : IsWellFormed x.program.now) where
  abbrev q : Program
  q = x.program.now

  abbrev stored : Store
  stored = store_of (types_of q) m rooms

  -- the declared statics
  pub static-at : (i : ℕ) (y : static.Static) → slice_get q.statics.items i ≡ Some y → slice_get (statics_of q) i ≡ Some y.declared
  static-at i y e = get-mapped (λ (y : static.Static). y.declared) q.statics.items i ∙ ap (option_map (λ (y : static.Static). y.declared)) e

  static-ranked : (i : ℕ) (y : static.Static) → slice_get q.statics.items i ≡ Some y → y.declared.kind.is_allocatable ≡ false → length y.declared.dimensions.items ≡ y.declared.kind.rank
  static-ranked i y e alloc =
      let rest = (both (are_types q 0 q.types.items) _ formed).1 in
      let each = (both (all (λ (y : static.Static). is_declared (length q.types.items) y.declared) q.statics.items) _ rest).0 in
      declared-rank (length q.types.items) y.declared (all-at (λ (y : static.Static). is_declared (length q.types.items) y.declared) q.statics.items i y each e) alloc

  pub static-stands : (i : ℕ) (y : static.Static) (z : Object) (unit : ℕ) → slice_get q.statics.items i ≡ Some y → IsStatic x w i (Some z)
      → IsObject q rooms z (to_root (Static i) (static_type (slice_get q.statics.items i)) (right_to unit (slice_get q.statics.items i)) unit (get stored (whole (Static i))))
  static-stands i y z unit e h =
      let a : Area = h.0 in
      let v = h.2 in
      let same : v.declared ≡ y.declared = (let r : Some v.declared ≡ Some y.declared = sym v.is ∙ static-at i y e in cc) in
      let alloc : v.declared.kind.is_allocatable ≡ false = at-each (λ (d : Declared). d.kind.is_allocatable ≡ false) (statics_of q) i v.declared plain.statics v.is in
      let ranked : length v.declared.dimensions.items ≡ v.declared.kind.rank = subst (λ (d : Declared). length d.dimensions.items ≡ d.kind.rank) (sym same)
      (static-ranked i y e (ap (λ (d : Declared). d.kind.is_allocatable) (sym same) ∙ alloc)) in
      let there = frame-variable x rooms m (Static i) rooms.statics (statics_of q) x.statics.now w.statics i a v scene.statics st.declared (sym st.statics) alloc ranked
      (λ d at. statics_stand (types_of q) rooms i d at) in
      let of : static_type (slice_get q.statics.items i) ≡ a.of = ap static_type e ∙ ap (λ (d : Declared). d.kind.of) (sym same) ∙ sym v.laid.of in
      subst (λ (y : Object). IsObject q rooms y (to_root (Static i) (static_type (slice_get q.statics.items i)) (right_to unit (slice_get q.statics.items i)) unit (get stored (whole (Static i)))))
      (sym h.1) (of, there)

  -- ---- variables of the activation

  level-block : (n level : ℕ) (ls : List (List Slot)) (r : Room) → slice_get ls level ≡ Some (slot.Stands r ∷ [])
      → (k : ℕ) × (slice_get (starts_of n ls) level ≡ Some (n + k)) × (slice_get (levels_rooms ls) k ≡ Some r.block)
  level-block n level [] r e = absurd cc
  level-block n zero (l ∷ ls) r e =
      let same : l ≡ slot.Stands r ∷ [] = cc in
      (0, ap Some (omega arith), ap (λ (y : List Slot). slice_get (level_rooms y ++ levels_rooms ls) 0) same)
  level-block n (suc level) (l ∷ ls) r e =
      let rest = level-block (n + length (level_rooms l)) level ls r e in
      (length (level_rooms l) + rest.0, rest.1 ∙ ap Some (omega arith), get-behind (level_rooms l) (levels_rooms ls) rest.0 r.block rest.2)
    where
      get-behind : (xs ys : List ℕ) (k b : ℕ) → slice_get ys k ≡ Some b → slice_get (xs ++ ys) (length xs + k) ≡ Some b
      get-behind [] ys k b e = ap (slice_get ys) (omega arith) ∙ e
      get-behind (z ∷ xs) ys k b e = ap (slice_get (z ∷ (xs ++ ys))) (let f : suc (length xs) + k ≡ suc (length xs + k) = omega arith in f) ∙ get-behind xs ys k b e

  module _ (here : IsHere q rooms w.names.items.items w.here t.here) where
    pub own-block : (b : ℕ) → IsBlockOf w w.here.level b → b ≡ here.room.block
    own-block b h =
        let l = level-block 0 w.here.level rooms.levels here.room here.stands in
        let first : Some h.first ≡ Some (0 + l.0) = sym h.level_is ∙ ap (λ xs. slice_get xs w.here.level) st.levels ∙ l.1 in
        let at : h.first ≡ l.0 = (let e : h.first ≡ 0 + l.0 = cc in e ∙ omega arith) in
        let block : Some b ≡ Some here.room.block = sym h.block_is ∙ ap (λ xs. slice_get xs h.first) st.blocks ∙ ap (slice_get (levels_rooms rooms.levels)) at ∙ l.2 in
        cc

    pub block-there : IsBlockOf w w.here.level here.room.block
    block-there =
        let l = level-block 0 w.here.level rooms.levels here.room here.stands in
        record {
          first = l.0;
          level_is = ap (λ xs. slice_get xs w.here.level) st.levels ∙ l.1 ∙ ap Some (omega arith);
          block_is = ap (λ xs. slice_get xs l.0) st.blocks ∙ l.2;
        }

    -- they are not allocatable, and have a dimension for each rank
    pub plain-in : (f : Option ℕ) → ArePlain (variables_of q f)
    plain-in None = plain.main
    plain-in (Some f) = by (slice_get q.procedures.items f) refl
      where
        by : (z : Option Procedure) → slice_get q.procedures.items f ≡ z → ArePlain (declared_by z)
        by None e = λ k d lt. absurd (omega arith)
        by (Some y) e = plain.procedures f y e

    all-declared : (y : Procedure) → are_declared q y ≡ true → (i : ℕ) (d : Declared) → slice_get (declared_in y) i ≡ Some d → is_declared (length q.types.items) d ≡ true
    all-declared y e i d is = all-at (is_declared (length q.types.items)) (declared_in y) i d (both (all (is_declared (length q.types.items)) (declared_in y)) _ e).0 is

    declared-each : all (are_declared q) (q.main ∷ q.procedures.items) ≡ true
    declared-each =
        let rest = (both (are_types q 0 q.types.items) _ formed).1 in
        let more = (both (all (λ (y : static.Static). is_declared (length q.types.items) y.declared) q.statics.items) _ rest).1 in
        (both (all (are_declared q) (q.main ∷ q.procedures.items)) _ more).0

    pub ranked-in : (f : Option ℕ) (i : ℕ) (d : Declared) → slice_get (variables_of q f) i ≡ Some d → is_declared (length q.types.items) d ≡ true
    ranked-in None i d e = all-declared q.main (all-at (are_declared q) (q.main ∷ q.procedures.items) 0 q.main declared-each refl) i d e
    ranked-in (Some f) i d e = by (slice_get q.procedures.items f) refl e
      where
        by : (z : Option Procedure) → slice_get q.procedures.items f ≡ z → slice_get (declared_by z) i ≡ Some d → is_declared (length q.types.items) d ≡ true
        by None g e = absurd cc
        by (Some y) g e = all-declared y (all-at (are_declared q) (q.main ∷ q.procedures.items) (suc f) y declared-each g) i d e

    pub local-stands : (i : ℕ) (d : Declared) (z : Object) (unit : ℕ) → slice_get t.here.variables i ≡ Some d → IsLocal x w i (Some z)
        → IsObject q rooms z (to_root (Local t.here.level i) (type_of (slice_get t.here.variables i)) Define unit (get stored (whole (Local t.here.level i))))
    local-stands i d z unit e h =
        let a : Area = h.0 in
        let g = h.2 in
        let v = g.variable in
        let these : variables_of q w.here.procedure ≡ declared_in g.procedure = g.of.variables in
        let is : slice_get (variables_of q w.here.procedure) i ≡ Some v.declared = ap (λ ds. slice_get ds i) these ∙ v.is in
        let found : Some v.declared ≡ Some d = sym is ∙ ap (λ ds. slice_get ds i) (sym here.variables) ∙ e in
        let same : v.declared ≡ d = cc in
        let alloc : v.declared.kind.is_allocatable ≡ false = at-each (λ (d : Declared). d.kind.is_allocatable ≡ false) (variables_of q w.here.procedure) i v.declared (plain-in w.here.procedure) is in
        let ranked = declared-rank (length q.types.items) v.declared (ranked-in w.here.procedure i v.declared is) alloc in
        let level : w.here.level ≡ t.here.level = sym here.level in
        let number : 0 + i ≡ i = omega arith in
        let there = frame-variable x rooms m (Local t.here.level i) here.room (declared_in g.procedure) g.frame g.block i a v g.of.framed (here.declared ∙ these) (own-block g.block g.there) alloc ranked
        (λ d at. ap (λ (l : ℕ). places.found (types_of q) rooms (Local l i) []) (sym level) ∙ ap (λ (k : ℕ). places.found (types_of q) rooms (Local w.here.level k) []) (sym number)
        ∙ locals_stand (types_of q) rooms w.here.level [] [] here.room here.stands i d at) in
        let of : type_of (slice_get t.here.variables i) ≡ a.of = ap type_of e ∙ ap (λ (d : Declared). d.kind.of) (sym same) ∙ sym v.laid.of in
        subst (λ (y : Object). IsObject q rooms y (to_root (Local t.here.level i) (type_of (slice_get t.here.variables i)) Define unit (get stored (whole (Local t.here.level i))))) (sym h.1) (of, there)

    -- ---- dummies and associate names

    name-at : (ns : List Name) (rs : List Reference) (i : ℕ) (n : Name) (r : Reference) → AreNames q rooms ns rs → slice_get ns i ≡ Some n → IsObject q rooms n.object (slice_index_or rs i r)
    name-at [] rs i n r are e = absurd cc
    name-at (y ∷ ns) [] i n r are e = absurd are
    name-at (y ∷ ns) (z ∷ rs) zero n r are e = let same : y ≡ n = cc in subst (λ (u : Name). IsObject q rooms u.object z) same are.0
    name-at (y ∷ ns) (z ∷ rs) (suc i) n r are e = name-at ns rs i n r are.1 e

    pub lent-stands : (i : ℕ) (z : Object) (r : Reference) → IsLent w i (Some z) → IsObject q rooms z (slice_index_or t.here.names i r)
    lent-stands i z r h = subst (λ (y : Object). IsObject q rooms y (slice_index_or t.here.names i r)) (sym h.2)
        (name-at (names_in w.here.names w.names.items.items) t.here.names i h.0 r here.names.names h.1)

    names-many : (ns : List Name) (rs : List Reference) → AreNames q rooms ns rs → length ns ≡ length rs
    names-many [] [] are = refl
    names-many [] (r ∷ rs) are = absurd are
    names-many (n ∷ ns) [] are = absurd are
    names-many (n ∷ ns) (r ∷ rs) are = let e = names-many ns rs are.1 in omega arith

    kinds-many : (ks : List Kind) (rs : List Reference) → AllRefer ks rs → length ks ≡ length rs
    kinds-many [] [] are = refl
    kinds-many [] (r ∷ rs) are = absurd are
    kinds-many (k ∷ ks) [] are = absurd are
    kinds-many (k ∷ ks) (r ∷ rs) are = let e = kinds-many ks rs are.1 in omega arith

    pub lent-there : (i : ℕ) (ks : List Kind) (k : Kind) → AllRefer ks t.here.names → slice_get ks i ≡ Some k → IsLent w i None → ⊥
    lent-there i ks k refer e none =
        let a = names-many (names_in w.here.names w.names.items.items) t.here.names here.names.names in
        let b = kinds-many ks t.here.names refer in
        let lt = slice_get_within ks i k e in
        let le = none-past (names_in w.here.names w.names.items.items) i none in
        omega arith
      where
        none-past : (ns : List Name) (i : ℕ) → slice_get ns i ≡ None → length ns ≤ i
        none-past [] i e = omega arith
        none-past (n ∷ ns) zero e = absurd cc
        none-past (n ∷ ns) (suc i) e = let h = none-past ns i e in omega arith
