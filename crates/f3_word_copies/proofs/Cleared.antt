-- Nothing is allocated beneath objects.
use Rattle.std.proofs.Common.{◌≡◌, ◌∙◌, sym, ap, subst, refl, ℕ, zero, suc, ◌+◌, Bool, true, false, List, [], ◌∷◌, map}
use Rattle.std.specs.Prelude.{◌||◌, Some, Ok, slice_get, slice_index_or, slice_set, ℤ}
use Rattle.std.specs.List.{All, AllZip}
use Rattle.f3_program.specs.declared.declarations.Constant.{Constant}
use Rattle.f3_program.specs.declared.declarations.Constant.TheVariants as constant
use Rattle.f3_program.specs.declared.declarations.Kind.{Kind}
use Rattle.f3_program.specs.declared.program.Program.{Program}
use Rattle.f3_live_blocks.specs.Blocks.{Live}
use Rattle.f3_meaning_whole.specs.Value.{Value, Number, Truth, Composite, Array, Unallocated, Allocated, Values, none, more, joined, count, cleared, all_cleared}
use Rattle.f3_meaning_whole.specs.Store.{Store, Root, Static, Local, Step, Component, Element, Contents, Path, at_root, with_root, part, part_at, with_part, with_part_at, get, put, put_all}
use Rattle.f3_meaning_whole.specs.Shape.{Shape, Whole, Logical, Record, Parts, nothing, and}
use Rattle.f3_meaning_whole.specs.Reference.{Reach, Reference, paths, paths_by}
use Rattle.f3_meaning_whole.specs.Ran.{World}
use Rattle.f3_meaning_whole.specs.Act.{change}
use Rattle.f3_meaning_whole.specs.Arithmetic.{constant_value}
use Rattle.f3_code.specs.declared.instruction.Instruction.TheVariants as i
use Rattle.f3_code.specs.State.{Line, placed}
use Rattle.f3_code.specs.State as s
use Rattle.f3_cell_kinds.specs.Types.{CellType, Site}
use Rattle.f3_cell_kinds.specs.Types as cell
use Rattle.f3_cell_kinds.specs.Laws.{site_at}
use Rattle.f3_desc.specs.Shape.{Shape as Layout, Times, row, has_holder}
use Rattle.f3_rooms.specs.Held.{Held, Row, parts_of, first, others}
use Rattle.f3_rooms.specs.Forms.{Form, Laid, Allocatable, form_of, form_words, words_for}
use Rattle.f3_rooms.specs.Values.{elements, formed, object, components}
use Rattle.f3_rooms.specs.Rooms.{Rooms, store_of}
use Rattle.f3_rooms.specs.Sound.{IsSound}
use Rattle.f3_rooms.specs.Flat.{is_flat}
use Rattle.f3_rooms.proofs.Framing.{Reading}
use Rattle.f3_desc.specs.Descriptor.{places}
use Rattle.f3_room_objects.specs.Trees.{layout_for, layouts_for, formed_as}
use Rattle.f3_room_arrays.specs.Elements.{IsFlat, StandsAt}
use Rattle.f3_room_arrays.proofs.Objects.{object-is}
use Rattle.f3_word_cells.specs.declared.cell.Object.{Object}
use Rattle.f3_word_cells.specs.declared.cell.Object.TheVariants as o
use Rattle.f3_word_cells.specs.declared.state.State.{State}
use Rattle.f3_word_cells.specs.Areas.{types_of, shape_for, IsObject}
use Rattle.f3_word_cells.specs.Scenes.{code_of}
use Rattle.f3_word_cells.specs.Moves.{Moved}
use Rattle.f3_word_cells.specs.Does.{Does, IsTold, stream}
use Rattle.f3_word_cells.proofs.OnTop.{line_kinds}
use Rattle.f3_word_cells.proofs.Moving.{moved_to}
use Rattle.f3_word_cells.proofs.Amid.{Amid, amid_first, amid_last, amid_moved}
use Rattle.f3_word_cells.proofs.Orderly.{IsAfter, after_way}
use Rattle.f3_word_cells.proofs.Lines.{answering, line_goes, performs_does}
use Rattle.f3_word_reads.proofs.Tops.{ObjectOnTop, object-on-top, object-there}
use Rattle.f3_word_reads.proofs.Flatness.{flat_for}
use Rattle.f3_word_reads.proofs.Areas.{tells-all}
use Rattle.f3_word_reads.proofs.Standing.{held-value}

-- ---- what stands there, put there

mutual
  part-same : (v : Value) (way : List Step) → with_part v way (part v way) ≡ v
  part-same v [] = refl
  part-same (Number z) (x ∷ way) = refl
  part-same (Truth b) (x ∷ way) = refl
  part-same Unallocated (x ∷ way) = refl
  part-same (Composite vs) (Component k ∷ way) = ap Composite (part-at-same vs k way)
  part-same (Composite vs) (Element k ∷ way) = refl
  part-same (Composite vs) (Contents ∷ way) = refl
  part-same (Array ss vs) (Component k ∷ way) = refl
  part-same (Array ss vs) (Element k ∷ way) = ap (Array ss) (part-at-same vs k way)
  part-same (Array ss vs) (Contents ∷ way) = refl
  part-same (Allocated v) (Component k ∷ way) = refl
  part-same (Allocated v) (Element k ∷ way) = refl
  part-same (Allocated v) (Contents ∷ way) = ap Allocated (part-same v way)

  part-at-same : (vs : Values) (k : ℕ) (way : List Step) → with_part_at vs k way (part_at vs k way) ≡ vs
  part-at-same none k way = refl
  part-at-same (more v vs) zero way = ap (λ u. more u vs) (part-same v way)
  part-at-same (more v vs) (suc k) way = ap (more v) (part-at-same vs k way)

set-same : {X : Type 0} (xs : List X) (k : ℕ) (d : X) → slice_set xs k (slice_index_or xs k d) ≡ xs
set-same [] k d = refl
set-same (x ∷ xs) zero d = refl
set-same (x ∷ xs) (suc k) d = ap (λ l. x ∷ l) (set-same xs k d)

root-same : (store : Store) (r : Root) → with_root store r (at_root store r) ≡ store
root-same store (Static k) = ap (λ (vs : List Value). let st : Store = record { statics = vs; levels = store.levels } in st) (set-same store.statics k Unallocated)
root-same store (Local l k) =
    ap (λ (vs : List Value). let st : Store = record { statics = store.statics; levels = slice_set store.levels l vs } in st) (set-same (slice_index_or store.levels l []) k Unallocated)
    ∙ ap (λ (ls : List (List Value)). let st : Store = record { statics = store.statics; levels = ls } in st) (set-same store.levels l [])

pub put-same : (store : Store) (p : Path) → put store p (get store p) ≡ store
put-same store p = ap (with_root store p.root) (part-same (at_root store p.root) p.steps) ∙ root-same store p.root

-- ---- nothing is allocated

none-first : (a b : Bool) → a || b ≡ false → a ≡ false
none-first true b e = absurd cc
none-first false b e = refl

none-second : (a b : Bool) → a || b ≡ false → b ≡ false
none-second true b e = absurd cc
none-second false b e = e

abbrev IsClear : Reading → Type 0
IsClear f = (b o : ℕ) (h : Held) → cleared (f b o h) ≡ f b o h

elements-clear : (k n : ℕ) (f : Reading) → IsClear f → (b o : ℕ) (hs : Row) → all_cleared (joined (elements k n f b o hs)) ≡ joined (elements k n f b o hs)
elements-clear zero n f is b o hs = refl
elements-clear (suc k) n f is b o hs =
    ap (λ v. more v (all_cleared (joined (elements k n f b (o + n) (others hs))))) (is b o (first hs)) ∙ ap (more (f b o (first hs))) (elements-clear k n f is b (o + n) (others hs))

row-clear : (k n : ℕ) (l : Layout) (f : Reading) → has_holder (Times k l) ≡ false → (has_holder l ≡ false → IsClear f) → (b o : ℕ) (hs : Row) → all_cleared (joined (elements k n f b o hs)) ≡ joined (elements k n f b o hs)
row-clear zero n l f flat is b o hs = refl
row-clear (suc k) n l f flat is b o hs = elements-clear (suc k) n f (is flat) b o hs

form-clear : (form : Form) (n : ℕ) (l : Layout) (f : Reading) → has_holder (formed_as form l) ≡ false → (has_holder l ≡ false → IsClear f) → IsClear (formed form n f)
form-clear (Laid zero ss) n l f flat is b o h = is flat b o h
form-clear (Laid (suc rank) ss) n l f flat is b o h = ap (Array ss) (row-clear (count ss) n l f flat is b o (parts_of h))
form-clear (Allocatable rank) n l f flat is b o h = absurd cc

mutual
  object-clear : (m : Live) (s : Shape) → IsFlat s → IsClear (object m s)
  object-clear m Whole flat b o h = refl
  object-clear m Logical flat b o h = refl
  object-clear m (Record t parts) flat b o h = ap Composite (components-clear m parts flat b o (parts_of h))

  components-clear : (m : Live) (parts : Parts) → has_holder (row (layouts_for parts)) ≡ false → (b o : ℕ) (hs : Row) → all_cleared (components m parts b o hs) ≡ components m parts b o hs
  components-clear m nothing flat b o hs = refl
  components-clear m (and d s rest) flat b o hs =
      let here = none-first (has_holder (formed_as (form_of d.declared) (layout_for s))) (has_holder (row (layouts_for rest))) flat in
      let there = none-second (has_holder (formed_as (form_of d.declared) (layout_for s))) (has_holder (row (layouts_for rest))) flat in
      ap (λ v. more v (all_cleared (components m rest b (o + form_words (form_of d.declared) (words_for s)) (others hs)))) (form-clear (form_of d.declared) (words_for s) (layout_for s) (object m s) here (object-clear m s) b o (first hs))
      ∙ ap (more (formed (form_of d.declared) (words_for s) (object m s) b o (first hs))) (components-clear m rest there b (o + form_words (form_of d.declared) (words_for s)) (others hs))

constant-clear : (k : Constant) → cleared (constant_value k) ≡ constant_value k
constant-clear (constant.Number z) = refl
constant-clear (constant.Truth b) = refl

-- ---- so the store stays

module _ (ts : List Shape) (m : Live) (x : Rooms) (sound : IsSound ts m x) (b : ℕ) (s : Shape) (flat : IsFlat s) where
  abbrev st : Store
  st = store_of ts m x

  path-clear : (z : ℤ) (p : Path) → StandsAt ts x b s z p → cleared (get st p) ≡ get st p
  path-clear z p stands = let is = object-is ts m x sound b s z p stands in ap cleared is ∙ object-clear m s flat b _ _ ∙ sym is

  paths-clear : (zs : List ℤ) (ps : List Path) → AllZip (StandsAt ts x b s) zs ps → put_all ps (map (λ p. cleared (get st p)) ps) st ≡ st
  paths-clear [] [] stand = refl
  paths-clear [] (p ∷ ps) stand = absurd stand
  paths-clear (z ∷ zs) [] stand = absurd stand
  paths-clear (z ∷ zs) (p ∷ ps) stand =
      ap (put_all ps (map (λ q. cleared (get st q)) ps)) (ap (put st p) (path-clear z p stand.0) ∙ put-same st p) ∙ paths-clear zs ps stand.1

pub clear-same : (p : Program) (m : Live) (x : Rooms) (w : Object) (r : Reference) → All (λ z. is_flat z ≡ true) (types_of p) → IsSound (types_of p) m x → IsObject p x w r
    → put_all (paths r) (map (λ q. cleared (get (store_of (types_of p) m x) q)) (paths r)) (store_of (types_of p) m x) ≡ store_of (types_of p) m x
clear-same p m x (o.Held of k) r flat sound is =
    let st : Store = store_of (types_of p) m x in
    let value = held-value (types_of p) m x r.path (constant_value k) is.4 in
    ap (λ (reach : Reach). put_all (paths_by r.path reach) (map (λ q. cleared (get st q)) (paths_by r.path reach)) st) is.1
    ∙ ap (put st r.path) (ap cleared value ∙ constant-clear k ∙ sym value) ∙ put-same st r.path
clear-same p m x (o.Stands a) r flat sound is =
    paths-clear (types_of p) m x sound (a.elements).block (shape_for p a.of) (flat_for (types_of p) flat a.of) (places a.elements) (paths r) (tells-all p x a r.path r.reach is.1)

-- ---- the line

pub record OnClear (p : Program) (t : s.State) : Type 0 where
  pub kind : Kind
  pub rest : List CellType
  pub kinds : (site_at p t.pc).cells ≡ cell.Object kind ∷ rest
  pub next : IsAfter p t.pc (t.pc + 1) (cell.Object kind ∷ rest)
  pub top : ObjectOnTop kind t.stack

on-clear : (p : Program) (t : s.State) (l : Line) → IsTold p t → slice_get (code_of p).lines t.pc ≡ Some l → l.act ≡ i.Clear → OnClear p t
on-clear p t l told at act =
    let d = line_kinds p t l i.Clear told at act in
    let leads = d.1 in
    record { kind = d.0; rest = leads.rest; kinds = leads.before; next = after_way p t.pc (t.pc + 1) (cell.Object d.0 ∷ []) leads.rest leads.next; top = object-on-top p t d.0 leads.rest told leads.before }

pub clears : (old new : State) → Moved (old.pc + 1) old new → Does i.Clear (Ok tt) old new
clears old new moved p m t l x told at act st =
    let on = on-clear p t l told at act in
    let r = on.top.reference in
    let stack : List s.Cell = s.Object r ∷ on.top.below in
    let ks : List CellType = cell.Object on.kind ∷ on.rest in
    let begun = amid_first p t m old x ks stack st on.kinds on.top.split in
    let there = object-there p m _ x old.names.items.items old.here t.here _ r on.top.below on.kind on.rest begun.known begun.cells in
    let is : IsObject p x there.0 r = there.3 in
    let stored : Store = put_all (paths r) (map (λ q. cleared (get (t.world).store q)) (paths r)) (t.world).store in
    let same : stored ≡ (t.world).store =
    ap (λ (z : Store). put_all (paths r) (map (λ q. cleared (get z q)) (paths r)) z) st.store ∙ clear-same p m x there.0 r told.plain.types st.sound is ∙ sym st.store in
    let world : World = answering stored (t.world).answers in
    let amid = amid_moved p t m old old new x ks stack stored [] (old.pc + 1) (subst (λ (z : Store). Amid p t m old old x ks stack z []) (sym same) begun) moved in
    let line : t.pc + 1 ≡ new.pc = ap (λ k. k + 1) st.pc ∙ sym (ap (λ (w : State). w.pc) moved.is) in
    record {
      next = moved_to t (t.pc + 1) stack t.here world;
      rooms = x;
      goes = line_goes p l t i.Clear stack (moved_to t (t.pc + 1) stack t.here world) [] tt _ act on.top.split
          (λ rest. performs_does (λ store. change r (placed l.place t.here) (map (λ q. cleared (get store q)) (paths r))) (answering (t.world).store (stream [] rest)) _);
      stands = amid_last p t m m old new x ks (t.pc + 1) stack world st amid on.next line;
    }
