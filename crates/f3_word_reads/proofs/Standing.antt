-- Scalars that stand in rooms, or are held.
use Rattle.std.proofs.Common.{◌≡◌, ◌≢◌, ◌∙◌, sym, ap, subst, refl, ℕ, zero, suc, ◌+◌, ◌<◌, ◌≤◌, true, false, List, [], ◌∷◌, ◌++◌, length, map, get_or, arith}
use Rattle.std.specs.Prelude.{Some, pos, slice_get, slice_index_or}
use Rattle.std.proofs.lemmas.List.{get_or-append-add}
use Rattle.std.specs.Bool.{◌==◌}
use Rattle.std.proofs.lemmas.Bool.{eqb-true, eqb-false}
use Rattle.f3_desc.specs.declared.descriptor.Dim.{Dim}
use Rattle.f3_program.specs.declared.declarations.Base.{Base}
use Rattle.f3_program.specs.declared.declarations.Base.TheVariants as base
use Rattle.f3_program.specs.declared.declarations.Constant.{Constant}
use Rattle.f3_program.specs.declared.declarations.Declared.{Declared}
use Rattle.f3_program.specs.declared.declarations.Derived.{Derived}
use Rattle.f3_program.specs.declared.program.Program.{Program}
use Rattle.f3_live_blocks.specs.Blocks.{Live, IsLive, words_of}
use Rattle.f3_meaning_whole.specs.Value.{Value, Unallocated}
use Rattle.f3_meaning_whole.specs.Store.{Path, at_root, get, part}
use Rattle.f3_meaning_whole.specs.Reference.{Reach, One, Many, Reference, held_at}
use Rattle.f3_meaning_whole.specs.Arithmetic.{constant_value}
use Rattle.f3_meaning_whole.specs.Shape.{Shape, Whole, Logical, Record, shapes_of}
use Rattle.f3_rooms.specs.Held.{Held, Row, others}
use Rattle.f3_rooms.specs.Forms.{words_for, room}
use Rattle.f3_rooms.specs.Values.{word, object, variables}
use Rattle.f3_rooms.specs.Rooms.{Rooms, Slot, Known, Stands, level_values, room_values, store_of}
use Rattle.f3_rooms.specs.Ways.{numbers}
use Rattle.f3_rooms.specs.Places.{is_scalar_shape}
use Rattle.f3_rooms.specs.Sound.{IsSound}
use Rattle.f3_room_places.specs.declared.types.Types.{Types}
use Rattle.f3_room_places.specs.Places.{HasTables}
use Rattle.f3_type_words.specs.Tables.{AreTables}
use Rattle.f3_room_arrays.specs.Elements.{StandsAt}
use Rattle.f3_room_arrays.proofs.Objects.{object-is, object-live, object-within}
use Rattle.f3_word_cells.specs.declared.cell.Area.{Area}
use Rattle.f3_word_cells.specs.declared.cell.Object.TheVariants as o
use Rattle.f3_word_cells.specs.Areas.{types_of, shape_for, AreThere, IsHeld}
use Rattle.f3_word_reads.specs.Scalars.{scalar_of}
use Rattle.f3_word_reads.specs.Reads.{IsThere}
use Rattle.f3_word_reads.proofs.Types.{scalar-derived}

-- ---- no dimensions

pub no-dims : (ds : List Dim) → true ≡ (length ds == 0) → ds ≡ []
no-dims [] e = refl
no-dims (d ∷ ds) e = let f = eqb-true (length (d ∷ ds)) 0 (sym e) in absurd (omega arith)

pub some-dims : (ds : List Dim) → false ≡ (length ds == 0) → ds ≢ []
some-dims ds e h = eqb-false (length ds) 0 (sym e) (ap length h)

-- ---- values that are held

mapped : {X Y : Type 0} (f : X → Y) (xs : List X) (k : ℕ) (y : X) (d : Y) → slice_get xs k ≡ Some y → slice_index_or (map f xs) k d ≡ f y
mapped f [] k y d e = absurd cc
mapped f (x ∷ xs) zero y d e = ap f (same e)
  where
    same : Some x ≡ Some y → x ≡ y
    same h = cc
mapped f (x ∷ xs) (suc k) y d e = mapped f xs k y d e

variables-many : (ts : List Shape) (m : Live) (ds : List Declared) (b at : ℕ) (hs : Row) → length (variables ts m ds b at hs) ≡ length ds
variables-many ts m [] b at hs = refl
variables-many ts m (d ∷ ds) b at hs = let e = variables-many ts m ds b (at + room ts d) (others hs) in omega arith

known-there : (ts : List Shape) (m : Live) (front behind : List Slot) (v d : Value) → get_or (level_values ts m (front ++ Known v ∷ behind)) (numbers front) d ≡ v
known-there ts m [] behind v d = refl
known-there ts m (Known w ∷ front) behind v d =
    let e : 1 + numbers front ≡ suc (numbers front) = omega arith in
    ap (λ k. get_or (w ∷ level_values ts m (front ++ Known v ∷ behind)) k d) e ∙ known-there ts m front behind v d
known-there ts m (Stands r ∷ front) behind v d =
    ap (λ k. get_or (room_values ts m r ++ level_values ts m (front ++ Known v ∷ behind)) (k + numbers front) d) (sym (variables-many ts m r.declared r.block 0 r.held))
    ∙ get_or-append-add (room_values ts m r) (level_values ts m (front ++ Known v ∷ behind)) (numbers front) d
    ∙ known-there ts m front behind v d

pub held-value : (ts : List Shape) (m : Live) (x : Rooms) (q : Path) (v : Value) → IsHeld x q v → get (store_of ts m x) q ≡ v
held-value ts m x q v is =
    ap (λ way. part (at_root (store_of ts m x) q.root) way) is.steps
    ∙ ap (at_root (store_of ts m x)) is.root
    ∙ ap (λ vs. slice_index_or vs (numbers is.front) Unallocated) (mapped (level_values ts m) x.levels is.level (is.front ++ Known v ∷ is.behind) [] is.stands)
    ∙ known-there ts m is.front is.behind v Unallocated

pub constant-held : (p : Program) (types : Types) (m : Live) (x : Rooms) (of : Base) (c : Constant) (r : Reference) → IsThere p types m x (o.Held of c) r
    → held_at (store_of (types_of p) m x) r.path r.reach ≡ constant_value c
constant-held p types m x of c r there =
    ap (held_at (store_of (types_of p) m x) r.path) there.is.1 ∙ held-value (types_of p) m x r.path (constant_value c) there.is.4

-- ---- scalars that stand there

pub tables-for : (p : Program) (types : Types) → types.derived.now ≡ p.types.items → HasTables types → AreTables (types_of p) types.tables.now
tables-for p types e has = subst (λ (ts : List Derived). AreTables (shapes_of ts) types.tables.now) e has

pub scalar-object : (p : Program) (types : Types) → AreTables (types_of p) types.tables.now → (m : Live) (of : Base) (b at : ℕ) (h : Held) → is_scalar_shape (shape_for p of) ≡ true
    → object m (shape_for p of) b at h ≡ scalar_of of (word m b at)
scalar-object p types are m base.Integer b at h e = refl
scalar-object p types are m base.Long b at h e = refl
scalar-object p types are m base.Logical b at h e = refl
scalar-object p types are m (base.Derived t) b at h e = ap (λ s. object m s b at h) (scalar-derived p.types.items types.tables.now are t e)

pub scalar-words : (s : Shape) → is_scalar_shape s ≡ true → words_for s ≡ 1
scalar-words Whole e = refl
scalar-words Logical e = refl
scalar-words (Record t parts) e = absurd cc

module _ (p : Program) (m : Live) (x : Rooms) (sound : IsSound (types_of p) m x) (a : Area) (none : (a.elements).dims.items ≡ []) where
  pub one-stands : (q : Path) (reach : Reach) → AreThere p x a q reach → StandsAt (types_of p) x (a.elements).block (shape_for p a.of) (pos (a.elements).offset) q
  one-stands q One there = there.1
  one-stands q (Many ss ps) there = absurd (there.0 none)

  pub one-meant : (q : Path) (reach : Reach) → AreThere p x a q reach → reach ≡ One
  one-meant q One there = refl
  one-meant q (Many ss ps) there = absurd (there.0 none)

  pub one-live : (q : Path) (reach : Reach) → AreThere p x a q reach → IsLive m (a.elements).block
  one-live q reach there = object-live (types_of p) m x sound (a.elements).block (shape_for p a.of) (pos (a.elements).offset) q (one-stands q reach there)

  module _ (scalar : is_scalar_shape (shape_for p a.of) ≡ true) where
    pub one-within : (q : Path) (reach : Reach) → AreThere p x a q reach → (a.elements).offset < length (words_of m (a.elements).block)
    one-within q reach there =
        let w : (a.elements).offset + words_for (shape_for p a.of) ≤ length (words_of m (a.elements).block) =
        object-within (types_of p) m x sound (a.elements).block (shape_for p a.of) (pos (a.elements).offset) q (one-stands q reach there) in
        let n = scalar-words (shape_for p a.of) scalar in
        omega arith

    pub one-value : (types : Types) → AreTables (types_of p) types.tables.now → (q : Path) (reach : Reach) → AreThere p x a q reach
        → held_at (store_of (types_of p) m x) q reach ≡ scalar_of a.of (word m (a.elements).block (a.elements).offset)
    one-value types are q reach there =
        ap (held_at (store_of (types_of p) m x) q) (one-meant q reach there)
        ∙ object-is (types_of p) m x sound (a.elements).block (shape_for p a.of) (pos (a.elements).offset) q (one-stands q reach there)
        ∙ scalar-object p types are m a.of (a.elements).block (a.elements).offset _ scalar
