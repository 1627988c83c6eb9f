-- Objects take a value of their type.
use Rattle.std.proofs.Common.{◌≡◌, ◌≢◌, ◌∙◌, sym, ap, subst, refl, inl, inr, ℕ, zero, suc, ◌*◌, ◌/◌, ◌<◌, ◌≤◌, List, [], ◌∷◌, length, take, arith}
use Rattle.std.specs.Prelude.{◌⊎◌, ℤ, pos}
use Rattle.std.proofs.Math.Nat.{mul-div_cancel}
use Rattle.f3_program.specs.declared.declarations.Constant.{Constant}
use Rattle.f3_program.specs.declared.program.Program.{Program}
use Rattle.f3_live_blocks.specs.Blocks.{Live, IsLive, words_of, with_words}
use Rattle.f3_meaning_whole.specs.Value.{Value, joined, count, spread}
use Rattle.f3_meaning_whole.specs.Shape.{Shape, initial_of}
use Rattle.f3_meaning_whole.specs.Store.{Store, Path, put_all}
use Rattle.f3_meaning_whole.specs.Reference.{Reference, paths}
use Rattle.f3_meaning_whole.specs.Arithmetic.{constant_value}
use Rattle.f3_desc.specs.declared.descriptor.Dim.{Dim}
use Rattle.f3_desc.specs.Descriptor.{places, progression}
use Rattle.f3_desc.specs.Laws.{size_of}
use Rattle.f3_rooms.specs.Held.{Empty, times}
use Rattle.f3_rooms.specs.Forms.{words_for}
use Rattle.f3_rooms.specs.Values.{laid, object}
use Rattle.f3_rooms.specs.Rooms.{Rooms, blocks_of, store_of}
use Rattle.f3_rooms.specs.Sound.{IsSound}
use Rattle.f3_rooms.proofs.Framing.{one_here}
use Rattle.f3_room_places.specs.declared.types.Types.{Types}
use Rattle.f3_room_levels.specs.Initial.{IsOf, TypeCanBegin, word_of, object_words}
use Rattle.f3_room_arrays.specs.Words.{copied}
use Rattle.f3_room_arrays.specs.Elements.{IsFlat, Tells, row}
use Rattle.f3_room_arrays.specs.Changes.{LieWithin}
use Rattle.f3_room_arrays.proofs.Numbers.{places-many}
use Rattle.f3_word_cells.specs.declared.cell.Area.{Area}
use Rattle.f3_word_cells.specs.declared.cell.Datum.{Datum}
use Rattle.f3_word_cells.specs.declared.cell.Datum.TheVariants as datum
use Rattle.f3_word_cells.specs.declared.cell.Object.TheVariants as o
use Rattle.f3_word_cells.specs.Areas.{types_of, shape_for, spans_of}
use Rattle.f3_room_levels.proofs.Widths.{object_many}
use Rattle.f3_word_copies.proofs.Fresh.{shows-initial, repeat-initial}
use Rattle.f3_word_copies.specs.Spread.{spread_over, fewer_of}
use Rattle.f3_word_reads.specs.Reads.{IsThere}
use Rattle.f3_word_copies.specs.Puts.{CanTake, Takes}
use Rattle.f3_word_reads.proofs.Flatness.{flat_for}
use Rattle.f3_word_copies.proofs.Fewer.{fewer-first, fewer-second, quotient-within}
use Rattle.f3_word_reads.proofs.Areas.{tells-all, many-all, count-size, among, all-within}
use Rattle.f3_word_copies.proofs.Taken.{repeat, Shows, repeat-constant, repeat-object, spread-array, listed-joined, shows-constant, constant-long, shows-block, spread-objects, none-put, put-both, own-put, takes-as, takes-none}

pub same-block : (d : Datum) (a b : Area) → d ≡ datum.Block a → d ≡ datum.Block b → a ≡ b
same-block d a b e f = by (sym e ∙ f)
  where
    by : datum.Block a ≡ datum.Block b → a ≡ b
    by g = cc

no-paths : (ps : List Path) (vs : List Value) (st : Store) → length ps ≡ 0 → st ≡ put_all ps vs st
no-paths [] vs st e = refl
no-paths (p ∷ ps) vs st e = absurd (omega arith)

either-size : (k : ℕ) → (k ≡ 0) ⊎ (0 < k)
either-size zero = inl refl
either-size (suc k) = inr (omega arith)

module _ (p : Program) (types : Types) (m : Live) (x : Rooms) (a : Area) (r : Reference) (there : IsThere p types m x (o.Stands a) r) where
  abbrev ts : List Shape
  ts = types_of p

  abbrev s : Shape
  s = shape_for p a.of

  abbrev ps : List Path
  ps = paths r

  abbrev block : ℕ
  block = (a.elements).block

  abbrev size : ℕ
  size = size_of (a.elements).dims.items

  tells : Tells ts x a.elements s ps
  tells = tells-all p x a r.path r.reach there.is.1

  flat : IsFlat s
  flat = flat_for ts there.flat a.of

  many : size ≡ length ps
  many = many-all p x a ps tells

  spots : length (places a.elements) ≡ size
  spots = places-many (pos (a.elements).offset) (a.elements).dims.items

  pub take-within : 0 < size → LieWithin m a.elements (words_for s)
  take-within some = all-within p m x a ps there.sound tells some

  live : 0 < size → IsLive m block
  live some = (take-within some).live

  pub is-among : 0 < size → 0 < times block (blocks_of x)
  is-among some = let n = spots in among ts x block s (places a.elements) ps tells (omega arith)

  -- nothing changes where there is none
  none-takes : (n : Live) (v : Value) → size ≡ 0 → n ≡ m → Takes p m n x r v
  none-takes n v none is = let l = many in takes-none p m n x r v there.sound is (no-paths ps (spread (length ps) v) (store_of ts m x) (omega arith))

  spread-takes : (n : Live) (ws : List ℤ) (long : length ws ≡ words_for s) (v : Value) → Shows s ws v → repeat (length ps) v ≡ spread (length ps) v
      → (size ≡ 0 → n ≡ m) → (0 < size → n ≡ with_words m block (spread_over (words_of m block) ws (places a.elements))) → Takes p m n x r v
  spread-takes n ws long v shows same none some = by (either-size size)
    where
      by : (size ≡ 0) ⊎ (0 < size) → Takes p m n x r v
      by (inl e) = none-takes n v e (none e)
      by (inr lt) =
          let is = some lt in
          let puts = spread-objects ts x s flat ws long v shows block m there.sound (live lt) (places a.elements) ps tells in
          takes-as p m n x r v block (spread_over (words_of m block) ws (places a.elements)) (is-among lt) (live lt) is
          (ap (λ (k : Live). store_of ts k x) is ∙ puts.store ∙ ap (λ vs. put_all ps vs (store_of ts m x)) same)
          (subst (λ (k : Live). IsSound ts k x) (sym is) puts.sound)

  pub scalar-takes : (n : Live) (c : Constant) (v : Value) → v ≡ constant_value c → IsOf s c → (size ≡ 0 → n ≡ m)
      → (0 < size → n ≡ with_words m block (spread_over (words_of m block) (word_of c ∷ []) (places a.elements))) → Takes p m n x r v
  scalar-takes n c v is of none some =
      subst (Takes p m n x r) (sym is) (spread-takes n (word_of c ∷ []) (constant-long s c of) (constant_value c) (shows-constant s c of) (repeat-constant (length ps) c) none some)

  pub scalar-within : (c : Constant) → IsOf s c → 0 < size → LieWithin m a.elements (length (word_of c ∷ []))
  scalar-within c of some = subst (LieWithin m a.elements) (sym (constant-long s c of)) (take-within some)

  pub initial-takes : (n : Live) → TypeCanBegin s → (size ≡ 0 → n ≡ m) → (0 < size → n ≡ with_words m block (spread_over (words_of m block) (object_words s) (places a.elements))) → Takes p m n x r (initial_of s)
  initial-takes n can none some = spread-takes n (object_words s) (object_many s can) (initial_of s) (shows-initial p.types.alloc s flat can) (repeat-initial (length ps) s) none some

  pub initial-within : TypeCanBegin s → 0 < size → LieWithin m a.elements (length (object_words s))
  initial-within can some = subst (LieWithin m a.elements) (sym (object_many s can)) (take-within some)

  module _ (b : Area) (v : Value) (can : CanTake p types m x a r (datum.Block b) v) where
    abbrev from : ℕ
    from = (b.elements).block

    words-long : length (words_of m from) ≡ size_of (b.elements).dims.items * words_for s
    words-long = can.value.0.words ∙ ap (λ (u : Shape). size_of (b.elements).dims.items * words_for u) can.agrees

    pub from-live : IsLive m from
    from-live = can.value.0.live

    pub from-apart : 0 < size → from ≢ block
    from-apart some e =
        let among = is-among some in
        let none : times from (blocks_of x) ≡ 0 = can.apart from (one_here from []) in
        let f : times from (blocks_of x) ≡ times block (blocks_of x) = ap (λ q. times q (blocks_of x)) e in
        absurd (omega arith)

    value-is : v ≡ laid (length (b.elements).dims.items) (spans_of (b.elements).dims.items) (words_for s) (object m s) from 0 Empty
    value-is = can.value.1 ∙ ap (λ (u : Shape). laid (length (b.elements).dims.items) (spans_of (b.elements).dims.items) (words_for u) (object m u) from 0 Empty) can.agrees

    module _ (single : (b.elements).dims.items ≡ []) where
      one-long : length (words_of m from) ≡ words_for s
      one-long = let e : size_of (b.elements).dims.items ≡ 1 = ap size_of single in words-long ∙ ap (λ k. k * words_for s) e ∙ (let f : 1 * words_for s ≡ words_for s = omega arith in f)

      pub one-within : 0 < size → LieWithin m a.elements (length (words_of m from))
      one-within some = subst (LieWithin m a.elements) (sym one-long) (take-within some)

      pub one-takes : (n : Live) → (size ≡ 0 → n ≡ m) → (0 < size → n ≡ with_words m block (spread_over (words_of m block) (words_of m from) (places a.elements))) → Takes p m n x r v
      one-takes n none some =
          let is = value-is ∙ ap (λ (es : List Dim). laid (length es) (spans_of es) (words_for s) (object m s) from 0 Empty) single in
          subst (Takes p m n x r) (sym is) (spread-takes n (words_of m from) one-long (object m s from 0 Empty) (shows-block m s flat from) (repeat-object (length ps) m s from 0 Empty) none some)

    module _ (array : (b.elements).dims.items ≢ []) where
      abbrev total : ℕ
      total = size_of (b.elements).dims.items

      rows-by : (es : List Dim) → es ≢ [] → spread (length ps) (laid (length es) (spans_of es) (words_for s) (object m s) from 0 Empty) ≡ row m s (size_of es) from 0
      rows-by [] some = absurd (some refl)
      rows-by (d ∷ es) some =
          spread-array (length ps) (spans_of (d ∷ es)) (joined (row m s (count (spans_of (d ∷ es))) from 0)) ∙ listed-joined (row m s (count (spans_of (d ∷ es))) from 0)
          ∙ ap (λ (k : ℕ). row m s k from 0) (count-size (d ∷ es))

      values-are : spread (length ps) v ≡ row m s total from 0
      values-are = ap (spread (length ps)) value-is ∙ rows-by (b.elements).dims.items array

      pub array-takes : (n : Live) → (size * words_for s ≡ 0 → n ≡ m)
          → (0 < size → 0 < words_for s → n ≡ with_words m block (copied (words_for s) (words_of m block) (words_of m from)
          (take (fewer_of size (length (words_of m from) / words_for s)) (places a.elements)) (progression (pos 0) (pos (words_for s)) (fewer_of size (length (words_of m from) / words_for s)))))
          → Takes p m n x r v
      array-takes n none some = by (either-size size) (either-size (words_for s))
        where
          by : (size ≡ 0) ⊎ (0 < size) → (words_for s ≡ 0) ⊎ (0 < words_for s) → Takes p m n x r v
          by (inl e) w = none-takes n v e (none (let f : size * words_for s ≡ 0 * words_for s = ap (λ k. k * words_for s) e in omega arith))
          by (inr lt) (inl e) =
              takes-none p m n x r v there.sound (none (let f : size * words_for s ≡ size * 0 = ap (λ k. size * k) e in omega arith))
              (sym (ap (λ vs. put_all ps vs (store_of ts m x)) values-are ∙ none-put ts m x there.sound s flat e block from (places a.elements) ps tells (live lt) total 0))
          by (inr lt) (inr le) =
              let count : ℕ = fewer_of size (length (words_of m from) / words_for s) in
              let is = some lt le in
              let few : count ≤ size = fewer-first size (length (words_of m from) / words_for s) in
              let room : count * words_for s ≤ length (words_of m from) = quotient-within (length (words_of m from)) (words_for s) count le (fewer-second size (length (words_of m from) / words_for s)) in
              let l = many in
              let puts = own-put ts m x s flat there.sound from block (live lt) (places a.elements) ps tells count (omega arith) room in
              let quotient : length (words_of m from) / words_for s ≡ total = divided (length (words_of m from)) (words_for s) total le words-long in
              let both = put-both m s from size (length (words_of m from) / words_for s) ps (store_of ts m x) many in
              takes-as p m n x r v block _ (is-among lt) (live lt) is
              (ap (λ (k : Live). store_of ts k x) is ∙ puts.store ∙ both ∙ ap (λ (k : ℕ). put_all ps (row m s k from 0) (store_of ts m x)) quotient
              ∙ sym (ap (λ vs. put_all ps vs (store_of ts m x)) values-are))
              (subst (λ (k : Live). IsSound ts k x) (sym is) puts.sound)
            where
              divided : (l w t : ℕ) → 0 < w → l ≡ t * w → l / w ≡ t
              divided l w t some e = ap (λ (k : ℕ). k / w) e ∙ mul-div_cancel t some
