-- The element of a number is copied.
use Rattle.std.proofs.Common.{◌≡◌, ◌∙◌, sym, ap, subst, ℕ, zero, suc, ◌+◌, ◌*◌, ◌^◌, ◌<◌, ◌≤◌, true, false, List, [], ◌∷◌, length, arith}
use Rattle.std.specs.Prelude.{Some, Result, Ok, Err, OnOk, OnErr, is_err, ℤ, pos, ◌+ℤ◌, slice_get}
use Rattle.std.specs.List.{All}
use Rattle.std.proofs.Math.Nat.{mul-le-mul_right}
use Rattle.f3_live_blocks.specs.Blocks.{Live, IsLive, words_of}
use Rattle.f3_meaning_whole.specs.Shape.{Shape}
use Rattle.f3_meaning_whole.specs.Store.{Path}
use Rattle.f3_desc.specs.declared.descriptor.Descriptor.{Descriptor}
use Rattle.f3_desc.specs.Inner.Congruent.{IsCongruent}
use Rattle.f3_desc.specs.Descriptor.{places}
use Rattle.f3_desc.specs.Laws.{size_of}
use Rattle.f3_desc.specs.Shape.{Shape as Layout, width}
use Rattle.f3_objects.specs.Tree.{Tree}
use Rattle.f3_rooms.specs.Forms.{words_for}
use Rattle.f3_rooms.specs.Rooms.{Rooms}
use Rattle.f3_room_objects.proofs.Planting.{width_for}
use Rattle.f3_room_arrays.specs.Words.{IsInside, AreInside}
use Rattle.f3_room_arrays.specs.Elements.{StandsAt}
use Rattle.f3_room_arrays.specs.Copies.{AreCopyable}
use Rattle.f3_room_arrays.specs.Inner.Clones.{IsReady, Clones, Spoils}
use Rattle.f3_room_arrays.specs.Inner.Numbers.{away}
use Rattle.f3_room_arrays.proofs.Numbers.{places-many, place-number}
use Rattle.f3_room_arrays.proofs.Placing.{all-first, all-rest, inside-place}
use Rattle.f3_room_arrays.proofs.Sections.{zip-get}
use Rattle.f3_room_arrays.proofs.Rows.{Gathered, element-ready, gathered-more, gathered-spoiled}

pub on-ok-when : {T E : Type 0} {P : Type 0} (r : Result T E) → is_err r ≡ false → OnOk r P → P
on-ok-when (Ok x) e p = p
on-ok-when (Err x) e p = absurd cc

pub on-err-when : {T E : Type 0} {P : Type 0} (r : Result T E) → is_err r ≡ true → OnErr r P → P
on-err-when (Ok x) e p = absurd cc
on-err-when (Err x) e p = p

pub on-err-anyway : {T E : Type 0} {P : Type 0} (r : Result T E) → P → OnErr r P
on-err-anyway (Ok x) p = tt
on-err-anyway (Err x) p = p

all-at : {X : Type 0} (P : X → Type 0) (xs : List X) (k : ℕ) (x : X) → All P xs → slice_get xs k ≡ Some x → P x
all-at P [] k x all e = absurd cc
all-at {X} P (y ∷ xs) zero x all e = let same : y ≡ x = cc in subst P same (all-first P y xs all)
all-at P (y ∷ xs) (suc k) x all e = all-at P xs k x (all-rest P y xs all) e

module _ (ts : List Shape) (old : Live) (x : Rooms) (a : Descriptor) (s : Shape) (ps : List Path) (l : Layout) (to at : ℕ) (are : AreCopyable ts old x a s ps l to) (live_old : IsLive old to)
    (inside : AreInside (length (words_of old a.block)) (width l) (places a)) (small : length (words_of old a.block) < 2 ^ 64) (room : at + length (places a) * width l ≤ length (words_of old to))
    (now : Live) (k : ℕ) (g : Gathered ts old x a s ps l to at now k) (lt : k < size_of a.dims.items) where
  abbrev z : ℤ
  z = pos a.offset +ℤ away a.dims.items k

  there : slice_get (places a) k ≡ Some z
  there = place-number (pos a.offset) a.dims.items k lt

  element : (p : Path) × ((slice_get ps k ≡ Some p) × StandsAt ts x a.block s z p)
  element = zip-get (StandsAt ts x a.block s) (places a) ps k z are.tells there

  wide : width l ≡ words_for s
  wide = ap width (sym are.layout) ∙ width_for s

  space : (o : ℕ) → o ≡ at + k * width l → o + words_for s ≤ length (words_of now to)
  space o e =
      let many = places-many (pos a.offset) a.dims.items in
      let le : (k + 1) * width l ≤ length (places a) * width l = mul-le-mul_right (width l) (omega arith) in
      let long = g.long in
      let w = wide in
      omega arith

  pub step-ready : (i o : ℕ) → IsCongruent (pos i) z → i < 2 ^ 64 → o ≡ at + k * width l → (t : Tree) × IsReady now a.block i to o l t
  step-ready i o near fits e =
      let is : pos i ≡ z = inside-place (length (words_of old a.block)) (width l) i z small (all-at (IsInside (length (words_of old a.block)) (width l)) (places a) k z inside there) near fits in
      (_, element-ready ts old x a s ps l to at are live_old now k g z element.0 element.1.1 i o is (space o e))

  pub step-more : (new : Live) (i o : ℕ) → IsCongruent (pos i) z → i < 2 ^ 64 → o ≡ at + k * width l → ((t : Tree) → IsReady now a.block i to o l t → Clones now new to o l t)
      → Gathered ts old x a s ps l to at new (k + 1)
  step-more new i o near fits e clones =
      let is : pos i ≡ z = inside-place (length (words_of old a.block)) (width l) i z small (all-at (IsInside (length (words_of old a.block)) (width l)) (places a) k z inside there) near fits in
      let ready = element-ready ts old x a s ps l to at are live_old now k g z element.0 element.1.1 i o is (space o e) in
      let o_is : o ≡ at + k * words_for s = e ∙ ap (λ (w : ℕ). at + k * w) wide in
      gathered-more ts old x a s ps l to at are live_old now k g z element.0 element.1.1 new o o_is (space o e) (clones _ ready) element.1.0

  pub step-spoiled : (new : Live) (o : ℕ) → o ≡ at + k * width l → Spoils now new to o (width l) → Gathered ts old x a s ps l to at new k
  step-spoiled new o e bad =
      let o_is : o ≡ at + k * words_for s = e ∙ ap (λ (w : ℕ). at + k * w) wide in
      gathered-spoiled ts old x a s ps l to at are live_old now k g new o o_is (space o e) (subst (λ (w : ℕ). Spoils now new to o w) wide bad)

  pub row-room : (new : Live) → (h : Gathered ts old x a s ps l to at new k) → at + k * words_for s ≤ length (words_of new to)
  row-room new h =
      let many = places-many (pos a.offset) a.dims.items in
      let le : k * width l ≤ length (places a) * width l = mul-le-mul_right (width l) (omega arith) in
      let same : k * width l ≡ k * words_for s = ap (λ (w : ℕ). k * w) wide in
      let long = h.long in
      omega arith
