-- Elements take those of a block, one by one.
use Rattle.std.proofs.Common.{◌≡◌, ◌≢◌, ◌∙◌, sym, ap, subst, ℕ, zero, suc, ◌+◌, ◌*◌, ◌^◌, ◌<◌, ◌≤◌, List, [], ◌∷◌, ◌++◌, length, take, get_or, arith}
use Rattle.std.specs.Prelude.{Some, ℤ, pos, ◌+ℤ◌, ◌*ℤ◌, slice_get}
use Rattle.std.proofs.lemmas.Int.{ints}
use Rattle.std.proofs.lemmas.List.{length-take-le}
use Rattle.std.proofs.Math.Nat.{mul-le-mul_right}
use Rattle.f3_live_blocks.specs.Blocks.{Live, IsLive, words_of, with_words}
use Rattle.f3_desc.specs.declared.descriptor.Descriptor.{Descriptor}
use Rattle.f3_desc.specs.Descriptor.{places, progression}
use Rattle.f3_desc.specs.Inner.Congruent.{IsCongruent}
use Rattle.f3_desc.specs.Laws.{size_of}
use Rattle.f3_room_arrays.specs.Inner.Numbers.{away}
use Rattle.f3_room_arrays.specs.Words.{copied, IsInside, AreInside}
use Rattle.f3_room_arrays.specs.Changes.{LieWithin}
use Rattle.f3_room_arrays.proofs.Numbers.{place-number, places-many, progression-length}
use Rattle.f3_room_arrays.proofs.Placing.{IsCopied, all-first, all-rest, all-none, all-more, copied-live, copied-long, copied-more, copied-source, copied-target, inside-place, progression-more}
use Rattle.f3_room_arrays.proofs.Running.{line-inside, take-next}
use Rattle.f3_word_reads.proofs.Areas.{one-place}

got : (xs : List ℤ) (k : ℕ) (z d : ℤ) → slice_get xs k ≡ Some z → get_or xs k d ≡ z
got [] k z d e = absurd cc
got (x ∷ xs) zero z d e = same e
  where
    same : Some x ≡ Some z → x ≡ z
    same h = cc
got (x ∷ xs) (suc k) z d e = got xs k z d e

few-inside : (size n k : ℕ) (zs : List ℤ) → AreInside size n zs → AreInside size n (take k zs)
few-inside size n zero zs inside = all-none (IsInside size n)
few-inside size n (suc k) [] inside = all-none (IsInside size n)
few-inside size n (suc k) (z ∷ zs) inside = all-more (IsInside size n) z (take k zs) (all-first (IsInside size n) z zs inside) (few-inside size n k zs (all-rest (IsInside size n) z zs inside))

up-to : (k count n : ℕ) → k < count → k * n + n ≤ count * n
up-to k count n lt = let more : suc k * n ≤ count * n = mul-le-mul_right n (omega arith) in omega arith

module _ (old : Live) (from n count : ℕ) (a : Descriptor) (within : LieWithin old a n) (live : IsLive old from) (apart : from ≢ a.block) (few : count ≤ size_of a.dims.items)
    (room : count * n ≤ length (words_of old from)) (small : length (words_of old a.block) < 2 ^ 64) where
  module _ (k : ℕ) (lt : k < count) (place : ℕ) (near : IsCongruent (pos place) (pos a.offset +ℤ away a.dims.items k)) (fits : place < 2 ^ 64) where
    abbrev z : ℤ
    z = pos a.offset +ℤ away a.dims.items k

    there : slice_get (places a) k ≡ Some (pos a.offset +ℤ away a.dims.items k)
    there = place-number (pos a.offset) a.dims.items k (omega arith)

    inside-there : IsInside (length (words_of old a.block)) n (pos a.offset +ℤ away a.dims.items k)
    inside-there =
        let m = places-many (pos a.offset) a.dims.items in
        let all = within.inside k (pos 0) (omega arith) in
        subst (IsInside (length (words_of old a.block)) n) (got (places a) k (pos a.offset +ℤ away a.dims.items k) (pos 0) there) all

    pub place-is : pos place ≡ pos a.offset +ℤ away a.dims.items k
    place-is = inside-place (length (words_of old a.block)) n place (pos a.offset +ℤ away a.dims.items k) small inside-there near fits

    -- so far
    module _ (now : Live) (so : IsCopied old now from a.block n (take k (places a)) (progression (pos 0) (pos n) k)) where
      line : AreInside (length (words_of old from)) n (progression (pos 0) (pos n) k)
      line = line-inside (length (words_of old from)) n 0 k (let next = up-to k count n lt in omega arith)

      now-long : length (words_of now a.block) ≡ length (words_of old a.block)
      now-long = ap length (copied-target old now from a.block n _ _ so)
          ∙ copied-long n (words_of old a.block) (words_of old from) (take k (places a)) (progression (pos 0) (pos n) k) (few-inside _ n k (places a) within.inside) line

      pub each-within : (b : Descriptor) → b.block ≡ a.block → b.offset ≡ place → b.dims.items ≡ [] → LieWithin now b n
      each-within b block-is offset-is none = record {
        live = subst (IsLive now) (sym block-is) (copied-live old now from a.block n _ _ a.block so within.live);
        inside = subst (AreInside (length (words_of now b.block)) n) (sym (one-place b none))
            (all-more (IsInside (length (words_of now b.block)) n) (pos b.offset) []
            (subst (λ (l : ℕ). IsInside l n (pos b.offset)) (sym (ap (λ (q : ℕ). length (words_of now q)) block-is ∙ now-long))
            (subst (IsInside (length (words_of old a.block)) n) (sym (ap pos offset-is ∙ place-is)) inside-there))
            (all-none (IsInside (length (words_of now b.block)) n)));
      }

      pub each-live : IsLive now from
      each-live = copied-live old now from a.block n _ _ from so live

      pub each-room : k * n + n ≤ length (words_of now from)
      each-room = let next = up-to k count n lt in let same = ap length (copied-source old now from a.block n _ _ apart so) in omega arith

      pub each-more : (new : Live) (b : Descriptor) → b.block ≡ a.block → b.offset ≡ place → b.dims.items ≡ []
          → new ≡ with_words now b.block (copied n (words_of now b.block) (words_of now from) (places b) (progression (pos (k * n)) (pos 0) (length (places b))))
          → IsCopied old new from a.block n (take (k + 1) (places a)) (progression (pos 0) (pos n) (k + 1))
      each-more new b block-is offset-is none is =
          let one : places b ≡ z ∷ [] = one-place b none ∙ ap (λ y. y ∷ []) (ap pos offset-is ∙ place-is) in
          let many : length (places b) ≡ 1 = ap length one in
          let step : IsCopied now new from a.block n (z ∷ []) (pos (k * n) ∷ []) = record {
            is = is ∙ ap (λ (q : ℕ). with_words now q (copied n (words_of now q) (words_of now from) (places b) (progression (pos (k * n)) (pos 0) (length (places b))))) block-is
                ∙ ap (λ (zs : List ℤ). with_words now a.block (copied n (words_of now a.block) (words_of now from) zs (progression (pos (k * n)) (pos 0) (length (places b))))) one
                ∙ ap (λ (j : ℕ). with_words now a.block (copied n (words_of now a.block) (words_of now from) (z ∷ []) (progression (pos (k * n)) (pos 0) j))) many;
          } in
          let source : pos (k * n) ≡ pos 0 +ℤ (pos k *ℤ pos n) = omega (arith, ints) in
          let ends : progression (pos 0) (pos n) (k + 1) ≡ progression (pos 0) (pos n) k ++ pos (k * n) ∷ [] =
          progression-more (pos 0) (pos n) k ∙ ap (λ (y : ℤ). progression (pos 0) (pos n) k ++ y ∷ []) (sym source) in
          let took : length (take k (places a)) ≡ length (progression (pos 0) (pos n) k) =
          length-take-le k (places a) (let m = places-many (pos a.offset) a.dims.items in omega arith) ∙ sym (progression-length (pos 0) (pos n) k) in
          subst (λ (l : List ℤ). IsCopied old new from a.block n l (progression (pos 0) (pos n) (k + 1))) (sym (take-next (places a) k z there))
          (subst (λ (l : List ℤ). IsCopied old new from a.block n (take k (places a) ++ z ∷ []) l) (sym ends)
          (copied-more old now new from a.block n (take k (places a)) (z ∷ []) (progression (pos 0) (pos n) k) (pos (k * n) ∷ []) apart took so step))
