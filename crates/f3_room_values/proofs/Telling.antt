-- Scalars, and bounds that words tell.
use Rattle.std.proofs.Common.{◌≡◌, ℕ, zero, suc, ◌+◌, ◌*◌, ℤ, List, [], ◌∷◌, ◌++◌, length, refl, sym, ap, subst, ◌∙◌, arith}
use Rattle.f3_program.specs.declared.declarations.Base.{Base}
use Rattle.f3_program.specs.declared.declarations.Base.TheVariants as base
use Rattle.f3_live_blocks.specs.Blocks.{Live}
use Rattle.f3_meaning_whole.specs.Arithmetic.{natural}
use Rattle.f3_meaning_whole.specs.Value.{Span, Value, Number}
use Rattle.f3_meaning_whole.specs.Shape.{Shape, Whole, shape_in}
use Rattle.f3_rooms.specs.Forms.{words_for}
use Rattle.f3_rooms.specs.Values.{word, object}
use Rattle.f3_rooms.specs.Sound.{TellBounds, IsObject}
use Rattle.f3_room_values.specs.Reads.{IsRead, scalar_of, bounds_told}

-- ---- scalars

-- a scalar of a type that is not derived
pub scalar_words : (ts : List Shape) (of : Base) → ((t : ℕ) → of ≡ base.Derived t → ⊥) → words_for (shape_in ts of) ≡ 1
scalar_words ts base.Integer not = refl
scalar_words ts base.Long not = refl
scalar_words ts base.Logical not = refl
scalar_words ts (base.Derived t) not = absurd (not t refl)

pub scalar_read : (ts : List Shape) (m : Live) (of : Base) (b o : ℕ) (z : ℤ) (v : Value) (next : ℕ) → ((t : ℕ) → of ≡ base.Derived t → ⊥) → z ≡ word m b o → v ≡ scalar_of of z
    → next ≡ o + 1 → IsRead (words_for (shape_in ts of)) (IsObject m (shape_in ts of)) (object m (shape_in ts of)) b o v next
scalar_read ts m base.Integer b o z v next not is e f = record { value = λ h has. e ∙ ap (scalar_of base.Integer) is; behind = f }
scalar_read ts m base.Long b o z v next not is e f = record { value = λ h has. e ∙ ap (scalar_of base.Long) is; behind = f }
scalar_read ts m base.Logical b o z v next not is e f = record { value = λ h has. e ∙ ap (scalar_of base.Logical) is; behind = f }
scalar_read ts m (base.Derived t) b o z v next not is e f = absurd (not t refl)

-- a number, of a type that is not there
pub number_read : (s : Shape) (m : Live) (b o : ℕ) (z : ℤ) (v : Value) (next : ℕ) → s ≡ Whole → z ≡ word m b o → v ≡ Number z → next ≡ o + 1
    → IsRead (words_for s) (IsObject m s) (object m s) b o v next
number_read s m b o z v next whole is e f =
    subst (λ s. IsRead (words_for s) (IsObject m s) (object m s) b o v next) (sym whole) (record { value = λ h has. e ∙ ap Number is; behind = f })

-- ---- bounds

abbrev pub told : Live → ℕ → ℕ → Span
told m b o = record { lower = word m b o; extent = natural (word m b (o + 1)) }

told_more : (k : ℕ) (m : Live) (b o : ℕ) → bounds_told (suc k) m b o ≡ bounds_told k m b o ++ told m b (o + 2 * k) ∷ []
told_more zero m b o = let e : o ≡ o + 2 * 0 = omega arith in ap (λ i. told m b i ∷ []) e
told_more (suc k) m b o =
    let e : o + 2 + 2 * k ≡ o + 2 * suc k = omega arith in
    ap (λ ss. told m b o ∷ ss) (told_more k m b (o + 2) ∙ ap (λ i. bounds_told k m b (o + 2) ++ told m b i ∷ []) e)

pub next_told : (m : Live) (b first k : ℕ) (low far lower : ℤ) (extent : ℕ) (ss us : List Span) → low ≡ word m b (first + 2 * k) → far ≡ word m b (first + 2 * k + 1)
    → lower ≡ low → extent ≡ natural far → ss ≡ bounds_told k m b first → us ≡ ss ++ record { lower = lower; extent = extent } ∷ [] → us ≡ bounds_told (k + 1) m b first
next_told m b first k low far lower extent ss us read next is made before more =
    let one : suc k ≡ k + 1 = omega arith in
    let spans : List Span = bounds_told k m b first in
    more ∙ ap (λ ys. ys ++ record { lower = lower; extent = extent } ∷ []) before
    ∙ ap (λ z. spans ++ record { lower = z; extent = extent } ∷ []) (is ∙ read)
    ∙ ap (λ n. spans ++ record { lower = word m b (first + 2 * k); extent = n } ∷ []) (made ∙ ap natural next)
    ∙ sym (told_more k m b first) ∙ ap (λ i. bounds_told i m b first) one

bounds_are : (m : Live) (b o : ℕ) (ss : List Span) → TellBounds m b o ss → bounds_told (length ss) m b o ≡ ss
bounds_are m b o [] has = refl
bounds_are m b o (s ∷ ss) has =
    let rest : List Span = bounds_told (length ss) m b (o + 2) in
    ap (λ z. record { lower = z; extent = natural (word m b (o + 1)) } ∷ rest) has.0
    ∙ ap (λ z. record { lower = s.lower; extent = natural z } ∷ rest) has.1
    ∙ ap (λ us. s ∷ us) (bounds_are m b (o + 2) ss has.2)

pub ranked_bounds : (rank : ℕ) (m : Live) (b o : ℕ) (ss : List Span) → length ss ≡ rank → TellBounds m b o ss → bounds_told rank m b o ≡ ss
ranked_bounds rank m b o ss e has = ap (λ k. bounds_told k m b o) (sym e) ∙ bounds_are m b o ss has
