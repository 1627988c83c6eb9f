-- Variables that are laid out so, and copies of them.
use Rattle.std.proofs.Common.{◌≡◌, ◌≢◌, ◌∙◌, inl, inr, ℕ, zero, suc, ◌+◌, ◌-◌, ◌*◌, ◌<◌, ◌≤◌, true, false, List, [], ◌∷◌, length, take, drop, get_or, refl, sym, ap, subst, arith}
use Rattle.std.specs.Prelude.{◌⊎◌, ℤ, pos}
use Rattle.f3_live_blocks.specs.Blocks.{Live}
use Rattle.f3_meaning_whole.specs.Act.{needs_storage}
use Rattle.f3_meaning_whole.specs.Shape.{Shape, Whole, Logical, Record}
use Rattle.f3_meaning_whole.specs.Value.{Span, Array, count, joined}
use Rattle.f3_code.specs.Account.{words}
use Rattle.f3_desc.specs.declared.descriptor.Dim.{Dim}
use Rattle.f3_desc.specs.Laws.{size_of}
use Rattle.f3_rooms.specs.Flat.{is_flat}
use Rattle.f3_rooms.specs.Forms.{Form, Laid, Allocatable, form_words, words_for}
use Rattle.f3_rooms.specs.Held.{Held, Row, Empty, end, first, others, parts_of}
use Rattle.f3_rooms.specs.Places.{is_scalar_shape}
use Rattle.f3_rooms.specs.Values.{elements, formed, laid, object, word}
use Rattle.f3_rooms.specs.Ways.{settled}
use Rattle.f3_room_arrays.specs.Elements.{IsFlat}
use Rattle.f3_room_arrays.proofs.Flat.{Alike, behind, front, object_tell}
use Rattle.f3_room_frames.proofs.Flat.{flat_laid_words, flat_words}
use Rattle.f3_word_cells.specs.Areas.{spans_of}
use Rattle.f3_word_areas.specs.Parts.{AreDimsOf}
use Rattle.f3_word_reads.proofs.Areas.{count-size}

pub settled-words : (form : Form) (n : ℕ) → form_words (settled form) n ≡ form_words form n
settled-words (Laid zero ss) n = refl
settled-words (Laid (suc rank) ss) n = refl
settled-words (Allocatable rank) n = refl

-- what is an object of derived type
composite : (m : Live) (s : Shape) (b o : ℕ) (h : Held) → is_scalar_shape s ≡ false → needs_storage (object m s b o h) ≡ true
composite m Whole b o h e = absurd cc
composite m Logical b o h e = absurd cc
composite m (Record t parts) b o h e = refl

module _ (s : Shape) where
  abbrev w : ℕ
  w = words_for s

  -- one object
  pub one-formed : (m : Live) (form : Form) (ds : List Dim) (b o : ℕ) (h : Held) → AreDimsOf w form ds → ds ≡ [] → formed form w (object m s) b o h ≡ object m s b o h
  one-formed m (Laid zero ss) ds b o h are none = refl
  one-formed m (Laid (suc rank) ss) ds b o h are none = absurd (are.0 none)
  one-formed m (Allocatable rank) ds b o h are none = absurd are

  pub formed-needs : (m : Live) (form : Form) (ds : List Dim) (b o : ℕ) (h : Held) → AreDimsOf w form ds → (ds ≢ []) ⊎ (is_scalar_shape s ≡ false)
      → needs_storage (formed form w (object m s) b o h) ≡ true
  formed-needs m (Laid zero ss) ds b o h are (inl some) = absurd (some are.1)
  formed-needs m (Laid zero ss) ds b o h are (inr e) = composite m s b o h e
  formed-needs m (Laid (suc rank) ss) ds b o h are large = refl
  formed-needs m (Allocatable rank) ds b o h are large = absurd are

  pub dims-words : (form : Form) (ds : List Dim) → AreDimsOf w form ds → form_words form w ≡ size_of ds * w
  dims-words (Laid zero ss) ds are = let one : size_of ds ≡ 1 = ap size_of are.1 in (let e : w ≡ 1 * w = omega arith in e) ∙ ap (λ k. k * w) (sym one)
  dims-words (Laid (suc rank) ss) ds are = ap (λ us. count us * w) (sym are.1) ∙ ap (λ k. k * w) (count-size ds)
  dims-words (Allocatable rank) ds are = absurd are

  -- so many words the machine over values asks for
  pub formed-words : is_flat s ≡ true → (m : Live) (form : Form) (ds : List Dim) (b o : ℕ) (h : Held) → AreDimsOf w form ds
      → words (formed form w (object m s) b o h) ≡ form_words form w
  formed-words flat m (Laid rank ss) ds b o h are = flat_laid_words m s flat rank ss b o h
  formed-words flat m (Allocatable rank) ds b o h are = absurd are

  module _ (flat : IsFlat s) (m n : Live) where
    elements-tell : (k b o c i : ℕ) (hs us : Row) → Alike m n (k * w) b o c i → elements k w (object n s) c i us ≡ elements k w (object m s) b o hs
    elements-tell zero b o c i hs us same = refl
    elements-tell (suc k) b o c i hs us same =
        ap (λ v. v ∷ elements k w (object n s) c (i + w) (others us)) (object_tell m n s flat b o c i (first hs) (first us) (front m n w (suc k * w) b o c i (omega arith) same))
        ∙ ap (λ vs. object m s b o (first hs) ∷ vs) (elements-tell k b (o + w) c (i + w) (others hs) (others us) (behind m n w (suc k * w) (k * w) b o c i (omega arith) same))

    -- a copy is the same value
    pub copy-formed : (form : Form) (ds : List Dim) (b o c : ℕ) (h : Held) → AreDimsOf w form ds → Alike m n (form_words form w) b o c 0
        → formed form w (object m s) b o h ≡ laid (length ds) (spans_of ds) w (object n s) c 0 Empty
    copy-formed (Laid zero ss) ds b o c h are same =
        sym (object_tell m n s flat b o c 0 h Empty same) ∙ ap (λ (es : List Dim). laid (length es) (spans_of es) w (object n s) c 0 Empty) (sym are.1)
    copy-formed (Laid (suc rank) ss) [] b o c h are same = absurd (are.0 refl)
    copy-formed (Laid (suc rank) ss) (d ∷ ds) b o c h are same =
        ap (λ vs. Array ss (joined vs)) (sym (elements-tell (count ss) b o c 0 (parts_of h) end same))
        ∙ ap (λ us. Array us (joined (elements (count us) w (object n s) c 0 end))) (sym are.1)
    copy-formed (Allocatable rank) ds b o c h are same = absurd are

-- ---- words that were copied

pub taken-within : (us ws : List ℤ) (at k j : ℕ) → us ≡ take k (drop at ws) → j < k → get_or us j (pos 0) ≡ get_or ws (at + j) (pos 0)
taken-within us ws at k j e lt = ap (λ l. get_or l j (pos 0)) e ∙ first k (drop at ws) j lt ∙ later at ws j
  where
    first : (k : ℕ) (xs : List ℤ) (j : ℕ) → j < k → get_or (take k xs) j (pos 0) ≡ get_or xs j (pos 0)
    first zero xs j lt = absurd (omega arith)
    first (suc k) [] j lt = refl
    first (suc k) (x ∷ xs) zero lt = refl
    first (suc k) (x ∷ xs) (suc j) lt = first k xs j (omega arith)

    later : (at : ℕ) (xs : List ℤ) (j : ℕ) → get_or (drop at xs) j (pos 0) ≡ get_or xs (at + j) (pos 0)
    later zero xs j = ap (λ k. get_or xs k (pos 0)) (omega arith)
    later (suc at) [] j = empty j (suc at + j)
      where
        empty : (j k : ℕ) → get_or [] j (pos 0) ≡ get_or [] k (pos 0)
        empty zero zero = refl
        empty zero (suc k) = refl
        empty (suc j) zero = refl
        empty (suc j) (suc k) = refl
    later (suc at) (x ∷ xs) j = let e : suc (at + j) ≡ suc at + j = omega arith in later at xs j ∙ ap (λ k. get_or (x ∷ xs) k (pos 0)) e
