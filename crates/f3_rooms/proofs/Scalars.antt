-- A scalar is one word.
use Rattle.std.proofs.Common.{◌≡◌, inl, inr, ℕ, ◌+◌, ◌≤◌, ℤ, true, List, length, refl, sym, ap, subst, ◌∙◌, arith}
use Rattle.std.specs.Prelude.{Some}
use Rattle.f3_live_blocks.specs.Blocks.{Live, words_of}
use Rattle.f3_meaning_whole.specs.Shape.{Shape, Whole, Logical, Record}
use Rattle.f3_meaning_whole.specs.Store.{Root, Step, put}
use Rattle.f3_rooms.specs.Held.{Held}
use Rattle.f3_rooms.specs.Forms.{Form, form_words, words_for}
use Rattle.f3_rooms.specs.Values.{word, object, formed}
use Rattle.f3_rooms.specs.Rooms.{Rooms, store_of}
use Rattle.f3_rooms.specs.Places.{Found, value_at, IsScalar, is_scalar_shape, scalar_in, found, with_word}
use Rattle.f3_rooms.specs.Sound.{IsForm, IsObject, IsSound}
use Rattle.f3_rooms.specs.Laws.{path_at, Replaces, IsPut, ScalarsArePut}
use Rattle.f3_rooms.proofs.Reading.{parts_are_found}
use Rattle.f3_rooms.proofs.Within.{size_of, store_owns, part_lies}
use Rattle.f3_rooms.proofs.Stores.{parts_are_replaced}
use Rattle.f3_rooms.proofs.Living.{all_live}
use Rattle.f3_rooms.proofs.Unmoved.{store_unmoved}
use Rattle.f3_rooms.proofs.Words.{put_live, put_long, put_there, put_apart}

-- what stands at a scalar
scalar_object : (m : Live) (s : Shape) (b o : ℕ) (h : Held) → is_scalar_shape s ≡ true → object m s b o h ≡ scalar_in s (word m b o)
scalar_object m Whole b o h e = refl
scalar_object m Logical b o h e = refl
scalar_object m (Record t parts) b o h e = absurd (cc)

scalar_words : (s : Shape) → is_scalar_shape s ≡ true → words_for s ≡ 1
scalar_words Whole e = refl
scalar_words Logical e = refl
scalar_words (Record t parts) e = absurd (cc)

-- it holds nothing, whatever its word is
scalar_sound : (m n : Live) (s : Shape) (b o : ℕ) (h : Held) → is_scalar_shape s ≡ true → IsObject m s b o h → IsObject n s b o h
scalar_sound m n Whole b o h e has = has
scalar_sound m n Logical b o h e has = has
scalar_sound m n (Record t parts) b o h e has = absurd (cc)

module _ (f : Found) (scalar : IsScalar f) where
  scalar_value : (m : Live) → value_at m f ≡ scalar_in f.shape (word m f.block f.at)
  scalar_value m = ap (λ (form : Form). formed form (words_for f.shape) (object m f.shape) f.block f.at f.held) scalar.form ∙ scalar_object m f.shape f.block f.at f.held scalar.shape

  scalar_size : size_of f ≡ 1
  scalar_size = ap (λ (form : Form). form_words form (words_for f.shape)) scalar.form ∙ scalar_words f.shape scalar.shape

  scalar_form : (m n : Live) → IsForm m f.form (words_for f.shape) (IsObject m f.shape) f.block f.at f.held → IsForm n f.form (words_for f.shape) (IsObject n f.shape) f.block f.at f.held
  scalar_form m n = subst (λ (form : Form). IsForm m form (words_for f.shape) (IsObject m f.shape) f.block f.at f.held → IsForm n form (words_for f.shape) (IsObject n f.shape) f.block f.at f.held)
      (sym scalar.form) (scalar_sound m n f.shape f.block f.at f.held scalar.shape)

module _ (ts : List Shape) (m : Live) (x : Rooms) (sound : IsSound ts m x) (r : Root) (way : List Step) (f : Found) (at : found ts x r way ≡ Some f) (scalar : IsScalar f) (z : ℤ) where
  abbrev n : Live
  n = with_word m f.block f.at z

  replaces : Replaces m n x f f.held
  replaces =
      let size = scalar_size f scalar in
      record {
        live = λ b lt. (put_live m f.block f.at z b (all_live ts m x sound b (omega arith)), put_long m f.block f.at z b);
        same = λ b i lt aside. put_apart m f.block f.at z b i (λ e is. elim (aside e) [ inl before ↦ omega arith | inr after ↦ omega arith ]);
        form = scalar_form f scalar m n (part_lies ts m x sound r way f at).form;
        once = λ q. let c = (store_owns ts x r way f at).counted q in let one = sound.apart q in omega arith;
        apart = λ q lt. let one = sound.apart q in omega arith;
      }

  is_put : IsPut ts m x r way f z
  is_put =
      let t = parts_are_replaced ts m n x sound r way f at f.held replaces in
      let same = store_unmoved ts m n x sound r way f at in
      let lies = part_lies ts m x sound r way f at in
      let within : f.at + size_of f ≤ length (words_of m f.block) = lies.within in
      let size = scalar_size f scalar in
      record {
        was = parts_are_found ts m x r way f at ∙ scalar_value f scalar m;
        store = sym same.0 ∙ t.store ∙ ap (put (store_of ts m x) (path_at r way)) (scalar_value f scalar n ∙ ap (scalar_in f.shape) (put_there m f.block f.at z (omega arith)));
        sound = record { statics = same.1 (t.sound).statics; levels = same.2 (t.sound).levels; apart = sound.apart };
      }

pub scalars_are_put : ScalarsArePut
scalars_are_put ts m x sound r way f at scalar z = is_put ts m x sound r way f at scalar z
