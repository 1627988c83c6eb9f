-- What variables hold, by their layouts.
use Rattle.std.proofs.Common.{◌≡◌, ℕ, zero, suc, ◌+◌, ◌/◌, ◌<◌, ◌≤◌, Bool, true, false, List, [], ◌∷◌, length, refl, sym, ap, subst, ◌∙◌, arith}
use Rattle.std.proofs.Math.Nat.{mul-div_cancel}
use Rattle.std.specs.Prelude.{if◌then◌else◌}
use Rattle.f3_program.specs.declared.declarations.Declared.{Declared}
use Rattle.f3_live_blocks.specs.Blocks.{Live, words_of}
use Rattle.f3_meaning_whole.specs.Value.{Span, count}
use Rattle.f3_meaning_whole.specs.Shape.{Shape, shape_in, spans_declared}
use Rattle.f3_desc.specs.Shape.{Shape as Layout, Holder, Times, width, has_holder}
use Rattle.f3_objects.specs.Tree.{Tree, End, words, Joins, Fits}
use Rattle.f3_objects.specs.Holds.{Stands, Holds, Frees}
use Rattle.f3_objects.proofs.Freeing.{Freed, freed_all, freed_within, times_plain}
use Rattle.f3_objects.proofs.Trees.{append-End, holder-positive}
use Rattle.f3_rooms.specs.Forms.{Laid, Allocatable, form_of, form_words, laid_words, words_for, room}
use Rattle.f3_room_objects.specs.Trees.{laid_as, formed_as, layout_for}
use Rattle.f3_room_objects.proofs.Planting.{part_wide, width_for}
use Rattle.f3_room_levels.specs.Levels.{room_layout, variable_layout}
use Rattle.f3_room_levels.proofs.Arranged.{one_time}

-- ---- a variable

one_fits : (l : Layout) (t : Tree) → Fits l t → Fits (Times 1 l) t
one_fits l t fits = record { front = t; back = End; split = sym (append-End t); first = fits; second = refl }

laid_fits : (n rank : ℕ) (ss : List Span) (l : Layout) (t : Tree) → 0 < n → Fits (laid_as rank ss l) t → Fits (Times (laid_words rank ss n / n) l) t
laid_fits n zero ss l t some fits = subst (λ k. Fits (Times k l) t) (sym (one_time n some)) (one_fits l t fits)
laid_fits n (suc rank) ss l t some fits = subst (λ k. Fits (Times k l) t) (sym (mul-div_cancel (count ss) some)) fits

times_fits : (b : Bool) (n rank : ℕ) (ss : List Span) (l : Layout) (t : Tree) → b ≡ false → 0 < n → let f = if b then Allocatable rank else Laid rank ss in
    Fits (formed_as f l) t → Fits (Times (form_words f n / n) l) t
times_fits true n rank ss l t e some fits = absurd (cc)
times_fits false n rank ss l t e some fits = laid_fits n rank ss l t some fits

holder_fits : (b : Bool) (rank : ℕ) (ss : List Span) (l : Layout) (t : Tree) → b ≡ true → Fits (formed_as (if b then Allocatable rank else Laid rank ss) l) t → Fits (Holder rank l) t
holder_fits true rank ss l t e fits = fits
holder_fits false rank ss l t e fits = absurd (cc)

laid_plain : (rank : ℕ) (ss : List Span) (l : Layout) → has_holder l ≡ false → has_holder (laid_as rank ss l) ≡ false
laid_plain zero ss l e = e
laid_plain (suc rank) ss l e = times_plain (count ss) l e

plain_by : (b : Bool) (rank : ℕ) (ss : List Span) (l : Layout) → b ≡ false → has_holder l ≡ false → has_holder (formed_as (if b then Allocatable rank else Laid rank ss) l) ≡ false
plain_by true rank ss l e none = absurd (cc)
plain_by false rank ss l e none = laid_plain rank ss l none

module _ (ts : List Shape) (d : Declared) where
  abbrev s : Shape
  s = shape_in ts d.kind.of

  pub variable_wide : (t : Tree) → Fits (variable_layout ts d) t → length (words t) ≡ room ts d
  variable_wide t fits = part_wide (form_of d) s t fits

  pub variable_plain : d.kind.is_allocatable ≡ false → has_holder (layout_for s) ≡ false → has_holder (variable_layout ts d) ≡ false
  variable_plain laid none = plain_by d.kind.is_allocatable d.kind.rank (spans_declared d.dimensions.items) (layout_for s) laid none

  module _ (m : Live) (b o : ℕ) (t : Tree) (holds : Holds m b o (variable_layout ts d) t) where
    pub variable_times : d.kind.is_allocatable ≡ false → 0 < words_for s → Holds m b o (Times (room ts d / words_for s) (layout_for s)) t
    variable_times laid some = record {
      stands = holds.stands;
      fits = times_fits d.kind.is_allocatable (words_for s) d.kind.rank (spans_declared d.dimensions.items) (layout_for s) t laid some holds.fits;
    }

    pub variable_holder : d.kind.is_allocatable ≡ true → Holds m b o (Holder d.kind.rank (layout_for s)) t
    variable_holder held = record {
      stands = holds.stands;
      fits = holder_fits d.kind.is_allocatable d.kind.rank (spans_declared d.dimensions.items) (layout_for s) t held holds.fits;
    }

    -- by the layout and the words that tables tell
    pub variable_elements : d.kind.is_allocatable ≡ false → (l : Layout) (n k : ℕ) → l ≡ layout_for s → has_holder l ≡ true → n ≡ room ts d → k ≡ width l → Holds m b o (Times (n / k) l) t
    variable_elements laid l n k is some all one =
        let wide : width (layout_for s) ≡ words_for s = width_for s in
        let same : k ≡ words_for s = one ∙ ap width is ∙ wide in
        let more = holder-positive (layout_for s) (ap has_holder (sym is) ∙ some) in
        let count : n / k ≡ room ts d / words_for s = ap (λ i. i / k) all ∙ ap (λ i. room ts d / i) same in
        subst (λ r. Holds m b o (Times (n / k) r) t) (sym is)
        (subst (λ i. Holds m b o (Times i (layout_for s)) t) (sym count) (variable_times laid (omega arith)))

    pub variable_long : o + room ts d ≤ length (words_of m b)
    variable_long = let e = variable_wide t holds.fits in let w = holds.stands.within in omega arith

-- ---- variables of which some were given back

module _ (ts : List Shape) (old now : Live) (b at : ℕ) (t : Tree) where
  abbrev pub FreedFrom : List Declared → Type 0
  FreedFrom ds = Freed old now b 0 at (Fits (room_layout ts ds)) t

  pub freed_first : (these rest : List Declared) (d : Declared) → these ≡ d ∷ rest → FreedFrom these
      → Freed old now b 0 at (Joins (Fits (variable_layout ts d)) (Fits (room_layout ts rest))) t
  freed_first these rest d e f = subst FreedFrom e f

  pub freed_behind : (these : List Declared) → these ≡ [] → FreedFrom these → Frees old now b 0 t true
  freed_behind these e f = freed_all old now b 0 at t (subst FreedFrom e f)

  pub freed_room : (rest : List Declared) (d : Declared) → Stands old b 0 t → (f : Freed old now b 0 at (Joins (Fits (variable_layout ts d)) (Fits (room_layout ts rest))) t)
      → at + room ts d ≤ length (words_of old b)
  freed_room rest d stands f =
      let w = stands.within in
      let e = freed_within old now b 0 at (Fits (variable_layout ts d)) (Fits (room_layout ts rest)) t f (room ts d) (suc (length (words_of old b))) (variable_wide ts d f.has.front f.has.first) (omega arith) in
      omega arith
