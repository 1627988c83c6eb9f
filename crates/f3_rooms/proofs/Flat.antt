-- Objects of which nothing is allocatable have no block beneath them.
use Rattle.std.proofs.Common.{◌≡◌, zero, suc, ℕ, ◌+◌, Bool, true, false, not, ◌&&◌, List, [], ◌++◌, refl, ap, ◌∙◌}
use Rattle.std.specs.Prelude.{if◌then◌else◌}
use Rattle.f3_meaning_whole.specs.Value.{Span, count}
use Rattle.f3_meaning_whole.specs.Shape.{Shape, Whole, Logical, Record, Parts, nothing, and, spans_declared}
use Rattle.f3_live_blocks.specs.Blocks.{Live}
use Rattle.f3_program.specs.declared.declarations.Declared.{Declared}
use Rattle.f3_rooms.specs.Held.{Held, Row, Empty, Holds, Parts as Divided, blocks_in, blocks_in_all, end, next}
use Rattle.f3_rooms.specs.Forms.{Laid, Allocatable, form_of, form_words, words_for}
use Rattle.f3_rooms.specs.Flat.{FlatObjectsHoldNothing, are_flat, is_flat}
use Rattle.f3_rooms.specs.Sound.{AreComponents, AreLaid, Each, Fact, IsForm, IsObject}

-- where each object has none, so have all
none_in_each : (P : Fact) → ((b o : ℕ) (u : Held) → P b o u → blocks_in u ≡ []) → (k n b o : ℕ) (hs : Row) → Each k n P b o hs → blocks_in_all hs ≡ []
none_in_each P bare zero n b o hs h = ap blocks_in_all h
none_in_each P bare (suc k) n b o end h = refl
none_in_each P bare (suc k) n b o (next u hs) h =
    ap (λ bs. bs ++ blocks_in_all hs) (bare b o u h.0) ∙ none_in_each P bare k n b (o + n) hs h.1

none_laid : (P : Fact) → ((b o : ℕ) (u : Held) → P b o u → blocks_in u ≡ []) → (rank : ℕ) (ss : List Span) (n b o : ℕ) (u : Held)
    → AreLaid rank ss n P b o u
    → blocks_in u ≡ []
none_laid P bare zero ss n b o u h = bare b o u h
none_laid P bare (suc rank) ss n b o Empty h = refl
none_laid P bare (suc rank) ss n b o (Holds c ts u) h = absurd h.0
none_laid P bare (suc rank) ss n b o (Divided hs) h = none_in_each P bare (count ss) n b o hs h.1

both_true : (x y : Bool) → x && y ≡ true → (x ≡ true) × (y ≡ true)
both_true true y e = (refl, e)
both_true false y e = absurd cc

none_formed : (m : Live) (d : Declared) (P : Fact) → ((b o : ℕ) (u : Held) → P b o u → blocks_in u ≡ []) → not d.kind.is_allocatable ≡ true
    → (n b o : ℕ) (u : Held) → IsForm m (form_of d) n P b o u → blocks_in u ≡ []
none_formed m d P bare fixed n b o u h = by d.kind.is_allocatable fixed h
  where
    by : (z : Bool) → not z ≡ true → IsForm m (if z then Allocatable d.kind.rank else Laid d.kind.rank (spans_declared d.dimensions.items)) n P b o u
        → blocks_in u ≡ []
    by true e h = absurd cc
    by false e h = none_laid P bare d.kind.rank (spans_declared d.dimensions.items) n b o u h

mutual
  none_beneath : (m : Live) (s : Shape) → is_flat s ≡ true → (b o : ℕ) (u : Held) → IsObject m s b o u → blocks_in u ≡ []
  none_beneath m Whole flat b o u h = ap blocks_in h
  none_beneath m Logical flat b o u h = ap blocks_in h
  none_beneath m (Record t parts) flat b o Empty h = refl
  none_beneath m (Record t parts) flat b o (Holds c ss u) h = absurd h.0
  none_beneath m (Record t parts) flat b o (Divided hs) h = none_in_parts m parts flat b o hs h.1

  none_in_parts : (m : Live) (ps : Parts) → are_flat ps ≡ true → (b o : ℕ) (hs : Row) → AreComponents m ps b o hs → blocks_in_all hs ≡ []
  none_in_parts m nothing flat b o hs h = ap blocks_in_all h
  none_in_parts m (and c s rest) flat b o end h = refl
  none_in_parts m (and c s rest) flat b o (next u hs) h =
      let all = both_true (not c.declared.kind.is_allocatable) (is_flat s && are_flat rest) flat in
      let inner = both_true (is_flat s) (are_flat rest) all.1 in
      ap (λ bs. bs ++ blocks_in_all hs)
      (none_formed m c.declared (IsObject m s) (none_beneath m s inner.0) all.0 (words_for s) b o u h.0)
      ∙ none_in_parts m rest inner.1 b (o + form_words (form_of c.declared) (words_for s)) hs h.1

pub flat_objects_hold_nothing : FlatObjectsHoldNothing
flat_objects_hold_nothing m s flat rank ss b o h laid =
    none_laid (IsObject m s) (none_beneath m s flat) rank ss (words_for s) b o h laid
