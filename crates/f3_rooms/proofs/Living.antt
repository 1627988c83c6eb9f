-- Each block in which variables stand, or what they hold, is live.
use Rattle.std.proofs.Common.{◌≡◌, ℕ, zero, suc, ◌+◌, ◌<◌, Bool, true, false, List, [], ◌∷◌, ◌++◌, ap, subst, refl, arith}
use Rattle.std.proofs.lemmas.Bool.Decides.{nat_tests}
use Rattle.std.specs.Prelude.{None, nat_eq, if◌then◌else◌}
use Rattle.std.specs.FinMap.{get as find}
use Rattle.f3_program.specs.declared.declarations.Declared.{Declared}
use Rattle.f3_live_blocks.specs.Blocks.{Live, IsLive}
use Rattle.f3_meaning_whole.specs.Value.{Span, count}
use Rattle.f3_meaning_whole.specs.Shape.{Shape, Whole, Logical, Record, Parts, nothing, and, shape_in}
use Rattle.f3_rooms.specs.Held.{Held, Row, Empty, Holds, Parts as Divided, end, IsDivided, parts_of, first, others, blocks_in, blocks_in_all, times}
use Rattle.f3_rooms.specs.Forms.{Form, Laid, Allocatable, form_of, form_words, words_for, room}
use Rattle.f3_rooms.specs.Rooms.{Room, Slot, Known, Stands, Rooms, room_blocks, level_blocks, levels_blocks, blocks_of}
use Rattle.f3_rooms.specs.Sound.{Fact, Each, AreLaid, IsForm, IsObject, AreComponents, AreVariables, IsRoom, IsLevel, AreLevels, IsSound}
use Rattle.f3_rooms.proofs.Framing.{times_append, times_row}

-- the blocks of parts are all that there are
pub times_divided : (q : ℕ) (h : Held) → IsDivided h → times q (blocks_in h) ≡ times q (blocks_in_all (parts_of h))
times_divided q Empty is = refl
times_divided q (Holds c ss h) is = absurd is
times_divided q (Divided hs) is = refl

pub times_end : (q : ℕ) (hs : Row) → hs ≡ end → times q (blocks_in_all hs) ≡ 0
times_end q hs e = ap (λ r. times q (blocks_in_all r)) e

module _ (m : Live) (q : ℕ) where
  either : (a b : ℕ) → (0 < a → IsLive m q) → (0 < b → IsLive m q) → 0 < a + b → IsLive m q
  either zero b first second some = second (omega arith)
  either (suc a) b first second some = first (omega arith)

  among : (bs cs : List ℕ) → (0 < times q bs → IsLive m q) → (0 < times q cs → IsLive m q) → 0 < times q (bs ++ cs) → IsLive m q
  among bs cs first second some = either (times q bs) (times q cs) first second (let e = times_append q bs cs in omega arith)

  one : (b : ℕ) (bs : List ℕ) → IsLive m b → (0 < times q bs → IsLive m q) → 0 < times q (b ∷ bs) → IsLive m q
  one b bs live rest = by (nat_eq q b) refl
    where
      by : (t : Bool) → nat_eq q b ≡ t → 0 < (if t then 1 else 0) + times q bs → IsLive m q
      by true e some = let f : b ≡ q = grind (arith, nat_tests) in subst (IsLive m) f live
      by false e some = rest (omega arith)

  abbrev Lives : ℕ → Fact → Type 0
  Lives n P = (b o : ℕ) (h : Held) → P b o h → 0 < times q (blocks_in h) → IsLive m q

  both : (hs : Row) → (0 < times q (blocks_in (first hs)) → IsLive m q) → (0 < times q (blocks_in_all (others hs)) → IsLive m q) → 0 < times q (blocks_in_all hs) → IsLive m q
  both hs front back some = either (times q (blocks_in (first hs))) (times q (blocks_in_all (others hs))) front back (let e = times_row q hs in omega arith)

  none : (hs : Row) → hs ≡ end → 0 < times q (blocks_in_all hs) → IsLive m q
  none hs e some = let f = times_end q hs e in absurd (omega arith)

  module _ (n : ℕ) (P : Fact) (lives : Lives n P) where
    each_lives : (k b o : ℕ) (hs : Row) → Each k n P b o hs → 0 < times q (blocks_in_all hs) → IsLive m q
    each_lives zero b o hs has = none hs has
    each_lives (suc k) b o hs has = both hs (lives b o (first hs) has.0) (each_lives k b (o + n) (others hs) has.1)

    laid_lives : (rank : ℕ) (ss : List Span) → Lives n (AreLaid rank ss n P)
    laid_lives zero ss b o h has some = lives b o h has some
    laid_lives (suc rank) ss b o h has some = each_lives (count ss) b o (parts_of h) has.1 (let e = times_divided q h has.0 in omega arith)

    form_lives : (form : Form) → Lives n (IsForm m form n P)
    form_lives (Laid rank ss) b o h has some = laid_lives rank ss b o h has some
    form_lives (Allocatable rank) b o Empty has some = absurd (omega arith)
    form_lives (Allocatable rank) b o (Divided hs) has some = absurd has
    form_lives (Allocatable rank) b o (Holds c ss h) has some = one c (blocks_in h) has.live (laid_lives rank ss c 0 h has.within) some

  mutual
    object_lives : (s : Shape) → Lives (words_for s) (IsObject m s)
    object_lives Whole b o h has some = let e : times q (blocks_in h) ≡ 0 = ap (λ k. times q (blocks_in k)) has in absurd (omega arith)
    object_lives Logical b o h has some = let e : times q (blocks_in h) ≡ 0 = ap (λ k. times q (blocks_in k)) has in absurd (omega arith)
    object_lives (Record t parts) b o h has some = components_live parts b o (parts_of h) has.1 (let e = times_divided q h has.0 in omega arith)

    components_live : (parts : Parts) (b o : ℕ) (hs : Row) → AreComponents m parts b o hs → 0 < times q (blocks_in_all hs) → IsLive m q
    components_live nothing b o hs has = none hs has
    components_live (and c s rest) b o hs has =
        both hs (form_lives (words_for s) (IsObject m s) (object_lives s) (form_of c.declared) b o (first hs) has.0)
        (components_live rest b (o + form_words (form_of c.declared) (words_for s)) (others hs) has.1)

  module _ (ts : List Shape) where
    variables_live : (ds : List Declared) (b o : ℕ) (hs : Row) → AreVariables ts m ds b o hs → 0 < times q (blocks_in_all hs) → IsLive m q
    variables_live [] b o hs has = none hs has
    variables_live (d ∷ ds) b o hs has =
        let s : Shape = shape_in ts d.kind.of in
        both hs (form_lives (words_for s) (IsObject m s) (object_lives s) (form_of d) b o (first hs) has.0) (variables_live ds b (o + room ts d) (others hs) has.1)

    room_lives : (r : Room) → IsRoom ts m r → 0 < times q (room_blocks r) → IsLive m q
    room_lives r has = one r.block (blocks_in_all r.held) has.live (variables_live r.declared r.block 0 r.held has.variables)

    level_lives : (l : List Slot) → IsLevel ts m l → 0 < times q (level_blocks l) → IsLive m q
    level_lives [] has some = absurd (omega arith)
    level_lives (Known v ∷ ss) has some = level_lives ss has.1 some
    level_lives (Stands r ∷ ss) has some = among (room_blocks r) (level_blocks ss) (room_lives r has.0) (level_lives ss has.1) some

    levels_live : (ls : List (List Slot)) → AreLevels ts m ls → 0 < times q (levels_blocks ls) → IsLive m q
    levels_live [] has some = absurd (omega arith)
    levels_live (l ∷ ls) has some = among (level_blocks l) (levels_blocks ls) (level_lives l has.0) (levels_live ls has.1) some

pub all_live : (ts : List Shape) (m : Live) (x : Rooms) → IsSound ts m x → (q : ℕ) → 0 < times q (blocks_of x) → IsLive m q
all_live ts m x sound q = among m q (room_blocks x.statics) (levels_blocks x.levels) (room_lives m q ts x.statics sound.statics) (levels_live m q ts x.levels sound.levels)

-- so a block that is not live is none of them
dead : (m : Live) (q : ℕ) → find m q ≡ None → IsLive m q → ⊥
dead m q none live = cc

pub new_none : (ts : List Shape) (m : Live) (x : Rooms) → IsSound ts m x → (q : ℕ) → find m q ≡ None → times q (blocks_of x) ≡ 0
new_none ts m x sound q free = by (times q (blocks_of x)) (all_live ts m x sound q)
  where
    by : (n : ℕ) → (0 < n → IsLive m q) → n ≡ 0
    by zero lives = refl
    by (suc n) lives = absurd (dead m q free (lives (omega arith)))
