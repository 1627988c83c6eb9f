-- Words behind variables.
use Rattle.std.proofs.Common.{◌≡◌, ◌≢◌, ◌⊎◌, inl, inr, ℕ, zero, suc, ◌+◌, ◌-◌, ◌<◌, ◌≤◌, ℤ, pos, Bool, true, false, List, [], ◌∷◌, ◌++◌, length, map, nat_eq, refl, sym, ap, subst, ◌∙◌, arith, if◌then◌else◌}
use Rattle.std.proofs.lemmas.Bool.{lt-ltb, le-ltb}
use Rattle.std.proofs.lemmas.Bool.Decides.{nat_tests}
use Rattle.std.proofs.lemmas.List.{length-set, get_or-set_other}
use Rattle.std.specs.Prelude.{Some, slice_index_or}
use Rattle.f3_program.specs.declared.declarations.Base.{Base}
use Rattle.f3_program.specs.declared.declarations.Declared.{Declared}
use Rattle.f3_live_blocks.specs.Blocks.{Live, words_of}
use Rattle.f3_live_blocks.proofs.Laws.{get-insert_other, live-insert, words-insert_same}
use Rattle.f3_meaning_whole.specs.Shape.{Shape, Whole, Logical, Record, shape_in}
use Rattle.f3_meaning_whole.specs.Store.{Static, Local, Step, Store}
use Rattle.f3_rooms.specs.Held.{Held, Row, first, others, blocks_in, times}
use Rattle.f3_rooms.specs.Forms.{Form, Laid, Allocatable, form_of, form_words, words_for, room, total}
use Rattle.f3_rooms.specs.Values.{word, object, variable, variables}
use Rattle.f3_rooms.specs.Rooms.{Room, Slot, Known, Stands, room_values, level_values}
use Rattle.f3_rooms.specs.Places.{Found, in_form, in_object, in_variables, in_level, with_word}
use Rattle.f3_rooms.specs.Sound.{IsObject, AreVariables, IsRoom, IsLevel, AreLevels}
use Rattle.f3_rooms.specs.Laws.{ExtrasChangeNothing}
use Rattle.f3_rooms.proofs.Framing.{Kept, Same, object_stays, formed_stays, object_persists, form_persists}
use Rattle.f3_rooms.proofs.Keeping.{as_it_was}

split : (q b : ℕ) → (q ≡ b) ⊎ (q ≢ b)
split q b = by (nat_eq q b) refl
  where
    by : (t : Bool) → nat_eq q b ≡ t → (q ≡ b) ⊎ (q ≢ b)
    by true f = inl (grind (arith, nat_tests))
    by false f = inr (grind (arith, nat_tests))

-- ---- whole variables

-- a variable is a part of itself
record IsWhole (form : Form) (n b o : ℕ) (h : Held) (f : Found) : Type 0 where
  block : f.block ≡ b
  at : f.at ≡ o
  words : form_words f.form (words_for f.shape) ≡ form_words form n
  held : f.held ≡ h

object_whole : (s : Shape) (of : Base) (b o : ℕ) (h : Held) → in_object s of b o h [] ≡ Some (record { block = b; at = o; shape = s; of = of; form = Laid 0 []; held = h })
object_whole Whole of b o h = refl
object_whole Logical of b o h = refl
object_whole (Record t parts) of b o h = refl

form_whole : (form : Form) (s : Shape) (of : Base) (b o : ℕ) (h : Held)
    → (f : Found) × (in_form form s of (in_object s of) b o h [] ≡ Some f) × IsWhole form (words_for s) b o h f
form_whole (Laid zero ss) s of b o h = (_, object_whole s of b o h, record { block = refl; at = refl; words = refl; held = refl })
form_whole (Laid (suc rank) ss) s of b o h = (_, refl, record { block = refl; at = refl; words = refl; held = refl })
form_whole (Allocatable rank) s of b o h = (_, refl, record { block = refl; at = refl; words = refl; held = refl })

-- ---- ways to variables

ways_short : (ts : List Shape) (ds : List Declared) (b o : ℕ) (hs : Row) (i : ℕ) (way : List Step) (f : Found) → in_variables ts ds b o hs i way ≡ Some f → i < length ds
ways_short ts [] b o hs i way f e = absurd (cc)
ways_short ts (d ∷ ds) b o hs zero way f e = omega arith
ways_short ts (d ∷ ds) b o hs (suc i) way f e = let lt = ways_short ts ds b (o + room ts d) (others hs) i way f e in omega arith

way_in : (ts : List Shape) (r : Room) (ss : List Slot) (i : ℕ) (way : List Step) (f : Found) → in_variables ts r.declared r.block 0 r.held i way ≡ Some f → in_level ts (Stands r ∷ ss) i way ≡ Some f
way_in ts r ss i way f e =
    ap (λ t. if t then in_variables ts r.declared r.block 0 r.held i way else in_level ts ss (i - length r.declared) way)
    (lt-ltb i (length r.declared) (ways_short ts r.declared r.block 0 r.held i way f e))
    ∙ e

way_past : (ts : List Shape) (r : Room) (ss : List Slot) (i : ℕ) (way : List Step) → in_level ts (Stands r ∷ ss) (length r.declared + i) way ≡ in_level ts ss i way
way_past ts r ss i way =
    let k : ℕ = length r.declared + i in
    let e : k - length r.declared ≡ i = omega arith in
    ap (λ t. if t then in_variables ts r.declared r.block 0 r.held k way else in_level ts ss (k - length r.declared) way) (le-ltb k (length r.declared) (omega arith))
    ∙ ap (λ j. in_level ts ss j way) e

-- ---- another word

module _ (ts : List Shape) (m : Live) (block i : ℕ) (z : ℤ) where
  abbrev now : Live
  now = with_word m block i z

  -- what is found there does not have the word
  abbrev IsClear : Found → Type 0
  IsClear f = (f.block ≡ block → f.at + form_words f.form (words_for f.shape) ≤ i) × (times block (blocks_in f.held) ≡ 0)

  kept_clear : (h : Held) → times block (blocks_in h) ≡ 0 → Kept m now (blocks_in h)
  kept_clear h none q some =
      as_it_was m now q (get-insert_other m block _ q (λ e. let f : times q (blocks_in h) ≡ times block (blocks_in h) = ap (λ c. times c (blocks_in h)) e in omega arith))

  same_clear : (b o k : ℕ) → (b ≡ block → o + k ≤ i) → Same m now b o k
  same_clear b o k few j from before = elim (split b block) [
    | inl e ↦
        let le : o + k ≤ i = few e in
        ap (λ c. word now c j) e ∙ ap (λ ws. slice_index_or ws j (pos 0)) (words-insert_same m block _) ∙ get_or-set_other (words_of m block) i j z (pos 0) (omega arith)
        ∙ ap (λ c. word m c j) (sym e)
    | inr ne ↦ (as_it_was m now b (get-insert_other m block _ b ne)).same j
  ]

  long_kept : (q : ℕ) → length (words_of now q) ≡ length (words_of m q)
  long_kept q = elim (split q block) [
    | inl e ↦ ap (λ c. length (words_of now c)) e ∙ ap length (words-insert_same m block _) ∙ length-set (words_of m block) i z ∙ ap (λ c. length (words_of m c)) (sym e)
    | inr ne ↦ (as_it_was m now q (get-insert_other m block _ q ne)).long
  ]

  abbrev Ways : List Declared → ℕ → ℕ → Row → Type 0
  Ways ds b o hs = (k : ℕ) (way : List Step) (f : Found) → in_variables ts ds b o hs k way ≡ Some f → IsClear f

  head_clear : (d : Declared) (ds : List Declared) (b o : ℕ) (hs : Row) → Ways (d ∷ ds) b o hs → (b ≡ block → o + room ts d ≤ i) × (times block (blocks_in (first hs)) ≡ 0)
  head_clear d ds b o hs ways =
      let w = form_whole (form_of d) (shape_in ts d.kind.of) d.kind.of b o (first hs) in
      let f : Found = w.0 in
      let is : IsWhole (form_of d) (words_for (shape_in ts d.kind.of)) b o (first hs) f = w.2 in
      let clear : IsClear f = ways 0 [] f w.1 in
      let at : f.at ≡ o = is.at in
      let words : form_words f.form (words_for f.shape) ≡ room ts d = is.words in
      (λ e. let le = clear.0 (is.block ∙ e) in omega arith, ap (λ h. times block (blocks_in h)) (sym is.held) ∙ clear.1)

  values_clear : (ds : List Declared) (b o : ℕ) (hs : Row) → Ways ds b o hs → variables ts now ds b o hs ≡ variables ts m ds b o hs
  values_clear [] b o hs ways = refl
  values_clear (d ∷ ds) b o hs ways =
      let s : Shape = shape_in ts d.kind.of in
      let c = head_clear d ds b o hs ways in
      ap (λ v. v ∷ variables ts now ds b (o + room ts d) (others hs))
      (formed_stays m now (form_of d) (words_for s) (object m s) (object now s) (object_stays m now s) b o (first hs) (same_clear b o (room ts d) c.0) (kept_clear (first hs) c.1))
      ∙ ap (λ vs. variable ts m d b o (first hs) ∷ vs) (values_clear ds b (o + room ts d) (others hs) (λ k. ways (suc k)))

  variables_clear : (ds : List Declared) (b o : ℕ) (hs : Row) → Ways ds b o hs → AreVariables ts m ds b o hs → AreVariables ts now ds b o hs
  variables_clear [] b o hs ways are = are
  variables_clear (d ∷ ds) b o hs ways are =
      let s : Shape = shape_in ts d.kind.of in
      let c = head_clear d ds b o hs ways in (
        form_persists m now (form_of d) (words_for s) (IsObject m s) (IsObject now s) (object_persists m now s) b o (first hs) (same_clear b o (room ts d) c.0) (kept_clear (first hs) c.1) are.0,
        variables_clear ds b (o + room ts d) (others hs) (λ k. ways (suc k)) are.1,
      )

  room_clear : (r : Room) → Ways r.declared r.block 0 r.held → IsRoom ts m r → IsRoom ts now r
  room_clear r ways is = record {
    live = live-insert m block _ r.block is.live;
    long = subst (λ k. total ts r.declared ≤ k) (sym (long_kept r.block)) is.long;
    variables = variables_clear r.declared r.block 0 r.held ways is.variables;
  }

  abbrev Level : List Slot → Type 0
  Level l = (k : ℕ) (way : List Step) (f : Found) → in_level ts l k way ≡ Some f → IsClear f

  behind_room : (r : Room) (ss : List Slot) → Level (Stands r ∷ ss) → Level ss
  behind_room r ss level k way f e = level (length r.declared + k) way f (way_past ts r ss k way ∙ e)

  in_front : (r : Room) (ss : List Slot) → Level (Stands r ∷ ss) → Ways r.declared r.block 0 r.held
  in_front r ss level k way f e = level k way f (way_in ts r ss k way f e)

  level_same : (l : List Slot) → Level l → level_values ts now l ≡ level_values ts m l
  level_same [] level = refl
  level_same (Known v ∷ ss) level = ap (λ vs. v ∷ vs) (level_same ss (λ k. level (suc k)))
  level_same (Stands r ∷ ss) level =
      ap (λ vs. vs ++ level_values ts now ss) (values_clear r.declared r.block 0 r.held (in_front r ss level))
      ∙ ap (λ vs. room_values ts m r ++ vs) (level_same ss (behind_room r ss level))

  level_clear : (l : List Slot) → Level l → IsLevel ts m l → IsLevel ts now l
  level_clear [] level is = tt
  level_clear (Known v ∷ ss) level is = (tt, level_clear ss (λ k. level (suc k)) is.1)
  level_clear (Stands r ∷ ss) level is = (room_clear r (in_front r ss level) is.0, level_clear ss (behind_room r ss level) is.1)

  abbrev Levels : List (List Slot) → Type 0
  Levels ls = (j : ℕ) → Level (slice_index_or ls j [])

  levels_same : (ls : List (List Slot)) → Levels ls → map (level_values ts now) ls ≡ map (level_values ts m) ls
  levels_same [] levels = refl
  levels_same (l ∷ ls) levels = ap (λ vs. vs ∷ map (level_values ts now) ls) (level_same l (levels 0)) ∙ ap (λ ws. level_values ts m l ∷ ws) (levels_same ls (λ j. levels (suc j)))

  levels_clear : (ls : List (List Slot)) → Levels ls → AreLevels ts m ls → AreLevels ts now ls
  levels_clear [] levels are = tt
  levels_clear (l ∷ ls) levels are = (level_clear l (levels 0) are.0, levels_clear ls (λ j. levels (suc j)) are.1)

pub extras_change_nothing : ExtrasChangeNothing
extras_change_nothing ts m x sound block i z behind =
    let n : Live = with_word m block i z in (
      ap (λ vs. let s : Store = record { statics = vs; levels = map (level_values ts n) x.levels } in s)
          (values_clear ts m block i z (x.statics).declared (x.statics).block 0 (x.statics).held (λ k. behind (Static k)))
          ∙ ap (λ ls. let s : Store = record { statics = room_values ts m x.statics; levels = ls } in s) (levels_same ts m block i z x.levels (λ j k. behind (Local j k))),
      record {
        statics = room_clear ts m block i z x.statics (λ k. behind (Static k)) sound.statics;
        levels = levels_clear ts m block i z x.levels (λ j k. behind (Local j k)) sound.levels;
        apart = sound.apart;
      },
    )
