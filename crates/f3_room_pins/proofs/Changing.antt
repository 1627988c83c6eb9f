-- Where no lent path goes through what was held in a part, lent paths go through the same blocks when something else is held there.
use Rattle.std.proofs.Common.{◌≡◌, ℤ, pos, inl, inr, ℕ, zero, suc, ◌≤◌, ◌<◌, Bool, true, false, List, [], ◌∷◌, ◌++◌, refl, sym, ap, subst, ◌∙◌, arith}
use Rattle.std.proofs.lemmas.Bool.{cases_eq}
use Rattle.std.proofs.lemmas.List.{append-nil, append_assoc}
use Rattle.std.specs.Prelude.{None, Some, slice_set}
use Rattle.f3_live_blocks.specs.Blocks.{Block, Live, words_of, pins_of}
use Rattle.f3_live_blocks.proofs.Laws.{pins-insert_same, pins-insert_other}
use Rattle.f3_meaning_whole.specs.Value.{Span}
use Rattle.f3_meaning_whole.specs.Shape.{Shape, Whole, Logical, Record}
use Rattle.f3_meaning_whole.specs.Store.{Root, Path, Step, Component, Element, Contents, same_root}
use Rattle.f3_meaning_whole.specs.Reference.{Reference}
use Rattle.f3_rooms.specs.Held.{Held, Empty, Holds, Parts as Divided, with_held, blocks_in, times}
use Rattle.f3_rooms.specs.Forms.{Form, Laid, Allocatable}
use Rattle.f3_rooms.specs.Rooms.{Rooms, blocks_of}
use Rattle.f3_rooms.specs.Places.{Found, in_form, in_object, found, with_word, rooms_with}
use Rattle.f3_rooms.specs.Sound.{IsSound}
use Rattle.f3_rooms.specs.Laws.{with_held_in}
use Rattle.f3_rooms.specs.Ways.{part_of}
use Rattle.f3_rooms.proofs.Aside.{other_parts_stand, other_variables_stand}
use Rattle.f3_rooms.proofs.Framing.{one_here}
use Rattle.f3_rooms.proofs.Freeing.{emptied}
use Rattle.f3_rooms.proofs.Onward.{parts_have_parts}
use Rattle.f3_rooms.proofs.Reading.{none_found}
use Rattle.f3_rooms.proofs.Within.{store_owns, form_inside, object_inside}
use Rattle.f3_room_account.proofs.Exchanging.{blocks_exchanged}
use Rattle.f3_room_pins.specs.Pins.{block_in, block_at, blocks_behind, blocks_along, blocks_lent, times_lent, ArePinned, IsThere, AreThere}
use Rattle.f3_room_pins.specs.Laws.{StaysAt, StayAt, KeepsLent, ChangesKeepPins, MovesKeepPins}
use Rattle.f3_room_pins.proofs.Ways.{same_roots, stepped, Lies, Aside, Onward, Before, lie}
use Rattle.f3_room_pins.proofs.Apart.{is_holding, only_contents}
use Rattle.f3_room_pins.proofs.Through.{enters_so, in_store}
use Rattle.f3_room_pins.proofs.Fronts.{front_found, front_stays, same_onward}

-- where a way enters the contents of a part, something is held there
pub record IsHeld (f : Found) : Type 0 where
  pub block : ℕ
  pub spans : List Span
  pub beneath : Held
  pub held : f.held ≡ Holds block spans beneath

pub is_held : (f g : Found) (way : List Step) → part_of f (Contents ∷ way) ≡ Some g → IsHeld f
is_held f g way e = by f.form f.shape f.held refl e
  where
    by : (form : Form) (s : Shape) (h : Held) → f.held ≡ h → in_form form s f.of (in_object s f.of) f.block f.at h (Contents ∷ way) ≡ Some g → IsHeld f
    by (Laid zero ss) Whole h is e = none_found g e
    by (Laid zero ss) Logical h is e = none_found g e
    by (Laid zero ss) (Record t parts) h is e = none_found g e
    by (Laid (suc rank) ss) s h is e = none_found g e
    by (Allocatable rank) s Empty is e = none_found g e
    by (Allocatable rank) s (Divided hs) is e = none_found g e
    by (Allocatable rank) s (Holds c ss h) is e = record { block = c; spans = ss; beneath = h; held = is }

-- what is held in a part of a part
within_part : (f g : Found) (way : List Step) → part_of f way ≡ Some g → (q : ℕ) → times q (blocks_in g.held) ≤ times q (blocks_in f.held)
within_part f g way e = (form_inside g f.shape f.of (object_inside g f.shape f.of) f.form f.block f.at f.held way e).counted

module _ (ts : List Shape) (m : Live) (x : Rooms) (sound : IsSound ts m x) (r : Root) (way : List Step) (f : Found) (at : found ts x r way ≡ Some f) (u : Held) where
  abbrev y : Rooms
  y = rooms_with x r way u

  -- no path through this way goes through what is held here
  abbrev IsFree : Path → Type 0
  IsFree p = (d : ℕ) → 0 < times d (blocks_in f.held) → times d (blocks_along ts x p.root p.steps) ≡ 0

  -- beneath the part a path enters no contents
  none_entered : (p : Path) → IsFree p → (more after : List Step) → p.steps ≡ (way ++ more) ++ Contents ∷ after → r ≡ p.root → (e : Found) → found ts x r p.steps ≡ Some e → ⊥
  none_entered p free more after is root e there =
      let whole : found ts x r ((way ++ more) ++ Contents ∷ after) ≡ Some e = ap (found ts x r) (sym is) ∙ there in
      let g = front_found ts x r (way ++ more) (Contents ∷ after) e whole in
      let h = is_held g.0 e after (sym (parts_have_parts ts x r (way ++ more) (Contents ∷ after) g.0 g.1) ∙ whole) in
      let few = within_part f g.0 more (sym (parts_have_parts ts x r way more f at) ∙ g.1) h.block in
      let own : times h.block (blocks_in (g.0).held) ≡ times h.block (h.block ∷ blocks_in h.beneath) = ap (λ k. times h.block (blocks_in k)) h.held in
      let o = one_here h.block (blocks_in h.beneath) in
      let z = free h.block (omega arith) in
      let t = enters_so ts x r [] (way ++ more) after h.block g.0 h.spans h.beneath g.1 h.held in
      let s : times h.block (blocks_along ts x p.root p.steps) ≡ times h.block (blocks_along ts x r ((way ++ more) ++ Contents ∷ after)) =
      ap (λ k. times h.block (blocks_along ts x k p.steps)) (sym root) ∙ ap (λ w. times h.block (blocks_along ts x r w)) is in
      absurd (omega arith)

  -- the block of what holds this part stays
  keeps_block : (g : Found) (front : List Step) → found ts x r front ≡ Some g → (step : Step) (more : List Step) → part_of g (step ∷ more) ≡ Some f
      → block_in (with_held g.held (step ∷ more) u) ≡ block_in g.held
  keeps_block g front there step more e = by g.held refl step (λ c ss h is. only_contents g f c ss h (is_holding ts m x sound r front g there c ss h is) step more e)
    where
      by : (h : Held) → g.held ≡ h → (s : Step) → ((c : ℕ) (ss : List Span) (k : Held) → g.held ≡ Holds c ss k → s ≡ Contents) → block_in (with_held h (s ∷ more) u) ≡ block_in h
      by Empty is (Component k) only = refl
      by Empty is (Element k) only = refl
      by Empty is Contents only = refl
      by (Divided hs) is (Component k) only = refl
      by (Divided hs) is (Element k) only = refl
      by (Divided hs) is Contents only = refl
      by (Holds c ss h) is s only = ap (λ t. block_in (with_held (Holds c ss h) (t ∷ more) u)) (only c ss h is)

  -- so the blocks along a path are the same
  same_at : (p : Path) → IsThere ts x p → IsFree p → (front after : List Step) → p.steps ≡ front ++ Contents ∷ after → block_at (found ts y p.root front) ≡ block_at (found ts x p.root front)
  same_at p there free front after is = by (same_root r p.root) refl
    where
      along : r ≡ p.root → Lies way front → block_at (found ts y r front) ≡ block_at (found ts x r front)
      along root (Aside a) = ap block_at (other_parts_stand ts x r way front f u at a)
      along root (Onward more e) = absurd (elim there [
        | inl none ↦ let g = front_found ts x r [] way f at in none_found g.0 (sym none ∙ ap (λ k. found ts x k []) (sym root) ∙ g.1)
        | inr some ↦ none_entered p free more after (is ∙ ap (λ w. w ++ Contents ∷ after) e) root some.0 (ap (λ k. found ts x k p.steps) root ∙ some.1)
      ])
      along root (Before step more e) =
          let all : found ts x r (front ++ step ∷ more) ≡ Some f = ap (found ts x r) (sym e) ∙ at in
          let g = front_found ts x r front (step ∷ more) f all in
          let p' : part_of g.0 (step ∷ more) ≡ Some f = sym (parts_have_parts ts x r front (step ∷ more) g.0 g.1) ∙ all in
          let now : found ts y r front ≡ Some (with_held_in g.0 (with_held (g.0).held (step ∷ more) u)) =
          ap (λ w. found ts (rooms_with x r w u) r front) e ∙ front_stays ts x r front (step ∷ more) g.0 u g.1 in
          ap block_at now ∙ keeps_block g.0 front g.1 step more p' ∙ sym (ap block_at g.1)

      by : (t : Bool) → same_root r p.root ≡ t → block_at (found ts y p.root front) ≡ block_at (found ts x p.root front)
      by false e = ap block_at (other_variables_stand ts x r p.root way front u e)
      by true e = let root = same_roots r p.root e in
          subst (λ k. block_at (found ts y k front) ≡ block_at (found ts x k front)) root (along root (lie way front))

  same_blocks : (p : Path) → IsThere ts x p → IsFree p → (front after : List Step) → p.steps ≡ front ++ after → blocks_behind ts y p.root front after ≡ blocks_behind ts x p.root front after
  same_blocks p there free front [] is = refl
  same_blocks p there free front (Component k ∷ after) is = same_blocks p there free (front ++ Component k ∷ []) after (is ∙ sym (stepped front (Component k) after))
  same_blocks p there free front (Element k ∷ after) is = same_blocks p there free (front ++ Element k ∷ []) after (is ∙ sym (stepped front (Element k) after))
  same_blocks p there free front (Contents ∷ after) is =
      ap (λ bs. bs ++ blocks_behind ts y p.root (front ++ Contents ∷ []) after) (same_at p there free front after is)
      ∙ ap (λ cs. block_at (found ts x p.root front) ++ cs) (same_blocks p there free (front ++ Contents ∷ []) after (is ∙ sym (stepped front Contents after)))

  -- and it leads to the same part
  stays_at : (p : Path) → IsThere ts x p → IsFree p → StaysAt ts x y p
  stays_at p there free e some = by (same_root r p.root) refl
    where
      after_it : r ≡ p.root → found ts x r p.steps ≡ Some e → Lies way p.steps → (h : Held) × (found ts y r p.steps ≡ Some (with_held_in e h))
      after_it root some (Aside a) = (e.held, other_parts_stand ts x r way p.steps f u at a ∙ some)
      after_it root some (Before step more is) = (_, ap (λ w. found ts (rooms_with x r w u) r p.steps) is ∙ front_stays ts x r p.steps (step ∷ more) e u some)
      after_it root some (Onward more is) =
          let p' : part_of f more ≡ Some e = sym (parts_have_parts ts x r way more f at) ∙ ap (found ts x r) (sym is) ∙ some in
          let now : found ts y r way ≡ Some (with_held_in f u) = ap (λ w. found ts (rooms_with x r w u) r way) (sym (append-nil way)) ∙ front_stays ts x r way [] f u at in
          elim (same_onward f u more e p') [
            | inl has ↦ absurd (none_entered p free has.0 (has.1).0 (is ∙ ap (λ w. way ++ w) (has.1).1 ∙ sym (append_assoc way has.0 (Contents ∷ (has.1).0))) root e some)
            | inr goes ↦ (goes.0, ap (found ts y r) is ∙ parts_have_parts ts y r way more (with_held_in f u) now ∙ goes.1)
          ]

      by : (t : Bool) → same_root r p.root ≡ t → (h : Held) × (found ts y p.root p.steps ≡ Some (with_held_in e h))
      by false n = (e.held, other_variables_stand ts x r p.root way p.steps u n ∙ some)
      by true n =
          let root = same_roots r p.root n in
          let g = after_it root (ap (λ k. found ts x k p.steps) root ∙ some) (lie way p.steps) in
          (g.0, ap (λ k. found ts y k p.steps) (sym root) ∙ g.1)

  -- so it is still there
  still_there : (p : Path) → IsThere ts x p → IsFree p → IsThere ts y p
  still_there p there free = elim there [
    | inl none ↦ by none (same_root r p.root) refl
    | inr some ↦ let g = stays_at p (inr some) free some.0 some.1 in inr (with_held_in some.0 g.0, g.1)
  ]
    where
      by : found ts x p.root [] ≡ None → (t : Bool) → same_root r p.root ≡ t → IsThere ts y p
      by none false e = inl (other_variables_stand ts x r p.root way [] u e ∙ none)
      by none true e = let g = front_found ts x r [] way f at in none_found g.0 (sym none ∙ ap (λ k. found ts x k []) (sym (same_roots r p.root e)) ∙ g.1)

  -- ---- all that are lent

  abbrev AreFree : List Reference → Type 0
  AreFree lent = (d : ℕ) → 0 < times d (blocks_in f.held) → times_lent ts x d lent ≡ 0

  first_free : (l : Reference) (ls : List Reference) → AreFree (l ∷ ls) → IsFree l.path
  first_free l ls free d some = let z = free d some in omega arith

  others_free : (l : Reference) (ls : List Reference) → AreFree (l ∷ ls) → AreFree ls
  others_free l ls free d some = let z = free d some in omega arith

  all_same : (lent : List Reference) → AreThere ts x lent → AreFree lent → (b : ℕ) → times_lent ts y b lent ≡ times_lent ts x b lent
  all_same [] there free b = refl
  all_same (l ∷ ls) there free b =
      let e : times b (blocks_lent ts y l) ≡ times b (blocks_lent ts x l) = ap (times b) (same_blocks l.path there.0 (first_free l ls free) [] l.path.steps refl) in
      let i = all_same ls there.1 (others_free l ls free) b in
      omega arith

  all_there : (lent : List Reference) → AreThere ts x lent → AreFree lent → AreThere ts y lent
  all_there [] there free = tt
  all_there (l ∷ ls) there free = (still_there l.path there.0 (first_free l ls free), all_there ls there.1 (others_free l ls free))

  all_stay : (lent : List Reference) → AreThere ts x lent → AreFree lent → StayAt ts x y lent
  all_stay [] there free = tt
  all_stay (l ∷ ls) there free = (stays_at l.path there.0 (first_free l ls free), all_stay ls there.1 (others_free l ls free))

-- what is no block of the store is on no lent path
pub none_lent : (ts : List Shape) (x : Rooms) (b : ℕ) → times b (blocks_of x) ≡ 0 → (lent : List Reference) → times_lent ts x b lent ≡ 0
none_lent ts x b none [] = refl
none_lent ts x b none (l ∷ ls) = let i = none_lent ts x b none ls in let z = by (times b (blocks_lent ts x l)) (in_store ts x l.path.root l.path.steps b) in omega arith
  where
    by : (k : ℕ) → (0 < k → 0 < times b (blocks_of x)) → k ≡ 0
    by zero goes = refl
    by (suc k) goes = absurd (let s = goes (omega arith) in omega arith)

pub changes_keep_pins : ChangesKeepPins
changes_keep_pins ts m n x lent sound pinned there r way f at bare u keeps = record {
  pinned = all_pinned;
  there = all_there ts m x sound r way f at u lent there free;
  same = all_stay ts m x sound r way f at u lent there free;
}
  where
    free : AreFree ts m x sound r way f at u lent
    free d some = let c = (store_owns ts x r way f at).counted d in sym (pinned d (omega arith)) ∙ bare d some

    as_was : (b k j : ℕ) → times b (blocks_in u) ≡ k → times b (blocks_in f.held) ≡ j → 0 < times b (blocks_of (rooms_with x r way u)) → pins_of n b ≡ times_lent ts x b lent
    as_was b zero j new old some = let e = blocks_exchanged ts m x sound r way f at u b in keeps.others b (omega arith) ∙ pinned b (omega arith)
    as_was b (suc k) (suc j) new old some = keeps.held b (omega arith) ∙ sym (free b (omega arith))
    as_was b (suc k) zero new old some = by (times b (blocks_of x)) refl
      where
        by : (i : ℕ) → times b (blocks_of x) ≡ i → pins_of n b ≡ times_lent ts x b lent
        by zero e = keeps.held b (omega arith) ∙ sym (none_lent ts x b e lent)
        by (suc i) e = keeps.others b (omega arith) ∙ pinned b (omega arith)

    all_pinned : ArePinned ts n (rooms_with x r way u) lent
    all_pinned b some = as_was b (times b (blocks_in u)) (times b (blocks_in f.held)) refl refl some ∙ sym (all_same ts m x sound r way f at u lent there free b)

-- ---- moves

stay_then : (ts : List Shape) (x y z : Rooms) (lent : List Reference) → StayAt ts x y lent → StayAt ts y z lent → StayAt ts x z lent
stay_then ts x y z [] first next = tt
stay_then ts x y z (l ∷ ls) first next = (
  λ f at. let g = first.0 f at in let h = next.0 (with_held_in f g.0) g.1 in (h.0, h.1),
  stay_then ts x y z ls first.1 next.1,
)

pub same_pins : (m : Live) (block at : ℕ) (z : ℤ) (b : ℕ) → pins_of (with_word m block at z) b ≡ pins_of m b
same_pins m block at z b =
    let new : Block = record { words = slice_set (words_of m block) at z; pins = pins_of m block } in
    elim (cases_eq b block) [
      | inl e ↦ subst (λ c. pins_of (with_word m block at z) c ≡ pins_of m c) (sym e) (pins-insert_same m block new)
      | inr ne ↦ pins-insert_other m block new b ne
    ]

pub moves_keep_pins : MovesKeepPins
moves_keep_pins ts m n x lent sound pinned there r q way other f g from rank form bare to none same =
    let y : Rooms = rooms_with x r way Empty in
    let mid : Live = with_word m f.block f.at (pos 0) in
    let emptied' = emptied ts m x sound r way f from rank form m (λ b z. refl) in
    let pins : (b : ℕ) → pins_of mid b ≡ pins_of m b = same_pins m f.block f.at (pos 0) in
    let first : KeepsLent ts mid x y lent = changes_keep_pins ts m mid x lent sound pinned there r way f from bare Empty (record { others = λ b lt. pins b; held = λ b lt. absurd (omega arith) }) in
    let second : KeepsLent ts n y (rooms_with y q other f.held) lent = changes_keep_pins ts mid n y lent emptied'.sound first.pinned first.there q other g to
    (λ b lt. absurd (let z : times b (blocks_in g.held) ≡ 0 = ap (λ h. times b (blocks_in h)) none in omega arith)) f.held (record {
      others = λ b lt. let e = blocks_exchanged ts m x sound r way f from Empty b in same b (omega arith) ∙ sym (pins b);
      held = λ b lt. let c = (store_owns ts x r way f from).counted b in same b (omega arith) ∙ bare b lt;
    }) in
    record { pinned = second.pinned; there = second.there; same = stay_then ts x y (rooms_with y q other f.held) lent first.same second.same }
