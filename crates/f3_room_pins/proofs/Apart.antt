-- The block of what an allocatable holds is held by no other.
use Rattle.std.proofs.Common.{◌≡◌, ℕ, zero, suc, ◌+◌, ◌≤◌, ◌<◌, Bool, true, false, List, [], ◌∷◌, ◌++◌, refl, sym, ap, subst, ◌∙◌, arith}
use Rattle.std.proofs.lemmas.List.{append-nil}
use Rattle.std.specs.Prelude.{Some}
use Rattle.f3_live_blocks.specs.Blocks.{Live}
use Rattle.f3_meaning_whole.specs.Value.{Span}
use Rattle.f3_meaning_whole.specs.Shape.{Shape, Whole, Logical, Record}
use Rattle.f3_meaning_whole.specs.Store.{Root, Step, Component, Element, Contents, same_root}
use Rattle.f3_rooms.specs.Held.{Held, Empty, Holds, blocks_in, times}
use Rattle.f3_rooms.specs.Forms.{Form, Laid, Allocatable, words_for}
use Rattle.f3_rooms.specs.Rooms.{Rooms}
use Rattle.f3_rooms.specs.Places.{Found, in_form, in_object, found, rooms_with}
use Rattle.f3_rooms.specs.Sound.{IsForm, IsObject, IsSound}
use Rattle.f3_rooms.specs.Ways.{part_of}
use Rattle.f3_rooms.proofs.Aside.{other_parts_stand, other_variables_stand}
use Rattle.f3_rooms.proofs.Framing.{one_here}
use Rattle.f3_rooms.proofs.Freeing.{emptied_counts}
use Rattle.f3_rooms.proofs.Onward.{parts_have_parts}
use Rattle.f3_rooms.proofs.Reading.{none_found}
use Rattle.f3_rooms.proofs.Within.{one_more, store_owns, part_lies, laid_inside, object_inside}
use Rattle.f3_room_pins.proofs.Ways.{same_roots, Lies, Aside, Onward, Before, lie}

-- an allocatable, and what it holds
pub record IsHolding (f : Found) (c : ℕ) (ss : List Span) (h : Held) : Type 0 where
  pub rank : ℕ
  pub form : f.form ≡ Allocatable rank
  pub held : f.held ≡ Holds c ss h

empty_holds : {A : Type 0} (c : ℕ) (ss : List Span) (h : Held) → Holds c ss h ≡ Empty → A
empty_holds c ss h e = absurd (cc)

holder : (m : Live) (form : Form) (s : Shape) (b o c : ℕ) (ss : List Span) (h : Held) → IsForm m form (words_for s) (IsObject m s) b o (Holds c ss h) → (rank : ℕ) × (form ≡ Allocatable rank)
holder m (Allocatable rank) s b o c ss h has = (rank, refl)
holder m (Laid zero tt) Whole b o c ss h has = empty_holds c ss h has
holder m (Laid zero tt) Logical b o c ss h has = empty_holds c ss h has
holder m (Laid zero tt) (Record t parts) b o c ss h has = absurd has.0
holder m (Laid (suc rank) tt) s b o c ss h has = absurd has.0

-- more is held beneath it
beneath : (f g : Found) (c : ℕ) (ss : List Span) (h : Held) → IsHolding f c ss h → (step : Step) (more : List Step) → part_of f (step ∷ more) ≡ Some g
    → (q : ℕ) → times q (blocks_in g.held) ≤ times q (blocks_in h)
beneath f g c ss h is step more e =
    by step (ap (λ (k : Form). in_form k f.shape f.of (in_object f.shape f.of) f.block f.at (Holds c ss h) (step ∷ more)) (sym is.form)
    ∙ ap (λ k. in_form f.form f.shape f.of (in_object f.shape f.of) f.block f.at k (step ∷ more)) (sym is.held) ∙ e)
  where
    by : (step : Step) → in_form (Allocatable is.rank) f.shape f.of (in_object f.shape f.of) f.block f.at (Holds c ss h) (step ∷ more) ≡ Some g
        → (q : ℕ) → times q (blocks_in g.held) ≤ times q (blocks_in h)
    by (Component k) e q = none_found g e
    by (Element k) e q = none_found g e
    by Contents e q = (laid_inside g f.shape f.of (object_inside g f.shape f.of) is.rank ss c 0 h more e).counted q

-- from it a way goes on into its contents alone
pub only_contents : (f g : Found) (c : ℕ) (ss : List Span) (h : Held) → IsHolding f c ss h → (step : Step) (more : List Step) → part_of f (step ∷ more) ≡ Some g → step ≡ Contents
only_contents f g c ss h is step more e = by step (ap (λ (k : Form). in_form k f.shape f.of (in_object f.shape f.of) f.block f.at f.held (step ∷ more)) (sym is.form) ∙ e)
  where
    by : (step : Step) → in_form (Allocatable is.rank) f.shape f.of (in_object f.shape f.of) f.block f.at f.held (step ∷ more) ≡ Some g → step ≡ Contents
    by (Component k) e = none_found g e
    by (Element k) e = none_found g e
    by Contents e = refl

module _ (ts : List Shape) (m : Live) (x : Rooms) (sound : IsSound ts m x) where
  pub is_holding : (r : Root) (way : List Step) (f : Found) → found ts x r way ≡ Some f → (c : ℕ) (ss : List Span) (h : Held) → f.held ≡ Holds c ss h → IsHolding f c ss h
  is_holding r way f at c ss h held =
      let is = holder m f.form f.shape f.block f.at c ss h
      (subst (λ k. IsForm m f.form (words_for f.shape) (IsObject m f.shape) f.block f.at k) held (part_lies ts m x sound r way f at).form) in
      record { rank = is.0; form = is.1; held = held }

  module _ (r : Root) (way : List Step) (f : Found) (at : found ts x r way ≡ Some f) (c : ℕ) (ss : List Span) (h : Held) (is : IsHolding f c ss h) where
    pub once : (b : ℕ) → times b (blocks_in f.held) ≤ 1
    once b = let e = (store_owns ts x r way f at).counted b in let o = sound.apart b in omega arith

    pub own_block : (q : ℕ) → times q (blocks_in f.held) ≡ times q (c ∷ blocks_in h)
    own_block q = ap (λ k. times q (blocks_in k)) is.held

    -- a part that stands there also where this one holds nothing has other blocks
    elsewhere : (q : Root) (other : List Step) (g : Found) → found ts (rooms_with x r way Empty) q other ≡ Some g → (b : ℕ) → times b (blocks_in f.held) + times b (blocks_in g.held) ≤ 1
    elsewhere q other g there b =
        let n = emptied_counts ts m x sound r way f at is.rank is.form m (λ b z. refl) b in
        let e = (store_owns ts (rooms_with x r way Empty) q other g there).counted b in
        let o = sound.apart b in
        omega arith

    -- an allocatable that holds one of the blocks that are held here is this one, or beneath it
    pub only_beneath : (q : Root) (other : List Step) (g : Found) → found ts x q other ≡ Some g → (d : ℕ) (us : List Span) (k : Held) → IsHolding g d us k
        → 0 < times d (blocks_in f.held) → (r ≡ q) × ((more : List Step) × (other ≡ way ++ more))
    only_beneath q other g there d us k holds some = by (same_root r q) refl
      where
        mine : 0 < times d (blocks_in g.held)
        mine = let e : times d (blocks_in g.held) ≡ times d (d ∷ blocks_in k) = ap (λ k. times d (blocks_in k)) holds.held in let o = one_here d (blocks_in k) in omega arith

        along : r ≡ q → found ts x r other ≡ Some g → Lies way other → (r ≡ q) × ((more : List Step) × (other ≡ way ++ more))
        along same here (Onward more e) = (same, (more, e))
        along same here (Aside a) = absurd (let n = elsewhere r other g (other_parts_stand ts x r way other f Empty at a ∙ here) d in let o = mine in omega arith)
        along same here (Before step more e) =
            let p : part_of g (step ∷ more) ≡ Some f = sym (parts_have_parts ts x r other (step ∷ more) g here) ∙ ap (found ts x r) (sym e) ∙ at in
            let n = beneath g f d us k holds step more p d in
            let w : times d (blocks_in g.held) ≡ times d (d ∷ blocks_in k) = ap (λ k. times d (blocks_in k)) holds.held in
            let o = one_more d d (blocks_in k) refl in
            let a = (store_owns ts x r other g here).counted d in
            let s = sound.apart d in
            absurd (omega arith)

        by : (t : Bool) → same_root r q ≡ t → (r ≡ q) × ((more : List Step) × (other ≡ way ++ more))
        by false e = absurd (let n = elsewhere q other g (other_variables_stand ts x r q way other Empty e ∙ there) d in let o = mine in omega arith)
        by true e = let same = same_roots r q e in along same (ap (λ k. found ts x k other) same ∙ there) (lie way other)

    -- one that holds the same block is this one
    pub only_one : (q : Root) (other : List Step) (g : Found) → found ts x q other ≡ Some g → (us : List Span) (k : Held) → IsHolding g c us k → (r ≡ q) × (other ≡ way)
    only_one q other g there us k holds =
        let i = only_beneath q other g there c us k holds (let o = one_here c (blocks_in h) in let w = own_block c in omega arith) in
        (i.0, by i.0 (i.1).0 (i.1).1)
      where
        by : r ≡ q → (more : List Step) → other ≡ way ++ more → other ≡ way
        by same [] e = e ∙ append-nil way
        by same (step ∷ more) e =
            let p : part_of f (step ∷ more) ≡ Some g = sym (parts_have_parts ts x r way (step ∷ more) f at) ∙ ap (found ts x r) (sym e) ∙ ap (λ k. found ts x k other) same ∙ there in
            let n = beneath f g c ss h is step more p c in
            let w : times c (blocks_in g.held) ≡ times c (c ∷ blocks_in k) = ap (λ k. times c (blocks_in k)) holds.held in
            let o = one_here c (blocks_in k) in
            let v = own_block c in
            let u = one_more c c (blocks_in h) refl in
            let l = once c in
            absurd (omega arith)
