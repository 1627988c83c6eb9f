-- Where the pins of a block are as many as lent references go through it, it is pinned where the language says so.
use Rattle.std.proofs.Common.{◌≡◌, ℕ, zero, suc, ◌+◌, ◌<◌, Bool, true, false, ◌&&◌, ◌||◌, not, nat_eq, List, [], ◌∷◌, ◌++◌, refl, sym, ap, subst, ◌∙◌, arith}
use Rattle.std.proofs.lemmas.Bool.Decides.{nat_tests}
use Rattle.std.proofs.lemmas.List.{append-nil, append_assoc}
use Rattle.std.specs.Prelude.{Some}
use Rattle.f3_live_blocks.specs.Blocks.{Live}
use Rattle.f3_meaning_whole.specs.Value.{Span}
use Rattle.f3_meaning_whole.specs.Shape.{Shape}
use Rattle.f3_meaning_whole.specs.Store.{Root, Path, Step, Contents, same_root, begins_with, goes_through, within}
use Rattle.f3_meaning_whole.specs.Reference.{Reference, is_pinned}
use Rattle.f3_rooms.specs.Held.{Held, Holds, blocks_in, times}
use Rattle.f3_rooms.specs.Rooms.{Rooms, blocks_of}
use Rattle.f3_rooms.specs.Places.{Found, found}
use Rattle.f3_rooms.specs.Sound.{IsSound}
use Rattle.f3_rooms.specs.Laws.{path_at}
use Rattle.f3_rooms.specs.Ways.{part_of}
use Rattle.f3_rooms.proofs.Framing.{one_here}
use Rattle.f3_rooms.proofs.Onward.{parts_have_parts}
use Rattle.f3_rooms.proofs.Within.{store_owns}
use Rattle.f3_room_pins.specs.Pins.{blocks_along, blocks_lent, times_lent}
use Rattle.f3_room_pins.specs.Laws.{PinnedIsLent, AllAreFree}
use Rattle.f3_room_pins.proofs.Ways.{never, both_left, both_right, same_roots, root_itself, enters, enters_so}
use Rattle.f3_room_pins.proofs.Apart.{IsHolding, is_holding, only_beneath, only_contents}
use Rattle.f3_room_pins.proofs.Through.{Enters, enters as through, enters_so as through_so}

pub either_true : (a b : Bool) → a ≡ true → (a || b) ≡ true
either_true true b e = refl
either_true false b e = never e

not_none : (k : ℕ) → 0 < k → nat_eq k 0 ≡ false
not_none k some = by (nat_eq k 0) refl
  where
    by : (t : Bool) → nat_eq k 0 ≡ t → nat_eq k 0 ≡ false
    by true e = absurd (let z : k ≡ 0 = grind (arith, nat_tests) in omega arith)
    by false e = e

module _ (ts : List Shape) (m : Live) (x : Rooms) (sound : IsSound ts m x) (r : Root) (way : List Step) (f : Found) (at : found ts x r way ≡ Some f) (c : ℕ) (ss : List Span) (h : Held)
    (held : f.held ≡ Holds c ss h) where
  holds : IsHolding f c ss h
  holds = is_holding ts m x sound r way f at c ss h held

  -- a path through the contents goes through the block
  goes : (p : Path) → goes_through p (within (path_at r way) Contents) ≡ true → 0 < times c (blocks_along ts x p.root p.steps)
  goes p e =
      let root : p.root ≡ r = same_roots p.root r (both_left (same_root p.root r) (begins_with p.steps (way ++ Contents ∷ [])) e) in
      let on = enters p.steps way (both_right (same_root p.root r) (begins_with p.steps (way ++ Contents ∷ [])) e) in
      subst (λ w. 0 < times c (blocks_along ts x p.root w)) (sym on.1)
      (subst (λ q. 0 < times c (blocks_along ts x q (way ++ Contents ∷ on.0))) (sym root) (through_so ts x r [] way on.0 c f ss h at held))

  -- a path through a block that is held there goes through the contents
  comes : (p : Path) (d : ℕ) → 0 < times d (blocks_in f.held) → 0 < times d (blocks_along ts x p.root p.steps) → goes_through p (within (path_at r way) Contents) ≡ true
  comes p d mine some =
      let t : Enters ts x p.root [] p.steps d = through ts x p.root [] p.steps d some in
      let is = is_holding ts m x sound p.root t.mid t.part t.found d t.spans t.beneath t.held in
      let only = only_beneath ts m x sound r way f at c ss h holds p.root t.mid t.part t.found d t.spans t.beneath is mine in
      let steps : begins_with p.steps (way ++ Contents ∷ []) ≡ true = subst (λ w. begins_with w (way ++ Contents ∷ []) ≡ true) (sym t.is)
      (onward only.0 (only.1).0 t.mid (only.1).1 t.after t.part t.found) in
      ap (λ a. a && begins_with p.steps (way ++ Contents ∷ [])) (ap (λ q. same_root p.root q) only.0 ∙ root_itself p.root) ∙ steps
    where
      onward : r ≡ p.root → (more : List Step) → (mid : List Step) → mid ≡ way ++ more → (after : List Step) → (g : Found) → found ts x p.root mid ≡ Some g
          → begins_with (mid ++ Contents ∷ after) (way ++ Contents ∷ []) ≡ true
      onward same [] mid e after g there = subst (λ w. begins_with (w ++ Contents ∷ after) (way ++ Contents ∷ []) ≡ true) (sym (e ∙ append-nil way)) (enters_so way after)
      onward same (step ∷ more) mid e after g there =
          let p' : part_of f (step ∷ more) ≡ Some g = sym (parts_have_parts ts x r way (step ∷ more) f at) ∙ ap (found ts x r) (sym e) ∙ ap (λ k. found ts x k mid) same ∙ there in
          let is : step ≡ Contents = only_contents f g c ss h holds step more p' in
          let all : mid ++ Contents ∷ after ≡ way ++ Contents ∷ (more ++ Contents ∷ after) =
          ap (λ w. w ++ Contents ∷ after) (e ∙ ap (λ k. way ++ k ∷ more) is) ∙ append_assoc way (Contents ∷ more) (Contents ∷ after) in
          subst (λ w. begins_with w (way ++ Contents ∷ []) ≡ true) (sym all) (enters_so way (more ++ Contents ∷ after))

  -- one is at most what there is
  mine : 0 < times c (blocks_in f.held)
  mine = let o = one_here c (blocks_in h) in let e : times c (blocks_in f.held) ≡ times c (c ∷ blocks_in h) = ap (λ k. times c (blocks_in k)) held in omega arith

  exact : (lent : List Reference) → nat_eq (times_lent ts x c lent) 0 ≡ not (is_pinned (path_at r way) lent)
  exact [] = refl
  exact (l ∷ ls) = by (goes_through l.path (within (path_at r way) Contents)) refl (times c (blocks_lent ts x l)) refl (exact ls)
    where
      by : (t : Bool) → goes_through l.path (within (path_at r way) Contents) ≡ t → (k : ℕ) → times c (blocks_lent ts x l) ≡ k
          → nat_eq (times_lent ts x c ls) 0 ≡ not (is_pinned (path_at r way) ls)
          → nat_eq (times c (blocks_lent ts x l) + times_lent ts x c ls) 0 ≡ not (goes_through l.path (within (path_at r way) Contents) || is_pinned (path_at r way) ls)
      by true e k n rest = let g = goes l.path e in not_none (times c (blocks_lent ts x l) + times_lent ts x c ls) (omega arith)
          ∙ sym (ap (λ t. not (t || is_pinned (path_at r way) ls)) e)
      by false e (suc k) n rest = never (sym e ∙ comes l.path c mine (omega arith))
      by false e zero n rest = ap (λ j. nat_eq j 0) (let p : times c (blocks_lent ts x l) + times_lent ts x c ls ≡ times_lent ts x c ls = omega arith in p)
          ∙ rest ∙ sym (ap (λ t. not (t || is_pinned (path_at r way) ls)) e)

  none_lent : (d : ℕ) → 0 < times d (blocks_in f.held) → (lent : List Reference) → is_pinned (path_at r way) lent ≡ false → times_lent ts x d lent ≡ 0
  none_lent d some [] free = refl
  none_lent d some (l ∷ ls) free = by (goes_through l.path (within (path_at r way) Contents)) refl (times d (blocks_lent ts x l)) refl (none_lent d some ls)
    where
      by : (t : Bool) → goes_through l.path (within (path_at r way) Contents) ≡ t → (k : ℕ) → times d (blocks_lent ts x l) ≡ k
          → (is_pinned (path_at r way) ls ≡ false → times_lent ts x d ls ≡ 0) → times d (blocks_lent ts x l) + times_lent ts x d ls ≡ 0
      by true e k n rest = never (sym free ∙ either_true (goes_through l.path (within (path_at r way) Contents)) (is_pinned (path_at r way) ls) e)
      by false e (suc k) n rest = never (sym e ∙ comes l.path d some (omega arith))
      by false e zero n rest = let z = rest (sym (ap (λ t. t || is_pinned (path_at r way) ls) e) ∙ free) in omega arith

  in_store : (d : ℕ) → 0 < times d (blocks_in f.held) → 0 < times d (blocks_of x)
  in_store d some = let e = (store_owns ts x r way f at).counted d in omega arith

pub pinned_is_lent : PinnedIsLent
pinned_is_lent ts m x lent sound pinned r way f at c ss h held =
    ap (λ k. nat_eq k 0) (pinned c (in_store ts m x sound r way f at c ss h held c (mine ts m x sound r way f at c ss h held)))
    ∙ exact ts m x sound r way f at c ss h held lent

pub all_are_free : AllAreFree
all_are_free ts m x lent sound pinned r way f at c ss h held free b some =
    pinned b (in_store ts m x sound r way f at c ss h held b some) ∙ none_lent ts m x sound r way f at c ss h held b some lent free
