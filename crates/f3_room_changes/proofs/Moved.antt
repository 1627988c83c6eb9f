-- What allocatables hold, moved to others.
use Rattle.std.proofs.Common.{◌≡◌, ◌⊎◌, inl, inr, ℕ, ◌+◌, ◌*◌, ◌<◌, ◌≤◌, pos, List, refl, sym, ap, subst, ◌∙◌, arith}
use Rattle.std.specs.Prelude.{None, Some}
use Rattle.f3_live_blocks.specs.Blocks.{Live}
use Rattle.f3_meaning_whole.specs.Value.{Unallocated}
use Rattle.f3_meaning_whole.specs.Shape.{Shape}
use Rattle.f3_meaning_whole.specs.Store.{Root, Step, get, put}
use Rattle.f3_desc.specs.Shape.{Holder}
use Rattle.f3_objects.specs.Tree.{first_block, times as times_beneath}
use Rattle.f3_objects.specs.Holds.{Holds as HoldsTree, Moves}
use Rattle.f3_rooms.specs.Held.{Held, Empty, Holds, blocks_in, times}
use Rattle.f3_rooms.specs.Forms.{Form, words_for}
use Rattle.f3_rooms.specs.Values.{word}
use Rattle.f3_rooms.specs.Rooms.{Rooms, store_of, blocks_of}
use Rattle.f3_rooms.specs.Places.{Found, with_word, rooms_with}
use Rattle.f3_rooms.specs.Sound.{IsForm, IsObject, IsHolder, IsSound}
use Rattle.f3_rooms.specs.Laws.{IsWithin, path_at}
use Rattle.f3_rooms.proofs.Freeing.{emptied, emptied_counts}
use Rattle.f3_rooms.proofs.Living.{all_live}
use Rattle.f3_rooms.proofs.Within.{store_owns, part_lies}
use Rattle.f3_rooms.proofs.Words.{put_long, put_apart}
use Rattle.f3_room_objects.specs.Trees.{formed_as, layout_for, layout_of, object_tree, formed_tree, tree_at}
use Rattle.f3_room_objects.proofs.Growing.{parts_hold_trees, trees_have_their_blocks}
use Rattle.f3_room_objects.proofs.Moving.{moves_are_moves}
use Rattle.f3_room_changes.specs.Allocations.{IsMovable, IsMoved}
use Rattle.f3_room_changes.proofs.Finding.{part_found}
use Rattle.f3_room_changes.proofs.Places.{moved_to, moved_from, at_within, at_holds}

module _ (ts : List Shape) (m : Live) (x : Rooms) (r q : Root) (way other : List Step) (f g : Found) (b o c i rank : ℕ)
    (k : IsMovable ts m x r q way other f g b o c i rank) where
  abbrev bare : Live
  bare = with_word m f.block f.at (pos 0)

  abbrev y : Rooms
  y = rooms_with x r way Empty

  sound : IsSound ts bare y
  sound = (emptied ts m x k.here.sound r way f k.here.found rank k.form m (λ b z. refl)).sound

  counts : (q : ℕ) → times q (blocks_of y) + times q (blocks_in f.held) ≤ times q (blocks_of x)
  counts = emptied_counts ts m x k.here.sound r way f k.here.found rank k.form m (λ b z. refl)

  owned : 0 < times g.block (blocks_of y)
  owned = let own = (store_owns ts y q other g k.there).block in omega arith

  -- ---- the first

  laid : layout_of f ≡ Holder rank (layout_for f.shape)
  laid = ap (λ form. formed_as form (layout_for f.shape)) k.form

  pub source : HoldsTree m b o (Holder rank (layout_for f.shape)) (tree_at m f)
  source = subst (λ l. HoldsTree m b o l (tree_at m f)) laid (at_holds ts m x r way f b o k.here)

  pub beneath : times_beneath c (tree_at m f) ≡ 0
  beneath =
      let own = owned in
      let all = counts g.block in
      let one = k.here.sound.apart g.block in
      let none : times g.block (blocks_in f.held) ≡ 0 = omega arith in
      trees_have_their_blocks m f (at_within ts m x r way f b o k.here) c ∙ ap (λ j. times j (blocks_in f.held)) (sym k.block) ∙ none

  pub named : first_block (tree_at m f) ≡ Some k.name
  named =
      ap (λ (j : Held). first_block (formed_tree m f.form (words_for f.shape) (object_tree m f.shape) f.block f.at j)) k.held
      ∙ ap (λ (form : Form). first_block (formed_tree m form (words_for f.shape) (object_tree m f.shape) f.block f.at (Holds k.name k.spans k.contents))) k.form

  -- ---- the second

  within : IsWithin bare g
  within = part_lies ts bare y sound q other g k.there

  aside : f.block ≡ g.block → (f.at + (1 + 2 * rank) ≤ g.at) ⊎ (g.at + (1 + 2 * rank) ≤ f.at)
  aside = moved_from (λ b o. b ≡ g.block → (o + (1 + 2 * rank) ≤ g.at) ⊎ (g.at + (1 + 2 * rank) ≤ o)) f b o k.here.block k.here.word
      (moved_from (λ c i. b ≡ c → (o + (1 + 2 * rank) ≤ i) ⊎ (i + (1 + 2 * rank) ≤ o)) g c i k.block k.word k.apart)

  unwritten : word m g.block g.at ≡ pos 0
  unwritten =
      sym (put_apart m f.block f.at (pos 0) g.block g.at (λ e is. elim (aside (sym e)) [ inl before ↦ omega arith | inr after ↦ omega arith ]))
      ∙ subst (λ h. IsHolder bare rank (words_for g.shape) (IsObject bare g.shape) g.block g.at h) k.vacant
      (subst (λ (form : Form). IsForm bare form (words_for g.shape) (IsObject bare g.shape) g.block g.at g.held) k.same_form within.form)

  stands : IsWithin m g
  stands = record {
    live = let own = owned in let all = counts g.block in all_live ts m x k.here.sound g.block (omega arith);
    within = let w = within.within in let e = put_long m f.block f.at (pos 0) g.block in omega arith;
    form = subst (λ (form : Form). IsForm m form (words_for g.shape) (IsObject m g.shape) g.block g.at g.held) (sym k.same_form)
        (subst (λ h. IsHolder m rank (words_for g.shape) (IsObject m g.shape) g.block g.at h) (sym k.vacant) unwritten);
  }

  nothing_held : (q : ℕ) → times q (blocks_in g.held) ≡ 0
  nothing_held q = ap (λ h. times q (blocks_in h)) k.vacant

  pub target : HoldsTree m c i (Holder rank (layout_for g.shape)) (tree_at m g)
  target = moved_to (λ c i. HoldsTree m c i (Holder rank (layout_for g.shape)) (tree_at m g)) g c i k.block k.word
      (subst (λ l. HoldsTree m g.block g.at l (tree_at m g)) (ap (λ form. formed_as form (layout_for g.shape)) k.same_form)
      (parts_hold_trees m g stands (record { once = λ q. let e = nothing_held q in omega arith; own = nothing_held g.block })))

  pub vacant : first_block (tree_at m g) ≡ None
  vacant =
      ap (λ (j : Held). first_block (formed_tree m g.form (words_for g.shape) (object_tree m g.shape) g.block g.at j)) k.vacant
      ∙ ap (λ (form : Form). first_block (formed_tree m form (words_for g.shape) (object_tree m g.shape) g.block g.at Empty)) k.same_form

  pub apart : b ≡ c → o ≡ i ⊎ (o + (1 + 2 * rank) ≤ i ⊎ i + (1 + 2 * rank) ≤ o)
  apart e = inr (k.apart e)

  -- ---- moved

  pub moved : (n : Live) → Moves m n b o c i rank (layout_for f.shape) (tree_at m f) → IsMoved ts m n x r q way other f g
  moved n moves =
      let own = moved_from (λ b o. Moves m n b o g.block g.at rank (layout_for f.shape) (tree_at m f)) f b o k.here.block k.here.word
      (moved_from (λ c i. Moves m n b o c i rank (layout_for f.shape) (tree_at m f)) g c i k.block k.word moves) in
      let done = moves_are_moves ts m n x k.here.sound r q way other f g k.here.found rank k.form k.name k.spans k.contents k.held k.there k.same_form k.vacant k.same_shape aside own in
      record {
        store = subst (λ h. store_of ts n (rooms_with y q other h) ≡ put (put (store_of ts m x) (path_at r way) Unallocated) (path_at q other) (get (store_of ts m x) (path_at r way))) (sym k.held) done.0;
        sound = subst (λ h. IsSound ts n (rooms_with y q other h)) (sym k.held) done.1;
        found = part_found ts y q other g f.held k.there;
      }
