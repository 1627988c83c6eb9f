use Rattle.std.proofs.Common.{◌≡◌, ℕ, ℤ, pos, List, [], ◌∷◌, ◌∙◌, length, take, drop, refl, ap, sym, subst, arith}
use Rattle.std.specs.Prelude.{None}
use Rattle.std.specs.FinMap.{get}
use Rattle.f3_live_blocks.specs.Blocks.{Live, IsLive, words_of}
use Rattle.f3_desc.specs.Shape.{Plain, whole}
use Rattle.f3_desc.specs.declared.piece.Piece.{Piece}
use Rattle.f3_objects.specs.Tree.{End, Word}
use Rattle.f3_objects.specs.Holds.{Holds}
use Rattle.f3_objects.specs.Copies.{Ready}
use Rattle.f3_objects.proofs.Changes.{same_live, same_words}
use Rattle.f3_objects_tests.proofs.TwoLists.{new_apart}
use Rattle.f3_objects_tests.proofs.elements.copies_a_word.Goals as goal

-- a block of one word holds a word
one_word : (m : Live) (b : ℕ) (z : ℤ) → IsLive m b → words_of m b ≡ z ∷ [] → Holds m b 0 Plain (Word z End)
one_word m b z live e = record {
  stands = record {
    live = live;
    within = let l = ap length e in omega arith;
    there = ap (λ (l : List ℤ). take 1 (drop 0 l)) e;
    held = tt;
    once = λ q. omega arith;
    apart = refl;
  };
  fits = (z, refl);
}

ready : (m n : Live) (a b : ℕ) → IsLive m a → words_of m a ≡ pos 5 ∷ [] → get m b ≡ None → IsLive n b → words_of n b ≡ pos 0 ∷ [] → ((q : ℕ) → IsLive m q → get n q ≡ get m q) → (ps : List Piece) → ps ≡ Piece.Word ∷ [] → Ready n a 0 b 0 (whole ps) (Word (pos 5) End) (Word (pos 0) End)
ready m n a b live five fresh new zero kept ps e =
    let P : List Piece → Type 0 = λ x. Ready n a 0 b 0 (whole x) (Word (pos 5) End) (Word (pos 0) End) in
    subst P (sym e) (record {
      source = one_word n a (pos 5) (same_live m n a (kept a live) live) (same_words m n a (kept a live) ∙ five);
      target = one_word n b (pos 0) new zero;
      apart = new_apart m b a fresh live;
      beneath = refl;
      bare = λ q. refl;
    })

pub copy_tree-requires : goal.copy_tree-requires
copy_tree-requires g c = (Word (pos 5) End, Word (pos 0) End, ready (g.B.Blocks.blocks c.block_with-from.new.heap) (g.B.Blocks.blocks c.block_with-to.new.heap) c.block_with-from.result c.block_with-to.result c.block_with-from.ensures.live c.block_with-from.ensures.words c.block_with-to.ensures.fresh c.block_with-to.ensures.live c.block_with-to.ensures.words c.block_with-to.ensures.kept _ c.requires)

pub has_words-requires : goal.has_words-requires
has_words-requires g c = (c.in-Ok.ensures.copied (Word (pos 5) End) (Word (pos 0) End) (ready (g.B.Blocks.blocks c.block_with-from.new.heap) (g.B.Blocks.blocks c.block_with-to.new.heap) c.block_with-from.result c.block_with-to.result c.block_with-from.ensures.live c.block_with-from.ensures.words c.block_with-to.ensures.fresh c.block_with-to.ensures.live c.block_with-to.ensures.words c.block_with-to.ensures.kept _ c.requires)).replaced.live
