-- Laws on what a call that can fail ensures, and on where an object ends.
use Rattle.std.proofs.Common.{◌≡◌, ◌<◌, ◌+◌, ℕ, false, Err, is_ok, refl, arith, length}
use Rattle.std.specs.Prelude.{Result, Ok, List, [], OnOk, OnErr}
use Rattle.f3_live_blocks.specs.Blocks.{Live, words_of}
use Rattle.f3_heap_laws.specs.Answers.{Answer}
use Rattle.f3_desc.specs.Shape.{Shape, width}
use Rattle.f3_objects.specs.Tree.{Tree}
use Rattle.f3_objects.specs.Holds.{Holds}
use Rattle.f3_objects.specs.Copies.{faults}
use Rattle.f3_objects.specs.declared.copy.TreeFault.{TreeFault}
use Rattle.f3_objects.proofs.Trees.{size-fits}

-- the whole ends within its block
pub ends : (m : Live) (block at : ℕ) (s : Shape) (t : Tree) (n k : ℕ) → Holds m block at s t → n ≡ length (words_of m block) → n < k → at + width s < k
ends m block at s t n k h e l = let f = size-fits s t h.fits in let w = h.stands.within in omega arith

pub on_err : {T E : Type 0} (r : Result T E) (P : Type 0) → (is_ok r ≡ false → P) → OnErr r P
on_err (Ok x) P f = tt
on_err (Err e) P f = f refl

pub on_ok : {T : Type 0} (r : Result T TreeFault) (P : List Answer → Type 0) → P (faults r) → OnOk r (P [])
on_ok (Ok x) P p = p
on_ok (Err e) P p = tt

pub when_ok : {T : Type 0} (r : Result T TreeFault) (P : Type 0) → (faults r ≡ [] → P) → OnOk r P
when_ok (Ok x) P f = f refl
when_ok (Err e) P f = tt
