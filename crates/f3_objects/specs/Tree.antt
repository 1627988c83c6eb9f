-- What an object holds, word by word in order, with the blocks beneath it (own rule).
-- A derived type is the words of its components one after another, an array those of its elements in array element order.
use Rattle.std.proofs.Common.{zero, suc}
use Rattle.std.specs.Prelude.{ℕ, ℤ, pos, negsuc, ◌≡◌, ◌+◌, ◌*◌, cond, nat_eq, List, [], ◌∷◌, ◌++◌, length, replicate, Option, None, Some}
use Rattle.f3_heap_laws.specs.Account.{r}
use Rattle.f3_desc.specs.Shape.{Shape, Nothing, Plain, Holder, Both, Times}

-- an allocatable has a lower bound and an extent for each dimension; a block's words are its contents
pub data Tree : Type 0 where
  End : Tree
  Word : ℤ → Tree → Tree
  Unallocated : (dims : List ℤ) → Tree → Tree
  Allocated : (block : ℕ) → (dims : List ℤ) → (contents : Tree) → Tree → Tree

-- one tree behind another
infixr 5 ◌⊕◌
abbrev pub ◌⊕◌ : Tree → Tree → Tree
End ⊕ u = u
Word w t ⊕ u = Word w (t ⊕ u)
Unallocated dims t ⊕ u = Unallocated dims (t ⊕ u)
Allocated b dims c t ⊕ u = Allocated b dims c (t ⊕ u)

-- the words at the object's place
abbrev pub words : Tree → List ℤ
words End = []
words (Word w t) = w ∷ words t
words (Unallocated dims t) = pos 0 ∷ (dims ++ words t)
words (Allocated b dims c t) = pos b ∷ (dims ++ words t)

-- the block of an allocatable
abbrev pub first_block : Tree → Option ℕ
first_block End = None
first_block (Word w t) = None
first_block (Unallocated dims t) = None
first_block (Allocated b dims c t) = Some b

-- 1 for the block itself, 0 for any other
abbrev pub one_at : ℕ → ℕ → ℕ
one_at q b = cond (nat_eq q b) 1 0

-- how often a block stands beneath the object
abbrev pub times : ℕ → Tree → ℕ
times q End = 0
times q (Word w t) = times q t
times q (Unallocated dims t) = times q t
times q (Allocated b dims c t) = one_at q b + (times q c + times q t)

-- the words of the heap that the blocks beneath take, each with its length, pin count and tag
abbrev pub footprint : Tree → ℕ
footprint End = 0
footprint (Word w t) = footprint t
footprint (Unallocated dims t) = footprint t
footprint (Allocated b dims c t) = r (length (words c)) + (footprint c + footprint t)

-- no block stands beneath the object
abbrev pub IsBare : Tree → Type 0
IsBare t = (q : ℕ) → times q t ≡ 0

-- a value: numbers and allocatables in order, with bounds and contents, and without blocks
pub data Value : Type 0 where
  Nil : Value
  Number : ℤ → Value → Value
  Absent : Value → Value
  Present : (dims : List ℤ) → (contents : Value) → Value → Value

abbrev pub value : Tree → Value
value End = Nil
value (Word w t) = Number w (value t)
value (Unallocated dims t) = Absent (value t)
value (Allocated b dims c t) = Present dims (value c) (value t)

-- how many elements these bounds give: the product of the extents
abbrev pub count_of : ℤ → ℕ
count_of (pos n) = n
count_of (negsuc n) = 0

abbrev pub elements : List ℤ → ℕ
elements [] = 1
elements (lower ∷ []) = 1
elements (lower ∷ extent ∷ dims) = count_of extent * elements dims

-- t is a tree with P and one with Q behind it
pub record Joins (P Q : Tree → Type 0) (t : Tree) : Type 0 where
  pub front : Tree
  pub back : Tree
  pub split : t ≡ front ⊕ back
  pub first : P front
  pub second : Q back

-- n trees with P one after another
abbrev pub Repeats : ℕ → (Tree → Type 0) → Tree → Type 0
Repeats zero P t = t ≡ End
Repeats (suc n) P t = Joins P (Repeats n P) t

-- an allocatable of this rank, whose elements have P
pub data IsHolder (rank : ℕ) (P : Tree → Type 0) : Tree → Type 0 where
  unallocated : (dims : List ℤ) → length dims ≡ 2 * rank → IsHolder rank P (Unallocated dims End)
  allocated : (b : ℕ) (dims : List ℤ) (c : Tree) → length dims ≡ 2 * rank → Repeats (elements dims) P c → IsHolder rank P (Allocated b dims c End)

-- the tree is one of this shape
abbrev pub Fits : Shape → Tree → Type 0
Fits Nothing t = t ≡ End
Fits Plain t = (w : ℤ) × (t ≡ Word w End)
Fits (Holder rank of) t = IsHolder rank (Fits of) t
Fits (Both s r) t = Joins (Fits s) (Fits r) t
Fits (Times n s) t = Repeats n (Fits s) t

-- zeros, and nothing allocated
abbrev pub repeated : ℕ → Tree → Tree
repeated zero t = End
repeated (suc n) t = t ⊕ repeated n t

abbrev pub blank : Shape → Tree
blank Nothing = End
blank Plain = Word (pos 0) End
blank (Holder rank of) = Unallocated (replicate (2 * rank) (pos 0)) End
blank (Both s r) = blank s ⊕ blank r
blank (Times n s) = repeated n (blank s)
