-- A procedure or a routine leads to its own lines alone.
use Rattle.std.proofs.Common.{◌≡◌, ℕ, zero, suc, ◌+◌, ◌-◌, ◌≤◌, Bool, true, false, List, [], ◌∷◌, ◌++◌, length, Option, None, Some, refl, sym, ap, ◌∙◌, subst, arith}
use Rattle.std.specs.Prelude.{slice_get, nat_eq}
use Rattle.f3_code.specs.declared.instruction.Instruction.{Instruction}
use Rattle.f3_code.specs.declared.instruction.Instruction.TheVariants as i
use Rattle.f3_code.specs.State.{Line}
use Rattle.f3_heights.specs.Effect.{Far, effect}
use Rattle.f3_heights.specs.Heights.{IsNext, AreFar, IsAt}
use Rattle.f3_heights.specs.Room.{greatest, alike}
use Rattle.f3_heights.proofs.Parts.{HeightsAt, LinesAt, Part}
use Rattle.f3_heights.specs.Needs.{KeptNext, KeptFar, IsKept}
use Rattle.f3_heights.proofs.OfProgram.{Any}

-- ---- something of each of some lines

abbrev pub AllAt : (ℕ → Line → Type 0) → ℕ → List Line → Type 0
AllAt P pc [] = Unit {0}
AllAt P pc (l ∷ ls) = P pc l × AllAt P (pc + 1) ls

pub all_on : (P : ℕ → Line → Type 0) (pc : ℕ) (a b : List Line) → AllAt P pc a → AllAt P (pc + length a) b → AllAt P pc (a ++ b)
all_on P pc [] b h k = let e : pc + 0 ≡ pc = omega arith in subst (λ n. AllAt P n b) e k
all_on P pc (l ∷ a) b h k =
    let e : pc + length (l ∷ a) ≡ pc + 1 + length a = omega arith in
    (h.0, all_on P (pc + 1) a b h.1 (subst (λ n. AllAt P n b) e k))

pub all_of : (P : ℕ → Line → Type 0) (lines : List Line) (base k : ℕ) (l : Line) → AllAt P base lines → slice_get lines k ≡ Some l → P (base + k) l
all_of P [] base k l h e = cc
all_of P (x ∷ lines) base zero l h e =
    let same : x ≡ l = cc in let at : base ≡ base + 0 = omega arith in
    subst (λ n. P n l) at (subst (λ y. P base y) same h.0)
all_of P (x ∷ lines) base (suc k) l h e =
    let at : base + 1 + k ≡ base + suc k = omega arith in
    subst (λ n. P n l) at (all_of P lines (base + 1) k l h.1 e)

pub all_map : {P Q : ℕ → Line → Type 0} (pc : ℕ) (lines : List Line) → ((k : ℕ) (l : Line) → P k l → Q k l) → AllAt P pc lines → AllAt Q pc lines
all_map pc [] f h = tt
all_map pc (l ∷ ls) f h = (f pc l h.0, all_map (pc + 1) ls f h.1)

pub greatest_first : (h : ℕ) (hs : List ℕ) → (h ≤ greatest (h ∷ hs)) × (greatest hs ≤ greatest (h ∷ hs))
greatest_first h hs = (omega arith, omega arith)

abbrev digit : Bool → ℕ
digit true = 0
digit false = 1

module _ (height room : ℕ → ℕ) where
  -- what differs from the heights at lines of other marks
  abbrev apart : ℕ → ℕ → ℕ
  apart c pc = digit (nat_eq (room pc) c)

  abbrev marked : ℕ → ℕ → ℕ
  marked c pc = height pc + apart c pc

  apart_none : (c pc : ℕ) → room pc ≡ c → apart c pc ≡ 0
  apart_none c pc e = let t : nat_eq (room pc) c ≡ true = grind arith in ap digit t

  none_apart : (c pc : ℕ) → apart c pc ≡ 0 → room pc ≡ c
  none_apart c pc e = by_test (nat_eq (room pc) c) refl e
    where
      by_test : (b : Bool) → nat_eq (room pc) c ≡ b → digit b ≡ 0 → room pc ≡ c
      by_test true is e = grind arith
      by_test false is e = absurd (omega (arith, e))

  marked_at : (c pc : ℕ) (hs : List ℕ) → HeightsAt height pc hs → HeightsAt room pc (alike c hs) → HeightsAt (marked c) pc hs
  marked_at c pc [] h r = tt
  marked_at c pc (x ∷ hs) h r = (omega (arith, h.0, apart_none c pc r.0), marked_at c (pc + 1) hs h.1 r.1)

  -- a way on leads to the same mark
  one_way : (c pc to takes left rest rest' : ℕ) → room pc ≡ c → height pc ≡ takes + rest → marked c pc ≡ takes + rest' → height to ≡ left + rest →
      marked c to ≡ left + rest' → room to ≡ room pc
  one_way c pc to takes left rest rest' is h m h' m' =
      let none : apart c to ≡ 0 = omega (arith, apart_none c pc is, h, m, h', m') in none_apart c to none ∙ sym is

  kept_next : (c pc takes rest rest' : ℕ) (o : Option ℕ) → room pc ≡ c → height pc ≡ takes + rest → marked c pc ≡ takes + rest' →
      IsNext height pc rest o → IsNext (marked c) pc rest' o → KeptNext room pc o
  kept_next c pc takes rest rest' None is h m n n' = tt
  kept_next c pc takes rest rest' (Some left) is h m n n' = one_way c pc (pc + 1) takes left rest rest' is h m n n'

  kept_far : (c pc takes rest rest' : ℕ) (xs : List Far) → room pc ≡ c → height pc ≡ takes + rest → marked c pc ≡ takes + rest' →
      AreFar height pc rest xs → AreFar (marked c) pc rest' xs → KeptFar room pc xs
  kept_far c pc takes rest rest' [] is h m n n' = tt
  kept_far c pc takes rest rest' (x ∷ xs) is h m n n' = (
    one_way c pc (pc + 1 + x.over) takes x.left rest rest' is h m n.0 n'.0,
    kept_far c pc takes rest rest' xs is h m n.1 n'.1,
  )

  kept_line : (x : Instruction) (c pc : ℕ) → room pc ≡ c → IsAt height pc x → IsAt (marked c) pc x → IsKept room pc x
  kept_line (i.GoBack d) c pc is a b =
      let none : apart c (pc - d) ≡ 0 = omega (arith, apart_none c pc is, a, b) in none_apart c (pc - d) none ∙ sym is
  kept_line i.Back c pc is a b = tt
  kept_line x c pc is a b = record {
    next = kept_next c pc (effect x).takes a.rest b.rest (effect x).next is a.before b.before a.next b.next;
    far = kept_far c pc (effect x).takes a.rest b.rest (effect x).far is a.before b.before a.far b.far;
  }

  -- a line of a procedure or a routine
  pub record Own (g c pc : ℕ) (l : Line) : Type 0 where
    pub at : IsAt height pc l.act
    pub kept : IsKept room pc l.act
    pub low : height pc ≤ g
    pub same : room pc ≡ c

  own_lines : (g c pc : ℕ) (lines : List Line) (hs : List ℕ) → length hs ≡ length lines → greatest hs ≤ g → HeightsAt height pc hs →
      HeightsAt room pc (alike c hs) → LinesAt height pc lines → LinesAt (marked c) pc lines → AllAt (Own g c) pc lines
  own_lines g c pc [] hs e le h r a b = tt
  own_lines g c pc (l ∷ ls) [] e le h r a b = absurd (omega (arith, e))
  own_lines g c pc (l ∷ ls) (x ∷ hs) e le h r a b =
      let top = greatest_first x hs in (
        record { at = a.0; kept = kept_line l.act c pc r.0 a.0 b.0; low = omega (arith, h.0, top.0, le); same = r.0 },
        own_lines g c (pc + 1) ls hs (omega (arith, e)) (omega (arith, top.1, le)) h.1 r.1 a.1 b.1,
      )

  -- the lines of a part that is whole
  pub own : (c pc : ℕ) (lines : List Line) (hs : List ℕ) (h : ℕ) → ((height : ℕ → ℕ) → Part height Any lines hs h) → HeightsAt height pc hs →
      HeightsAt room pc (alike c hs) → (height pc ≡ h) × AllAt (Own (greatest hs) c) pc lines
  own c pc lines hs h part at rooms =
      let a = (part height).keeps pc at tt in
      let b = (part (marked c)).keeps pc (marked_at c pc hs at rooms) tt in
      (a.0, own_lines (greatest hs) c pc lines hs (part height).same (omega arith) at rooms a.1 b.1)
