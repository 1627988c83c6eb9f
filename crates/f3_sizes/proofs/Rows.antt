-- One object more.
use Rattle.std.proofs.Common.{◌≡◌, ◌≤◌, ◌<◌, ℕ, zero, suc, ◌+◌, List, [], ◌∷◌, ◌++◌, map, length, take, get_or, Option, None, Some, refl, sym, ap, ◌∙◌, arith}
use Rattle.f3_program.specs.declared.declarations.Declared.{Declared}
use Rattle.f3_program.specs.declared.program.Static.{Static}
use Rattle.f3_meaning_whole.specs.Shape.{Shape}
use Rattle.f3_meaning_whole.specs.Exec.{with_result}
use Rattle.f3_rooms.specs.Forms.{room, total}

total_next : (ts : List Shape) (ds : List Declared) (i : ℕ) (d : Declared) → i < length ds → d ≡ get_or ds i d → total ts (take (suc i) ds) ≡ total ts (take i ds) + room ts d
total_next ts [] i d lt e = absurd (omega arith)
total_next ts (x ∷ ds) zero d lt e = let one : room ts x ≡ room ts d = ap (λ y. room ts y) (sym e) in omega (arith, one)
total_next ts (x ∷ ds) (suc i) d lt e = omega (arith, total_next ts ds i d (omega arith) e)

pub total_more : (ts : List Shape) (ds : List Declared) (i : ℕ) (d : Declared) → i < length ds → d ≡ get_or ds i d → total ts (take (i + 1) ds) ≡ total ts (take i ds) + room ts d
total_more ts ds i d lt e = let n : i + 1 ≡ suc i = omega arith in ap (λ k. total ts (take k ds)) n ∙ total_next ts ds i d lt e

pub total_part : (ts : List Shape) (ds : List Declared) (i : ℕ) → total ts (take i ds) ≤ total ts ds
total_part ts [] zero = omega arith
total_part ts [] (suc i) = omega arith
total_part ts (x ∷ ds) zero = omega arith
total_part ts (x ∷ ds) (suc i) = omega (arith, total_part ts ds i)

static_next : (ts : List Shape) (xs : List Static) (i : ℕ) (x : Static) → i < length xs → x ≡ get_or xs i x →
    total ts (take (suc i) (map (λ (x : Static). x.declared) xs)) ≡ total ts (take i (map (λ (x : Static). x.declared) xs)) + room ts x.declared
static_next ts [] i x lt e = absurd (omega arith)
static_next ts (y ∷ xs) zero x lt e = let one : room ts y.declared ≡ room ts x.declared = ap (λ (z : Static). room ts z.declared) (sym e) in omega (arith, one)
static_next ts (y ∷ xs) (suc i) x lt e = omega (arith, static_next ts xs i x (omega arith) e)

pub static_more : (ts : List Shape) (xs : List Static) (i : ℕ) (x : Static) → i < length xs → x ≡ get_or xs i x →
    total ts (take (i + 1) (map (λ (x : Static). x.declared) xs)) ≡ total ts (take i (map (λ (x : Static). x.declared) xs)) + room ts x.declared
static_more ts xs i x lt e = let n : i + 1 ≡ suc i = omega arith in ap (λ k. total ts (take k (map (λ (x : Static). x.declared) xs))) n ∙ static_next ts xs i x lt e

pub total_push : (ts : List Shape) (ds : List Declared) (d : Declared) → total ts (ds ++ d ∷ []) ≡ total ts ds + room ts d
total_push ts [] d = omega arith
total_push ts (x ∷ ds) d = omega (arith, total_push ts ds d)

pub total_with : (ts : List Shape) (ds : List Declared) (r : Option Declared) (d : Declared) → r ≡ Some d → total ts (with_result ds r) ≡ total ts ds + room ts d
total_with ts ds None d e = cc
total_with ts ds (Some x) d e = let same : x ≡ d = cc in total_push ts ds x ∙ ap (λ y. total ts ds + room ts y) same

pub total_none : (ts : List Shape) (ds : List Declared) (r : Option Declared) → r ≡ None → total ts (with_result ds r) ≡ total ts ds
total_none ts ds None e = refl
total_none ts ds (Some x) e = cc
