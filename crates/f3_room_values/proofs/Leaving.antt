-- Variables and elements one behind another, of which some were read.
use Rattle.std.proofs.Common.{◌≡◌, ℕ, zero, suc, ◌+◌, ◌*◌, ◌<◌, ◌≤◌, List, [], ◌∷◌, ◌++◌, length, drop, refl, sym, ap, subst, ◌∙◌, arith, get_or, add-one, append_assoc}
use Rattle.std.proofs.lemmas.List.{drop_all}
use Rattle.std.proofs.Math.Nat.{suc-mul, mul-le-mul_right}
use Rattle.f3_program.specs.declared.declarations.Component.{Component}
use Rattle.f3_program.specs.declared.declarations.Declared.{Declared}
use Rattle.f3_live_blocks.specs.Blocks.{Live}
use Rattle.f3_meaning_whole.specs.Value.{Value}
use Rattle.f3_meaning_whole.specs.Shape.{Shape}
use Rattle.f3_rooms.specs.Held.{Held, Row, first, others}
use Rattle.f3_rooms.specs.Forms.{room, total}
use Rattle.f3_rooms.specs.Values.{elements, variable, variables}
use Rattle.f3_rooms.specs.Sound.{Fact, Each, AreVariables}
use Rattle.f3_room_values.specs.Reads.{IsVariable, Reading, IsRead, AreRead, VariablesRead, declared_each}

one_more : (vs xs : List Value) (v : Value) → (vs ++ v ∷ []) ++ xs ≡ vs ++ v ∷ xs
one_more vs xs v = append_assoc vs (v ∷ []) xs

-- ---- variables

-- these were read of all, and those are left, from a word on
pub record Leaves (ts : List Shape) (m : Live) (ds : List Declared) (b o : ℕ) (vs whole : List Value) : Type 0 where
  pub row : Row
  pub sound : AreVariables ts m ds b o row
  pub values : whole ≡ vs ++ variables ts m ds b o row

pub record LeavesFrom (ts : List Shape) (m : Live) (ds : List Declared) (b start i at : ℕ) (vs : List Value) : Type 0 where
  pub behind : at + total ts (drop i ds) ≡ start + total ts ds
  pub left : (hs : Row) → AreVariables ts m ds b start hs → Leaves ts m (drop i ds) b at vs (variables ts m ds b start hs)

pub leaves_all : (ts : List Shape) (m : Live) (ds : List Declared) (b o : ℕ) (vs : List Value) → vs ≡ [] → LeavesFrom ts m ds b o 0 o vs
leaves_all ts m ds b o vs e = record {
  behind = refl;
  left = λ hs has. record { row = hs; sound = has; values = ap (λ us. us ++ variables ts m ds b o hs) (sym e) };
}

module _ (ts : List Shape) (m : Live) (b : ℕ) where
  next_left : (d : Declared) (rest : List Declared) (at behind : ℕ) (vs us whole : List Value) (v : Value) → Leaves ts m (d ∷ rest) b at vs whole
      → IsRead (room ts d) (IsVariable ts m d) (variable ts m d) b at v behind → us ≡ vs ++ v ∷ [] → Leaves ts m rest b behind us whole
  next_left d rest at behind vs us whole v l one e = record {
    row = others l.row;
    sound = subst (λ o. AreVariables ts m rest b o (others l.row)) (sym one.behind) (l.sound).1;
    values = l.values ∙ ap (λ x. vs ++ x ∷ variables ts m rest b (at + room ts d) (others l.row)) (sym (one.value (first l.row) (l.sound).0))
        ∙ sym (one_more vs (variables ts m rest b (at + room ts d) (others l.row)) v)
        ∙ ap (λ xs. xs ++ variables ts m rest b (at + room ts d) (others l.row)) (sym e)
        ∙ ap (λ o. us ++ variables ts m rest b o (others l.row)) (sym one.behind);
  }

  pub next_variable : (ds : List Declared) (d : Declared) (start i at behind : ℕ) (vs us : List Value) (v : Value) → LeavesFrom ts m ds b start i at vs
      → drop i ds ≡ d ∷ drop (i + 1) ds → IsRead (room ts d) (IsVariable ts m d) (variable ts m d) b at v behind → us ≡ vs ++ v ∷ []
      → LeavesFrom ts m ds b start (i + 1) behind us
  next_variable ds d start i at behind vs us v l this one e = record {
    behind = let far : total ts (drop i ds) ≡ room ts d + total ts (drop (i + 1) ds) = ap (total ts) this in
        omega (arith, l.behind, one.behind);
    left = λ hs has. next_left d (drop (i + 1) ds) at behind vs us (variables ts m ds b start hs) v
        (subst (λ xs. Leaves ts m xs b at vs (variables ts m ds b start hs)) this (l.left hs has)) one e;
  }

  -- the next has its words among those of all, and something is held in it
  pub next_within : (ds : List Declared) (d : Declared) (start i at long : ℕ) (vs : List Value) → LeavesFrom ts m ds b start i at vs → drop i ds ≡ d ∷ drop (i + 1) ds
      → start + total ts ds ≤ long → at + room ts d ≤ long
  next_within ds d start i at long vs l this le =
      let far : total ts (drop i ds) ≡ room ts d + total ts (drop (i + 1) ds) = ap (total ts) this in
      omega (arith, l.behind)

  pub next_held : (ds : List Declared) (d : Declared) (start i at : ℕ) (vs : List Value) (hs : Row) → LeavesFrom ts m ds b start i at vs → drop i ds ≡ d ∷ drop (i + 1) ds
      → AreVariables ts m ds b start hs → (h : Held) × IsVariable ts m d b at h
  next_held ds d start i at vs hs l this has =
      let now = subst (λ xs. Leaves ts m xs b at vs (variables ts m ds b start hs)) this (l.left hs has) in
      (first now.row, (now.sound).0)

  none_left : (at : ℕ) (vs whole : List Value) → Leaves ts m [] b at vs whole → vs ≡ whole
  none_left at vs whole l = sym (l.values ∙ nothing_more vs)
    where
      nothing_more : (xs : List Value) → xs ++ [] ≡ xs
      nothing_more [] = refl
      nothing_more (x ∷ xs) = ap (λ ys. x ∷ ys) (nothing_more xs)

  pub all_read : (ds : List Declared) (start i at : ℕ) (vs : List Value) → LeavesFrom ts m ds b start i at vs → length ds ≤ i → VariablesRead ts m ds b start vs at
  all_read ds start i at vs l past =
      let over : drop i ds ≡ [] = drop_all i ds past in
      record {
        values = λ hs has. none_left at vs (variables ts m ds b start hs) (subst (λ xs. Leaves ts m xs b at vs (variables ts m ds b start hs)) over (l.left hs has));
        behind = let none : total ts (drop i ds) ≡ 0 = ap (total ts) over in omega (arith, l.behind);
      }

-- the one of a number, in front of those behind it
pub drop_next : (ds : List Declared) (i : ℕ) (d : Declared) → i < length ds → d ≡ get_or ds i d → drop i ds ≡ d ∷ drop (i + 1) ds
drop_next ds i d lt is = rw add-one (by ds i lt is)
  where
    by : (xs : List Declared) (k : ℕ) → k < length xs → d ≡ get_or xs k d → drop k xs ≡ d ∷ drop (suc k) xs
    by [] k l e = absurd (omega arith)
    by (x ∷ xs) zero l e = ap (λ y. y ∷ xs) (sym e)
    by (x ∷ xs) (suc k) l e = by xs k (omega arith) e

pub drop_part : (cs : List Component) (i : ℕ) (c : Component) → i < length cs → c ≡ get_or cs i c
    → drop i (declared_each cs) ≡ c.declared ∷ drop (i + 1) (declared_each cs)
drop_part cs i c lt is = rw add-one (by cs i lt is)
  where
    by : (xs : List Component) (k : ℕ) → k < length xs → c ≡ get_or xs k c → drop k (declared_each xs) ≡ c.declared ∷ drop (suc k) (declared_each xs)
    by [] k l e = absurd (omega arith)
    by (x ∷ xs) zero l e = ap (λ (y : Component). y.declared ∷ declared_each xs) (sym e)
    by (x ∷ xs) (suc k) l e = by xs k (omega arith) e

pub many_parts : (cs : List Component) → length (declared_each cs) ≡ length cs
many_parts [] = refl
many_parts (c ∷ cs) = ap suc (many_parts cs)

-- ---- elements

pub record LeavesEach (many n : ℕ) (P : Fact) (f : Reading) (b o k : ℕ) (vs whole : List Value) : Type 0 where
  pub rest : ℕ
  pub count : rest + k ≡ many
  pub row : Row
  pub sound : Each rest n P b o row
  pub values : whole ≡ vs ++ elements rest n f b o row

pub record LeavesEachFrom (many n : ℕ) (P : Fact) (f : Reading) (b start k at : ℕ) (vs : List Value) : Type 0 where
  pub behind : at ≡ start + k * n
  pub left : (hs : Row) → Each many n P b start hs → LeavesEach many n P f b at k vs (elements many n f b start hs)

module _ (many n : ℕ) (P : Fact) (f : Reading) (b : ℕ) where
  pub leaves_each : (o : ℕ) (vs : List Value) → vs ≡ [] → LeavesEachFrom many n P f b o 0 o vs
  leaves_each o vs e = record {
    behind = omega arith;
    left = λ hs has. record { rest = many; count = omega arith; row = hs; sound = has; values = ap (λ us. us ++ elements many n f b o hs) (sym e) };
  }

  next_each : (k at behind : ℕ) (vs us whole : List Value) (v : Value) → k < many → LeavesEach many n P f b at k vs whole → IsRead n P f b at v behind → us ≡ vs ++ v ∷ []
      → LeavesEach many n P f b behind (k + 1) us whole
  next_each k at behind vs us whole v lt l one e = by l.rest l.count l.row l.sound l.values
    where
      by : (rest : ℕ) → rest + k ≡ many → (row : Row) → Each rest n P b at row → whole ≡ vs ++ elements rest n f b at row → LeavesEach many n P f b behind (k + 1) us whole
      by zero c row has is = absurd (omega arith)
      by (suc j) c row has is = record {
        rest = j;
        count = omega arith;
        row = others row;
        sound = subst (λ o. Each j n P b o (others row)) (sym one.behind) has.1;
        values = is ∙ ap (λ x. vs ++ x ∷ elements j n f b (at + n) (others row)) (sym (one.value (first row) has.0))
            ∙ sym (one_more vs (elements j n f b (at + n) (others row)) v)
            ∙ ap (λ xs. xs ++ elements j n f b (at + n) (others row)) (sym e)
            ∙ ap (λ o. us ++ elements j n f b o (others row)) (sym one.behind);
      }

  pub next_element : (start k at behind : ℕ) (vs us : List Value) (v : Value) → LeavesEachFrom many n P f b start k at vs → k < many → IsRead n P f b at v behind → us ≡ vs ++ v ∷ []
      → LeavesEachFrom many n P f b start (k + 1) behind us
  next_element start k at behind vs us v l lt one e = record {
    behind = let more : suc k * n ≡ k * n + n = suc-mul k n in
        let same : suc k ≡ k + 1 = omega arith in
        let on : behind ≡ start + suc k * n = omega (arith, l.behind, one.behind) in
        subst (λ i. behind ≡ start + i * n) same on;
    left = λ hs has. next_each k at behind vs us (elements many n f b start hs) v lt (l.left hs has) one e;
  }

  pub element_within : (start k at long : ℕ) (vs : List Value) → LeavesEachFrom many n P f b start k at vs → k < many → start + many * n ≤ long → at + n ≤ long
  element_within start k at long vs l lt le =
      let next : suc k ≤ many = omega arith in
      let least : suc k * n ≤ many * n = mul-le-mul_right n next in
      let more : suc k * n ≡ k * n + n = suc-mul k n in
      omega (arith, l.behind)

  pub element_held : (start k at : ℕ) (vs : List Value) (hs : Row) → LeavesEachFrom many n P f b start k at vs → k < many → Each many n P b start hs → (h : Held) × P b at h
  element_held start k at vs hs l lt has = let now = l.left hs has in by now.rest now.count now.row now.sound
    where
      by : (rest : ℕ) → rest + k ≡ many → (row : Row) → Each rest n P b at row → (h : Held) × P b at h
      by zero c row each = absurd (omega arith)
      by (suc j) c row each = (first row, each.0)

  pub each_read : (start k at : ℕ) (vs : List Value) → LeavesEachFrom many n P f b start k at vs → k ≡ many → AreRead many n P f b start vs at
  each_read start k at vs l e = record {
    values = λ hs has. let now = l.left hs has in sym (by now.rest now.count now.row (elements many n f b start hs) now.values);
    behind = subst (λ i. at ≡ start + i * n) e l.behind;
  }
    where
      nothing_more : (xs : List Value) → xs ++ [] ≡ xs
      nothing_more [] = refl
      nothing_more (x ∷ xs) = ap (λ ys. x ∷ ys) (nothing_more xs)

      by : (rest : ℕ) → rest + k ≡ many → (row : Row) (whole : List Value) → whole ≡ vs ++ elements rest n f b at row → whole ≡ vs
      by zero c row whole is = is ∙ nothing_more vs
      by (suc j) c row whole is = absurd (omega arith)
