-- Parts of objects of derived types, by the tables of these.
use Rattle.std.proofs.Common.{◌≡◌, ℕ, zero, suc, ◌+◌, ◌<◌, Bool, true, false, List, [], ◌∷◌, ◌++◌, length, take, get_or, map, refl, sym, ap, subst, ◌∙◌, arith, append-nil, append_assoc}
use Rattle.std.specs.Prelude.{Option, None, Some, if◌then◌else◌, slice_get}
use Rattle.std.specs.Bool.{◌==◌}
use Rattle.std.proofs.lemmas.Bool.Decides.{nat_tests}
use Rattle.std.proofs.lemmas.List.{length-take-le}
use Rattle.std.proofs.lemmas.Option.{slice_get_read}
use Rattle.f3_program.specs.declared.declarations.Base.{Base}
use Rattle.f3_program.specs.declared.declarations.Base.TheVariants as base
use Rattle.f3_program.specs.declared.declarations.Component.{Component}
use Rattle.f3_program.specs.declared.declarations.Derived.{Derived}
use Rattle.f3_meaning_whole.specs.Shape.{Shape, Whole, Record, shape_in, parts_in, shapes_from, shapes_of, spans_declared}
use Rattle.f3_meaning_whole.specs.Store as store
use Rattle.f3_meaning_whole.specs.Store.{Step}
use Rattle.f3_rooms.specs.Forms.{Laid, Allocatable, form_of, form_words, words_for, words_for_parts}
use Rattle.f3_type_words.specs.declared.table.TypeTable.{TypeTable}
use Rattle.f3_type_words.specs.Tables.{IsTable, AreTables, offsets_from}
use Rattle.f3_type_words.proofs.TableLaws.{shape_next, shapes_number, shape_stands}
use Rattle.f3_room_frames.specs.Places.{behind, formed_part, part_in, component_in, Kind, formed_holder, holder_in, holder_among}
use Rattle.f3_room_frames.specs.declared.layout.Holding.{Holding}
use Rattle.f3_room_frames.specs.Layouts.{IsHolding}

-- what is read twice is the same
pub same_type : (ts : List Derived) (n : ℕ) (x y : Derived) → n < length ts → x ≡ get_or ts n x → y ≡ get_or ts n y → x ≡ y
same_type ts n x y lt e f =
    let a : slice_get ts n ≡ Some x = slice_get_read ts (length ts) n x refl lt e in
    let b : slice_get ts n ≡ Some y = slice_get_read ts (length ts) n y refl lt f in
    cc

-- what has no length is empty
pub none_left : (ks : List ℕ) (b : Bool) → b ≡ (length ks == 0) → b ≡ true → ks ≡ []
none_left [] b e h = refl
none_left (k ∷ ks) b e h = let n : length (k ∷ ks) ≡ 0 = grind (arith, nat_tests, e, h) in absurd (omega arith)

-- ---- tables

as_many : (ss : List Shape) (xs : List TypeTable) → AreTables ss xs → length xs ≡ length ss
as_many [] [] h = refl
as_many [] (x ∷ xs) h = absurd h
as_many (s ∷ ss) [] h = absurd h
as_many (s ∷ ss) (x ∷ xs) h = ap suc (as_many ss xs h.1)

-- each type has one
pub tables_many : (ts : List Derived) (xs : List TypeTable) → AreTables (shapes_of ts) xs → length xs ≡ length ts
tables_many ts xs h = as_many (shapes_of ts) xs h ∙ shapes_number ts

table_at : (ss : List Shape) (xs : List TypeTable) (n : ℕ) (s : Shape) (d : TypeTable) → AreTables ss xs → n < length xs → IsTable (get_or ss n s) (get_or xs n d)
table_at [] [] n s d h lt = absurd (omega arith)
table_at [] (x ∷ xs) n s d h lt = absurd h
table_at (r ∷ ss) [] n s d h lt = absurd h
table_at (r ∷ ss) (x ∷ xs) zero s d h lt = h.0
table_at (r ∷ ss) (x ∷ xs) (suc n) s d h lt = table_at ss xs n s d h.1 (omega arith)

pub table_is : (ts : List Derived) (xs : List TypeTable) (n : ℕ) (x : Derived) (d : TypeTable) → AreTables (shapes_of ts) xs → n < length ts → x ≡ get_or ts n x
    → IsTable (shape_next (take n ts) x) (get_or xs n d)
table_is ts xs n x d h lt e =
    subst (λ s. IsTable s (get_or xs n d)) (shape_stands ts n x Whole lt e) (table_at (shapes_of ts) xs n Whole d h (let m = tables_many ts xs h in omega arith))

-- ---- types before one

have_less : (ss rs : List Shape) (xs : List TypeTable) → AreTables (ss ++ rs) xs → AreTables ss (take (length ss) xs)
have_less [] rs xs h = tt
have_less (s ∷ ss) rs [] h = absurd h
have_less (s ∷ ss) rs (x ∷ xs) h = (h.0, have_less ss rs xs h.1)

record IsBegun (ss all : List Shape) : Type 0 where
  pub rest : List Shape
  pub is : all ≡ ss ++ rest

begins : (ss : List Shape) (ts : List Derived) → IsBegun ss (shapes_from ss ts)
begins ss [] = record { rest = []; is = sym (append-nil ss) }
begins ss (t ∷ ts) =
    let r : Shape = Record (length ss) (parts_in ss t.components.items) in
    let h = begins (ss ++ r ∷ []) ts in
    record { rest = r ∷ h.rest; is = h.is ∙ append_assoc ss (r ∷ []) h.rest }

starts : (ss : List Shape) (ts : List Derived) (k : ℕ) → IsBegun (shapes_from ss (take k ts)) (shapes_from ss ts)
starts ss ts zero = begins ss ts
starts ss [] (suc k) = begins ss []
starts ss (t ∷ ts) (suc k) = starts (ss ++ Record (length ss) (parts_in ss t.components.items) ∷ []) ts k

pub tables_before : (ts : List Derived) (xs : List TypeTable) (k : ℕ) → AreTables (shapes_of ts) xs → k < length ts → AreTables (shapes_of (take k ts)) (take k xs)
tables_before ts xs k h lt =
    let b = starts [] ts k in
    let n : length (shapes_of (take k ts)) ≡ k = shapes_number (take k ts) ∙ length-take-le k ts (omega arith) in
    subst (λ j. AreTables (shapes_of (take k ts)) (take j xs)) n (have_less (shapes_of (take k ts)) b.rest xs (subst (λ ss. AreTables ss xs) b.is h))

-- ---- components

offsets_many : (at : ℕ) (ss : List Shape) (cs : List Component) → length (offsets_from at (parts_in ss cs)) ≡ length cs
offsets_many at ss [] = refl
offsets_many at ss (c ∷ cs) = ap suc (offsets_many (at + form_words (form_of c.declared) (words_for (shape_in ss c.declared.kind.of))) ss cs)

offset_is : (at : ℕ) (ss : List Shape) (cs : List Component) (k d : ℕ) → k < length cs → get_or (offsets_from at (parts_in ss cs)) k d ≡ at + words_for_parts (parts_in ss (take k cs))
offset_is at ss [] k d lt = absurd (omega arith)
offset_is at ss (c ∷ cs) zero d lt = omega arith
offset_is at ss (c ∷ cs) (suc k) d lt =
    let n : ℕ = form_words (form_of c.declared) (words_for (shape_in ss c.declared.kind.of)) in
    let e : get_or (offsets_from (at + n) (parts_in ss cs)) k d ≡ (at + n) + words_for_parts (parts_in ss (take k cs)) = offset_is (at + n) ss cs k d (omega arith) in
    e ∙ omega arith

-- a table tells where each component begins
pub offset_there : (ts : List Derived) (xs : List TypeTable) (n : ℕ) (x : Derived) (d : TypeTable) (k : ℕ) → AreTables (shapes_of ts) xs → n < length ts → x ≡ get_or ts n x
    → k < length x.components.items → k < length (get_or xs n d).offsets.items
offset_there ts xs n x d k h lt e short =
    let t = table_is ts xs n x d h lt e in
    let m : length (get_or xs n d).offsets.items ≡ length x.components.items
    = ap length t.1 ∙ offsets_many 0 (shapes_of (take n ts)) x.components.items in
    omega arith

behind_none : {A : Type 0} (q : Option (ℕ × A)) → behind 0 q ≡ q
behind_none None = refl
behind_none (Some q) = let e : 0 + q.0 ≡ q.0 = omega arith in ap (λ (k : ℕ). Some (k, q.1)) e

behind_both : {A : Type 0} (n m : ℕ) (q : Option (ℕ × A)) → behind n (behind m q) ≡ behind (n + m) q
behind_both n m None = refl
behind_both n m (Some q) = let e : n + (m + q.0) ≡ (n + m) + q.0 = omega arith in ap (λ (k : ℕ). Some (k, q.1)) e

-- one object has its parts
one_part : (c : Component) (n : ℕ) (f : List Step → Option (ℕ × Base)) (way : List Step) → c.declared.kind.is_allocatable ≡ false → c.declared.kind.rank ≡ 0
    → formed_part (form_of c.declared) n f way ≡ f way
one_part c n f way stays rank =
    ap (λ t. formed_part (if t then Allocatable c.declared.kind.rank else Laid c.declared.kind.rank (spans_declared c.declared.dimensions.items)) n f way) stays
    ∙ ap (λ r. formed_part (Laid r (spans_declared c.declared.dimensions.items)) n f way) rank

-- a part of a component that is one object stands behind the components before it
component_at : (ss : List Shape) (cs : List Component) (k : ℕ) (c : Component) (way : List Step) → slice_get cs k ≡ Some c → c.declared.kind.is_allocatable ≡ false → c.declared.kind.rank ≡ 0
    → component_in (parts_in ss cs) k way ≡ behind (words_for_parts (parts_in ss (take k cs))) (part_in (shape_in ss c.declared.kind.of) c.declared.kind.of way)
component_at ss [] k c way is stays rank = absurd (cc)
component_at ss (b ∷ cs) zero c way is stays rank =
    let same : b ≡ c = cc in
    let s : Shape = shape_in ss c.declared.kind.of in
    ap (λ (y : Component). formed_part (form_of y.declared) (words_for (shape_in ss y.declared.kind.of)) (part_in (shape_in ss y.declared.kind.of) y.declared.kind.of) way) same
    ∙ one_part c (words_for s) (part_in s c.declared.kind.of) way stays rank
    ∙ sym (behind_none (part_in s c.declared.kind.of way))
component_at ss (b ∷ cs) (suc k) c way is stays rank =
    let n : ℕ = form_words (form_of b.declared) (words_for (shape_in ss b.declared.kind.of)) in
    ap (behind n) (component_at ss cs k c way is stays rank)
    ∙ behind_both n (words_for_parts (parts_in ss (take k cs))) (part_in (shape_in ss c.declared.kind.of) c.declared.kind.of way)

pub part_stands : (ts : List Derived) (xs : List TypeTable) (of : Base) (n : ℕ) (x : Derived) (d : TypeTable) (way : List ℕ) (k : ℕ) (rest : List ℕ) (c : Component) (before place all : ℕ) (scalar : Base)
    → AreTables (shapes_of ts) xs → n < length ts → of ≡ base.Derived n → x ≡ get_or ts n x → way ≡ k ∷ rest → k < length x.components.items
    → c ≡ get_or x.components.items k c → c.declared.kind.is_allocatable ≡ false → c.declared.kind.rank ≡ 0 → before ≡ get_or (get_or xs n d).offsets.items k before
    → part_in (shape_in (shapes_of (take n ts)) c.declared.kind.of) c.declared.kind.of (map store.Component rest) ≡ Some (place, scalar) → all ≡ before + place
    → part_in (shape_in (shapes_of ts) of) of (map store.Component way) ≡ Some (all, scalar)
part_stands ts xs of n x d way k rest c before place all scalar h lt typed e first short is stays rank at own sum =
    let ss : List Shape = shapes_of (take n ts) in
    let t = table_is ts xs n x d h lt e in
    let offset : before ≡ words_for_parts (parts_in ss (take k x.components.items))
    = at ∙ ap (λ os. get_or os k before) t.1 ∙ offset_is 0 ss x.components.items k before short ∙ omega arith in
    ap (λ b. part_in (shape_in (shapes_of ts) b) b (map store.Component way)) typed
    ∙ ap (λ (ks : List ℕ). part_in (shape_in (shapes_of ts) (base.Derived n)) (base.Derived n) (map store.Component ks)) first
    ∙ ap (λ s. part_in s (base.Derived n) (map store.Component (k ∷ rest))) (shape_stands ts n x Whole lt e)
    ∙ component_at ss x.components.items k c (map store.Component rest) (slice_get_read x.components.items (length x.components.items) k c refl short is) stays rank
    ∙ ap (λ m. behind m (part_in (shape_in ss c.declared.kind.of) c.declared.kind.of (map store.Component rest))) (sym offset)
    ∙ ap (behind before) own
    ∙ ap (λ (m : ℕ). Some (m, scalar)) (sym sum)

-- ---- allocatable parts

held_at : (ss : List Shape) (cs : List Component) (k : ℕ) (c : Component) (way : List Step) → slice_get cs k ≡ Some c
    → holder_among (parts_in ss cs) k way ≡ behind (words_for_parts (parts_in ss (take k cs)))
    (formed_holder (form_of c.declared) (shape_in ss c.declared.kind.of) c.declared.kind.of (holder_in (shape_in ss c.declared.kind.of) c.declared.kind.of) way)
held_at ss [] k c way is = absurd (cc)
held_at ss (b ∷ cs) zero c way is =
    let same : b ≡ c = cc in
    let s : Shape = shape_in ss c.declared.kind.of in
    ap (λ (y : Component). formed_holder (form_of y.declared) (shape_in ss y.declared.kind.of) y.declared.kind.of (holder_in (shape_in ss y.declared.kind.of) y.declared.kind.of) way) same
    ∙ sym (behind_none (formed_holder (form_of c.declared) s c.declared.kind.of (holder_in s c.declared.kind.of) way))
held_at ss (b ∷ cs) (suc k) c way is =
    let n : ℕ = form_words (form_of b.declared) (words_for (shape_in ss b.declared.kind.of)) in
    let s : Shape = shape_in ss c.declared.kind.of in
    ap (behind n) (held_at ss cs k c way is)
    ∙ behind_both n (words_for_parts (parts_in ss (take k cs))) (formed_holder (form_of c.declared) s c.declared.kind.of (holder_in s c.declared.kind.of) way)

module _ (ts : List Derived) (xs : List TypeTable) (of : Base) (n : ℕ) (x : Derived) (d : TypeTable) (way : List ℕ) (k : ℕ) (rest : List ℕ) (c : Component) (before : ℕ)
    (h : AreTables (shapes_of ts) xs) (lt : n < length ts) (typed : of ≡ base.Derived n) (e : x ≡ get_or ts n x) (first : way ≡ k ∷ rest) (short : k < length x.components.items)
    (is : c ≡ get_or x.components.items k c) (at : before ≡ get_or (get_or xs n d).offsets.items k before) where
  abbrev ss : List Shape
  ss = shapes_of (take n ts)

  abbrev inner : Shape
  inner = shape_in ss c.declared.kind.of

  held_there : holder_in (shape_in (shapes_of ts) of) of (map store.Component way)
      ≡ behind before (formed_holder (form_of c.declared) inner c.declared.kind.of (holder_in inner c.declared.kind.of) (map store.Component rest))
  held_there =
      let t = table_is ts xs n x d h lt e in
      let offset : before ≡ words_for_parts (parts_in ss (take k x.components.items))
      = at ∙ ap (λ os. get_or os k before) t.1 ∙ offset_is 0 ss x.components.items k before short ∙ omega arith in
      ap (λ b. holder_in (shape_in (shapes_of ts) b) b (map store.Component way)) typed
      ∙ ap (λ (ks : List ℕ). holder_in (shape_in (shapes_of ts) (base.Derived n)) (base.Derived n) (map store.Component ks)) first
      ∙ ap (λ s. holder_in s (base.Derived n) (map store.Component (k ∷ rest))) (shape_stands ts n x Whole lt e)
      ∙ held_at ss x.components.items k c (map store.Component rest) (slice_get_read x.components.items (length x.components.items) k c refl short is)
      ∙ ap (λ m. behind m (formed_holder (form_of c.declared) inner c.declared.kind.of (holder_in inner c.declared.kind.of) (map store.Component rest))) (sym offset)

  abbrev kind : Kind
  kind = record { rank = c.declared.kind.rank; shape = inner; of = c.declared.kind.of }

  -- the component is the allocatable
  pub holder_here : (r : Holding) → c.declared.kind.is_allocatable ≡ true → rest ≡ [] → r.at ≡ before → r.rank ≡ c.declared.kind.rank → r.of ≡ c.declared.kind.of → r.width ≡ words_for inner
      → IsHolding (holder_in (shape_in (shapes_of ts) of) of (map store.Component way)) r
  holder_here r holds none place rank typed' width =
      let zero_more : before + 0 ≡ r.at = omega arith in
      record {
        kind = kind;
        there = held_there
            ∙ ap (λ t. behind before (formed_holder (if t then Allocatable c.declared.kind.rank else Laid c.declared.kind.rank (spans_declared c.declared.dimensions.items)) inner c.declared.kind.of
            (holder_in inner c.declared.kind.of) (map store.Component rest))) holds
            ∙ ap (λ (ks : List ℕ). behind before (formed_holder (Allocatable c.declared.kind.rank) inner c.declared.kind.of (holder_in inner c.declared.kind.of) (map store.Component ks))) none
            ∙ ap (λ (j : ℕ). Some (j, kind)) zero_more;
        rank = sym rank;
        of = sym typed';
        width = sym width;
      }

  -- or it is one object that has the part
  pub holder_beneath : (q r : Holding) → c.declared.kind.is_allocatable ≡ false → c.declared.kind.rank ≡ 0 → IsHolding (holder_in inner c.declared.kind.of (map store.Component rest)) q
      → r.at ≡ before + q.at → r.rank ≡ q.rank → r.of ≡ q.of → r.width ≡ q.width → IsHolding (holder_in (shape_in (shapes_of ts) of) of (map store.Component way)) r
  holder_beneath q r stays one own place rank typed' width =
      record {
        kind = own.kind;
        there = held_there
            ∙ ap (λ t. behind before (formed_holder (if t then Allocatable c.declared.kind.rank else Laid c.declared.kind.rank (spans_declared c.declared.dimensions.items)) inner c.declared.kind.of
            (holder_in inner c.declared.kind.of) (map store.Component rest))) stays
            ∙ ap (λ j. behind before (formed_holder (Laid j (spans_declared c.declared.dimensions.items)) inner c.declared.kind.of (holder_in inner c.declared.kind.of) (map store.Component rest))) one
            ∙ ap (behind before) own.there
            ∙ ap (λ (j : ℕ). Some (j, own.kind)) (sym place);
        rank = own.rank ∙ sym rank;
        of = own.of ∙ sym typed';
        width = own.width ∙ sym width;
      }
