-- Objects with what they hold take the place of others.
use Rattle.std.proofs.Common.{◌≡◌, ◌≢◌, ◌∙◌, sym, ap, subst, refl, inl, inr, ℕ, suc, ◌+◌, ◌*◌, ◌<◌, ◌≤◌, Bool, true, false, List, [], ◌∷◌, length, arith}
use Rattle.std.specs.Prelude.{Some, ℤ, pos, ◌+ℤ◌, nat_eq, ◌&&◌, if◌then◌else◌, slice_index_or, unsigned_abs}
use Rattle.std.specs.List.{All, AllZip, AllPairs}
use Rattle.std.proofs.lemmas.Bool.{eqb-true, eqb-false, eq-eqb, ne_eqb}
use Rattle.std.proofs.lemmas.Int.{ints}
use Rattle.f3_live_blocks.specs.Blocks.{Live, IsLive, words_of, with_words}
use Rattle.f3_live_blocks.proofs.Laws.{live-insert, words-insert_other}
use Rattle.f3_meaning_whole.specs.Value.{Value}
use Rattle.f3_meaning_whole.specs.Shape.{Shape}
use Rattle.f3_meaning_whole.specs.Store.{Root, Static, Local, Step, Component, Element, Contents, Path, put_all, same_root, same_step}
use Rattle.f3_desc.specs.declared.descriptor.Descriptor.{Descriptor}
use Rattle.f3_desc.specs.Descriptor.{places, progression}
use Rattle.f3_rooms.specs.Held.{Held, Row, first, others, blocks_in, blocks_in_all, times}
use Rattle.f3_rooms.specs.Forms.{words_for}
use Rattle.f3_rooms.specs.Values.{elements, object}
use Rattle.f3_rooms.specs.Rooms.{Rooms, blocks_of, store_of}
use Rattle.f3_rooms.specs.Places.{Found, found, rooms_with}
use Rattle.f3_rooms.specs.Ways.{are_aside}
use Rattle.f3_rooms.specs.Sound.{Each, IsObject, IsSound}
use Rattle.f3_rooms.proofs.Framing.{Steady, Kept, times_row, kept_first}
use Rattle.f3_rooms.proofs.Aside.{other_parts_stand, other_variables_stand}
use Rattle.f3_rooms.proofs.Within.{store_owns}
use Rattle.f3_room_objects.specs.Changes.{IsBare}
use Rattle.f3_objects.specs.Holds.{with_words_at}
use Rattle.f3_objects.proofs.Writes.{words-with, with_words_same, with_words_again}
use Rattle.f3_room_arrays.specs.Words.{words_at, copied}
use Rattle.f3_room_arrays.specs.Elements.{StandsAt, held_row}
use Rattle.f3_room_arrays.specs.Changes.{AreAside, IsVacant, TakesAll, helds, rooms_with_all}
use Rattle.f3_room_arrays.proofs.Placing.{all-first, all-rest, all-more, all-none, words-long}
use Rattle.f3_room_arrays.proofs.Flat.{Alike}
use Rattle.f3_room_arrays.proofs.Elsewhere.{object_follows, object_goes}
use Rattle.f3_room_arrays.proofs.Objects.{next, next-word, object-replaced, copied-word}

-- ---- paths aside

nat_turned : (a b : ℕ) → nat_eq a b ≡ false → nat_eq b a ≡ false
nat_turned a b e = ne_eqb b a (λ g. eqb-false a b e (sym g))

step_turned : (s t : Step) → same_step s t ≡ false → same_step t s ≡ false
step_turned (Component i) (Component k) e = nat_turned i k e
step_turned (Component i) (Element k) e = refl
step_turned (Component i) Contents e = refl
step_turned (Element i) (Component k) e = refl
step_turned (Element i) (Element k) e = nat_turned i k e
step_turned (Element i) Contents e = refl
step_turned Contents (Component k) e = refl
step_turned Contents (Element k) e = refl
step_turned Contents Contents e = e

step_same : (s t : Step) → same_step s t ≡ true → same_step t s ≡ true
step_same (Component i) (Component k) e = eq-eqb k i (sym (eqb-true i k e))
step_same (Component i) (Element k) e = absurd cc
step_same (Component i) Contents e = absurd cc
step_same (Element i) (Component k) e = absurd cc
step_same (Element i) (Element k) e = eq-eqb k i (sym (eqb-true i k e))
step_same (Element i) Contents e = absurd cc
step_same Contents (Component k) e = absurd cc
step_same Contents (Element k) e = absurd cc
step_same Contents Contents e = e

ways_turned : (way other : List Step) → are_aside way other ≡ true → are_aside other way ≡ true
ways_turned [] other e = absurd cc
ways_turned (s ∷ way) [] e = absurd cc
ways_turned (s ∷ way) (t ∷ other) e = by (ways_turned way other) (same_step s t) refl e
  where
    by : (are_aside way other ≡ true → are_aside other way ≡ true) → (b : Bool) → same_step s t ≡ b → (if b then are_aside way other else true) ≡ true → (if same_step t s then are_aside other way else true) ≡ true
    by further true is aside = ap (λ c. if c then are_aside other way else true) (step_same s t is) ∙ further aside
    by further false is aside = ap (λ c. if c then are_aside other way else true) (step_turned s t is)

and_turned : (a b c d : ℕ) → (nat_eq a b && nat_eq c d) ≡ false → (nat_eq b a && nat_eq d c) ≡ false
and_turned a b c d e = by (nat_eq a b) refl e
  where
    by : (t : Bool) → nat_eq a b ≡ t → (t && nat_eq c d) ≡ false → (nat_eq b a && nat_eq d c) ≡ false
    by true is rest = ap (λ u. u && nat_eq d c) (eq-eqb b a (sym (eqb-true a b is))) ∙ nat_turned c d rest
    by false is rest = ap (λ u. u && nat_eq d c) (nat_turned a b is)

root_turned : (r q : Root) → same_root r q ≡ false → same_root q r ≡ false
root_turned (Static i) (Static k) e = nat_turned i k e
root_turned (Static i) (Local l k) e = refl
root_turned (Local l i) (Static k) e = refl
root_turned (Local l i) (Local m k) e = and_turned l m i k e

pub turned : (p q : Path) → AreAside p q → AreAside q p
turned p q (inl e) = inl (root_turned p.root q.root e)
turned p q (inr e) = inr (sym e.0, ways_turned p.steps q.steps e.1)

-- a path aside leads where it led
pub aside_leads : (ts : List Shape) (x : Rooms) (p q : Path) (f : Found) (u : Held) → found ts x p.root p.steps ≡ Some f → AreAside p q
    → found ts (rooms_with x p.root p.steps u) q.root q.steps ≡ found ts x q.root q.steps
aside_leads ts x p q f u leads (inl e) = other_variables_stand ts x p.root q.root p.steps q.steps u e
aside_leads ts x p q f u leads (inr e) =
    subst (λ (r : Root). found ts (rooms_with x p.root p.steps u) r q.steps ≡ found ts x r q.steps) e.0 (other_parts_stand ts x p.root p.steps q.steps f u leads e.1)

-- ---- pairs

pub pairs-first : {X : Type 0} (R : X → X → Type 0) (x : X) (xs : List X) → AllPairs R (x ∷ xs) → All (R x) xs
pairs-first R x xs pairs k d lt = pairs 0 (suc k) d (omega arith) (omega arith)

pub pairs-rest : {X : Type 0} (R : X → X → Type 0) (x : X) (xs : List X) → AllPairs R (x ∷ xs) → AllPairs R xs
pairs-rest R x xs pairs i j d lt le = pairs (suc i) (suc j) d (omega arith) (omega arith)

module _ (ts : List Shape) (x : Rooms) (p : Path) (f : Found) (leads : found ts x p.root p.steps ≡ Some f) (u : Held) where
  abbrev y : Rooms
  y = rooms_with x p.root p.steps u

  -- objects aside stand where they stood, and hold what they held
  pub stand-still : (b : ℕ) (s : Shape) (zs : List ℤ) (qs : List Path) → All (AreAside p) qs → AllZip (StandsAt ts x b s) zs qs → AllZip (StandsAt ts y b s) zs qs
  stand-still b s [] [] aside stand = stand
  stand-still b s [] (q ∷ qs) aside stand = absurd stand
  stand-still b s (z ∷ zs) [] aside stand = absurd stand
  stand-still b s (z ∷ zs) (q ∷ qs) aside stand = (
    one-still b s z q (all-first (AreAside p) q qs aside) stand.0,
    stand-still b s zs qs (all-rest (AreAside p) q qs aside) stand.1,
  )
    where
      one-still : (b : ℕ) (s : Shape) (z : ℤ) (q : Path) → AreAside p q → StandsAt ts x b s z q → StandsAt ts y b s z q
      one-still b s z q aside one = record { part = one.part; leads = aside_leads ts x p q f u leads aside ∙ one.leads; there = one.there; at = one.at; shape = one.shape; form = one.form }

  pub vacant-still : (qs : List Path) → All (AreAside p) qs → All (IsVacant ts x) qs → All (IsVacant ts y) qs
  vacant-still [] aside vacant = all-none (IsVacant ts y)
  vacant-still (q ∷ qs) aside vacant =
      all-more (IsVacant ts y) q qs (λ g e. all-first (IsVacant ts x) q qs vacant g (sym (aside_leads ts x p q f u leads (all-first (AreAside p) q qs aside)) ∙ e))
      (vacant-still qs (all-rest (AreAside p) q qs aside) (all-rest (IsVacant ts x) q qs vacant))

-- later changes leave an object where it stands
later-still : (ts : List Shape) (b : ℕ) (s : Shape) (z : ℤ) (p : Path) (x : Rooms) (qs : List Path) (zs : List ℤ) (us : List Held) → AllZip (StandsAt ts x b s) zs qs → All (AreAside p) qs → AllPairs AreAside qs
    → StandsAt ts x b s z p → StandsAt ts (rooms_with_all x qs us) b s z p
later-still ts b s z p x [] zs us stand aside distinct one = one
later-still ts b s z p x (q ∷ qs) zs [] stand aside distinct one = one
later-still ts b s z p x (q ∷ qs) [] (u ∷ us) stand aside distinct one = absurd stand
later-still ts b s z p x (q ∷ qs) (w ∷ zs) (u ∷ us) stand aside distinct one =
    let g : Found = (stand.0).part in
    let moved = stand-still ts x q g (stand.0).leads u b s (z ∷ []) (p ∷ []) (all-more (AreAside q) p [] (turned p q (all-first (AreAside p) q qs aside)) (all-none (AreAside q))) (one, tt) in
    let rest = stand-still ts x q g (stand.0).leads u b s zs qs (pairs-first AreAside q qs distinct) stand.1 in
    later-still ts b s z p (rooms_with x q.root q.steps u) qs zs us rest (all-rest (AreAside p) q qs aside) (pairs-rest AreAside q qs distinct) moved.0

-- ---- landing

pub record Lands (ts : List Shape) (m n : Live) (x : Rooms) (b : ℕ) (s : Shape) (zs : List ℤ) (ps : List Path) (us : List Held) (vs : List Value) : Type 0 where
  pub store : store_of ts n (rooms_with_all x ps us) ≡ put_all ps vs (store_of ts m x)
  pub sound : IsSound ts n (rooms_with_all x ps us)
  pub tells : AllZip (StandsAt ts (rooms_with_all x ps us) b s) zs ps

module _ (ts : List Shape) (s : Shape) (src : Live) (from block : ℕ) where
  abbrev ws : List ℤ
  ws = words_of src from

  -- what is held comes from elsewhere, and is in no block of the store
  abbrev IsFrom : Live → Rooms → Row → Type 0
  IsFrom m x hs = (q : ℕ) → 0 < times q (blocks_in_all hs) → (times q (blocks_of x) ≡ 0) × Steady src m q

  pub objects-land : (m : Live) (x : Rooms) → IsSound ts m x → IsLive m block → (zs : List ℤ) (ps : List Path) → AllZip (StandsAt ts x block s) zs ps → All (IsVacant ts x) ps → AllPairs AreAside ps
      → (t : ℕ) (hs : Row) → t + length zs * words_for s ≤ length ws → Each (length zs) (words_for s) (IsObject src s) from t hs → ((q : ℕ) → times q (blocks_in_all hs) ≤ 1) → IsFrom m x hs
      → Lands ts m (with_words m block (copied (words_for s) (words_of m block) ws zs (progression (pos t) (pos (words_for s)) (length zs)))) x block s zs ps (helds (length zs) hs)
      (elements (length zs) (words_for s) (object src s) from t hs)
  objects-land m x sound live [] [] stand vacant distinct t hs le have once new =
      let same = sym (with_words_same m block live) in
      record { store = ap (λ (k : Live). store_of ts k x) (sym same); sound = subst (λ (k : Live). IsSound ts k x) same sound; tells = tt }
  objects-land m x sound live [] (p ∷ ps) stand vacant distinct t hs le have once new = absurd stand
  objects-land m x sound live (z ∷ zs) [] stand vacant distinct t hs le have once new = absurd stand
  objects-land m x sound live (z ∷ zs) (p ∷ ps) stand vacant distinct t hs le have once new =
      let n : ℕ = words_for s in
      let f : Found = (stand.0).part in
      let u : Held = first hs in
      let vs : List ℤ = words_at ws (pos t) n in
      let long : length vs ≡ n = words-long ws t n (omega arith) in
      let mid : Live = next ts m x sound block s z p stand.0 vs long in
      let own = store_owns ts x p.root p.steps f (stand.0).leads in
      let some : 0 < times block (blocks_of x) = subst (λ (b : ℕ). 0 < times b (blocks_of x)) (stand.0).there (let o : times f.block (blocks_in f.held) < times f.block (blocks_of x) = own.block in omega arith) in
      let kept : Kept src mid (blocks_in_all hs) = λ q lt. steady-on m q _ (λ e. nowhere q (blocks_of x) e (new q lt).0 some) (new q lt).1 in
      let alike : Alike src mid n from t block (unsigned_abs z) = λ j lt.
      next-word ts m x sound block s z p stand.0 vs long j lt ∙ copied-word ws t n j lt in
      let here = object_goes src mid s from t block (unsigned_abs z) u alike (kept_first src mid hs kept) have.0 in
      let v : Value = object src s from t u in
      let bare : IsBare f = all-first (IsVacant ts x) p ps vacant f (stand.0).leads in
      let one = object-replaced ts m x sound block s z p stand.0 vs long u here
      (λ q. let c = times_row q hs in let o = once q in omega arith)
      (λ q lt. let c = times_row q hs in let o = (new q (omega arith)).0 in omega arith)
      v (object_follows src mid s from t block (unsigned_abs z) u alike (kept_first src mid hs kept)) in
      let y : Rooms = rooms_with x p.root p.steps u in
      let aside : All (AreAside p) ps = pairs-first AreAside p ps distinct in
      let still = stand-still ts x p f (stand.0).leads u block s zs ps aside stand.1 in
      let fresh : IsFrom mid y (others hs) = λ q lt.
      let c = times_row q hs in
      let o = once q in
      let b = (new q (omega arith)).0 in
      let count = one.3 q in
      (omega arith, kept q (omega arith)) in
      let rest = objects-land mid y one.1 (live-insert m block _ block live) zs ps still (vacant-still ts x p f (stand.0).leads u ps aside (all-rest (IsVacant ts x) p ps vacant)) (pairs-rest AreAside p ps distinct)
      (t + n) (others hs) (omega arith) have.1 (λ q. let c = times_row q hs in let o = once q in omega arith) fresh in
      let words : words_of mid block ≡ with_words_at (words_of m block) (unsigned_abs z) vs = words-with m block _ in
      let step : pos t +ℤ pos n ≡ pos (t + n) = omega (arith, ints) in
      let end_is : with_words mid block (copied n (words_of mid block) ws zs (progression (pos (t + n)) (pos n) (length zs)))
      ≡ with_words m block (copied n (words_of m block) ws (z ∷ zs) (progression (pos t) (pos n) (length (z ∷ zs)))) =
      ap (λ (l : List ℤ). with_words mid block (copied n l ws zs (progression (pos (t + n)) (pos n) (length zs)))) words ∙ with_words_again m block _ _
      ∙ ap (λ (w : ℤ). with_words m block (copied n (with_words_at (words_of m block) (unsigned_abs z) vs) ws zs (progression w (pos n) (length zs)))) (sym step) in
      record {
        store = ap (λ (k : Live). store_of ts k (rooms_with_all y ps (helds (length zs) (others hs)))) (sym end_is) ∙ rest.store
            ∙ ap (put_all ps (elements (length zs) n (object src s) from (t + n) (others hs))) one.0;
        sound = subst (λ (k : Live). IsSound ts k (rooms_with_all y ps (helds (length zs) (others hs)))) end_is rest.sound;
        tells = (later-still ts block s z p y ps zs (helds (length zs) (others hs)) still aside (pairs-rest AreAside p ps distinct) one.2, rest.tells);
      }
    where
      nowhere : (q : ℕ) (bs : List ℕ) → q ≡ block → times q bs ≡ 0 → 0 < times block bs → ⊥
      nowhere q bs e none some = let g : times q bs ≡ times block bs = ap (λ b. times b bs) e in omega arith

      steady-on : (m : Live) (q : ℕ) (l : List ℤ) → q ≢ block → Steady src m q → Steady src (with_words m block l) q
      steady-on m q l ne was = record {
        live = λ h. live-insert m block _ q (was.live h);
        long = ap length (words-insert_other m block _ q ne) ∙ was.long;
        same = λ i. ap (λ xs. slice_index_or xs i (pos 0)) (words-insert_other m block _ q ne) ∙ was.same i;
      }

pub takes-as : {ts : List Shape} {m n l : Live} {x : Rooms} {a : Descriptor} {s : Shape} {ps : List Path} {k j : ℕ} (from o : ℕ) (hs : Row) → n ≡ l → k ≡ j
    → Lands ts m n x a.block s (places a) ps (helds k hs) (elements k (words_for s) (object m s) from o hs)
    → TakesAll ts m l x a s ps (helds j hs) (held_row m s j from o hs)
takes-as {ts} {m} {n} {l} {x} {a} {s} {ps} {k} {j} from o hs e many lands =
    let there : Lands ts m l x a.block s (places a) ps (helds k hs) (elements k (words_for s) (object m s) from o hs) = subst (λ (p : Live). Lands ts m p x a.block s (places a) ps (helds k hs) (elements k (words_for s) (object m s) from o hs)) e lands in
    let all : Lands ts m l x a.block s (places a) ps (helds j hs) (elements j (words_for s) (object m s) from o hs) = subst (λ (i : ℕ). Lands ts m l x a.block s (places a) ps (helds i hs) (elements i (words_for s) (object m s) from o hs)) many there in
    record { store = all.store; sound = all.sound; tells = all.tells }
