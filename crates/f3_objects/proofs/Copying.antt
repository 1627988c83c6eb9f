-- Laws on copies of objects, part by part.
use Rattle.std.proofs.Common.{suc, ◌≡◌, ◌≢◌, ℕ, ℤ, ◌+◌, ◌-◌, ◌<◌, ◌≤◌, inl, inr, false, List, [], ◌∷◌, ◌++◌, length, take, drop, map, get_or, refl, ap, sym, subst, ◌∙◌, arith}
use Rattle.std.specs.Prelude.{None}
use Rattle.std.specs.FinMap.{get}
use Rattle.std.proofs.lemmas.List.{drop_more, drop_all}
use Rattle.f3_live_blocks.specs.Blocks.{Live, IsLive, words_of, pins_of, with_words}
use Rattle.f3_live_blocks.proofs.Laws.{get-insert_other, pins-insert_same}
use Rattle.f3_desc.specs.Shape.{Shape, row, shape_at, width, has_holder}
use Rattle.f3_objects.specs.Tree.{Tree, End, ◌⊕◌, words, times, value, Joins, Repeats, Fits, IsBare}
use Rattle.f3_objects.specs.Holds.{Stands, Replaces, with_words_at}
use Rattle.f3_heap_laws.specs.Answers.{Answer, Take, sizes}
use Rattle.f3_heap_laws.proofs.Answers.{sizes-with_words}
use Rattle.f3_objects.proofs.Spans.{length-written}
use Rattle.f3_objects.specs.Copies.{Ready, Copies, takings, asked_of, asks}
use Rattle.f3_objects.proofs.Taking.{nil-append, list-append, takes-append, takes-bare, none_refused, asked_all, asked_part, asked_more}
use Rattle.f3_objects.proofs.Trees.{append-End, append-append, size-append, times-append, zero_or_more, value-append, ◌⊞◌, size-fits, plain-bare}
use Rattle.f3_objects.proofs.Changes.{not_dead, held-live, stands_front, stands_back, stands_behind, stands_elsewhere, replaces_same, replaces_beside}
use Rattle.f3_objects.proofs.Writes.{words-with, live-with}
use Rattle.f3_objects.proofs.Blanks.{held-bare}

-- a block that is gone from the changed heap, where nothing was given, was in none before
pub new_before : (old mid : Live) (block at : ℕ) (t u : Tree) → Replaces old mid block at t u → IsBare t → (q : ℕ) → get mid q ≡ None → get old q ≡ None
new_before old mid block at t u r bare q e =
    let ne : q ≢ block = λ is. not_dead mid block r.live (ap (get mid) (sym is) ∙ e) in
    elim (zero_or_more (times q u)) [
      | inl z ↦ sym (r.others q ne z (bare q)) ∙ e
      | inr z ↦ (r.taken q z (bare q)).0
    ]

-- what was live elsewhere is untouched
pub untouched : (old mid : Live) (block at : ℕ) (t u : Tree) → Replaces old mid block at t u → IsBare t → (q : ℕ) → IsLive old q → q ≢ block → get mid q ≡ get old q
untouched old mid block at t u r bare q h n = elim (zero_or_more (times q u)) [
  | inl z ↦ r.others q n z (bare q)
  | inr z ↦ absurd (not_dead old q h ((r.taken q z (bare q)).0))
]

-- where no word tells of an allocation, the words are the object
pub copies_plain : (old new : Live) (from from_at to to_at n : ℕ) (s : Shape) (t u : Tree) (W : List Take → Type 0) → has_holder s ≡ false → n ≡ width s → Ready old from from_at to to_at s t u → new ≡ with_words old to (with_words_at (words_of old to) to_at (take n (drop from_at (words_of old from)))) → (sizes new ≡ sizes old → W []) → Copies old new to to_at s t u [] W
copies_plain old new from from_at to to_at n s t u W e size r is took =
    let bare : IsBare t = plain-bare s e t r.source.fits in
    let len : n ≡ length (words t) = size ∙ sym (size-fits s t r.source.fits) in
    let there : take n (drop from_at (words_of old from)) ≡ words t = ap (λ (k : ℕ). take k (drop from_at (words_of old from))) len ∙ r.source.stands.there in
    let P : Live → Type 0 = λ m. IsLive m to in
    let same_size : sizes new ≡ sizes old = ap sizes is ∙ sizes-with_words old to _ r.target.stands.live (ap (λ (l : List ℤ). length (with_words_at (words_of old to) to_at l)) there ∙ length-written (words_of old to) to_at (words t) (let a = size-fits s t r.source.fits in let b = size-fits s u r.target.fits in let w = r.target.stands.within in omega arith)) in
    record {
      copy = t;
      replaced = record {
        live = subst P (sym is) (live-with old to _);
        written = ap (λ (m : Live). words_of m to) is ∙ (words-with old to _ ∙ ap (with_words_at (words_of old to) to_at) there);
        pinned = ap (λ (m : Live). pins_of m to) is ∙ pins-insert_same old to _;
        held = held-bare new t bare;
        taken = λ q p z. absurd (let b = bare q in omega arith);
        kept = λ q p z. absurd (let b = bare q in omega arith);
        given = λ q z p. absurd (let b = r.bare q in omega arith);
        others = λ q ne y z. ap (λ (m : Live). get m q) is ∙ get-insert_other old to _ q ne;
      };
      fits = r.source.fits;
      once = λ q. let b = bare q in omega arith;
      equal = λ o. refl;
      refused = [];
      told = refl;
      more = [];
      asked = asked_all (asks t) (takings t) refl;
      all = λ o. refl;
      took = subst W (sym (nil-append (takings t) ∙ takes-bare t bare)) (took same_size);
    }

-- the parts so far are copied, and the others have P on both sides
pub record Copying (old now : Live) (from_at from_place to to_at to_place : ℕ) (P Q : Tree → Type 0) (t u : Tree) (W : List Take → Type 0) : Type 0 where
  pub done : Tree
  pub rest : Tree
  pub split : t ≡ done ⊕ rest
  pub room : Tree
  pub after : Tree
  pub parted : u ≡ room ⊕ after
  pub copy : Tree
  pub from_here : from_place ≡ from_at + length (words done)
  pub to_here : to_place ≡ to_at + length (words room)
  pub sized : length (words copy) ≡ length (words room)
  pub replaced : Replaces old now to to_at room copy
  pub equal : value copy ≡ value done
  pub once : (q : ℕ) → times q copy ≤ 1
  pub has : P rest
  pub takes : P after
  pub fits : (v : Tree) → P v → Q (copy ⊕ v)
  pub asked : asks done ≡ asked_of (takings copy)
  pub took : W (takings copy)

pub copying_none : (m : Live) (from from_at to to_at : ℕ) (s : Shape) (t u : Tree) (W : List Take → Type 0) → Ready m from from_at to to_at s t u → W [] → Copying m m from_at from_at to to_at to_at (Fits s) (Fits s) t u W
copying_none m from from_at to to_at s t u W r took = record {
  done = End;
  rest = t;
  split = refl;
  room = End;
  after = u;
  parted = refl;
  copy = End;
  from_here = omega arith;
  to_here = omega arith;
  sized = refl;
  replaced = replaces_same m to to_at End (stands_front m to to_at End u r.target.stands);
  equal = refl;
  once = λ q. omega arith;
  has = r.source.fits;
  takes = r.target.fits;
  fits = λ v p. p;
  asked = refl;
  took = took;
}

bare_front : (t u : Tree) → IsBare (t ⊕ u) → IsBare t
bare_front t u b q = let a = times-append q t u in let c = b q in omega arith

bare_back : (t u : Tree) → IsBare (t ⊕ u) → IsBare u
bare_back t u b q = let a = times-append q t u in let c = b q in omega arith

-- one part more
module _ (old mid : Live) (from from_at from_place to to_at to_place : ℕ) (P Q : Tree → Type 0) (s : Shape) (t u : Tree) (source : Stands old from from_at t) (target : Stands old to to_at u) (apart : to ≢ from) (beneath : times to t ≡ 0) (bare : IsBare u) {W : List Take → Type 0} (f : Copying old mid from_at from_place to to_at to_place (Joins (Fits s) P) Q t u W) where
  room_bare : IsBare f.room
  room_bare = let B : Tree → Type 0 = λ x. IsBare x in bare_front f.room f.after (subst B f.parted bare)

  after_bare : IsBare f.after
  after_bare = let B : Tree → Type 0 = λ x. IsBare x in bare_back f.room f.after (subst B f.parted bare)

  takes_bare : IsBare (f.takes.front ⊕ f.takes.back)
  takes_bare = let B : Tree → Type 0 = λ x. IsBare x in subst B f.takes.split after_bare

  -- the object still stands
  source_now : Stands mid from from_at t
  source_now = stands_elsewhere old mid from from_at t to to_at f.room f.copy source f.replaced apart beneath room_bare

  rest_now : Stands mid from from_place (f.has.front ⊕ f.has.back)
  rest_now =
      let A : Tree → Type 0 = λ x. Stands mid from from_at x in
      let B : ℕ → Type 0 = λ n. Stands mid from n f.rest in
      let C : Tree → Type 0 = λ x. Stands mid from from_place x in
      subst C f.has.split (subst B (sym f.from_here) (stands_back mid from from_at f.done f.rest (subst A f.split source_now)))

  target_parted : Stands old to to_at (f.room ⊕ f.after)
  target_parted = let A : Tree → Type 0 = λ x. Stands old to to_at x in subst A f.parted target

  after_now : Stands mid to to_place (f.takes.front ⊕ f.takes.back)
  after_now =
      let B : ℕ → Type 0 = λ n. Stands mid to n f.after in
      let C : Tree → Type 0 = λ x. Stands mid to to_place x in
      subst C f.takes.split (subst B (sym f.to_here) (stands_behind old mid to to_at f.room f.after f.copy target_parted f.sized f.replaced))

  beneath_front : times to f.has.front ≡ 0
  beneath_front =
      let a : times to t ≡ times to f.done + times to f.rest = ap (times to) f.split ∙ times-append to f.done f.rest in
      let b : times to f.rest ≡ times to f.has.front + times to f.has.back = ap (times to) f.has.split ∙ times-append to f.has.front f.has.back in
      omega arith

  pub part_ready : Ready mid from from_place to to_place s f.has.front f.takes.front
  part_ready = record {
    source = record { stands = stands_front mid from from_place f.has.front f.has.back rest_now; fits = f.has.first };
    target = record { stands = stands_front mid to to_place f.takes.front f.takes.back after_now; fits = f.takes.first };
    apart = apart;
    beneath = beneath_front;
    bare = bare_front f.takes.front f.takes.back takes_bare;
  }

  module _ (new : Live) (faults : List Answer) {V : List Take → Type 0} (c : Copies mid new to to_place s f.has.front f.takes.front faults V) where
    part_size : length (words c.copy) ≡ length (words f.takes.front)
    part_size = size-fits s c.copy c.fits ∙ sym (size-fits s f.takes.front f.takes.first)

    front_bare : IsBare f.takes.front
    front_bare = bare_front f.takes.front f.takes.back takes_bare

    moved : Replaces mid new to (to_at + length (words f.room)) f.takes.front c.copy
    moved = let R : ℕ → Type 0 = λ n. Replaces mid new to n f.takes.front c.copy in subst R f.to_here c.replaced

    grouped : u ≡ (f.room ⊕ f.takes.front) ⊕ f.takes.back
    grouped = f.parted ∙ (ap (λ (x : Tree). f.room ⊕ x) f.takes.split ∙ sym (append-append f.room f.takes.front f.takes.back))

    target_grouped : Stands old to to_at ((f.room ⊕ f.takes.front) ⊕ f.takes.back)
    target_grouped = let A : Tree → Type 0 = λ x. Stands old to to_at x in subst A grouped target

    pub more_replaced : Replaces old new to to_at (f.room ⊕ f.takes.front) (f.copy ⊕ c.copy)
    more_replaced = replaces_beside old mid new to to_at f.room f.takes.front f.copy c.copy (stands_front old to to_at (f.room ⊕ f.takes.front) f.takes.back target_grouped) f.sized f.replaced moved (λ q p z. new_before old mid to to_at f.room f.copy f.replaced room_bare q ((c.replaced.taken q p (front_bare q)).0))

    more_once : (q : ℕ) → times q (f.copy ⊕ c.copy) ≤ 1
    more_once q =
        let a = times-append q f.copy c.copy in
        let x = f.once q in
        let y = c.once q in
        elim (zero_or_more (times q f.copy)) [
          | inl z ↦ omega arith
          | inr z ↦ elim (zero_or_more (times q c.copy)) [
            | inl k ↦ omega arith
            | inr k ↦ absurd (not_dead mid q (held-live mid q f.copy f.replaced.held z) ((c.replaced.taken q k (front_bare q)).0))
          ]
        ]

    more_size : length (words (f.copy ⊕ c.copy)) ≡ length (words (f.room ⊕ f.takes.front))
    more_size =
        let a = size-append f.copy c.copy in
        let b = size-append f.room f.takes.front in
        let d = f.sized in
        let e = part_size in
        omega arith

    more_fits : (v : Tree) → P v → Q ((f.copy ⊕ c.copy) ⊕ v)
    more_fits v p =
        let F : Tree → Type 0 = λ x. Q x in
        subst F (sym (append-append f.copy c.copy v)) (f.fits (c.copy ⊕ v) (record { front = c.copy; back = v; split = refl; first = c.fits; second = p }))

    pub copying_more : (w : ℕ) → w ≡ width s → faults ≡ [] → (X : List Take → Type 0) → ((ks ls : List Take) → W ks → V ls → X (ks ++ ls)) → Copying old new from_at (from_place + w) to to_at (to_place + w) P Q t u X
    copying_more w e o X join = record {
      done = f.done ⊕ f.has.front;
      rest = f.has.back;
      split = f.split ∙ (ap (λ (x : Tree). f.done ⊕ x) f.has.split ∙ sym (append-append f.done f.has.front f.has.back));
      room = f.room ⊕ f.takes.front;
      after = f.takes.back;
      parted = grouped;
      copy = f.copy ⊕ c.copy;
      from_here = let h = f.from_here in let l = size-append f.done f.has.front in let k = size-fits s f.has.front f.has.first in omega arith;
      to_here = let h = f.to_here in let l = size-append f.room f.takes.front in let k = size-fits s f.takes.front f.takes.first in omega arith;
      sized = more_size;
      replaced = more_replaced;
      equal = value-append f.copy c.copy ∙ (ap (λ x. x ⊞ value c.copy) f.equal ∙ (ap (λ x. value f.done ⊞ x) (c.equal o) ∙ sym (value-append f.done f.has.front)));
      once = more_once;
      has = f.has.second;
      takes = f.takes.second;
      fits = more_fits;
      asked = asked_more f.done f.has.front (takings f.copy) (takings c.copy) f.asked
          (c.asked ∙ (ap (λ l. asked_of (takings c.copy ++ c.refused) ++ l) (c.all o) ∙ (nil-append (asked_of (takings c.copy ++ c.refused)) ∙ ap asked_of (none_left o)))) ∙ ap asked_of (sym (takes-append f.copy c.copy));
      took = subst X (sym (takes-append f.copy c.copy)) (join (takings f.copy) (takings c.copy) f.took (subst V (none_left o) c.took));
    }
      where
        none_left : faults ≡ [] → takings c.copy ++ c.refused ≡ takings c.copy
        none_left o = ap (λ l. takings c.copy ++ l) (none_refused c.refused (c.told ∙ o)) ∙ nil-append (takings c.copy)

    -- the first fault ends it
    stopped_behind : Stands new to (to_at + length (words (f.room ⊕ f.takes.front))) f.takes.back
    stopped_behind = stands_behind old new to to_at (f.room ⊕ f.takes.front) f.takes.back (f.copy ⊕ c.copy) target_grouped more_size more_replaced

    stopped_replaced : Replaces old new to to_at ((f.room ⊕ f.takes.front) ⊕ f.takes.back) ((f.copy ⊕ c.copy) ⊕ f.takes.back)
    stopped_replaced = replaces_beside old new new to to_at (f.room ⊕ f.takes.front) f.takes.back (f.copy ⊕ c.copy) f.takes.back target_grouped more_size more_replaced (replaces_same new to (to_at + length (words (f.room ⊕ f.takes.front))) f.takes.back stopped_behind) (λ q a b. absurd (omega arith))

    pub stopped_at : Replaces old new to to_at u ((f.copy ⊕ c.copy) ⊕ f.takes.back)
    stopped_at = let R : Tree → Type 0 = λ x. Replaces old new to to_at x ((f.copy ⊕ c.copy) ⊕ f.takes.back) in subst R (sym grouped) stopped_replaced

    pub stopped_once : (q : ℕ) → times q ((f.copy ⊕ c.copy) ⊕ f.takes.back) ≤ 1
    stopped_once q =
        let a = times-append q (f.copy ⊕ c.copy) f.takes.back in
        let b = more_once q in
        let d = bare_back f.takes.front f.takes.back takes_bare q in
        omega arith

    pub stopped_asked : asks t ≡ asked_of ((takings f.copy ++ takings c.copy) ++ c.refused) ++ (c.more ++ asks f.has.back)
    stopped_asked =
        let split : t ≡ f.done ⊕ (f.has.front ⊕ f.has.back) = f.split ∙ ap (λ (x : Tree). f.done ⊕ x) f.has.split in
        ap asks split ∙ asked_part f.done f.has.front f.has.back (takings f.copy) (takings c.copy) c.refused c.more f.asked c.asked

    pub stopped_takings : takings ((f.copy ⊕ c.copy) ⊕ f.takes.back) ≡ takings f.copy ++ takings c.copy
    stopped_takings =
        takes-append (f.copy ⊕ c.copy) f.takes.back
        ∙ (ap (λ l. takings (f.copy ⊕ c.copy) ++ l) (takes-bare f.takes.back (bare_back f.takes.front f.takes.back takes_bare)) ∙ (nil-append (takings (f.copy ⊕ c.copy)) ∙ takes-append f.copy c.copy))

    pub stopped_fits : Q ((f.copy ⊕ c.copy) ⊕ f.takes.back)
    stopped_fits = more_fits f.takes.back f.takes.second

-- the copy stops at a fault
pub copies_stop : (old mid new : Live) (from from_at from_place to to_at to_place : ℕ) (P : Tree → Type 0) (whole s : Shape) (t u : Tree) → Ready old from from_at to to_at whole t u → {W V : List Take → Type 0} (f : Copying old mid from_at from_place to to_at to_place (Joins (Fits s) P) (Fits whole) t u W) → (fault : Answer) → Copies mid new to to_place s f.has.front f.takes.front (fault ∷ []) V → (X : List Take → Type 0) → ((ks ls : List Take) → W ks → V ls → X (ks ++ ls)) → Copies old new to to_at whole t u (fault ∷ []) X
copies_stop old mid new from from_at from_place to to_at to_place P whole s t u r f fault c X join =
    let whole_takings = stopped_takings old mid from from_at from_place to to_at to_place P (Fits whole) s t u r.source.stands r.target.stands r.apart r.beneath r.bare f new (fault ∷ []) c in
    record {
      copy = (f.copy ⊕ c.copy) ⊕ f.takes.back;
      replaced = stopped_at old mid from from_at from_place to to_at to_place P (Fits whole) s t u r.source.stands r.target.stands r.apart r.beneath r.bare f new (fault ∷ []) c;
      fits = stopped_fits old mid from from_at from_place to to_at to_place P (Fits whole) s t u r.source.stands r.target.stands r.apart r.beneath r.bare f new (fault ∷ []) c;
      once = stopped_once old mid from from_at from_place to to_at to_place P (Fits whole) s t u r.source.stands r.target.stands r.apart r.beneath r.bare f new (fault ∷ []) c;
      equal = λ e. cc;
      refused = c.refused;
      told = c.told;
      more = c.more ++ asks f.has.back;
      asked = stopped_asked old mid from from_at from_place to to_at to_place P (Fits whole) s t u r.source.stands r.target.stands r.apart r.beneath r.bare f new (fault ∷ []) c ∙ ap (λ l. asked_of (l ++ c.refused) ++ (c.more ++ asks f.has.back)) (sym whole_takings);
      all = λ e. cc;
      took = subst X (sym (list-append (takings f.copy) (takings c.copy) c.refused) ∙ ap (λ l. l ++ c.refused) (sym whole_takings)) (join (takings f.copy) (takings c.copy ++ c.refused) f.took c.took);
    }

-- all parts are copied
pub copies_all : (old now : Live) (from_at from_place to to_at to_place : ℕ) (s : Shape) (t u : Tree) → {W : List Take → Type 0} → Copying old now from_at from_place to to_at to_place (λ x. x ≡ End) (Fits s) t u W → Copies old now to to_at s t u [] W
copies_all old now from_at from_place to to_at to_place s t u {W} f =
    let room : u ≡ f.room = f.parted ∙ (ap (λ (x : Tree). f.room ⊕ x) f.takes ∙ append-End f.room) in
    let done : t ≡ f.done = f.split ∙ (ap (λ (x : Tree). f.done ⊕ x) f.has ∙ append-End f.done) in
    let R : Tree → Type 0 = λ x. Replaces old now to to_at x f.copy in
    let F : Tree → Type 0 = λ x. Fits s x in
    record {
      copy = f.copy;
      replaced = subst R (sym room) f.replaced;
      fits = subst F (append-End f.copy) (f.fits End refl);
      once = f.once;
      equal = λ o. f.equal ∙ ap value (sym done);
      refused = [];
      told = refl;
      more = [];
      asked = asked_all (asks t) (takings f.copy) (ap asks done ∙ f.asked);
      all = λ o. refl;
      took = subst W (sym (nil-append (takings f.copy))) f.took;
    }

-- elements: at one of them, and behind the last
pub copying_element : (old now : Live) (from_at from_place to to_at to_place n i : ℕ) (P Q : Tree → Type 0) (t u : Tree) {W : List Take → Type 0} → i < n → Copying old now from_at from_place to to_at to_place (Repeats (n - i) P) Q t u W → Copying old now from_at from_place to to_at to_place (Joins P (Repeats (n - (i + 1)) P)) Q t u W
copying_element old now from_at from_place to to_at to_place n i P Q t u {W} l f =
    let e : n - i ≡ suc (n - (i + 1)) = omega arith in
    let F : ℕ → Type 0 = λ k. Copying old now from_at from_place to to_at to_place (Repeats k P) Q t u W in
    subst F e f

pub copied_elements : (old now : Live) (from_at from_place to to_at to_place n i : ℕ) (P : Tree → Type 0) (s : Shape) (t u : Tree) {W : List Take → Type 0} → n ≤ i → Copying old now from_at from_place to to_at to_place (Repeats (n - i) P) (Fits s) t u W → Copies old now to to_at s t u [] W
copied_elements old now from_at from_place to to_at to_place n i P s t u {W} l f =
    let e : n - i ≡ 0 = omega arith in
    let F : ℕ → Type 0 = λ k. Copying old now from_at from_place to to_at to_place (Repeats k P) (Fits s) t u W in
    copies_all old now from_at from_place to to_at to_place s t u (subst F e f)

-- parts: at one of them, and behind the last
pub copying_part : (old now : Live) (from_at from_place to to_at to_place i : ℕ) (ss : List Shape) (parts : List ℕ) (Q : Tree → Type 0) (t u : Tree) {W : List Take → Type 0} → i < length parts → Copying old now from_at from_place to to_at to_place (Fits (row (map (shape_at ss) (drop i parts)))) Q t u W → Copying old now from_at from_place to to_at to_place (Joins (Fits (shape_at ss (get_or parts i 0))) (Fits (row (map (shape_at ss) (drop (i + 1) parts))))) Q t u W
copying_part old now from_at from_place to to_at to_place i ss parts Q t u {W} l f =
    let F : List ℕ → Type 0 = λ k. Copying old now from_at from_place to to_at to_place (Fits (row (map (shape_at ss) k))) Q t u W in
    subst F (drop_more parts i 0 l) f

pub copied_parts : (old now : Live) (from_at from_place to to_at to_place i : ℕ) (ss : List Shape) (parts : List ℕ) (s : Shape) (t u : Tree) {W : List Take → Type 0} → length parts ≤ i → Copying old now from_at from_place to to_at to_place (Fits (row (map (shape_at ss) (drop i parts)))) (Fits s) t u W → Copies old now to to_at s t u [] W
copied_parts old now from_at from_place to to_at to_place i ss parts s t u {W} l f =
    let F : List ℕ → Type 0 = λ k. Copying old now from_at from_place to to_at to_place (Fits (row (map (shape_at ss) k))) (Fits s) t u W in
    copies_all old now from_at from_place to to_at to_place s t u (subst F (drop_all i parts l) f)

-- the next part ends where the whole does, or before
pub copying_within : (old now : Live) (from_at from_place to to_at to_place : ℕ) (P Q : Tree → Type 0) (s : Shape) (t u : Tree) {W : List Take → Type 0} (f : Copying old now from_at from_place to to_at to_place (Joins (Fits s) P) Q t u W) (n : ℕ) → from_at + length (words t) < n → to_at + length (words u) < n → (from_place + width s < n) × (to_place + width s < n)
copying_within old now from_at from_place to to_at to_place P Q s t u f n l k =
    let a : length (words t) ≡ length (words f.done) + length (words f.rest) = ap (λ (x : Tree). length (words x)) f.split ∙ size-append f.done f.rest in
    let b : length (words f.rest) ≡ length (words f.has.front) + length (words f.has.back) = ap (λ (x : Tree). length (words x)) f.has.split ∙ size-append f.has.front f.has.back in
    let c : length (words u) ≡ length (words f.room) + length (words f.after) = ap (λ (x : Tree). length (words x)) f.parted ∙ size-append f.room f.after in
    let d : length (words f.after) ≡ length (words f.takes.front) + length (words f.takes.back) = ap (λ (x : Tree). length (words x)) f.takes.split ∙ size-append f.takes.front f.takes.back in
    let g = f.from_here in
    let h = f.to_here in
    let x = size-fits s f.has.front f.has.first in
    let y = size-fits s f.takes.front f.takes.first in
    (omega arith, omega arith)
