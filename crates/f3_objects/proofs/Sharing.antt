-- Laws on the copy of an allocatable: a block of its own, and then its contents.
use Rattle.std.proofs.Common.{◌≡◌, ◌≢◌, ℕ, ℤ, pos, ◌+◌, ◌*◌, ◌<◌, ◌≤◌, ◌/◌, inl, inr, List, [], ◌∷◌, ◌++◌, length, take, drop, replicate, refl, ap, sym, subst, ◌∙◌, arith, length-append, is_some}
use Rattle.std.specs.Prelude.{None, Some}
use Rattle.std.specs.FinMap.{get}
use Rattle.std.proofs.Math.Nat.{mul-div_cancel}
use Rattle.f3_live_blocks.specs.Blocks.{Live, IsLive, words_in, pins_in, words_of, pins_of, with_words, with_taken}
use Rattle.f3_live_blocks.proofs.Laws.{get-insert_same, get-insert_other, pins-insert_same, fresh-apart}
use Rattle.f3_desc.specs.Shape.{Shape, Holder, Times, width}
use Rattle.f3_objects.specs.Tree.{Tree, End, Unallocated, Allocated, words, times, value, Value, Nil, Present, elements, first_block, IsHolder, unallocated, allocated, Fits, IsBare, blank}
use Rattle.f3_objects.specs.Holds.{Stands, Replaces, with_words_at}
use Rattle.f3_heap_laws.specs.Answers.{Answer, Taken, Take, sizes}
use Rattle.f3_heap_laws.proofs.Answers.{sizes-with_words}
use Rattle.f3_objects.specs.Copies.{Ready, Copies, takings, asked_of, asks}
use Rattle.f3_objects.proofs.Taking.{nil-append, takes-bare, asked_all}
use Rattle.f3_objects.proofs.Trees.{times_own, zero_or_more, size-fits}
use Rattle.f3_objects.proofs.Spans.{back_part, length-written}
use Rattle.f3_objects.proofs.Changes.{not_dead, same_live, same_words, same_pins, held-live, stands_replaced, stands_elsewhere, replaces_same, replaces_then}
use Rattle.f3_objects.proofs.Holders.{own_or_other, Allocation, replaces_beneath, own_not_new}
use Rattle.f3_objects.proofs.Freeing.{contents_length}
use Rattle.f3_objects.proofs.Writes.{words-with, live-with}
use Rattle.f3_objects.proofs.Blanks.{words-blank, blank-fits, blank-bare, held-bare}
use Rattle.f3_objects.proofs.Copying.{untouched}

-- an allocatable with nothing allocated
pub record IsRoom (rank : ℕ) (u : Tree) : Type 0 where
  pub dims : List ℤ
  pub is : u ≡ Unallocated dims End
  pub ranked : length dims ≡ 2 * rank

room_in : (rank : ℕ) (P : Tree → Type 0) (u : Tree) → IsHolder rank P u → IsBare u → IsRoom rank u
room_in rank P u (unallocated d e) bare = record { dims = d; is = refl; ranked = e }
room_in rank P u (allocated b d c e r) bare = absurd (let h = bare b in let p = times_own b d c End in omega arith)

room_none : (rank : ℕ) (P : Tree → Type 0) (u : Tree) → IsHolder rank P u → first_block u ≡ None → IsRoom rank u
room_none rank P u (unallocated d e) f = record { dims = d; is = refl; ranked = e }
room_none rank P u (allocated b d c e r) f = cc

-- nothing is copied: the first take is refused
pub copies_unchanged : (old new : Live) (from from_at to to_at b n : ℕ) (s whole : Shape) (t u : Tree) → Ready old from from_at to to_at whole t u → Allocation old b s t → n ≡ length (words_of old b) → new ≡ old → (fault : Answer) (W : List Take → Type 0) → W (record { asked = n; answer = fault } ∷ []) → Copies old new to to_at whole t u (fault ∷ []) W
copies_unchanged old new from from_at to to_at b n s whole t u r a len e fault W took =
    let P : Live → Type 0 = λ m. Replaces old m to to_at u u in
    let none = takes-bare u r.bare in
    record {
      copy = u;
      replaced = subst P (sym e) (replaces_same old to to_at u r.target.stands);
      fits = r.target.fits;
      once = λ q. let b = r.bare q in omega arith;
      equal = λ o. cc;
      refused = record { asked = n; answer = fault } ∷ [];
      told = refl;
      more = asked_of (takings a.contents ++ []);
      asked =
          ap asks a.is
          ∙ (ap (λ (k : ℕ). k ∷ asked_of (takings a.contents ++ [])) (sym (len ∙ ap length a.inside.exact))
          ∙ ap (λ (l : List Take). asked_of (l ++ record { asked = n; answer = fault } ∷ []) ++ asked_of (takings a.contents ++ [])) (sym none));
      all = λ o. cc;
      took = subst W (ap (λ (l : List Take). l ++ record { asked = n; answer = fault } ∷ []) (sym none)) took;
    }

-- what is not allocated is not allocated in the copy
pub copies_none : (m : Live) (from from_at to to_at rank : ℕ) (s : Shape) (t u : Tree) (W : List Take → Type 0) → Ready m from from_at to to_at (Holder rank s) t u → first_block t ≡ None → W [] → Copies m m to to_at (Holder rank s) t u [] W
copies_none m from from_at to to_at rank s t u W r e took =
    let a = room_none rank (Fits s) t r.source.fits e in
    let b = room_in rank (Fits s) u r.target.fits r.bare in
    record {
      copy = u;
      replaced = replaces_same m to to_at u r.target.stands;
      fits = r.target.fits;
      once = λ q. let b = r.bare q in omega arith;
      equal = λ o. ap value b.is ∙ sym (ap value a.is);
      refused = [];
      told = refl;
      more = [];
      asked = asked_all (asks t) (takings u) (ap asks a.is ∙ sym (ap asks b.is));
      all = λ o. refl;
      took = subst W (sym (nil-append (takings u) ∙ takes-bare u r.bare)) took;
    }

-- the copy has a block of zeros and the bounds
module _ (old mid now : Live) (from from_at to to_at rank b k : ℕ) (s : Shape) (t u : Tree) (r : Ready old from from_at to to_at (Holder rank s) t u) (a : Allocation old b s t) (positive : 0 < k) (fresh : get old k ≡ None) (taken : mid ≡ with_taken old k (length (words_of old b))) (linked : now ≡ with_words mid to (with_words_at (words_of mid to) to_at (pos k ∷ take (2 * rank) (drop (from_at + 1) (words_of mid from))))) where
  abbrev pub zeros : Tree
  zeros = blank (Times (elements a.dims) s)

  abbrev pub shared : Tree
  shared = Allocated k a.dims zeros End

  room : IsRoom rank u
  room = room_in rank (Fits s) u r.target.fits r.bare

  ranked : length a.dims ≡ 2 * rank
  ranked =
      let e : length (words t) ≡ 1 + 2 * rank = size-fits (Holder rank s) t r.source.fits in
      let f : length (words t) ≡ length (pos b ∷ (a.dims ++ [])) = ap (λ (x : Tree). length (words x)) a.is in
      let l = length-append a.dims [] in
      omega arith

  mid_other : (q : ℕ) → q ≢ k → get mid q ≡ get old q
  mid_other q ne = ap (λ (m : Live). get m q) taken ∙ get-insert_other old k _ q ne

  now_other : (q : ℕ) → q ≢ to → get now q ≡ get mid q
  now_other q ne = ap (λ (m : Live). get m q) linked ∙ get-insert_other mid to _ q ne

  apart_from : (q : ℕ) → IsLive old q → q ≢ k
  apart_from q h = fresh-apart old k q fresh h

  pub to_stays : get mid to ≡ get old to
  to_stays = mid_other to (apart_from to r.target.stands.live)

  pub from_stays : get mid from ≡ get old from
  from_stays = mid_other from (apart_from from r.source.stands.live)

  bounds : take (2 * rank) (drop (from_at + 1) (words_of mid from)) ≡ a.dims ++ []
  bounds =
      let P : Tree → Type 0 = λ x. take (length (words x)) (drop from_at (words_of old from)) ≡ words x in
      let e = back_part (words_of old from) (pos b ∷ []) (a.dims ++ []) from_at (subst P a.is r.source.stands.there) in
      let l : 2 * rank ≡ length (a.dims ++ []) = (let x = length-append a.dims [] in let y = ranked in omega arith) in
      ap (λ (l : List ℤ). take (2 * rank) (drop (from_at + 1) l)) (same_words old mid from from_stays)
      ∙ (ap (λ (n : ℕ). take n (drop (from_at + 1) (words_of old from))) l ∙ e)

  shared_written : words_of now to ≡ with_words_at (words_of old to) to_at (words shared)
  shared_written =
      ap (λ (m : Live). words_of m to) linked
      ∙ (words-with mid to _
      ∙ (ap (λ (l : List ℤ). with_words_at l to_at (pos k ∷ take (2 * rank) (drop (from_at + 1) (words_of mid from)))) (same_words old mid to to_stays)
      ∙ ap (λ (l : List ℤ). with_words_at (words_of old to) to_at (pos k ∷ l)) bounds))

  not_to : k ≢ to
  not_to = λ e. apart_from to r.target.stands.live (sym e)

  own_block : get now k ≡ Some (record { words = replicate (length (words_of old b)) (pos 0); pins = 0 })
  own_block = now_other k not_to ∙ (ap (λ (m : Live). get m k) taken ∙ get-insert_same old k _)

  zeros_size : length (words_of old b) ≡ width (Times (elements a.dims) s)
  zeros_size = contents_length old b s (elements a.dims) a.contents a.inside

  own_words : words_of now k ≡ words zeros
  own_words = ap words_in own_block ∙ (ap (λ (n : ℕ). replicate n (pos 0)) zeros_size ∙ sym (words-blank (Times (elements a.dims) s)))

  zeros_bare : IsBare zeros
  zeros_bare = blank-bare (Times (elements a.dims) s)

  only_own : (q : ℕ) → 0 < times q shared → q ≡ k
  only_own q p = elim (own_or_other q k) [
    | inl o ↦ o.0
    | inr o ↦ let o1 = o.1 in let z = zeros_bare q in absurd (omega arith)
  ]

  pub shared_replaces : Replaces old now to to_at u shared
  shared_replaces = record {
    live = let P : Live → Type 0 = λ m. IsLive m to in subst P (sym linked) (live-with mid to _);
    written = shared_written;
    pinned = ap (λ (m : Live). pins_of m to) linked ∙ (pins-insert_same mid to _ ∙ same_pins old mid to to_stays);
    held = (ap is_some own_block, own_words, held-bare now zeros zeros_bare, tt, positive);
    taken = λ q p z.
        let P : ℕ → Type 0 = λ x. (get old x ≡ None) × (pins_of now x ≡ 0) in
        subst P (sym (only_own q p)) (fresh, ap pins_in own_block);
    kept = λ q p z. absurd (let c = r.bare q in omega arith);
    given = λ q z p. absurd (let c = r.bare q in omega arith);
    others = λ q ne y z. elim (own_or_other q k) [
      | inl o ↦ let o1 = o.1 in absurd (omega arith)
      | inr o ↦ now_other q ne ∙ mid_other q o.0
    ];
  }

  beneath_own : times to (Allocated b a.dims a.contents End) ≡ 0
  beneath_own = let P : Tree → Type 0 = λ x. times to x ≡ 0 in subst P a.is r.beneath

  not_inner : to ≢ b
  not_inner = λ e. let z = beneath_own in elim (own_or_other to b) [
    | inl o ↦ let o1 = o.1 in omega arith
    | inr o ↦ o.0 e
  ]

  not_beneath : times to a.contents ≡ 0
  not_beneath = let z = beneath_own in omega arith

  inner_stays : get now b ≡ get old b
  inner_stays = untouched old now to to_at u shared shared_replaces r.bare b a.inside.holds.stands.live (λ e. not_inner (sym e))

  pub contents_same : words_of now b ≡ words a.contents
  contents_same = same_words old now b inner_stays ∙ a.inside.exact

  pub contents_ready : Ready now b 0 k 0 (Times (elements a.dims) s) a.contents (blank (Times (elements a.dims) s))
  contents_ready = record {
    source = record {
      stands = stands_elsewhere old now b 0 a.contents to to_at u shared a.inside.holds.stands shared_replaces not_inner not_beneath r.bare;
      fits = a.inside.holds.fits;
    };
    target = record {
      stands = record {
        live = ap is_some own_block;
        within = let e = ap length own_words in omega arith;
        there = ap (take (length (words zeros))) own_words ∙ taken_whole (words zeros);
        held = held-bare now zeros zeros_bare;
        once = λ q. let z = zeros_bare q in omega arith;
        apart = zeros_bare k;
      };
      fits = blank-fits (Times (elements a.dims) s);
    };
    apart = λ e. apart_from b a.inside.holds.stands.live (sym e);
    beneath = elim (zero_or_more (times k a.contents)) [
      | inl z ↦ z
      | inr z ↦ absurd (not_dead old k (held-live old k a.contents a.inside.holds.stands.held z) fresh)
    ];
    bare = zeros_bare;
  }
    where
      taken_whole : (l : List ℤ) → take (length l) l ≡ l
      taken_whole [] = refl
      taken_whole (x ∷ l) = ap (λ (m : List ℤ). x ∷ m) (taken_whole l)

  shared_size : length (words shared) ≡ length (words u)
  shared_size =
      let e = ap (λ (x : Tree). length (words x)) room.is in
      let f = length-append a.dims [] in
      let g = length-append room.dims [] in
      let h = room.ranked in
      let i = ranked in
      omega arith

  shared_stands : Stands now to to_at shared
  shared_stands = stands_replaced old now to to_at u shared r.target.stands shared_size shared_replaces (λ q. elim (own_or_other q k) [
    | inl o ↦ let o1 = o.1 in let z = zeros_bare q in omega arith
    | inr o ↦ let o1 = o.1 in let z = zeros_bare q in omega arith
  ])

  -- the links change no length
  pub linked_sizes : sizes now ≡ sizes mid
  linked_sizes =
      let live : IsLive mid to = same_live old mid to to_stays r.target.stands.live in
      let e = ap length (same_words old mid to to_stays) in
      let x = size-fits (Holder rank s) u r.target.fits in
      let w = r.target.stands.within in
      let b = ap length bounds in
      let l = length-append a.dims [] in
      let n = ranked in
      ap sizes linked ∙ sizes-with_words mid to _ live (length-written (words_of mid to) to_at (pos k ∷ take (2 * rank) (drop (from_at + 1) (words_of mid from))) (omega arith))

  pub copies_shared : (new : Live) (faults : List Answer) {V : List Take → Type 0} → Copies now new k 0 (Times (elements a.dims) s) a.contents (blank (Times (elements a.dims) s)) faults V → (W : List Take → Type 0) → ((ks : List Take) → V ks → W (record { asked = length (words_of old b); answer = Taken k } ∷ ks)) → Copies old new to to_at (Holder rank s) t u faults W
  copies_shared new faults c W join =
      let size : length (words c.copy) ≡ length (words zeros) = size-fits (Times (elements a.dims) s) c.copy c.fits ∙ sym (size-fits (Times (elements a.dims) s) zeros (blank-fits (Times (elements a.dims) s))) in
      let beneath = replaces_beneath now new to to_at k a.dims zeros c.copy shared_stands c.replaced size in
      let own = own_not_new now new to to_at k a.dims zeros c.copy shared_stands c.replaced in
      let long : length (words c.copy) ≡ length (words_of old b) = size-fits (Times (elements a.dims) s) c.copy c.fits ∙ sym zeros_size in
      let all_takings : (record { asked = length (words_of old b); answer = Taken k } ∷ (takings c.copy ++ c.refused)) ≡ takings (Allocated k a.dims c.copy End) ++ c.refused = ap (λ (n : ℕ). record { asked = n; answer = Taken k } ∷ (takings c.copy ++ c.refused)) (sym long) ∙ ap (λ (l : List Take). record { asked = length (words c.copy); answer = Taken k } ∷ (l ++ c.refused)) (sym (nil-append (takings c.copy))) in
      record {
        copy = Allocated k a.dims c.copy End;
        replaced = replaces_then old now new to to_at u shared (Allocated k a.dims c.copy End) r.target.stands.within r.target.stands.live shared_size refl shared_replaces beneath (λ q p z. absurd (let x = r.bare q in omega arith)) (r.bare to);
        fits = allocated k a.dims c.copy ranked c.fits;
        once = λ q. elim (own_or_other q k) [
          | inl o ↦ let o1 = o.1 in let P : ℕ → Type 0 = λ x. times x c.copy ≡ 0 in let z = subst P (sym o.0) own in omega arith
          | inr o ↦ let o1 = o.1 in let x = c.once q in omega arith
        ];
        equal = λ o. ap (λ (x : Value). Present a.dims x Nil) (c.equal o) ∙ sym (ap value a.is);
        refused = c.refused;
        told = c.told;
        more = c.more;
        asked =
            ap asks a.is
            ∙ (ap (λ (l : List Take). length (words a.contents) ∷ asked_of l) (nil-append (takings a.contents))
            ∙ (ap (λ (l : List ℕ). length (words a.contents) ∷ l) c.asked
            ∙ (ap (λ (n : ℕ). n ∷ (asked_of (takings c.copy ++ c.refused) ++ c.more)) (sym (ap length a.inside.exact))
            ∙ ap (λ (l : List Take). asked_of l ++ c.more) all_takings)));
        all = c.all;
        took = subst W all_takings (join (takings c.copy ++ c.refused) c.took);
      }

-- once a block is taken, both places are as before
pub room_taken : (old now : Live) (from from_at to to_at rank : ℕ) (s : Shape) (t u : Tree) → Ready old from from_at to to_at (Holder rank s) t u → (k n : ℕ) → get old k ≡ None → now ≡ with_taken old k n → IsLive now from × IsLive now to × (from_at + (1 + 2 * rank) ≤ length (words_of now from)) × (to_at + (1 + 2 * rank) ≤ length (words_of now to))
room_taken old now from from_at to to_at rank s t u r k n fresh taken =
    let other : (q : ℕ) → IsLive old q → get now q ≡ get old q = (λ q h. ap (λ (m : Live). get m q) taken ∙ get-insert_other old k _ q (fresh-apart old k q fresh h)) in
    let f = other from r.source.stands.live in
    let g = other to r.target.stands.live in
    let a = ap length (same_words old now from f) in
    let b = ap length (same_words old now to g) in
    let x = size-fits (Holder rank s) t r.source.fits in
    let y = size-fits (Holder rank s) u r.target.fits in
    let v = r.source.stands.within in
    let w = r.target.stands.within in
    (same_live old now from f r.source.stands.live, same_live old now to g r.target.stands.live, omega arith, omega arith)

-- the words that a block holds fit another with as many elements
pub contents_within : (m : Live) (from to : ℕ) (s : Shape) (t u : Tree) → Ready m from 0 to 0 s t u → words_of m from ≡ words t → length (words_of m from) ≤ length (words_of m to)
contents_within m from to s t u r same =
    let a = ap length same in
    let x = size-fits s t r.source.fits in
    let y = size-fits s u r.target.fits in
    let w = r.target.stands.within in
    omega arith

pub elements_count : (n₁ n₂ : ℕ) (m : Live) (from from_at to to_at : ℕ) (s : Shape) (n : ℕ) (t u : Tree) → 0 < width s → n₁ ≡ length (words_of m from) → n₂ ≡ width s → Ready m from from_at to to_at (Times n s) t u → words_of m from ≡ words t → n₁ / n₂ ≡ n
elements_count n₁ n₂ m from from_at to to_at s n t u p e f r same =
    let l : n₁ ≡ n * width s = e ∙ (ap length same ∙ size-fits (Times n s) t r.source.fits) in
    ap (λ (k : ℕ). k / n₂) l ∙ (ap (λ (k : ℕ). (n * width s) / k) f ∙ mul-div_cancel n p)
