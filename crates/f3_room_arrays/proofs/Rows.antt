-- Objects that are copied one behind another, with what they hold.
use Rattle.std.proofs.Common.{◌≡◌, ◌≢◌, ◌∙◌, sym, ap, subst, refl, inl, inr, ℕ, zero, suc, ◌+◌, ◌*◌, ◌<◌, ◌≤◌, List, [], ◌∷◌, ◌++◌, length, take, drop, arith}
use Rattle.std.specs.Prelude.{None, Some, ◌⊎◌, ℤ, pos, map, slice_get, slice_index_or, unsigned_abs}
use Rattle.std.specs.FinMap.{get as find}
use Rattle.std.proofs.lemmas.List.{map-append, take_all}
use Rattle.f3_program.specs.declared.declarations.Base.TheVariants.{Integer}
use Rattle.f3_live_blocks.specs.Blocks.{Live, IsLive, pins_in, words_of, pins_of}
use Rattle.f3_live_blocks.proofs.Laws.{live-insert, get-insert_other}
use Rattle.f3_meaning_whole.specs.Value.{Span, count}
use Rattle.f3_meaning_whole.specs.Shape.{Shape}
use Rattle.f3_meaning_whole.specs.Store.{Path, get}
use Rattle.f3_desc.specs.declared.descriptor.Descriptor.{Descriptor}
use Rattle.f3_desc.specs.Shape.{Shape as Layout, Times, width}
use Rattle.f3_rooms.specs.Held.{Held, Row, Parts, end, next, first, others, with_part_at, blocks_in, blocks_in_all, times}
use Rattle.f3_rooms.specs.Forms.{Form, Laid, words_for}
use Rattle.f3_rooms.specs.Values.{elements, object}
use Rattle.f3_rooms.specs.Rooms.{Rooms, blocks_of, store_of}
use Rattle.f3_rooms.specs.Places.{Found}
use Rattle.f3_rooms.specs.Sound.{Fact, Each, IsObject, IsSound}
use Rattle.f3_rooms.specs.Laws.{IsWithin}
use Rattle.f3_rooms.proofs.Framing.{Reading, Kept, Same, times_row, each_persists, elements_stay, object_persists, object_stays}
use Rattle.f3_rooms.proofs.Keeping.{as_it_was, kept_blocks_keep}
use Rattle.f3_rooms.proofs.Living.{all_live}
use Rattle.f3_rooms.proofs.Reading.{parts_are_found}
use Rattle.f3_rooms.proofs.Within.{store_owns, part_lies}
use Rattle.f3_objects.specs.Tree.{Tree, words, Fits, value, times as times_beneath}
use Rattle.f3_objects.specs.Holds.{Holds, NonePinned, with_words_at}
use Rattle.f3_objects.proofs.Changes.{held-live}
use Rattle.f3_objects.proofs.Spans.{length-written, read_outside, written_there}
use Rattle.f3_objects.proofs.Trees.{size-fits}
use Rattle.f3_objects.proofs.Writes.{words-with}
use Rattle.f3_room_objects.specs.Trees.{layout_for, formed_as, layout_of, tree_at, object_tree}
use Rattle.f3_room_objects.specs.Laws.{IsApart}
use Rattle.f3_room_objects.proofs.Bounds.{part_bound, bounds_equal}
use Rattle.f3_room_objects.proofs.Growing.{parts_hold_trees, parts_are_apart, trees_have_their_blocks}
use Rattle.f3_room_objects.proofs.Planting.{Planted, part_planted, width_for}
use Rattle.f3_room_objects.proofs.Values.{equal_trees_are_equal}
use Rattle.f3_room_objects.proofs.Windows.{window, from_are}
use Rattle.f3_room_arrays.specs.Elements.{StandsAt}
use Rattle.f3_room_arrays.specs.Copies.{AreCopyable, CopiesAll}
use Rattle.f3_room_arrays.specs.Inner.Clones.{IsReady, Clones, Spoils}
use Rattle.f3_room_arrays.proofs.Cloning.{there-is}
use Rattle.f3_room_arrays.proofs.Running.{take-next}

-- ---- one more behind a row

each-more : (k w : ℕ) (P : Fact) (b o : ℕ) (hs : Row) (h : Held) → Each k w P b o hs → P b (o + k * w) h → Each (suc k) w P b o (with_part_at hs k h)
each-more zero w P b o hs h has one =
    let e : o + 0 * w ≡ o = omega arith in
    (subst (λ i. P b i h) e one, ap others has)
each-more (suc k) w P b o hs h has one =
    let e : o + suc k * w ≡ o + w + k * w = omega arith in
    (has.0, each-more k w P b (o + w) (others hs) h has.1 (subst (λ i. P b i h) e one))

times-more : (q k w : ℕ) (P : Fact) (b o : ℕ) (hs : Row) (h : Held) → Each k w P b o hs → times q (blocks_in_all (with_part_at hs k h)) ≡ times q (blocks_in_all hs) + times q (blocks_in h)
times-more q zero w P b o hs h has =
    let e = times_row q (next h (others hs)) in
    let none : times q (blocks_in_all hs) ≡ 0 = ap (λ r. times q (blocks_in_all r)) has in
    let rest : times q (blocks_in_all (others hs)) ≡ 0 = ap (λ r. times q (blocks_in_all (others r))) has in
    omega arith
times-more q (suc k) w P b o hs h has =
    let e = times_row q (next (first hs) (with_part_at (others hs) k h)) in
    let g = times_row q hs in
    let r = times-more q k w P b (o + w) (others hs) h has.1 in
    omega arith

elements-more : (k w : ℕ) (f : Reading) (b o : ℕ) (hs : Row) (h : Held) → elements (suc k) w f b o (with_part_at hs k h) ≡ elements k w f b o hs ++ f b (o + k * w) h ∷ []
elements-more zero w f b o hs h = let e : o ≡ o + 0 * w = omega arith in ap (λ i. f b i h ∷ []) e
elements-more (suc k) w f b o hs h =
    let e : o + w + k * w ≡ o + suc k * w = omega arith in
    ap (λ vs. f b o (first hs) ∷ vs) (elements-more k w f b (o + w) (others hs) h ∙ ap (λ i. elements k w f b (o + w) (others hs) ++ f b i h ∷ []) e)

-- ---- objects so far copied

module _ (ts : List Shape) (old : Live) (x : Rooms) (a : Descriptor) (s : Shape) (ps : List Path) (l : Layout) (to at : ℕ) where
  abbrev n : ℕ
  n = words_for s

  pub record Gathered (now : Live) (k : ℕ) : Type 0 where
    pub held : Row
    pub objects : Each k (words_for s) (IsObject now s) to at held
    pub once : (q : ℕ) → times q (blocks_in_all held) ≤ 1
    pub new : (q : ℕ) → 0 < times q (blocks_in_all held) → (find old q ≡ None) × IsLive now q × (pins_of now q ≡ 0)
    pub values : elements k (words_for s) (object now s) to at held ≡ map (get (store_of ts old x)) (take k ps)
    pub others : (q : ℕ) → q ≢ to → times q (blocks_in_all held) ≡ 0 → find now q ≡ find old q
    pub live : IsLive now to
    pub long : length (words_of now to) ≡ length (words_of old to)

  module _ (are : AreCopyable ts old x a s ps l to) (live_old : IsLive old to) where
    pub gathered-none : Gathered old 0
    gathered-none = record {
      held = end;
      objects = refl;
      once = λ q. omega arith;
      new = λ q lt. absurd (omega arith);
      values = refl;
      others = λ q ne none. refl;
      live = live_old;
      long = refl;
    }

    module _ (now : Live) (k : ℕ) (g : Gathered now k) where
      -- what is held is elsewhere
      elsewhere : (q : ℕ) → 0 < times q (blocks_in_all g.held) → q ≢ to
      elsewhere q lt e = there-is old to live_old (subst (λ b. find old b ≡ None) e (g.new q lt).0)

      nothing : (q : ℕ) → 0 < times q (blocks_of x) → times q (blocks_in_all g.held) ≡ 0
      nothing q lt = by (times q (blocks_in_all g.held)) refl
        where
          by : (c : ℕ) → times q (blocks_in_all g.held) ≡ c → c ≡ 0
          by zero e = refl
          by (suc c) e = absurd (there-is old q (all_live ts old x are.sound q lt) (g.new q (omega arith)).0)

      pub stays : (store_of ts now x ≡ store_of ts old x) × IsSound ts now x
      stays = kept_blocks_keep ts old now x are.sound (λ q lt. g.others q (apart q lt) (nothing q lt))
        where
          apart : (q : ℕ) → 0 < times q (blocks_of x) → q ≢ to
          apart q lt e = let none : times q (blocks_of x) ≡ 0 = ap (λ b. times b (blocks_of x)) e ∙ are.apart in omega arith

      module _ (z : ℤ) (p : Path) (stands : StandsAt ts x a.block s z p) where
        abbrev f : Found
        f = stands.part

        abbrev t : Tree
        t = tree_at now f

        within : IsWithin now f
        within = part_lies ts now x stays.1 p.root p.steps f stands.leads

        layout-is : layout_of f ≡ l
        layout-is = ap (λ (form : Form). formed_as form (layout_for f.shape)) stands.form ∙ ap layout_for stands.shape ∙ are.layout

        pub wide : width l ≡ n
        wide = ap width (sym are.layout) ∙ width_for s

        -- a copy of it can be made
        pub element-ready : (i o : ℕ) → pos i ≡ z → o + n ≤ length (words_of now to) → IsReady now a.block i to o l t
        element-ready i o e le =
            let own = store_owns ts x p.root p.steps f stands.leads in
            let tree = parts_hold_trees now f within (parts_are_apart ts now x stays.1 p.root p.steps f stands.leads) in
            let at_is : f.at ≡ i = ap unsigned_abs (stands.at ∙ sym e) in
            record {
              source = subst (λ (b : ℕ). Holds now b i l t) stands.there (subst (λ (j : ℕ). Holds now f.block j l t) at_is (subst (λ (m : Layout). Holds now f.block f.at m t) layout-is tree));
              apart = λ g. apart (g ∙ sym stands.there) own.block are.apart;
              beneath = trees_have_their_blocks now f within to ∙ zero-of (own.counted to) are.apart;
              live = g.live;
              within = let w = wide in omega arith;
            }
          where
            apart : to ≡ f.block → times f.block (blocks_in f.held) < times f.block (blocks_of x) → times to (blocks_of x) ≡ 0 → ⊥
            apart e lt none = let same : times to (blocks_of x) ≡ times f.block (blocks_of x) = ap (λ b. times b (blocks_of x)) e in omega arith

            zero-of : {y z : ℕ} → y ≤ z → z ≡ 0 → y ≡ 0
            zero-of {y} {z} le e = omega arith

        -- and stands there
        module _ (new : Live) (o : ℕ) (o_is : o ≡ at + k * n) (room : o + n ≤ length (words_of now to)) (c : Clones now new to o l t) where
          size : length (words c.copy) ≡ n
          size = size-fits l c.copy c.fits ∙ wide

          new-long : length (words_of new to) ≡ length (words_of now to)
          new-long = ap length c.words ∙ length-written (words_of now to) o (words c.copy) (let e = size in omega arith)

          planted : Planted (object_tree new s) (IsObject new s) to o c.copy
          planted =
              let there : take (length (words c.copy)) (drop o (words_of new to)) ≡ words c.copy =
              ap (λ ws. take (length (words c.copy)) (drop o ws)) c.words ∙ written_there (words_of now to) o (words c.copy) (omega arith) in
              let fits : Fits (layout_for s) c.copy = subst (λ (m : Layout). Fits m c.copy) (sym are.layout) c.fits in
              let r = part_planted new (Laid 0 []) s to o c.copy fits (record {
                words = from_are new to o (words c.copy) (window new to o (length (words c.copy)) (let e = size in let g = new-long in omega arith) ∙ there);
                held = c.held;
                bounds = bounds_equal t c.copy c.equal (part_bound now f);
              }) in
              record { holds = r.holds; is = r.is; has = r.has }

          abbrev h : Held
          h = planted.holds

          abbrev copied : Found
          copied = record { block = to; at = o; shape = s; of = f.of; form = Laid 0 []; held = h }

          copied-within : IsWithin new copied
          copied-within = record { live = c.live; within = let g = new-long in omega arith; form = planted.has }

          beneath : (q : ℕ) → times q (blocks_in h) ≡ times_beneath q c.copy
          beneath q = sym (trees_have_their_blocks new copied copied-within q) ∙ ap (times_beneath q) planted.is

          value-is : object new s to o h ≡ get (store_of ts old x) p
          value-is =
              equal_trees_are_equal now new f copied (sym stands.form) (sym stands.shape) (ap value planted.is ∙ c.equal)
              ∙ sym (parts_are_found ts now x p.root p.steps f stands.leads) ∙ ap (λ store. get store p) stays.0

          -- no block of the copy was there
          fresh : (q : ℕ) → IsLive now q → times_beneath q c.copy ≡ 0
          fresh q live = by (times_beneath q c.copy) refl
            where
              by : (d : ℕ) → times_beneath q c.copy ≡ d → d ≡ 0
              by zero e = refl
              by (suc d) e = absurd (there-is now q live (c.taken q (omega arith)).0)

          same-block : (q : ℕ) → 0 < times q (blocks_in_all g.held) → find new q ≡ find now q
          same-block q lt = c.others q (elsewhere q lt) (fresh q (g.new q lt).1)

          kept : Kept now new (blocks_in_all g.held)
          kept q lt = as_it_was now new q (same-block q lt)

          same : Same now new to at (k * n)
          same i low high =
              ap (λ ws. slice_index_or ws i (pos 0)) c.words ∙ read_outside (words_of now to) o i (words c.copy) (pos 0) (omega arith) (inl (omega arith))

          pub gathered-more : slice_get ps k ≡ Some p → Gathered new (k + 1)
          gathered-more e =
              let one : suc k ≡ k + 1 = omega arith in
              subst (Gathered new) one (record {
                held = with_part_at g.held k h;
                objects = each-more k n (IsObject new s) to at g.held h (each_persists now new k n (IsObject now s) (IsObject new s) (object_persists now new s) to at g.held same kept g.objects)
                    (subst (λ i. IsObject new s to i h) o_is planted.has);
                once = λ q. let m = more q in let b = beneath q in only q (cases_of (times q (blocks_in_all g.held)));
                new = λ q lt. fresh-one q (cases_of (times q (blocks_in_all g.held))) lt;
                values = elements-more k n (object new s) to at g.held h
                    ∙ ap (λ i. elements k n (object new s) to at g.held ++ object new s to i h ∷ []) (sym o_is)
                    ∙ ap (λ v. elements k n (object new s) to at g.held ++ v ∷ []) value-is
                    ∙ ap (λ vs. vs ++ get (store_of ts old x) p ∷ []) (elements_stay now new k n (object now s) (object new s) (object_stays now new s) to at g.held same kept ∙ g.values)
                    ∙ sym (map-append (get (store_of ts old x)) (take k ps) (p ∷ []))
                    ∙ ap (map (get (store_of ts old x))) (sym (take-next ps k p e) ∙ (let j : k + 1 ≡ suc k = omega arith in ap (λ i. take i ps) j));
                others = λ q ne none. let m = more q in let b = beneath q in c.others q ne (omega arith) ∙ g.others q ne (omega arith);
                live = c.live;
                long = new-long ∙ g.long;
              })
            where
              more : (q : ℕ) → times q (blocks_in_all (with_part_at g.held k h)) ≡ times q (blocks_in_all g.held) + times q (blocks_in h)
              more q = times-more q k n (IsObject now s) to at g.held h g.objects

              cases_of : (d : ℕ) → (d ≡ 0) ⊎ (0 < d)
              cases_of zero = inl refl
              cases_of (suc d) = inr (omega arith)

              only : (q : ℕ) → (times q (blocks_in_all g.held) ≡ 0) ⊎ (0 < times q (blocks_in_all g.held)) → times q (blocks_in_all (with_part_at g.held k h)) ≤ 1
              only q (inl none) = let m = more q in let b = beneath q in let c1 = c.once q in omega arith
              only q (inr lt) = let m = more q in let b = beneath q in let c0 = fresh q (g.new q lt).1 in let o1 = g.once q in omega arith

              fresh-one : (q : ℕ) → (times q (blocks_in_all g.held) ≡ 0) ⊎ (0 < times q (blocks_in_all g.held)) → 0 < times q (blocks_in_all (with_part_at g.held k h))
                  → (find old q ≡ None) × IsLive new q × (pins_of new q ≡ 0)
              fresh-one q (inr lt) some = ((g.new q lt).0, (kept q lt).live (g.new q lt).1, ap pins_in (same-block q lt) ∙ (g.new q lt).2)
              fresh-one q (inl none) some =
                  let m = more q in
                  let b = beneath q in
                  let beneath_it : 0 < times_beneath q c.copy = omega arith in
                  let gone = (c.taken q beneath_it).0 in
                  let ne : q ≢ to = λ e. there-is now to g.live (subst (λ y. find now y ≡ None) e gone) in
                  (sym (g.others q ne none) ∙ gone, held-live new q c.copy c.held beneath_it, (c.taken q beneath_it).1)

      -- ---- where a copy was refused

      module _ (new : Live) (o : ℕ) (o_is : o ≡ at + k * n) (room : o + n ≤ length (words_of now to)) (bad : Spoils now new to o n) where
        spoiled-words : words_of new to ≡ with_words_at (words_of now to) o bad.words
        spoiled-words = ap (λ (m : Live). words_of m to) bad.is ∙ words-with now to _

        spoiled-same : (q : ℕ) → q ≢ to → find new q ≡ find now q
        spoiled-same q ne = ap (λ (m : Live). find m q) bad.is ∙ get-insert_other now to _ q ne

        spoiled-kept : Kept now new (blocks_in_all g.held)
        spoiled-kept q lt = as_it_was now new q (spoiled-same q (elsewhere q lt))

        spoiled-front : Same now new to at (k * n)
        spoiled-front i low high =
            ap (λ ws. slice_index_or ws i (pos 0)) spoiled-words ∙ read_outside (words_of now to) o i bad.words (pos 0) (omega arith) (inl (omega arith))

        pub gathered-spoiled : Gathered new k
        gathered-spoiled = record {
          held = g.held;
          objects = each_persists now new k n (IsObject now s) (IsObject new s) (object_persists now new s) to at g.held spoiled-front spoiled-kept g.objects;
          once = g.once;
          new = λ q lt. ((g.new q lt).0, (spoiled-kept q lt).live (g.new q lt).1, ap pins_in (spoiled-same q (elsewhere q lt)) ∙ (g.new q lt).2);
          values = elements_stay now new k n (object now s) (object new s) (object_stays now new s) to at g.held spoiled-front spoiled-kept ∙ g.values;
          others = λ q ne none. spoiled-same q ne ∙ g.others q ne none;
          live = subst (λ (m : Live). IsLive m to) (sym bad.is) (live-insert now to _ to g.live);
          long = ap length spoiled-words ∙ length-written (words_of now to) o bad.words (let e = bad.many in omega arith) ∙ g.long;
        }

      -- the copies so far as one tree
      module _ (room : at + k * n ≤ length (words_of now to)) where
        abbrev spans : List Span
        spans = record { lower = pos 1; extent = k } ∷ []

        abbrev row-found : Found
        row-found = record { block = to; at = at; shape = s; of = Integer; form = Laid 1 spans; held = Parts g.held }

        as-many : count spans ≡ k
        as-many = omega arith

        row-within : IsWithin now row-found
        row-within = record {
          live = g.live;
          within = subst (λ c. at + c * n ≤ length (words_of now to)) (sym as-many) room;
          form = (tt, subst (λ c. Each c n (IsObject now s) to at g.held) (sym as-many) g.objects);
        }

        row-apart : IsApart row-found
        row-apart = record { once = g.once; own = by (times to (blocks_in_all g.held)) refl }
          where
            by : (c : ℕ) → times to (blocks_in_all g.held) ≡ c → c ≡ 0
            by zero e = refl
            by (suc c) e = absurd (elsewhere to (omega arith) refl)

        abbrev pub row-tree : Tree
        row-tree = tree_at now row-found

        pub row-holds : Holds now to at (Times k l) row-tree
        row-holds = subst (λ (c : ℕ). Holds now to at (Times c l) row-tree) as-many (subst (λ (m : Layout). Holds now to at (Times (count spans) m) row-tree) are.layout (parts_hold_trees now row-found row-within row-apart))

        row-blocks : (q : ℕ) → times_beneath q row-tree ≡ times q (blocks_in_all g.held)
        row-blocks = trees_have_their_blocks now row-found row-within

        pub row-unpinned : NonePinned (pins_of now) row-tree
        row-unpinned q lt = (g.new q (let e = row-blocks q in omega arith)).2

        pub all-back : (end_ : Live) → ((q : ℕ) → 0 < times_beneath q row-tree → find end_ q ≡ None) → ((q : ℕ) → q ≢ to → times_beneath q row-tree ≡ 0 → find end_ q ≡ find now q)
            → (q : ℕ) → q ≢ to → find end_ q ≡ find old q
        all-back end_ given others q ne = by (times_beneath q row-tree) refl
          where
            by : (c : ℕ) → times_beneath q row-tree ≡ c → find end_ q ≡ find old q
            by zero e = others q ne e ∙ g.others q ne (sym (row-blocks q) ∙ e)
            by (suc c) e = given q (omega arith) ∙ sym (g.new q (let b = row-blocks q in omega arith)).0

      -- all of them
      pub gathered-all : k ≡ length ps → CopiesAll ts old now x s ps to at
      gathered-all e =
          let all : take k ps ≡ ps = take_all k ps (omega arith) in
          record {
            held = g.held;
            loose = record { objects = subst (λ c. Each c n (IsObject now s) to at g.held) e g.objects; once = g.once; apart = λ q lt. apart q lt (times q (blocks_of x)) refl };
            values = ap (λ c. elements c n (object now s) to at g.held) (sym e) ∙ g.values ∙ ap (map (get (store_of ts old x))) all;
            others = g.others;
            same = stays;
          }
        where
          apart : (q : ℕ) → 0 < times q (blocks_in_all g.held) → (c : ℕ) → times q (blocks_of x) ≡ c → c ≡ 0
          apart q lt zero e = refl
          apart q lt (suc c) e = absurd (there-is old q (all_live ts old x are.sound q (omega arith)) (g.new q lt).0)
