-- Blocks that are given back one after another.
use Rattle.std.proofs.Common.{◌≡◌, ◌≢◌, ◌∙◌, ◌⊎◌, inl, inr, ℕ, zero, suc, ◌+◌, ◌<◌, ◌≤◌, List, [], ◌∷◌, ◌++◌, length, take, drop, is_some, append_assoc, refl, sym, ap, subst, arith}
use Rattle.std.specs.Prelude.{None, Result, Ok, Err, IsOk, OnOk}
use Rattle.std.specs.FinMap.{get as find, remove}
use Rattle.std.proofs.lemmas.Bool.{cases_eq, cases_lt, ne_eqb, eq-eqb}
use Rattle.std.proofs.lemmas.List.{append-nil, drop-append-le, length-append, take-append-le, take_all}
use Rattle.f3_live_blocks.specs.Blocks.{Live, IsLive, pins_in, pins_of}
use Rattle.f3_live_blocks.proofs.Laws.{get-remove_other, get-remove_same}
use Rattle.f3_rooms.specs.Held.{times}
use Rattle.f3_rooms.specs.Laws.{without}
use Rattle.f3_rooms.proofs.Framing.{times_append}
use Rattle.f3_word_cells.specs.declared.cell.Cell.{Cell}
use Rattle.f3_word_cells.specs.declared.state.State.{State}
use Rattle.f3_word_cells.specs.Free.{AreFree}
use Rattle.f3_word_cells.specs.States.{cell_blocks, cells_blocks, own}
use Rattle.f3_word_cells.specs.Moves.{IsSame, Popped}
use Rattle.f3_word_cells.proofs.Stacks.{cells_blocks_append, cells_blocks_one}
use Rattle.f3_word_calls.specs.Gone.{Cleared, Gone, MayGo}

-- ---- blocks

times_same : (b : ℕ) (bs : List ℕ) → times b (b ∷ bs) ≡ 1 + times b bs
times_same b bs = rw (eq-eqb b b refl) refl

times_other : (q b : ℕ) (bs : List ℕ) → q ≢ b → times q (b ∷ bs) ≡ times q bs
times_other q b bs ne = rw (ne_eqb q b ne) (omega arith)

pub gone_none : (m : Live) → Gone [] m m
gone_none m = record { gone = λ q some. absurd (omega (arith, some)); others = λ q none. refl }

pub gone_both : (bs cs : List ℕ) (m n o : Live) → Gone bs m n → Gone cs n o → Gone (bs ++ cs) m o
gone_both bs cs m n o a b = record {
  gone = λ q some. elim (cases_lt 0 (times q cs)) [
    | inl there ↦ b.gone q there
    | inr not ↦ b.others q (omega (arith, not)) ∙ a.gone q (let e = times_append q bs cs in omega (arith, e, some, not))
  ];
  others = λ q none. b.others q (let e = times_append q bs cs in omega (arith, e, none)) ∙ a.others q (let e = times_append q bs cs in omega (arith, e, none));
}

-- another order
pub gone_as : (bs cs : List ℕ) (m n : Live) → ((q : ℕ) → times q cs ≡ times q bs) → Gone bs m n → Gone cs m n
gone_as bs cs m n same a = record {
  gone = λ q some. a.gone q (let e = same q in omega (arith, e, some));
  others = λ q none. a.others q (let e = same q in omega (arith, e, none));
}

pub gone_one : (m : Live) (b : ℕ) → Gone (b ∷ []) m (remove m b)
gone_one m b = record {
  gone = λ q some. elim (cases_eq q b) [
    | inl e ↦ subst (λ j. find (remove m b) j ≡ None) (sym e) (get-remove_same m b)
    | inr ne ↦ absurd (let f = times_other q b [] ne in omega (arith, f, some))
  ];
  others = λ q none. get-remove_other m b q (λ e. let f = times_same b [] in let g = ap (λ j. times j (b ∷ [])) e in absurd (omega (arith, f, g, none)));
}

pub gone_without : (bs : List ℕ) (m : Live) → Gone bs m (without bs m)
gone_without [] m = gone_none m
gone_without (b ∷ bs) m = gone_both (b ∷ []) bs m (remove m b) (without bs (remove m b)) (gone_one m b) (gone_without bs (remove m b))

-- those that are left may still go
pub go_behind : (bs cs : List ℕ) (m n : Live) → MayGo m (bs ++ cs) → Gone bs m n → MayGo n cs
go_behind bs cs m n may gone = record {
  once = λ q. let one = may.once q in let e = times_append q bs cs in omega (arith, one, e);
  live = λ q some. ap is_some (stays q some) ∙ may.live q (let e = times_append q bs cs in omega (arith, e, some));
  unpinned = λ q some. ap pins_in (stays q some) ∙ may.unpinned q (let e = times_append q bs cs in omega (arith, e, some));
}
  where
    stays : (q : ℕ) → 0 < times q cs → find n q ≡ find m q
    stays q some = gone.others q (let one = may.once q in let e = times_append q bs cs in omega (arith, one, e, some))

pub go_front : (bs cs : List ℕ) (m : Live) → MayGo m (bs ++ cs) → MayGo m bs
go_front bs cs m may = record {
  once = λ q. let one = may.once q in let e = times_append q bs cs in omega (arith, one, e);
  live = λ q some. may.live q (let e = times_append q bs cs in omega (arith, e, some));
  unpinned = λ q some. may.unpinned q (let e = times_append q bs cs in omega (arith, e, some));
}

pub go_as : (bs cs : List ℕ) (m : Live) → ((q : ℕ) → times q cs ≡ times q bs) → MayGo m bs → MayGo m cs
go_as bs cs m same may = record {
  once = λ q. let one = may.once q in let e = same q in omega (arith, one, e);
  live = λ q some. may.live q (let e = same q in omega (arith, e, some));
  unpinned = λ q some. may.unpinned q (let e = same q in omega (arith, e, some));
}

pub are_free : (bs : List ℕ) (m : Live) → MayGo m bs → AreFree m bs
are_free bs m may q some = (may.live q some, may.unpinned q some)

-- ---- cells that go

-- some cells of the activation at work went
pub record Clearing (m n : Live) (old now : State) : Type 0 where
  pub same : IsSame old now
  pub pc : now.pc ≡ old.pc
  pub fewer : length now.cells.items.items ≤ length old.cells.items.items
  pub went : List Cell
  pub split : own old ≡ went ++ own now
  pub gone : Gone (cells_blocks went) m n

pub clearing_first : (m : Live) (old : State) → Clearing m m old old
clearing_first m old = record {
  same = record { base = refl; here = refl; names = refl; callers = refl; statics = refl; blocks = refl; levels = refl; room = refl; beneath = refl; bottom = λ h. h };
  pc = refl;
  fewer = omega arith;
  went = [];
  split = refl;
  gone = gone_none m;
}

module _ (m n : Live) (old mid now : State) (c : Cell) (clearing : Clearing m n old mid) (popped : Popped c mid now) where
  split_more : own old ≡ clearing.went ++ c ∷ own now
  split_more = clearing.split ∙ ap (λ cs. clearing.went ++ cs) popped.cells

  times_more : (q : ℕ) → times q (cells_blocks (own old))
      ≡ times q (cells_blocks clearing.went) + (times q (cell_blocks c) + times q (cells_blocks (own now)))
  times_more q =
      ap (λ cs. times q (cells_blocks cs)) split_more ∙ cells_blocks_append q clearing.went (c ∷ own now)
      ∙ ap (λ k. times q (cells_blocks clearing.went) + k) (times_append q (cell_blocks c) (cells_blocks (own now)))

  pub clearing_free : MayGo m (cells_blocks (own old)) → AreFree n (cell_blocks c)
  clearing_free may =
      let parts : MayGo m (cells_blocks clearing.went ++ (cell_blocks c ++ cells_blocks (own now))) =
      go_as (cells_blocks (own old)) (cells_blocks clearing.went ++ (cell_blocks c ++ cells_blocks (own now))) m
      (λ q. let e = times_more q in let f = times_append q (cells_blocks clearing.went) (cell_blocks c ++ cells_blocks (own now)) in
      let g = times_append q (cell_blocks c) (cells_blocks (own now)) in omega (arith, e, f, g)) may in
      are_free (cell_blocks c) n (go_front (cell_blocks c) (cells_blocks (own now)) n (go_behind (cells_blocks clearing.went) _ m n parts clearing.gone))

  pub clearing_more : (o : Live) → o ≡ without (cell_blocks c) n → Clearing m o old now
  clearing_more o is =
      let a = clearing.same in
      let b = popped.same in
      record {
        same = record {
          base = b.base ∙ a.base;
          here = b.here ∙ a.here;
          names = b.names ∙ a.names;
          callers = b.callers ∙ a.callers;
          statics = b.statics ∙ a.statics;
          blocks = b.blocks ∙ a.blocks;
          levels = b.levels ∙ a.levels;
          room = b.room ∙ a.room;
          beneath = b.beneath ∙ a.beneath;
          bottom = λ h. b.bottom (a.bottom h);
        };
        pc = popped.pc ∙ clearing.pc;
        fewer = let less = popped.fewer in let few = clearing.fewer in omega (arith, less, few);
        went = clearing.went ++ c ∷ [];
        split = split_more ∙ sym (append_assoc clearing.went (c ∷ []) (own now));
        gone = gone_as (cells_blocks clearing.went ++ cell_blocks c) (cells_blocks (clearing.went ++ c ∷ [])) m o
            (λ q. let e = cells_blocks_append q clearing.went (c ∷ []) in let f = cells_blocks_one q c in
            let g = times_append q (cells_blocks clearing.went) (cell_blocks c) in omega (arith, e, f, g))
            (gone_both (cells_blocks clearing.went) (cell_blocks c) m n o clearing.gone
            (subst (λ z. Gone (cell_blocks c) n z) (sym is) (gone_without (cell_blocks c) n)));
      }

pub all_cleared : (m n : Live) (old mid now : State) → Clearing m n old mid → own mid ≡ [] → now ≡ mid → Cleared m n old now
all_cleared m n old mid now clearing none is =
    subst (λ w. Cleared m n old w) (sym is) (record {
      same = clearing.same;
      pc = clearing.pc;
      none = none;
      fewer = clearing.fewer;
      gone = subst (λ cs. Gone (cells_blocks cs) m n) (sym (clearing.split ∙ ap (λ cs. clearing.went ++ cs) none ∙ append-nil clearing.went)) clearing.gone;
    })

-- ---- blocks that are given back from the end

pub record Giving (m n : Live) (old now : List ℕ) (count : ℕ) : Type 0 where
  pub behind : List ℕ
  pub split : old ≡ now ++ behind
  pub gone : Gone behind m n
  pub least : (count ≤ length now) ⊎ (behind ≡ [])

pub giving_first : (m : Live) (old : List ℕ) (count : ℕ) → Giving m m old old count
giving_first m old count = record { behind = []; split = sym (append-nil old); gone = gone_none m; least = inr refl }

module _ (m n : Live) (old mid now : List ℕ) (count b : ℕ) (giving : Giving m n old mid count) (popped : mid ≡ now ++ b ∷ []) (more : count < length mid) where
  split_one : old ≡ now ++ b ∷ giving.behind
  split_one = giving.split ∙ ap (λ xs. xs ++ giving.behind) popped ∙ append_assoc now (b ∷ []) giving.behind

  longer : length mid ≡ length now + 1
  longer = ap length popped ∙ length-append now (b ∷ [])

  drop_is : (q : ℕ) → times q (b ∷ giving.behind) ≤ times q (drop count old)
  drop_is q =
      let few : count ≤ length now = let e = longer in omega (arith, e, more) in
      let e = ap (λ xs. times q (drop count xs)) split_one in
      let f = ap (times q) (drop-append-le count now (b ∷ giving.behind) few) in
      let g = times_append q (drop count now) (b ∷ giving.behind) in
      omega (arith, e, f, g)

  giving_may : MayGo m (drop count old) → MayGo n (b ∷ [])
  giving_may may =
      let parts : MayGo m (giving.behind ++ b ∷ []) = record {
        once = λ q. let one = may.once q in let e = drop_is q in let f = times_append q giving.behind (b ∷ []) in omega (arith, one, e, f);
        live = λ q some. may.live q (let e = drop_is q in let f = times_append q giving.behind (b ∷ []) in omega (arith, some, e, f));
        unpinned = λ q some. may.unpinned q (let e = drop_is q in let f = times_append q giving.behind (b ∷ []) in omega (arith, some, e, f));
      } in
      go_behind giving.behind (b ∷ []) m n parts giving.gone

  pub giving_live : MayGo m (drop count old) → IsLive n b
  giving_live may = (giving_may may).live b (let e = times_same b [] in omega (arith, e))

  pub giving_unpinned : MayGo m (drop count old) → pins_of n b ≡ 0
  giving_unpinned may = (giving_may may).unpinned b (let e = times_same b [] in omega (arith, e))

  pub giving_more : (o : Live) → o ≡ remove n b → Giving m o old now count
  giving_more o is = record {
    behind = b ∷ giving.behind;
    split = split_one;
    gone = gone_as (giving.behind ++ b ∷ []) (b ∷ giving.behind) m o
        (λ q. let f = times_append q giving.behind (b ∷ []) in omega (arith, f))
        (gone_both giving.behind (b ∷ []) m n o giving.gone (subst (λ z. Gone (b ∷ []) n z) (sym is) (gone_one n b)));
    least = inl (let e = longer in omega (arith, e, more));
  }

module _ (m n : Live) (old now : List ℕ) (count : ℕ) (giving : Giving m n old now count) (few : length now ≤ count) where
  drop_past : (k : ℕ) (xs : List ℕ) → length xs ≤ k → drop k xs ≡ []
  drop_past zero [] h = refl
  drop_past zero (x ∷ xs) h = absurd (omega (arith, h))
  drop_past (suc k) [] h = refl
  drop_past (suc k) (x ∷ xs) h = drop_past k xs (omega (arith, h))

  both : (behind : List ℕ) → old ≡ now ++ behind → (count ≤ length now) ⊎ (behind ≡ []) → (take count old ≡ now) × (drop count old ≡ behind)
  both behind split (inl less) = (
    ap (take count) split ∙ take-append-le count now behind less ∙ take_all count now few,
    ap (drop count) split ∙ drop-append-le count now behind less ∙ ap (λ xs. xs ++ behind) (drop_past count now few),
  )
  both behind split (inr none) =
      let all : old ≡ now = split ∙ ap (λ xs. now ++ xs) none ∙ append-nil now in
      (ap (take count) all ∙ take_all count now few, ap (drop count) all ∙ drop_past count now few ∙ sym none)

  pub given_all : (now ≡ take count old) × Gone (drop count old) m n
  given_all =
      let is = both giving.behind giving.split giving.least in
      (sym is.0, subst (λ bs. Gone bs m n) (sym is.1) giving.gone)

-- what holds where a call went well
pub where_ok : {A X : Type 0} (r : Result A X) (P : Type 0) → IsOk r → OnOk r P → P
where_ok (Ok a) P ok h = h
where_ok (Err e) P ok h = absurd (cc)
