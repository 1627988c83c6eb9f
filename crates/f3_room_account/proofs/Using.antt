-- The words in use are those of the blocks that are there.
use Rattle.std.proofs.Common.{suc, ◌≡◌, ◌≢◌, ℕ, zero, inl, inr, ◌+◌, ◌<◌, ◌≤◌, cond, Bool, true, false, List, [], ◌∷◌, ◌++◌, length, map, refl, ap, sym, subst, ◌∙◌, arith, is_some, IsTrue}
use Rattle.std.specs.Prelude.{Option, None, Some, nat_eq, if◌then◌else◌}
use Rattle.std.specs.declared.cmp.Ordering.TheVariants.{Less, Equal, Greater}
use Rattle.std.specs.List.{sum_by}
use Rattle.std.specs.Ordering.{nat_cmp}
use Rattle.std.specs.Cmp.{nat_cmp_total}
use Rattle.std.specs.FinMap.{get, insert, remove, empty, entries, put, len, len-entries, len-empty, entries-insert, len-insert, get-empty, same_map}
use Rattle.std.specs.FinMap.{nat_cmp-IsAntisymmetric}
use Rattle.std.specs.FinMap.Entries.{by_order}
use Rattle.std.proofs.lemmas.Bool.{cases_eq}
use Rattle.std.proofs.lemmas.Bool.Decides.{nat_tests}
use Rattle.std.proofs.lemmas.List.Sums.{sum_by-cons}
use Rattle.f3_live_blocks.specs.Blocks.{Block, Live, IsLive, words_in, words_of}
use Rattle.f3_heap_laws.specs.Account.{r, used_by}
use Rattle.f3_live_blocks.proofs.Laws.{get-insert_same, get-insert_other, get-remove_same, get-remove_other}
use Rattle.f3_rooms.specs.Held.{times}
use Rattle.f3_rooms.specs.Laws.{without}
use Rattle.f3_rooms.proofs.Framing.{one_here}
use Rattle.f3_rooms.proofs.Within.{one_more}

abbrev size_of : Block → ℕ
size_of b = r (length b.words)

-- an entry more
entry_more : (k : ℕ) (v : Block) (es : List (ℕ × Block)) → length (put nat_cmp k v es) ≡ suc (length es)
    → sum_by size_of (map (λ e. e.1) (put nat_cmp k v es)) ≡ size_of v + sum_by size_of (map (λ e. e.1) es)
entry_more k v [] n = sum_by-cons size_of v []
entry_more k v (e ∷ es) n =
    elim (nat_cmp k e.0) as (λ o. length (by_order o ((k, v) ∷ e ∷ es) ((e.0, v) ∷ es) (e ∷ put nat_cmp k v es)) ≡ suc (suc (length es))
    → sum_by size_of (map (λ e. e.1) (by_order o ((k, v) ∷ e ∷ es) ((e.0, v) ∷ es) (e ∷ put nat_cmp k v es))) ≡ size_of v + sum_by size_of (e.1 ∷ map
    (λ e. e.1) es)) [
      | Less ↦ λ n. sum_by-cons size_of v (e.1 ∷ map (λ e. e.1) es)
      | Equal ↦ λ n. absurd (omega arith)
      | Greater ↦ λ n.
          let i = entry_more k v es (omega arith) in
          let a = sum_by-cons size_of e.1 (map (λ e. e.1) (put nat_cmp k v es)) in
          let b = sum_by-cons size_of e.1 (map (λ e. e.1) es) in
          omega arith
    ] n

used-insert : (m : Live) (b : ℕ) (k : Block) → get m b ≡ None → used_by (insert m b k) ≡ r (length k.words) + used_by m
used-insert m b k none =
    let size : length (put nat_cmp b k (entries m)) ≡ suc (length (entries m)) =
    sym (ap length (entries-insert nat_cmp_total m b k)) ∙ (sym (len-entries (insert m b k)) ∙ (len-insert nat_cmp_total m b k
    ∙ (ap (λ t. cond (is_some t) (len m) (len m + 1)) none ∙ (let e = len-entries m in let g : len m + 1 ≡ suc (length (entries m)) = omega arith in
    g)))) in
    ap (λ es. sum_by size_of (map (λ e. e.1) es)) (entries-insert nat_cmp_total m b k) ∙ entry_more b k (entries m) size

some_block : (o : Option Block) → IsTrue (is_some o) → (k : Block) × (o ≡ Some k)
some_block None t = absurd (no_some None refl t)
  where
    no_some : (o : Option Block) → o ≡ None → IsTrue (is_some o) → ⊥
    no_some o e h = cc
some_block (Some k) t = (k, refl)

used-remove : (m : Live) (b : ℕ) → IsLive m b → used_by m ≡ r (length (words_of m b)) + used_by (remove m b)
used-remove m b live =
    let k = some_block (get m b) live in
    let whole : m ≡ insert (remove m b) b k.0 = same_map nat_cmp_total nat_cmp-IsAntisymmetric m (insert (remove m b) b k.0) (λ q. elim (cases_eq q b) [
      | inl e ↦ let P : ℕ → Type 0 = λ x. get m x ≡ get (insert (remove m b) b k.0) x in subst P (sym e) (k.1 ∙ sym (get-insert_same (remove m b) b k.0))
      | inr n ↦ sym (get-insert_other (remove m b) b k.0 q n ∙ get-remove_other m b q n)
    ]) in
    let same : words_of m b ≡ k.0.words = ap words_in k.1 in
    ap used_by whole ∙ (used-insert (remove m b) b k.0 (get-remove_same m b) ∙ ap (λ l. r (length l) + used_by (remove m b)) (sym same))

-- what is dead stays dead
dead_stays : (m : Live) (bs : List ℕ) (q : ℕ) → get m q ≡ None → get (without bs m) q ≡ None
dead_stays m [] q e = e
dead_stays m (b ∷ bs) q e = dead_stays (remove m b) bs q (elim (cases_eq q b) [
  | inl is ↦ let P : ℕ → Type 0 = λ x. get (remove m b) x ≡ None in subst P (sym is) (get-remove_same m b)
  | inr ne ↦ get-remove_other m b q ne ∙ e
])

pub own_dead : (m : Live) (bs : List ℕ) (q : ℕ) → 0 < times q bs → get (without bs m) q ≡ None
own_dead m [] q some = absurd (omega arith)
own_dead m (b ∷ bs) q some = elim (cases_eq q b) [
  | inl is ↦ dead_stays (remove m b) bs q (let P : ℕ → Type 0 = λ x. get (remove m b) x ≡ None in subst P (sym is) (get-remove_same m b))
  | inr ne ↦ own_dead (remove m b) bs q (by ne (nat_eq q b) refl some)
]
  where
    by : q ≢ b → (t : Bool) → nat_eq q b ≡ t → 0 < (if t then 1 else 0) + times q bs → 0 < times q bs
    by ne true e some = absurd (ne (grind (arith, nat_tests)))
    by ne false e some = omega arith

pub others_live : (m : Live) (bs : List ℕ) (q : ℕ) → times q bs ≡ 0 → get (without bs m) q ≡ get m q
others_live m [] q z = refl
others_live m (b ∷ bs) q z =
    let ne : q ≢ b = λ e. let o = one_more q b bs e in omega arith in
    others_live (remove m b) bs q (omega arith) ∙ get-remove_other m b q ne

-- the words that blocks take
abbrev pub taken : Live → List ℕ → ℕ
taken m [] = 0
taken m (b ∷ bs) = r (length (words_of m b)) + taken m bs

pub taken_append : (m : Live) (bs cs : List ℕ) → taken m (bs ++ cs) ≡ taken m bs + taken m cs
taken_append m [] cs = omega arith
taken_append m (b ∷ bs) cs = let e = taken_append m bs cs in omega arith

taken_others : (m n : Live) (bs : List ℕ) → ((q : ℕ) → 0 < times q bs → get n q ≡ get m q) → taken n bs ≡ taken m bs
taken_others m n [] same = refl
taken_others m n (b ∷ bs) same =
    let e : r (length (words_of n b)) ≡ r (length (words_of m b)) = ap (λ k. r (length (words_in k))) (same b (one_here b bs)) in
    let i = taken_others m n bs (λ q some. same q (omega arith)) in
    omega arith

used_more : (m : Live) (bs : List ℕ) → ((q : ℕ) → 0 < times q bs → IsLive m q) → ((q : ℕ) → times q bs ≤ 1) → used_by m ≡ taken m bs + used_by (without bs m)
used_more m [] live once = omega arith
used_more m (b ∷ bs) live once =
    let first = used-remove m b (live b (one_here b bs)) in
    let ne : (q : ℕ) → 0 < times q bs → q ≢ b = λ q some e. let o = one_more q b bs e in let k = once q in absurd (omega arith) in
    let same : (q : ℕ) → 0 < times q bs → get (remove m b) q ≡ get m q = λ q some. get-remove_other m b q (ne q some) in
    let rest = used_more (remove m b) bs (λ q some. ap is_some (same q some) ∙ live q (omega arith)) (λ q. let k = once q in omega arith) in
    let e = taken_others m (remove m b) bs same in
    omega arith

none_used : (m : Live) → ((q : ℕ) → get m q ≡ None) → used_by m ≡ 0
none_used m none =
    let is : m ≡ empty = same_map nat_cmp_total nat_cmp-IsAntisymmetric m empty (λ q. none q ∙ sym (get-empty nat_cmp q)) in
    let e : length (entries m) ≡ 0 = sym (len-entries m) ∙ (ap (λ (m : Live). len m) is ∙ len-empty nat_cmp Block) in
    by_entries (entries m) e
  where
    by_entries : (es : List (ℕ × Block)) → length es ≡ 0 → sum_by size_of (map (λ e. e.1) es) ≡ 0
    by_entries [] e = refl
    by_entries (x ∷ es) e = absurd (omega arith)

-- The words in use are those of the blocks, where these are all, and each is there once.
pub used_is_taken : (m : Live) (bs : List ℕ) → ((q : ℕ) → 0 < times q bs → IsLive m q) → ((q : ℕ) → times q bs ≤ 1) → ((q : ℕ) → IsLive m q → 0 < times q bs)
    → used_by m ≡ taken m bs
used_is_taken m bs live once all =
    let e = used_more m bs live once in
    let z = none_used (without bs m) (λ q. by q (times q bs) refl) in
    omega arith
  where
    dead : (o : Option Block) → (IsTrue (is_some o) → ⊥) → o ≡ None
    dead None f = refl
    dead (Some k) f = absurd (f refl)

    by : (q k : ℕ) → times q bs ≡ k → get (without bs m) q ≡ None
    by q zero e = others_live m bs q e ∙ dead (get m q) (λ live. let k = all q live in omega arith)
    by q (suc k) e = own_dead m bs q (omega arith)
