-- Laws on the account of a heap in which only the words of one block changed.
use Rattle.std.proofs.Common.{suc, ◌≡◌, ℕ, ℤ, ◌+◌, inl, inr, cond, List, [], ◌∷◌, length, map, ap, sym, subst, ◌∙◌, arith}
use Rattle.std.specs.Prelude.{Option, Some}
use Rattle.std.specs.declared.cmp.Ordering.TheVariants.{Less, Equal, Greater}
use Rattle.std.specs.List.{sum_by}
use Rattle.std.specs.Ordering.{nat_cmp, is_eq}
use Rattle.std.specs.Cmp.{nat_cmp_total}
use Rattle.std.specs.FinMap.{get, insert, entries, put, find, len, get-entries, len-entries, entries-insert, len-insert, same_map, nat_cmp-IsAntisymmetric}
use Rattle.std.specs.FinMap.Entries.{by_order}
use Rattle.std.proofs.lemmas.Bool.{cases_eq}
use Rattle.std.proofs.lemmas.List.Sums.{sum_by-cons}
use Rattle.f3_live_blocks.specs.Blocks.{Block, Live, IsLive, words_of, pins_of, with_words}
use Rattle.f3_heap_laws.specs.Account.{r, used_by}
use Rattle.f3_live_blocks.proofs.Laws.{get-insert_same, get-insert_other}
use Rattle.f3_objects.specs.Tree.{Tree, words, IsBare}
use Rattle.f3_objects.specs.Holds.{Replaces, with_words_at}
use Rattle.f3_objects.proofs.Writes.{with_words_same}

-- where nothing was allocated and nothing is, only the words at the place changed
pub only_words : (old new : Live) (block at : ℕ) (t u : Tree) → Replaces old new block at t u → IsBare t → IsBare u → new ≡ with_words old block (with_words_at (words_of old block) at (words u))
only_words old new block at t u c bare rest = same_map nat_cmp_total nat_cmp-IsAntisymmetric new (with_words old block (with_words_at (words_of old block) at (words u))) (λ q. elim (cases_eq q block) [
  | inl e ↦
      let P : ℕ → Type 0 = λ x. get new x ≡ get (with_words old block (with_words_at (words_of old block) at (words u))) x in
      let own : get new block ≡ Some (record { words = words_of new block; pins = pins_of new block }) = ap (λ (m : Live). get m block) (sym (with_words_same new block c.live)) ∙ get-insert_same new block _ in
      let f : List ℤ → Option Block = λ l. Some (record { words = l; pins = pins_of new block }) in
      let g : ℕ → Option Block = λ n. Some (record { words = with_words_at (words_of old block) at (words u); pins = n }) in
      subst P (sym e) (own ∙ (ap f c.written ∙ (ap g c.pinned ∙ sym (get-insert_same old block _))))
  | inr n ↦ c.others q n (rest q) (bare q) ∙ sym (get-insert_other old block _ q n)
])

abbrev size_of : Block → ℕ
size_of b = r (length b.words)

-- a block in place of one of its length
same_sum : (k : ℕ) (v b : Block) → length v.words ≡ length b.words → (es : List (ℕ × Block)) → length (put nat_cmp k v es) ≡ length es → find nat_cmp k es ≡ Some b → sum_by size_of (map (λ e. e.1) (put nat_cmp k v es)) ≡ sum_by size_of (map (λ e. e.1) es)
same_sum k v b l [] n f = cc
same_sum k v b l (e ∷ es) n f =
    elim (nat_cmp k e.0) as (λ o. length (by_order o ((k, v) ∷ e ∷ es) ((e.0, v) ∷ es) (e ∷ put nat_cmp k v es)) ≡ suc (length es) → cond (is_eq o) (Some e.1) (find nat_cmp k es) ≡ Some b → sum_by size_of (map (λ e. e.1) (by_order o ((k, v) ∷ e ∷ es) ((e.0, v) ∷ es) (e ∷ put nat_cmp k v es))) ≡ sum_by size_of (e.1 ∷ map (λ e. e.1) es)) [
      | Less ↦ λ n f. absurd (omega arith)
      | Equal ↦ λ n f.
          let is : e.1 ≡ b = same_some e.1 b f in
          let same : size_of v ≡ size_of e.1 = ap r l ∙ ap size_of (sym is) in
          sum_by-cons size_of v (map (λ e. e.1) es) ∙ (ap (λ (n : ℕ). n + sum_by size_of (map (λ e. e.1) es)) same ∙ sym (sum_by-cons size_of e.1 (map (λ e. e.1) es)))
      | Greater ↦ λ n f.
          sum_by-cons size_of e.1 (map (λ e. e.1) (put nat_cmp k v es)) ∙ (ap (λ (n : ℕ). size_of e.1 + n) (same_sum k v b l es (omega arith) f) ∙ sym (sum_by-cons size_of e.1 (map (λ e. e.1) es)))
    ] n f
  where
    same_some : (x y : Block) → Some x ≡ Some y → x ≡ y
    same_some x y e = cc

pub used-with_words : (m : Live) (b : ℕ) (ws : List ℤ) → IsLive m b → length ws ≡ length (words_of m b) → used_by (with_words m b ws) ≡ used_by m
used-with_words m b ws live l =
    let v : Block = record { words = ws; pins = pins_of m b } in
    let old : Block = record { words = words_of m b; pins = pins_of m b } in
    let found : find nat_cmp b (entries m) ≡ Some old = sym (get-entries m b) ∙ (ap (λ (m : Live). get m b) (sym (with_words_same m b live)) ∙ get-insert_same m b old) in
    let size : length (put nat_cmp b v (entries m)) ≡ length (entries m) =
    sym (ap length (entries-insert nat_cmp_total m b v)) ∙ (sym (len-entries (insert m b v)) ∙ (len-insert nat_cmp_total m b v ∙ (ap (λ t. cond t (len m) (len m + 1)) live ∙ len-entries m))) in
    ap (λ es. sum_by size_of (map (λ e. e.1) es)) (entries-insert nat_cmp_total m b v) ∙ same_sum b v old l (entries m) size found
