-- What the memory ends as, where a run of its words is lent.
use Rattle.std.specs.Prelude.{ℕ, ◌≤◌, ℤ, List, take}
use Rattle.std.specs.Borrow.{Lends, Fml, MutBor, Array, i64}
use Rattle.std.proofs.Common.{subst, sym}
use Rattle.f3_raw.specs.Words.{overwritten, length-overwritten}
use Rattle.f3_raw.specs.declared.memory.Memory.{Memory}
use Rattle.f3_raw.specs.contracts.memory.Memory.{the_row}

-- m with the run written over its words from the place `at` on
abbrev pub memory_with : Memory → ℕ → List ℤ → Memory
memory_with m at run = record {
  start = m.start;
  size = m.size;
  content = overwritten m.content at run;
  fits = subst (λ (k : ℕ). k ≤ m.size) (sym (length-overwritten m.content at run)) m.fits;
  small = m.small;
}

-- once the borrow ends, the n words from the place `at` on are those that were left behind it
abbrev pub lends_words : MutBor Memory → ℕ → ℕ → MutBor (List ℤ) → Fml
lends_words m at n run = Lends the_row (Array i64 0) m run (λ ws. memory_with m.now at (take n ws))
