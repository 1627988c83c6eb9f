-- A region as its callers see it: the words below its frontier, and its size in words. The frontier is the number of those words.
use Rattle.std.specs.Prelude.{ℕ, ℤ, List, take}
use Rattle.std.specs.Borrow.{Lends, Fml, MutBor, Array, i64}
use Rattle.std.proofs.Common.{◌∙◌, sym}
use Rattle.f3_raw.specs.Words.{length-overwritten}
use Rattle.f3_raw.specs.Memory.{memory_with}
use Rattle.f3_raw.specs.declared.region.Region.{Region}
use Rattle.f3_raw.specs.contracts.region.Region.{the_row}

-- the words below the frontier
abbrev pub region_words : Region → List ℤ
region_words r = r.memory.content

-- the size in words
abbrev pub region_size : Region → ℕ
region_size r = r.memory.size

-- r with the run written over its words from the place `at` on
abbrev pub region_with : Region → ℕ → List ℤ → Region
region_with r at run = record {
  memory = memory_with r.memory at run;
  frontier = r.frontier;
  size = r.size;
  lease = r.lease;
  alloc = r.alloc;
  ok = (r.ok.0 ∙ sym (length-overwritten r.memory.content at run), r.ok.1);
  leased = r.leased;
}

-- once the borrow ends, the n words from the place `at` on are those that were left behind it
abbrev pub lends_run : MutBor Region → ℕ → ℕ → MutBor (List ℤ) → Fml
lends_run r at n run = Lends the_row (Array i64 0) r run (λ ws. region_with r.now at (take n ws))
