-- What a machine asks of a program and of a heap before a run: arrays of at most seven dimensions (ISO/IEC 1539-1:2004, 5.1.2.5), and blocks
-- of fewer than 2 ^ 63 words.
use Rattle.std.specs.Prelude.{◌≤◌, ◌<◌, ◌^◌, ◌≡◌, ℕ, List, Some, length, slice_get}
use Rattle.f3_program.specs.declared.declarations.Base.{Base}
use Rattle.f3_program.specs.declared.declarations.Component.{Component}
use Rattle.f3_program.specs.declared.declarations.Declared.{Declared}
use Rattle.f3_program.specs.declared.declarations.Derived.{Derived}
use Rattle.f3_program.specs.declared.program.Procedure.{Procedure}
use Rattle.f3_program.specs.declared.program.Program.{Program}
use Rattle.f3_live_blocks.specs.Blocks.{Live, words_of}
use Rattle.f3_meaning_whole.specs.Act.{component_of}
use Rattle.f3_meaning_whole.specs.Exec.{declared_in}
use Rattle.f3_word_cells.specs.States.{statics_of}

abbrev pub HasRank : Declared → Type 0
HasRank d = length d.dimensions.items ≤ 7

abbrev pub HaveRanks : List Declared → Type 0
HaveRanks ds = (i : ℕ) (d : Declared) → slice_get ds i ≡ Some d → HasRank d

abbrev pub ComponentsHaveRanks : List Derived → Type 0
ComponentsHaveRanks types = (of : Base) (k : ℕ) (c : Component) → component_of types of k ≡ Some c → HasRank c.declared

-- no variable and no component has more than seven dimensions
pub record AreRanked (p : Program) : Type 0 where
  pub statics : HaveRanks (statics_of p)
  pub main : HaveRanks (declared_in p.main)
  pub procedures : (f : ℕ) (q : Procedure) → slice_get p.procedures.items f ≡ Some q → HaveRanks (declared_in q)
  pub types : ComponentsHaveRanks p.types.items

-- no block has 2 ^ 63 words or more
abbrev pub AreShort : Live → Type 0
AreShort m = (q : ℕ) → length (words_of m q) < 2 ^ 63
