-- What goes from the stack by itself is no part of a construct, and constructs begin amid others.
use Rattle.std.specs.Prelude.{⊤, ◌≡◌, ℕ, zero, suc, List, [], ◌∷◌, map, Some, slice_get}
use Rattle.f3_code.specs.declared.instruction.Instruction.{Instruction}
use Rattle.f3_code.specs.declared.instruction.Instruction.TheVariants as i
use Rattle.f3_code.specs.State.{Line, Code}
use Rattle.f3_cell_kinds.specs.Types.{Site, sort_of_type}
use Rattle.f3_sorts.specs.Effect.{Sort}
use Rattle.f3_sorts.specs.Effect as sort

-- a cell in which no SELECT CASE or ASSOCIATE keeps what was around it
abbrev pub IsPlain : Sort → Type 0
IsPlain sort.Outside = ⊥
IsPlain sort.Level = ⊥
IsPlain x = ⊤

-- so many on top
abbrev pub ArePlain : ℕ → List Sort → Type 0
ArePlain zero h = ⊤
ArePlain (suc n) [] = ⊤
ArePlain (suc n) (x ∷ h) = IsPlain x × ArePlain n h

-- The construct around, where there is one, is no ASSOCIATE that was left: what was around it stands above its level.
abbrev pub IsAmid : List Sort → Type 0
IsAmid [] = ⊤
IsAmid (sort.Outside ∷ h) = ⊤
IsAmid (sort.Level ∷ h) = ⊥
IsAmid (x ∷ h) = IsAmid h

-- An instruction above cells of such sorts: those that Drop and Unwind take, and that Swap moves, are plain; and a SELECT CASE or ASSOCIATE
-- begins amid what is around it (ISO/IEC 1539-1:2004, 8.1).
abbrev pub IsClean : Instruction → List Sort → Type 0
IsClean i.Drop h = ArePlain 1 h
IsClean i.Swap h = ArePlain 2 h
IsClean (i.Unwind n) h = ArePlain n h
IsClean i.Selecting h = IsAmid h
IsClean (i.Associate n) h = IsAmid h
IsClean x h = ⊤

-- So at each line of a code, at which cells of such kinds stand.
abbrev pub AreClean : (sites : ℕ → Site) → Code → Type 0
AreClean sites code = (pc : ℕ) (l : Line) → slice_get code.lines pc ≡ Some l → IsClean l.act (map sort_of_type (sites pc).cells)
