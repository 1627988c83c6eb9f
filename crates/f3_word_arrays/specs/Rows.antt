-- Elements one behind another in a block.
use Rattle.std.specs.Prelude.{◌≡◌, ℕ, pos, [], ◌∷◌}
use Rattle.f3_program.specs.declared.declarations.Base.{Base}
use Rattle.f3_desc.specs.declared.descriptor.Dim.{Dim}
use Rattle.f3_word_cells.specs.declared.cell.Area.{Area}

-- so many subscripts from 1 on, of elements that have so many words
abbrev pub row_dim : ℕ → ℕ → Dim
row_dim count size = record { lower = pos 1; extent = count; stride = pos size }

-- so many elements of a type, each of so many words, from the first word of a block on
pub record IsRow (a : Area) (from count size : ℕ) (type : Base) : Type 0 where
  pub block : (a.elements).block ≡ from
  pub offset : (a.elements).offset ≡ 0
  pub dims : (a.elements).dims.items ≡ row_dim count size ∷ []
  pub of : a.of ≡ type
