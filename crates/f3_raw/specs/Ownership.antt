-- What a region's memory owns and lends: the words below the frontier, and room for those above it.
use Rattle.std.specs.Prelude.{ℕ, ◌-◌, ◌*◌, ℤ, List, length}
use Rattle.std.specs.Borrow.{full_share, Fml, fsep, Array, i64, lent_at}
use mir.Syntax.{Ty, w64, ty_int, ty_array}
use base.Fml.{Lft}
use denote.RawPtr.{Ptr, lies_at, room_for, ◌+ₚ◌}

-- n words, as they lie in memory
abbrev pub words_type : ℕ → Ty
words_type n = ty_array (ty_int w64) n

-- the words ws lie at p, and after them is room up to the size, of which nothing is known
abbrev pub memory_owns : Ptr → ℕ → List ℤ → Fml
memory_owns p size ws = fsep (lies_at (Array i64 (length ws)) full_share p ws) (room_for (words_type (size - length ws)) (p +ₚ length ws * 8))

-- through a `&`: the words
abbrev pub memory_shares : Ptr → List ℤ → Lft → Fml
memory_shares p ws = lent_at (Array i64 (length ws)) p ws
