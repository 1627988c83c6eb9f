-- A `&` to the memory lends the words, and neither the room after them nor anything of the size. Assumes `Logic`.
use Rattle.std.proofs.Common.{length, ◌-◌, ◌*◌, w64}
use base.Fraction.{full_share}
use denote.Array.{Array, Array-row_laws}
use denote.Builtin.{i64}
use denote.Copied.{sint_Copied}
use denote.Param.Shared.{copy_shared}
use denote.RawPtr.{lies_at, room_for, ◌+ₚ◌}
use denote.Shares.{Shares-Array}
use denote.Signed.{sint_row_laws}
use denote.Struct.Field.{RawPtr-field}
use denote.Struct.Laws.{RawPtr-copy}
use denote.Struct.Lending.{lent_at, lent_at_shr_laws, Lends-lies, Lends-first, of_Lends}
use Rattle.f3_raw.specs.Ownership.{words_type}
use Rattle.f3_raw.specs.contracts.memory.Memory as C
use Rattle.f3_raw.proofs.memory.Memory.TheLaw.Statement.{statement}

pub shares : statement
shares =
    of_Lends C.struct C.the_codes C.the_heap C.the_lent
    (λ d p. lent_at_shr_laws (Array i64 (length d.content)) (Array-row_laws i64 (sint_row_laws w64) (length d.content)) d.start d.content)
    (copy_shared RawPtr-field RawPtr-copy, tt)
    (λ M 𝓤 𝓛 d p.
    let l = (C.the_row).lives in let n = length d.content in
    Lends-first 𝓛 (lies_at (Array i64 n) full_share d.start d.content) (room_for (words_type (d.size - n)) (d.start +ₚ n * 8)) (lent_at (Array i64 n) d.start d.content) l
    (Lends-lies 𝓛 (Array i64 n) l d.start d.content (Shares-Array 𝓛 i64 tt n l ((sint_Copied 𝓛 w64).shares full_share l) d.content)))
