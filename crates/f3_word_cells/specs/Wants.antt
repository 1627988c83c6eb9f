-- How many words a line asks a heap for.
use Rattle.std.specs.Prelude.{ℕ, ◌-◌, ◌^◌, min, List, ◌∷◌, Option, None, Some, slice_get, take}
use Rattle.f3_program.specs.declared.declarations.Base.TheVariants as base
use Rattle.f3_program.specs.declared.program.Program.{Program}
use Rattle.f3_meaning_whole.specs.Store.{Store}
use Rattle.f3_meaning_whole.specs.Reference.{held_at}
use Rattle.f3_code.specs.declared.instruction.Instruction.{Instruction}
use Rattle.f3_code.specs.declared.instruction.Instruction.TheVariants as i
use Rattle.f3_code.specs.Account.{words, level_words}
use Rattle.f3_code.specs.Exec.{result_at}
use Rattle.f3_code.specs.State as s
use Rattle.f3_code.specs.Wants.{given_words}
use Rattle.f3_rooms.specs.Forms.{words_for}
use Rattle.f3_word_cells.specs.Areas.{shape_for}
use Rattle.f3_word_cells.specs.Scenes.{code_of}

-- the words of what the object on top holds
abbrev pub read_words : Store → List s.Cell → ℕ
read_words store (s.Object r ∷ cs) = words (held_at store r.path r.reach)
read_words store cs = 0

-- those of the variables of a procedure (ISO/IEC 1539-1:2004, 12.4)
abbrev pub entry_words : Option s.Entry → ℕ
entry_words None = 0
entry_words (Some e) = level_words e.initial

-- The words of the one block that an instruction may ask for: of a value that is read, built, or given back by a function, or of the
-- variables of a procedure that is called. Any other instruction asks for none.
abbrev pub wanted : Program → Instruction → s.State → ℕ
wanted p i.Load t = read_words (t.world).store t.stack
wanted p (i.Array k) t = given_words (take k t.stack)
wanted p (i.Structure of k) t = words_for (shape_for p (base.Derived of))
wanted p (i.ResultOf x) t = words (result_at x (t.here).level (t.world).store)
wanted p (i.Call f k) t = entry_words (slice_get (code_of p).procedures f)
wanted p x t = 0

-- no heap is asked for 2 ^ 64 words or more, and none has room for 2 ^ 63
abbrev pub asked : ℕ → ℕ
asked n = min n (2 ^ 64 - 1)
