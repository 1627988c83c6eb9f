-- Instructions that know only the cells.
use Rattle.std.specs.Prelude.{⊤, ◌≡◌, ℕ, Bool, true, false, length, Result}
use Rattle.f3_places.specs.declared.source.Place.{Place}
use Rattle.f3_program.specs.declared.program.Program.{Program}
use Rattle.f3_live_blocks.specs.Blocks.{Live}
use Rattle.f3_code.specs.declared.instruction.Instruction.{Instruction}
use Rattle.f3_code.specs.declared.instruction.Instruction.TheVariants as i
use Rattle.f3_word_cells.specs.declared.state.State.{State}
use Rattle.f3_word_cells.specs.declared.state.Stop.{Stop}
use Rattle.f3_word_cells.specs.Scenes.{code_of}
use Rattle.f3_word_cells.specs.Does.{DoesAt}

-- those that look at no block, at no variable and at no output, and begin no activation and no ASSOCIATE
abbrev pub is_cells_act : Instruction → Bool
is_cells_act (i.Push a0) = true
is_cells_act i.Plain = true
is_cells_act (i.Unary a0 a1) = true
is_cells_act (i.Binary a0 a1) = true
is_cells_act i.BoundsOfVariable = true
is_cells_act i.Size = true
is_cells_act (i.Bound a0) = true
is_cells_act (i.PassValue a0) = true
is_cells_act (i.PassVariable a0) = true
is_cells_act i.Result = true
is_cells_act i.Clear = true
is_cells_act i.Subscript = true
is_cells_act i.Limit = true
is_cells_act i.NoLimit = true
is_cells_act i.Triplet = true
is_cells_act i.TestShape = true
is_cells_act i.Begin = true
is_cells_act i.Swap = true
is_cells_act (i.Stop a0) = true
is_cells_act i.SetPlace = true
is_cells_act (i.GoOn a0) = true
is_cells_act (i.GoBack a0) = true
is_cells_act (i.SkipIfFalse a0) = true
is_cells_act (i.SkipIfTrue a0) = true
is_cells_act (i.Meets a0) = true
is_cells_act (i.Leave a0 a1) = true
is_cells_act (i.Depart a0 a1) = true
is_cells_act i.SelectVariable = true
is_cells_act (i.SelectValue a0) = true
is_cells_act i.Associated = true
is_cells_act (i.NextObject a0) = true
is_cells_act (i.Convert a0) = true
is_cells_act i.TestStep = true
is_cells_act (i.CountNext a0) = true
is_cells_act i.Lend = true
is_cells_act i.Unlend = true
is_cells_act i.Discard = true
is_cells_act i.Dummies = true
is_cells_act i.Outward = true
is_cells_act (i.NextArgument a0 a1) = true
is_cells_act i.Finish = true
is_cells_act x = false

-- an instruction at a place, in whatever program whose code has so many lines, over whatever blocks
abbrev pub DoesCells : Place → ℕ → Instruction → Result ⊤ Stop → State → State → Type 0
DoesCells place total x result old new = (p : Program) (live : Live) → length (code_of p).lines ≡ total → DoesAt p place x result live live old new
