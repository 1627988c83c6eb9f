-- What is picked of objects in words.
use Rattle.std.specs.Prelude.{◌≡◌, List, length, Result, Ok, Err}
use Rattle.f3_meaning_whole.specs.Act.{Chosen}
use Rattle.f3_meaning_whole.specs.declared.run_error.RunError.TheVariants.{StepIsZero, SubscriptOutOfBounds}
use Rattle.f3_desc.specs.declared.descriptor.Descriptor.{Descriptor}
use Rattle.f3_desc.specs.declared.descriptor.SectionFault.TheVariants as fault
use Rattle.f3_word_areas.specs.Sections.{Selected}
use Rattle.f3_word_cells.specs.declared.cell.Area.{Area}
use Rattle.f3_word_cells.specs.declared.cell.Object.{Object}
use Rattle.f3_word_cells.specs.declared.cell.Object.TheVariants as o
use Rattle.f3_word_cells.specs.declared.state.Stop.{Stop}
use Rattle.f3_word_cells.specs.declared.state.Stop.TheVariants as stop

-- the same type in other words
abbrev pub with_elements : Area → Descriptor → Area
with_elements a d = record { elements = d; of = a.of }

-- of an array, with one subscript or triplet for each dimension
abbrev pub PicksOf : Area → List Chosen → Result Object Stop → Type 0
PicksOf a cs (Ok z) = (d : Descriptor) × (z ≡ o.Stands (with_elements a d)) × Selected a.elements cs (Ok d)
PicksOf a cs (Err (stop.Failed StepIsZero)) = Selected a.elements cs (Err fault.StepZero)
PicksOf a cs (Err (stop.Failed SubscriptOutOfBounds)) = Selected a.elements cs (Err fault.Bounds)
PicksOf a cs (Err e) = length cs ≡ length (a.elements).dims.items → ⊥

abbrev pub Picks : Object → List Chosen → Result Object Stop → Type 0
Picks (o.Held of v) cs result = result ≡ Err stop.Lost
Picks (o.Stands a) cs result = PicksOf a cs result
