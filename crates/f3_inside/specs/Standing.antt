-- What is known along statements, without where it lies in memory.
use Rattle.std.specs.Prelude.{◌≡◌, ℕ, length, map}
use Rattle.f3_sites.specs.Sites.{site_of}
use Rattle.f3_associates.specs.Standing.{room_of}
use Rattle.f3_numbers.specs.Table.{object_at, object_in, procedure_at, procedure_in, type_at, type_in}
use Rattle.f3_elaboration.specs.Context.{Surroundings}
use Rattle.f3_inside.specs.declared.state.State.{State}

abbrev pub state_of : State → Surroundings
state_of s = record {
  context = (site_of s.site).context;
  object = object_at s.numbers;
  procedure = procedure_at s.numbers;
  type = type_at s.numbers;
  lent = length s.lent.items;
  texts = map (λ t. t.items) s.texts.now;
}

-- One says all that the other says.
pub record IsSame (now before : State) : Type 0 where
  pub site : site_of now.site ≡ site_of before.site
  pub room : room_of now.site ≡ room_of before.site
  pub objects : (e : ℕ) → object_in now.numbers e ≡ object_in before.numbers e
  pub procedures : (e : ℕ) → procedure_in now.numbers e ≡ procedure_in before.numbers e
  pub types : (e : ℕ) → type_in now.numbers e ≡ type_in before.numbers e
  pub lent : now.lent.items ≡ before.lent.items
  pub texts : now.texts ≡ before.texts
