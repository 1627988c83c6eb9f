-- What leads from inside of a construct to what is known outside of it.
use Rattle.std.specs.Prelude.{◌≡◌, ℕ, map, take}
use Rattle.f3_sites.specs.Sites.{site_of}
use Rattle.f3_associates.specs.Standing.{standing_of, back, room_of, HaveRoom}
use Rattle.f3_numbers.specs.Table.{object_in, procedure_in, type_in}
use Rattle.f3_inside.specs.declared.inside.Outside.{Outside}
use Rattle.f3_inside.specs.declared.state.State.{State}
use Rattle.f3_inside.specs.Exchanged.{put_all}

-- what leaving from inside makes
pub record IsLeft (o : Outside) (now inner : State) : Type 0 where
  pub site : site_of now.site ≡ back o.saved (site_of inner.site)
  pub room : room_of now.site ≡ room_of inner.site
  pub objects : (e : ℕ) → object_in now.numbers e ≡ put_all o.names.items (object_in inner.numbers) e
  pub procedures : (e : ℕ) → procedure_in now.numbers e ≡ procedure_in inner.numbers e
  pub types : (e : ℕ) → type_in now.numbers e ≡ type_in inner.numbers e
  pub lent : now.lent.items ≡ take o.lent inner.lent.items
  pub texts : now.texts ≡ inner.texts

-- leaving from inside makes what was known before
pub record Leads (o : Outside) (inner outer : State) : Type 0 where
  pub site : back o.saved (site_of inner.site) ≡ site_of outer.site
  pub room : room_of inner.site ≡ room_of outer.site
  pub held : HaveRoom (room_of outer.site) (map standing_of o.saved.standing.items)
  pub objects : (e : ℕ) → put_all o.names.items (object_in inner.numbers) e ≡ object_in outer.numbers e
  pub procedures : (e : ℕ) → procedure_in inner.numbers e ≡ procedure_in outer.numbers e
  pub types : (e : ℕ) → type_in inner.numbers e ≡ type_in outer.numbers e
  pub lent : take o.lent inner.lent.items ≡ outer.lent.items
  pub texts : inner.texts ≡ outer.texts
