-- Scalars are put.
use Rattle.std.proofs.Common.{◌≡◌, ℤ, List, sym, ap, subst, ◌∙◌}
use Rattle.std.specs.Prelude.{Some}
use Rattle.f3_live_blocks.specs.Blocks.{Live}
use Rattle.f3_meaning_whole.specs.Shape.{Shape}
use Rattle.f3_meaning_whole.specs.Store.{Root, Step}
use Rattle.f3_rooms.specs.Rooms.{Rooms}
use Rattle.f3_rooms.specs.Places.{Found, found, scalar_in, with_word}
use Rattle.f3_rooms.specs.Sound.{IsSound}
use Rattle.f3_rooms.specs.Laws.{Becomes}
use Rattle.f3_rooms.proofs.Scalars.{scalars_are_put}
use Rattle.f3_room_places.specs.declared.place.Place.{Place}
use Rattle.f3_room_places.specs.Scalars.{IsScalarPlace}

pub scalar_put : (ts : List Shape) (m n : Live) (x : Rooms) → IsSound ts m x → (r : Root) (way : List Step) (f : Found) → found ts x r way ≡ Some f
    → (p : Place) → IsScalarPlace m p f → (z : ℤ) → n ≡ with_word m p.block p.at z → Becomes ts m n x x r way (scalar_in f.shape z)
scalar_put ts m n x sound r way f at p is z written =
    let put = scalars_are_put ts m x sound r way f at is.scalar z in
    let there : with_word m f.block f.at z ≡ n
    = ap (λ b. with_word m b f.at z) (is.place).block ∙ ap (λ o. with_word m p.block o z) (is.place).at ∙ sym written in
    subst (λ (k : Live). Becomes ts m k x x r way (scalar_in f.shape z)) there (record { store = put.store; sound = put.sound })
