-- MOVE_ALLOC of other than two arguments.
use Rattle.std.proofs.Common.{◌≡◌, List, [], ◌∷◌, refl}
use Rattle.f3_tree.specs.Expressions as t
use Rattle.f3_elaboration.specs.Context.{Surroundings}
use Rattle.f3_elaboration.specs.Actions.{move, nothing_done}

pub move_of_one : (s : Surroundings) (x : t.ArgumentTree) → move s (x ∷ []) ≡ nothing_done
move_of_one s (t.value k e) = refl
move_of_one s (t.triplet p first last stride) = refl

pub move_of_many : (s : Surroundings) (x y z : t.ArgumentTree) (zs : List t.ArgumentTree) → move s (x ∷ y ∷ z ∷ zs) ≡ nothing_done
move_of_many s (t.value k e) (t.value j f) z zs = refl
move_of_many s (t.value k e) (t.triplet p first last stride) z zs = refl
move_of_many s (t.triplet p first last stride) y z zs = refl
