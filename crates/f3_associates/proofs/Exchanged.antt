-- What stands at entities, put there one after the other.
use Rattle.std.proofs.Common.{◌≡◌, ℕ, refl, List, [], ◌∷◌, ◌++◌, map, Some, sym, ap, ◌∙◌}
use Rattle.std.proofs.lemmas.List.{map-append}
use Rattle.std.proofs.lemmas.List.Elements.{All-pop, All-push, All-same}
use Rattle.f3_type_rules.specs.Definitions.{Site}
use Rattle.f3_associates.specs.declared.exchanging.Standing.{Standing as Kept}
use Rattle.f3_associates.specs.Standing.{Standing, standing_of, put, put_all, HasRoom, HaveRoom}

put_last : (ks : List Standing) (k : Standing) (s : Site) → put_all (ks ++ k ∷ []) s ≡ put_all ks (put k s)
put_last [] k s = refl
put_last (x ∷ ks) k s = ap (put x) (put_last ks k s)

with_last : (list rest : List Kept) (k : Kept) → list ≡ rest ++ k ∷ [] → map standing_of list ≡ map standing_of rest ++ standing_of k ∷ []
with_last list rest k e = ap (map standing_of) e ∙ map-append standing_of rest (k ∷ [])

-- the last one is put where it belongs
pub popped : (list rest : List Kept) (k : Kept) (s s' start : Site) → list ≡ rest ++ k ∷ [] → s' ≡ put (standing_of k) s
    → put_all (map standing_of list) s ≡ start → put_all (map standing_of rest) s' ≡ start
popped list rest k s s' start l e h =
    ap (put_all (map standing_of rest)) e ∙ sym (ap (λ ks. put_all ks s) (with_last list rest k l) ∙ put_last (map standing_of rest) (standing_of k) s) ∙ h

-- what stood there is kept behind the others
pub pushed : (before more : List Kept) (k : Kept) (s s' start : Site) → more ≡ before ++ k ∷ [] → put (standing_of k) s' ≡ s
    → put_all (map standing_of before) s ≡ start → put_all (map standing_of more) s' ≡ start
pushed before more k s s' start m e h =
    ap (λ ks. put_all ks s') (with_last more before k m) ∙ put_last (map standing_of before) (standing_of k) s' ∙ ap (put_all (map standing_of before)) e ∙ h

pub popped_room : (room : ℕ × ℕ) (list rest : List Kept) (k : Kept) → list ≡ rest ++ k ∷ [] → HaveRoom room (map standing_of list)
    → HaveRoom room (map standing_of rest) × HasRoom room (standing_of k)
popped_room room list rest k e h = All-pop (HasRoom room) (map standing_of list) (map standing_of rest) (Some (standing_of k)) (with_last list rest k e) h

pub pushed_room : (room : ℕ × ℕ) (before more : List Kept) (k : Kept) → more ≡ before ++ k ∷ [] → HaveRoom room (map standing_of before) → HasRoom room (standing_of k)
    → HaveRoom room (map standing_of more)
pushed_room room before more k e h r =
    All-same (HasRoom room) (map standing_of more) (map standing_of before ++ standing_of k ∷ []) (with_last more before k e) (All-push (HasRoom room) (map standing_of before) (standing_of k) h r)
