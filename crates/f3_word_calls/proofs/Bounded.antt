-- Objects with other lower bounds.
use Rattle.std.proofs.Common.{◌≡◌, ◌≢◌, ◌∙◌, suc, List, [], ◌∷◌, ◌++◌, length, take, drop, refl, sym, ap, subst, arith}
use Rattle.std.proofs.lemmas.List.{take-append-le, take_all}
use Rattle.std.specs.Prelude.{⊤, ℤ, pos, nat_eq, if◌then◌else◌}
use Rattle.std.specs.List.{flat_map}
use Rattle.f3_program.specs.declared.program.Dummy.{Dummy}
use Rattle.f3_program.specs.declared.program.Intent.{Intent}
use Rattle.f3_program.specs.declared.program.Intent.TheVariants as intent
use Rattle.f3_program.specs.declared.program.Program.{Program}
use Rattle.f3_meaning_whole.specs.Exec.{associated, based, based_reach, bound, right_of, shown_reach}
use Rattle.f3_meaning_whole.specs.Reference.{Many, One, Reach, Read, Reference, Right}
use Rattle.f3_meaning_whole.specs.Store.{Path}
use Rattle.f3_meaning_whole.specs.Value.{shown}
use Rattle.f3_desc.specs.declared.descriptor.Dim.{Dim}
use Rattle.f3_desc.specs.Descriptor.{places, progression}
use Rattle.f3_rooms.specs.Rooms.{Rooms}
use Rattle.f3_room_arrays.specs.Words.{places_from}
use Rattle.f3_room_arrays.proofs.Numbers.{along, places-cons}
use Rattle.f3_word_cells.specs.declared.cell.Area.{Area}
use Rattle.f3_word_cells.specs.declared.cell.Object.TheVariants as o
use Rattle.f3_word_cells.specs.Areas.{AreThere, IsObject, spans_of}
use Rattle.f3_word_calls.specs.Bounds.{based_dims, shown_dims}

-- one for each, with elements as far apart
abbrev pub AreAlike : List Dim → List Dim → Type 0
AreAlike [] [] = ⊤
AreAlike (d ∷ ds) (e ∷ es) = (e.extent ≡ d.extent) × (e.stride ≡ d.stride) × AreAlike ds es
AreAlike ds es = ⊥

alike_same : (ds : List Dim) → AreAlike ds ds
alike_same [] = tt
alike_same (d ∷ ds) = (refl, refl, alike_same ds)

based_alike : (ls : List ℤ) (ds : List Dim) → AreAlike ds (based_dims ls ds)
based_alike [] ds = alike_same ds
based_alike (l ∷ ls) [] = tt
based_alike (l ∷ ls) (d ∷ ds) = (refl, refl, based_alike ls ds)

shown_alike : (ds : List Dim) → AreAlike ds (shown_dims ds)
shown_alike [] = tt
shown_alike (d ∷ ds) = (refl, refl, shown_alike ds)

based_spans : (ls : List ℤ) (ds : List Dim) → spans_of (based_dims ls ds) ≡ based ls (spans_of ds)
based_spans [] ds = refl
based_spans (l ∷ ls) [] = refl
based_spans (l ∷ ls) (d ∷ ds) = ap (λ ss. record { lower = l; extent = d.extent } ∷ ss) (based_spans ls ds)

shown_spans : (ds : List Dim) → spans_of (shown_dims ds) ≡ shown (spans_of ds)
shown_spans [] = refl
shown_spans (d ∷ ds) = ap (λ ss. record { lower = if nat_eq d.extent 0 then pos 1 else d.lower; extent = d.extent } ∷ ss) (shown_spans ds)

alike_along : (d e : Dim) → e.extent ≡ d.extent → e.stride ≡ d.stride → along e ≡ along d
alike_along d e extent stride = ap (λ n q. progression q e.stride n) extent ∙ ap (λ z q. progression q z d.extent) stride

alike_places : (at : ℤ) (ds es : List Dim) → AreAlike ds es → places_from at es ≡ places_from at ds
alike_places at [] [] alike = refl
alike_places at [] (e ∷ es) alike = absurd alike
alike_places at (d ∷ ds) [] alike = absurd alike
alike_places at (d ∷ ds) (e ∷ es) alike =
    places-cons at e es ∙ ap (λ f. flat_map f (places_from at es)) (alike_along d e alike.0 alike.1)
    ∙ ap (flat_map (along d)) (alike_places at ds es alike.2) ∙ sym (places-cons at d ds)

alike_none : (ds es : List Dim) → AreAlike ds es → ds ≡ [] → es ≡ []
alike_none [] [] alike none = refl
alike_none [] (e ∷ es) alike none = absurd alike
alike_none (d ∷ ds) es alike none = absurd (cc)

alike_some : (ds es : List Dim) → AreAlike ds es → ds ≢ [] → es ≢ []
alike_some [] es alike some e = some refl
alike_some (d ∷ ds) [] alike some e = alike
alike_some (d ∷ ds) (x ∷ es) alike some e = cc

module _ (p : Program) (x : Rooms) (a b : Area) (of : b.of ≡ a.of) (block : b.elements.block ≡ a.elements.block)
    (offset : b.elements.offset ≡ a.elements.offset) (alike : AreAlike a.elements.dims.items b.elements.dims.items) where
  one_there : (q : Path) → AreThere p x a q One → AreThere p x b q One
  one_there q there = (alike_none a.elements.dims.items b.elements.dims.items alike there.0, rw (of, block, offset) there.1)

  many_there : (q : Path) (ss ts : _) (ps : List Path) → ts ≡ spans_of b.elements.dims.items → AreThere p x a q (Many ss ps) → AreThere p x b q (Many ts ps)
  many_there q ss ts ps spans there = (
    alike_some a.elements.dims.items b.elements.dims.items alike there.0,
    spans,
    let same : places b.elements ≡ places a.elements =
        ap (λ k. places_from (pos k) b.elements.dims.items) offset ∙ alike_places (pos a.elements.offset) a.elements.dims.items b.elements.dims.items alike in
        rw (of, block, same) there.2,
  )

right_stays : (i : Intent) (r : Right) → r ≡ Read → right_of i r ≡ Read
right_stays intent.In r e = refl
right_stays intent.Out r e = e
right_stays intent.InOut r e = e

module _ (p : Program) (x : Rooms) where
  pub held_bound : (d : Dummy) (of : _) (k : _) (r : Reference) → IsObject p x (o.Held of k) r → IsObject p x (o.Held of k) (bound d r)
  held_bound d of k r is = (is.0, ap (based_reach d.lowers.items) is.1, right_stays d.intent r.right is.2, is.3, is.4)

  pub held_associated : (of : _) (k : _) (r : Reference) → IsObject p x (o.Held of k) r → IsObject p x (o.Held of k) (associated r)
  held_associated of k r is = (is.0, ap shown_reach is.1, is.2, is.3, is.4)

  module _ (a b : Area) (of : b.of ≡ a.of) (block : b.elements.block ≡ a.elements.block) (offset : b.elements.offset ≡ a.elements.offset) where
    bound_reach : (ls : List ℤ) → b.elements.dims.items ≡ based_dims ls a.elements.dims.items → (q : Path) (reach : Reach) → AreThere p x a q reach
        → AreThere p x b q (based_reach ls reach)
    bound_reach ls dims q One there =
        one_there p x a b of block offset (subst (λ es. AreAlike a.elements.dims.items es) (sym dims) (based_alike ls a.elements.dims.items)) q there
    bound_reach ls dims q (Many ss ps) there =
        many_there p x a b of block offset (subst (λ es. AreAlike a.elements.dims.items es) (sym dims) (based_alike ls a.elements.dims.items)) q ss (based ls ss) ps
        (ap (based ls) there.1 ∙ sym (based_spans ls a.elements.dims.items) ∙ ap spans_of (sym dims)) there

    shown_there : b.elements.dims.items ≡ shown_dims a.elements.dims.items → (q : Path) (reach : Reach) → AreThere p x a q reach
        → AreThere p x b q (shown_reach reach)
    shown_there dims q One there =
        one_there p x a b of block offset (subst (λ es. AreAlike a.elements.dims.items es) (sym dims) (shown_alike a.elements.dims.items)) q there
    shown_there dims q (Many ss ps) there =
        many_there p x a b of block offset (subst (λ es. AreAlike a.elements.dims.items es) (sym dims) (shown_alike a.elements.dims.items)) q ss (shown ss) ps
        (ap shown there.1 ∙ sym (shown_spans a.elements.dims.items) ∙ ap spans_of (sym dims)) there

    pub stood_bound : (d : Dummy) → b.elements.dims.items ≡ based_dims d.lowers.items a.elements.dims.items → (r : Reference)
        → IsObject p x (o.Stands a) r → IsObject p x (o.Stands b) (bound d r)
    stood_bound d dims r is = (is.0 ∙ sym of, bound_reach d.lowers.items dims r.path r.reach is.1)

    pub stood_associated : b.elements.dims.items ≡ shown_dims a.elements.dims.items → (r : Reference) → IsObject p x (o.Stands a) r
        → IsObject p x (o.Stands b) (associated r)
    stood_associated dims r is = (is.0 ∙ sym of, shown_there dims r.path r.reach is.1)

-- ---- as many in place of others

filled : {X : Type 0} (xs ys : List X) → length ys ≡ length xs → take (length xs) (ys ++ drop (length ys) xs) ≡ ys
filled xs ys e = take-append-le (length xs) ys (drop (length ys) xs) (omega (arith, e)) ∙ take_all (length xs) ys (omega (arith, e))

based_length : (ls : List ℤ) (ds : List Dim) → length (based_dims ls ds) ≡ length ds
based_length [] ds = refl
based_length (l ∷ ls) [] = refl
based_length (l ∷ ls) (d ∷ ds) = ap suc (based_length ls ds)

shown_length : (ds : List Dim) → length (shown_dims ds) ≡ length ds
shown_length [] = refl
shown_length (d ∷ ds) = ap suc (shown_length ds)

pub based_filled : (xs ys zs : List Dim) (ls ks : List ℤ) → zs ≡ based_dims ks ys → ys ≡ xs → ks ≡ ls
    → take (length xs) (zs ++ drop (length zs) xs) ≡ based_dims ls xs
based_filled xs ys zs ls ks is same lowers =
    let e : zs ≡ based_dims ls xs = is ∙ ap (based_dims ks) same ∙ ap (λ js. based_dims js xs) lowers in
    filled xs zs (ap length e ∙ based_length ls xs) ∙ e

pub shown_filled : (xs ys zs : List Dim) → zs ≡ shown_dims ys → ys ≡ xs → take (length xs) (zs ++ drop (length zs) xs) ≡ shown_dims xs
shown_filled xs ys zs is same =
    let e : zs ≡ shown_dims xs = is ∙ ap shown_dims same in
    filled xs zs (ap length e ∙ shown_length xs) ∙ e
