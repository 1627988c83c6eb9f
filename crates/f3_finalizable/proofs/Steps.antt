-- What one step of each loop makes.
use Rattle.std.proofs.Common.{◌≡◌, ℕ, zero, suc, ◌+◌, ◌<◌, List, [], ◌∷◌, ◌++◌, length, set, get_or, map, take, drop, refl, sym, ap, ◌∙◌, arith, add-one, Bool, Option, None}
use Rattle.std.specs.Global.{Vec}
use Rattle.std.proofs.lemmas.List.{at_drop_more, get_or-map, map-set, length-map}
use Rattle.f3_kinds.specs.declared.things.Component.{Component}
use Rattle.f3_kinds.specs.declared.things.Thing.{Thing}
use Rattle.f3_kinds.specs.Things.{map_or, at_place_of, Nature, constant, variable, derived, subroutine, function}
use Rattle.f3_type_rules.specs.Natures.{marked}
use Rattle.f3_typed_parts.specs.Known.{nature_of}
use Rattle.f3_finalizable.specs.Inner.Holders.{rows_of, part_of, hold, hold_all, hold_thing, hold_each}
use Rattle.f3_finalizable.specs.Inner.Marks.{State, see, see_all, see_final, see_finals, with_flag}

-- one holder more
pub pushed : (g : List (Vec ℕ)) (e i : ℕ) (v w : Vec ℕ) → e < length g → v ≡ get_or g e v → w.items ≡ v.items ++ i ∷ [] → rows_of (set g e w) ≡ set (rows_of g) e (get_or (rows_of g) e [] ++ i ∷ [])
pushed g e i v w lt is made =
    let here : get_or (rows_of g) e [] ≡ v.items = get_or-map (λ (v : Vec ℕ). v.items) g e v [] lt ∙ ap (λ (x : Vec ℕ). x.items) (sym is) in
    map-set (λ (v : Vec ℕ). v.items) g e w ∙ ap (set (rows_of g) e) (made ∙ ap (λ l. l ++ i ∷ []) (sym here))

-- one component more
component_next : (rows : List (List ℕ)) (i : ℕ) (ks : List (ℕ × Component)) (place : ℕ) → place < length ks
    → hold_all rows i (drop place ks) ≡ hold_all (hold rows i (map_or None part_of (at_place_of ks place))) i (drop (suc place) ks)
component_next rows i [] place lt = absurd (omega arith)
component_next rows i (k ∷ ks) zero lt = refl
component_next rows i (k ∷ ks) (suc place) lt = component_next rows i ks place (omega arith)

pub component_step : (rows rows' whole : List (List ℕ)) (i : ℕ) (ks : List (ℕ × Component)) (place : ℕ) (part : Option ℕ) → place < length ks
    → part ≡ map_or None part_of (at_place_of ks place) → rows' ≡ hold rows i part
    → hold_all rows i (drop place ks) ≡ whole → hold_all rows' i (drop (place + 1) ks) ≡ whole
component_step rows rows' whole i ks place part lt p step h =
    ap (λ r. hold_all r i (drop (place + 1) ks)) (step ∙ ap (hold rows i) p)
    ∙ ap (λ k. hold_all (hold rows i (map_or None part_of (at_place_of ks place))) i (drop k ks)) (add-one place)
    ∙ sym (component_next rows i ks place lt) ∙ h

-- one entity more
pub thing_step : (rows rows' whole : List (List ℕ)) (things : List Thing) (i : ℕ) (x : Thing) → i < length things → x ≡ get_or things i x
    → rows' ≡ hold_thing rows i (nature_of x)
    → hold_each rows i (map nature_of (drop i things)) ≡ whole → hold_each rows' (i + 1) (map nature_of (drop (i + 1) things)) ≡ whole
thing_step rows rows' whole things i x lt is step h =
    ap (λ r. hold_each r (i + 1) (map nature_of (drop (i + 1) things))) (step ∙ ap (λ y. hold_thing rows i (nature_of y)) is)
    ∙ sym (at_drop_more (λ l. hold_each rows i (map nature_of l)) things i x lt) ∙ h

pub final_step : (s s' whole : State) (things : List Thing) (i : ℕ) (x : Thing) → i < length things → x ≡ get_or things i x
    → s' ≡ see_final s i (nature_of x)
    → see_finals s i (map nature_of (drop i things)) ≡ whole → see_finals s' (i + 1) (map nature_of (drop (i + 1) things)) ≡ whole
final_step s s' whole things i x lt is step h =
    ap (λ r. see_finals r (i + 1) (map nature_of (drop (i + 1) things))) (step ∙ ap (λ y. see_final s i (nature_of y)) is)
    ∙ sym (at_drop_more (λ l. see_finals s i (map nature_of l)) things i x lt) ∙ h

pub entity_step : (s s' whole : State) (list : List ℕ) (i : ℕ) (d : ℕ) → i < length list → s' ≡ see s (get_or list i d)
    → see_all s (drop i list) ≡ whole → see_all s' (drop (i + 1) list) ≡ whole
entity_step s s' whole list i d lt step h = ap (λ r. see_all r (drop (i + 1) list)) step ∙ sym (at_drop_more (see_all s) list i d lt) ∙ h

-- one type more is told
marked_none : (ns : List Nature) → marked [] ns ≡ ns
marked_none [] = refl
marked_none (n ∷ ns) = refl

marked_cons : (f : Bool) (n : Nature) (fs : List Bool) (ns : List Nature) → marked (f ∷ fs) (n ∷ ns) ≡ with_flag f n ∷ marked fs ns
marked_cons f (constant o) fs ns = refl
marked_cons f (variable o) fs ns = refl
marked_cons f (derived home ks own) fs ns = refl
marked_cons f (subroutine p ds) fs ns = refl
marked_cons f (function p ds o) fs ns = refl

marked_next : (fs : List Bool) (ns : List Nature) (i : ℕ) (b : Bool) (d : Nature) → i < length fs → i < length ns
    → marked (take (suc i) fs) ns ≡ set (marked (take i fs) ns) i (with_flag (get_or fs i b) (get_or (marked (take i fs) ns) i d))
marked_next [] ns i b d lt in_ns = absurd (omega arith)
marked_next (f ∷ fs) [] i b d lt in_ns = absurd (omega arith)
marked_next (f ∷ fs) (n ∷ ns) zero b d lt in_ns = marked_cons f n [] ns ∙ ap (λ l. with_flag f n ∷ l) (marked_none ns)
marked_next (f ∷ fs) (n ∷ ns) (suc i) b d lt in_ns =
    marked_cons f n (take (suc i) fs) ns ∙ ap (λ l. with_flag f n ∷ l) (marked_next fs ns i b d (omega arith) (omega arith))
    ∙ ap (λ m. set m (suc i) (with_flag (get_or fs i b) (get_or m (suc i) d))) (sym (marked_cons f n (take i fs) ns))

pub told_step : (things start : List Thing) (fs : List Bool) (i : ℕ) (b f : Bool) (x t : Thing) → i < length fs → i < length things → length things ≡ length start
    → x ≡ get_or things i x → f ≡ get_or fs i b → nature_of t ≡ with_flag f (nature_of x)
    → map nature_of things ≡ marked (take i fs) (map nature_of start) → map nature_of (set things i t) ≡ marked (take (i + 1) fs) (map nature_of start)
told_step things start fs i b f x t lt in_things long is flag made h =
    let d = nature_of x in
    let old : get_or (map nature_of things) i d ≡ nature_of x = get_or-map nature_of things i x d in_things ∙ ap nature_of (sym is) in
    let in_start : i < length (map nature_of start) = omega (arith, length-map start nature_of) in
    let new : nature_of t ≡ with_flag (get_or fs i b) (get_or (marked (take i fs) (map nature_of start)) i d) = made ∙ ap (λ g. with_flag g (nature_of x)) flag ∙ ap (with_flag (get_or fs i b)) (sym old ∙ ap (λ l. get_or l i d) h) in
    map-set nature_of things i t ∙ ap (λ l. set l i (nature_of t)) h ∙ ap (set (marked (take i fs) (map nature_of start)) i) new
    ∙ sym (marked_next fs (map nature_of start) i b d lt in_start)
    ∙ ap (λ k. marked (take k fs) (map nature_of start)) (sym (add-one i))
