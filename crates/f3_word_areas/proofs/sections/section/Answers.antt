use Rattle.std.proofs.Common.{◌≡◌, ◌∙◌, ap, sym, subst, refl, rules, arith, w64, FitsSigned, to_z, of_z, List, inl, inr, ⊎_elim, ◌∷◌, [], ◌++◌, length}
use Rattle.std.specs.Prelude.{ℤ, pos, ◌+ℤ◌, ◌-ℤ◌, ◌*ℤ◌, map, All, false}
use Rattle.std.specs.Option.{option_to_list}
use Rattle.std.proofs.lemmas.Bool.{false≢true}
use Rattle.std.proofs.lemmas.Int.{to_z-of_z}
use Rattle.std.proofs.lemmas.List.Elements.{All-head}
use Rattle.f3_cells.specs.Cells.{chosen_of}
use Rattle.f3_meaning_whole.specs.Act.{Chosen, some_zero_step}
use Rattle.f3_desc.specs.declared.descriptor.Dim.{Dim}
use Rattle.f3_desc.specs.declared.descriptor.Triplet.{Triplet}
use Rattle.f3_desc.specs.Section.{IsStepZero}
use Rattle.f3_desc.specs.Inner.Congruent.{IsCongruent}
use Rattle.f3_desc.specs.Inner.Cuts.{cut_of, first_of}
use Rattle.f3_desc.proofs.CutWalk.{Cutting, cutting-none, cutting-room, cutting-out, cutting-more, cutting-all, cutting-section, append-none}
use Rattle.f3_word_areas.specs.Sections.{triplet_of, triplets_of}
use Rattle.f3_word_areas.proofs.Triplets.{triplets-many, none-chosen, some-steps, mapped-length}
use Rattle.f3_word_areas.proofs.sections.section.Goals as goal

pub loop-dim-init : goal.loop-dim-init
loop-dim-init c =
    let a = c.args.array.now in
    let hs : List Chosen = map chosen_of c.args.chosen.now in
    let ts : List Triplet = triplets_of a.dims.items hs in
    let dims : a.dims.items ≡ c.into_iter-dim-iterator.result.a.rest.now = cc in
    let chosen : c.args.chosen.now ≡ c.into_iter-dim-iterator.result.b.rest.now = cc in
    let many : length hs ≡ length a.dims.items = mapped-length chosen_of c.args.chosen.now ∙ c.requires in
    let zero : some_zero_step hs ≡ false = sym c.some_step_is_zero.ensures ∙ c.if-some_step_is_zero.false in
    let start = cutting-none a ts (search rules) (triplets-many a.dims.items hs many) (search rules) (some-steps a.dims.items hs zero) in
    subst (λ (x : List Dim). Cutting a ts a.offset c.new-dims.result.items x (triplets_of x (map chosen_of c.into_iter-dim-iterator.result.b.rest.now))) dims
    (subst (λ y. Cutting a ts a.offset c.new-dims.result.items a.dims.items (triplets_of a.dims.items (map chosen_of y))) chosen
    (subst (λ (m : List Dim). Cutting a ts a.offset m a.dims.items ts) (sym c.new-dims.ensures) start))

pub returns-in_default : goal.returns-in_default
returns-in_default c =
    let s = c.in-Some.ensures.steps in
    let next : triplets_of c.loop-dim.dim-iterator.a.rest.now (map chosen_of c.loop-dim.dim-iterator.b.rest.now) ≡ triplet_of c.in-Some.dim.now (chosen_of c.in-Some.choice.now) ∷ triplets_of c.next.new.self.a.rest.now (map chosen_of c.next.new.self.b.rest.now) =
    (λ i. triplets_of (s.0 i) (map chosen_of (s.1 i))) in
    let out = cutting-out _ _ _ _ _ _ _ _ _ _ s.0 next c.loop-dim.invariant in
    (sym c.some_step_is_zero.ensures ∙ c.if-some_step_is_zero.false, λ h. false≢true (c.in_default.ensures.ok.1 (out h)))

pub push-requires : goal.push-requires
push-requires c =
    let s = c.in-Some.ensures.steps in
    let next : triplets_of c.loop-dim.dim-iterator.a.rest.now (map chosen_of c.loop-dim.dim-iterator.b.rest.now) ≡ triplet_of c.in-Some.dim.now (chosen_of c.in-Some.choice.now) ∷ triplets_of c.next.new.self.a.rest.now (map chosen_of c.next.new.self.b.rest.now) =
    (λ i. triplets_of (s.0 i) (map chosen_of (s.1 i))) in
    (omega arith, cutting-room _ _ _ _ _ _ _ _ _ _ s.0 next c.loop-dim.invariant)

pub cut-requires : goal.cut-requires
cut-requires c =
    let s = c.in-Some.ensures.steps in
    let next : triplets_of c.loop-dim.dim-iterator.a.rest.now (map chosen_of c.loop-dim.dim-iterator.b.rest.now) ≡ triplet_of c.in-Some.dim.now (chosen_of c.in-Some.choice.now) ∷ triplets_of c.next.new.self.a.rest.now (map chosen_of c.next.new.self.b.rest.now) =
    (λ i. triplets_of (s.0 i) (map chosen_of (s.1 i))) in
    All-head (λ t. ¬ (IsStepZero t)) _ _ (subst (λ (ts : List Triplet). All (λ t. ¬ (IsStepZero t)) ts) next c.loop-dim.invariant.stepping)

pub loop-dim-preserved-in-Some-left : goal.loop-dim-preserved-in-Some-left
loop-dim-preserved-in-Some-left c =
    let s = c.in-Some.ensures.steps in
    let next : triplets_of c.loop-dim.dim-iterator.a.rest.now (map chosen_of c.loop-dim.dim-iterator.b.rest.now) ≡ triplet_of c.in-Some.dim.now (chosen_of c.in-Some.choice.now) ∷ triplets_of c.next.new.self.a.rest.now (map chosen_of c.next.new.self.b.rest.now) =
    (λ i. triplets_of (s.0 i) (map chosen_of (s.1 i))) in
    let t : Triplet = triplet_of c.in-Some.dim.now (chosen_of c.in-Some.choice.now) in
    let fits : FitsSigned w64 c.first.result = search rules in
    let first : to_z w64 (of_z w64 c.first.result) ≡ first_of t = to_z-of_z w64 c.first.result fits ∙ c.first.ensures in
    let moved = subst (λ (z : ℤ). IsCongruent (pos c.moved-offset.result) (pos c.loop-dim.offset +ℤ ((z -ℤ c.in-Some.dim.now.lower) *ℤ c.in-Some.dim.now.stride))) first c.moved-offset.ensures in
    let left : c.in-Some-left.dim ∷ [] ≡ cut_of c.in-Some.dim.now t = sym (ap option_to_list c.in-Some-left.is) ∙ c.in-Ok.ensures.value in
    cutting-more _ _ _ _ _ _ _ _ _ _ s.0 next c.loop-dim.invariant c.moved-offset.result c.push.new.self.items (c.in-Ok.ensures.ok.0 refl) (c.push.ensures.items ∙ ap (λ (x : List Dim). c.loop-dim.dims.items ++ x) left) c.moved-offset.type_inv moved

pub loop-dim-preserved : goal.loop-dim-preserved
loop-dim-preserved c =
    let s = c.in-Some.ensures.steps in
    let next : triplets_of c.loop-dim.dim-iterator.a.rest.now (map chosen_of c.loop-dim.dim-iterator.b.rest.now) ≡ triplet_of c.in-Some.dim.now (chosen_of c.in-Some.choice.now) ∷ triplets_of c.next.new.self.a.rest.now (map chosen_of c.next.new.self.b.rest.now) =
    (λ i. triplets_of (s.0 i) (map chosen_of (s.1 i))) in
    let t : Triplet = triplet_of c.in-Some.dim.now (chosen_of c.in-Some.choice.now) in
    let fits : FitsSigned w64 c.first.result = search rules in
    let first : to_z w64 (of_z w64 c.first.result) ≡ first_of t = to_z-of_z w64 c.first.result fits ∙ c.first.ensures in
    let moved = subst (λ (z : ℤ). IsCongruent (pos c.moved-offset.result) (pos c.loop-dim.offset +ℤ ((z -ℤ c.in-Some.dim.now.lower) *ℤ c.in-Some.dim.now.stride))) first c.moved-offset.ensures in
    let left : [] ≡ cut_of c.in-Some.dim.now t = sym (ap option_to_list c.in_default-left.is) ∙ c.in-Ok.ensures.value in
    cutting-more _ _ _ _ _ _ _ _ _ _ s.0 next c.loop-dim.invariant c.moved-offset.result c.loop-dim.dims.items (c.in-Ok.ensures.ok.0 refl) (sym (append-none c.loop-dim.dims.items) ∙ ap (λ (x : List Dim). c.loop-dim.dims.items ++ x) left) c.moved-offset.type_inv moved

pub returns : goal.returns
returns c =
    let ts : List Triplet = triplets_of c.args.array.now.dims.items (map chosen_of c.args.chosen.now) in
    let last = cutting-all _ _ _ _ _ _ c.loop-dim.invariant (⊎_elim (λ x. inl x.1.0) (λ x. inr (none-chosen c.loop-dim.dim-iterator.a.rest.now c.loop-dim.dim-iterator.b.rest.now x.1.0)) c.in-None.ensures.steps) in
    (sym c.some_step_is_zero.ensures ∙ c.if-some_step_is_zero.false, last.so_far tt, λ fits. cutting-section c.args.array.now _ ts fits refl last)
