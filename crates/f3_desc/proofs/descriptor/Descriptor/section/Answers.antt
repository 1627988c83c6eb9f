use Rattle.std.proofs.Common.{◌≡◌, ◌∙◌, sym, ap, subst, refl, rules, arith, w64, FitsSigned, to_z, of_z, List, inl, inr, ⊎_elim, ◌∷◌, [], ◌++◌}
use Rattle.std.specs.Prelude.{ℤ, pos, ◌+ℤ◌, ◌-ℤ◌, ◌*ℤ◌}
use Rattle.std.specs.Option.{option_to_list}
use Rattle.std.proofs.lemmas.Bool.{false≢true}
use Rattle.std.proofs.lemmas.Int.{to_z-of_z}
use Rattle.f3_desc.specs.declared.descriptor.Dim.{Dim}
use Rattle.f3_desc.specs.declared.descriptor.Triplet.{Triplet}
use Rattle.f3_desc.specs.Inner.Congruent.{IsCongruent}
use Rattle.f3_desc.specs.Inner.Cuts.{cut_of, first_of}
use Rattle.f3_desc.proofs.CutWalk.{Cutting, cutting-none, cutting-room, cutting-out, cutting-more, cutting-all, cutting-section, no-step-zero, append-none}
use Rattle.f3_desc.proofs.descriptor.Descriptor.section.Goals as goal

pub loop-dim-init : goal.loop-dim-init
loop-dim-init c =
    let a = c.args.self.now in
    let ts = c.args.triplets.now in
    let dims : a.dims.items ≡ c.into_iter-dim-iterator.result.a.rest.now = cc in
    let triplets : ts ≡ c.into_iter-dim-iterator.result.b.rest.now = cc in
    let none = no-step-zero ts (λ h. false≢true (c.if-some_step_zero.ensures.1 h)) in
    let start = cutting-none a ts (search rules) c.requires.rank (search rules) none in
    subst (λ (x : List Dim). Cutting a ts a.offset c.new-dims.result.items x c.into_iter-dim-iterator.result.b.rest.now) dims
    (subst (λ (y : List Triplet). Cutting a ts a.offset c.new-dims.result.items a.dims.items y) triplets
    (subst (λ (m : List Dim). Cutting a ts a.offset m a.dims.items ts) (sym c.new-dims.ensures) start))

pub returns-in_default-clause-bounds : goal.returns-in_default-clause-bounds
returns-in_default-clause-bounds c =
    let steps = c.in-Some.ensures.steps in
    let out = cutting-out _ _ _ _ _ _ _ _ _ _ steps.0 steps.1 c.loop-dim.invariant in
    (λ _. (λ h. false≢true (c.if-some_step_zero.ensures.1 h), λ h. false≢true (c.in_default.ensures.ok.1 (out h))), λ _. refl)

pub push-requires : goal.push-requires
push-requires c =
    let steps = c.in-Some.ensures.steps in
    (omega arith, cutting-room _ _ _ _ _ _ _ _ _ _ steps.0 steps.1 c.loop-dim.invariant)

pub loop-dim-preserved-in-Some-left : goal.loop-dim-preserved-in-Some-left
loop-dim-preserved-in-Some-left c =
    let steps = c.in-Some.ensures.steps in
    let fits : FitsSigned w64 c.first.result = search rules in
    let first : to_z w64 (of_z w64 c.first.result) ≡ first_of c.in-Some.triplet.now = to_z-of_z w64 c.first.result fits ∙ c.first.ensures in
    let moved = subst (λ (s : ℤ). IsCongruent (pos c.moved-offset.result) (pos c.loop-dim.offset +ℤ ((s -ℤ c.in-Some.dim.now.lower) *ℤ c.in-Some.dim.now.stride))) first c.moved-offset.ensures in
    let left : c.in-Some-left.dim ∷ [] ≡ cut_of c.in-Some.dim.now c.in-Some.triplet.now = sym (ap option_to_list c.in-Some-left.is) ∙ c.in-Ok.ensures.value in
    cutting-more _ _ _ _ _ _ _ _ _ _ steps.0 steps.1 c.loop-dim.invariant c.moved-offset.result c.push.new.self.items (c.in-Ok.ensures.ok.0 refl) (c.push.ensures.items ∙ ap (λ (x : List Dim). c.loop-dim.dims.items ++ x) left) c.moved-offset.type_inv moved

pub loop-dim-preserved : goal.loop-dim-preserved
loop-dim-preserved c =
    let steps = c.in-Some.ensures.steps in
    let fits : FitsSigned w64 c.first.result = search rules in
    let first : to_z w64 (of_z w64 c.first.result) ≡ first_of c.in-Some.triplet.now = to_z-of_z w64 c.first.result fits ∙ c.first.ensures in
    let moved = subst (λ (s : ℤ). IsCongruent (pos c.moved-offset.result) (pos c.loop-dim.offset +ℤ ((s -ℤ c.in-Some.dim.now.lower) *ℤ c.in-Some.dim.now.stride))) first c.moved-offset.ensures in
    let left : [] ≡ cut_of c.in-Some.dim.now c.in-Some.triplet.now = sym (ap option_to_list c.in_default-left.is) ∙ c.in-Ok.ensures.value in
    cutting-more _ _ _ _ _ _ _ _ _ _ steps.0 steps.1 c.loop-dim.invariant c.moved-offset.result c.loop-dim.dims.items (c.in-Ok.ensures.ok.0 refl) (sym (append-none c.loop-dim.dims.items) ∙ ap (λ (x : List Dim). c.loop-dim.dims.items ++ x) left) c.moved-offset.type_inv moved

pub returns-clause-bounds : goal.returns-clause-bounds
returns-clause-bounds c =
    let last = cutting-all _ _ _ _ _ _ c.loop-dim.invariant (⊎_elim (λ x. inl x.1.0) (λ x. inr x.1.0) c.in-None.ensures.steps) in
    (λ e. absurd cc, λ h. absurd (h.1 (last.so_far tt)))

pub returns-clause-within : goal.returns-clause-within
returns-clause-within c =
    let last = cutting-all _ _ _ _ _ _ c.loop-dim.invariant (⊎_elim (λ x. inl x.1.0) (λ x. inr x.1.0) c.in-None.ensures.steps) in
    last.so_far tt

pub returns-clause-section : goal.returns-clause-section
returns-clause-section c =
    let last = cutting-all _ _ _ _ _ _ c.loop-dim.invariant (⊎_elim (λ x. inl x.1.0) (λ x. inr x.1.0) c.in-None.ensures.steps) in
    cutting-section c.args.self.now _ c.args.triplets.now c.requires.places refl last
