use Rattle.std.proofs.Common.{◌≡◌, sym, subst, refl, rules, w64, FitsSigned, List, inl, inr, ⊎_elim}
use Rattle.std.proofs.lemmas.Bool.{false≢true}
use Rattle.std.specs.Prelude.{ℤ, pos, ◌+ℤ◌, ◌-ℤ◌, ◌*ℤ◌}
use Rattle.std.proofs.lemmas.Int.{to_z-of_z}
use Rattle.f3_desc.specs.declared.descriptor.Dim.{Dim}
use Rattle.f3_desc.specs.Inner.Congruent.{IsCongruent}
use Rattle.f3_desc.specs.Descriptor.{IsWithin}
use Rattle.f3_desc.proofs.Walk.{Walks, walks-none, walks-more, walks-all, walks-place, walks-out}
use Rattle.f3_desc.proofs.descriptor.Descriptor.element.Goals as goal

pub loop-dim-init : goal.loop-dim-init
loop-dim-init c =
    let dims : c.args.self.now.dims.items ≡ c.into_iter-dim-iterator.result.a.rest.now = cc in
    let subscripts : c.args.subscripts.now ≡ c.into_iter-dim-iterator.result.b.rest.now = cc in
    let start = walks-none c.args.self.now c.args.subscripts.now (search rules) c.requires.rank in
    subst (λ (x : List Dim). Walks c.args.self.now c.args.subscripts.now c.args.self.now.offset x c.into_iter-dim-iterator.result.b.rest.now) dims
    (subst (λ (y : List ℤ). Walks c.args.self.now c.args.subscripts.now c.args.self.now.offset c.args.self.now.dims.items y) subscripts start)

pub returns-then-not-holds-clause-ok : goal.returns-then-not-holds-clause-ok
returns-then-not-holds-clause-ok c =
    let fits : FitsSigned w64 c.in-Some.subscript.now = search rules in
    let is = to_z-of_z w64 c.in-Some.subscript.now fits in
    let steps = c.in-Some.ensures.steps in
    let back = λ (h : IsWithin c.in-Some.dim.now c.in-Some.subscript.now). c.if-not-holds.ensures.1 (subst (λ (s : ℤ). IsWithin c.in-Some.dim.now s) (sym is) h) in
    (λ e. absurd (false≢true e), λ h. back (walks-out _ _ _ _ _ _ _ _ _ steps.0 steps.1 c.loop-dim.invariant h))

pub loop-dim-preserved : goal.loop-dim-preserved
loop-dim-preserved c =
    let fits : FitsSigned w64 c.in-Some.subscript.now = search rules in
    let is = to_z-of_z w64 c.in-Some.subscript.now fits in
    let steps = c.in-Some.ensures.steps in
    let within : IsWithin c.in-Some.dim.now c.in-Some.subscript.now = subst (λ (s : ℤ). IsWithin c.in-Some.dim.now s) is (c.if-not-holds.ensures.0 refl) in
    let moved = subst (λ (s : ℤ). IsCongruent (pos c.moved-at.result) (pos c.loop-dim.at +ℤ ((s -ℤ c.in-Some.dim.now.lower) *ℤ c.in-Some.dim.now.stride))) is c.moved-at.ensures in
    walks-more _ _ _ _ _ _ _ _ _ _ steps.0 steps.1 c.loop-dim.invariant within c.moved-at.type_inv moved

pub returns-clause-ok : goal.returns-clause-ok
returns-clause-ok c =
    let last = walks-all _ _ _ _ _ c.loop-dim.invariant (⊎_elim (λ x. inl x.1.0) (λ x. inr x.1.0) c.in-None.ensures.steps) in
    (λ _. last.so_far tt, λ _. refl)

pub returns-clause-place : goal.returns-clause-place
returns-clause-place c =
    let last = walks-all _ _ _ _ _ c.loop-dim.invariant (⊎_elim (λ x. inl x.1.0) (λ x. inr x.1.0) c.in-None.ensures.steps) in
    walks-place c.args.self.now c.args.subscripts.now c.loop-dim.at c.requires.places last
