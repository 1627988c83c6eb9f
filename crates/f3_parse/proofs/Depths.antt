-- How many constructs are open, by the machine and by what was begun and ended.
use Rattle.std.proofs.Common.{◌≡◌, ◌+◌, ◌≤◌, List, [], ◌∷◌, Bool, true, false, Some, refl, sym, ap, arith}
use Rattle.f3_form.specs.Forms.{FormTree, if_then, select_case, repeats, associates}
use Rattle.f3_blocks.specs.Pieces.{Placed}
use Rattle.f3_units.specs.Machine.{State, start, step, run, depth, IsDeeper}
use Rattle.f3_units.specs.Depth.{begins_construct, ends_construct, one_if}
use Rattle.f3_units.proofs.Nesting.{depth_start, depth_step}
use Rattle.f3_parse.specs.Nested.{count_of, open_behind, IsTooDeep}
use Rattle.f3_parse.proofs.Cuts.{then_some}

some_is : (s t : State) → Some s ≡ Some t → s ≡ t
some_is s t e = cc

depth_run : (ps : List Placed) (s t : State) → run ps s ≡ Some t → depth t + count_of ends_construct ps ≡ depth s + count_of begins_construct ps
depth_run [] s t e = ap (λ (x : State). depth x + 0) (some_is t s (sym e))
depth_run (p ∷ ps) s t e =
    let w = then_some (run ps) (step p s) t e in
    let one = depth_step p s w.0 w.1 in
    let others = depth_run ps w.0 t w.2 in
    omega (arith, one, others)

pub depth_is : (ps : List Placed) (s : State) → run ps start ≡ Some s → open_behind ps ≡ depth s
depth_is ps s e = let sum = depth_run ps start s e in omega (arith, sum, depth_start)

not_both : (f : FormTree) → begins_construct f ≡ true → ends_construct f ≡ false
not_both (if_then e) h = refl
not_both (select_case e) h = refl
not_both (repeats c) h = refl
not_both (associates xs) h = refl
not_both _ h = absurd (cc)

abbrev Deeper : Bool → Bool → State → State → Type 0
Deeper begun over s t = depth t + one_if over ≡ depth s + one_if begun

begins_by : (begun over : Bool) (s t : State) → Deeper begun over s t → IsDeeper s t → (begun ≡ true) × (64 ≤ depth s)
begins_by true over s t e h = (refl, let less = h.1 in omega (arith, e, less))
begins_by false over s t e h = absurd (let less = h.0 in omega (arith, e, less))

-- a 65th construct, as the machine counts and as the definition does
pub deep_is : (ps : List Placed) (s t : State) (p : Placed) → run ps start ≡ Some s → step p s ≡ Some t → IsDeeper s t → IsTooDeep ps p.form
deep_is ps s t p e next h =
    let w = begins_by (begins_construct p.form) (ends_construct p.form) s t (depth_step p s t next) h in
    let here = depth_is ps s e in
    let many = w.1 in
    (w.0, omega (arith, here, many))

deeper_by : (s t : State) → Deeper true false s t → 64 ≤ depth s → IsDeeper s t
deeper_by s t e many = let sum : depth t + 0 ≡ depth s + 1 = e in (omega (arith, sum), omega (arith, sum, many))

pub is_deep : (ps : List Placed) (s t : State) (p : Placed) → run ps start ≡ Some s → step p s ≡ Some t → IsTooDeep ps p.form → IsDeeper s t
is_deep ps s t p e next h =
    let here = depth_is ps s e in
    let many = h.1 in
    let ends_not = not_both p.form h.0 in
    let begins_so = h.0 in
    let one = depth_step p s t next in
    let one_here = rw (ends_not, begins_so) at one in
    deeper_by s t one_here (omega (arith, here, many))
