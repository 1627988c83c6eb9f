-- Where procedures and routines begin.
use Rattle.std.proofs.Common.{◌≡◌, ℕ, suc, ◌+◌, ◌-◌, ◌<◌, ◌≤◌, ◌++◌, List, ◌∷◌, [], length, map, reverse, drop, get_or, refl, sym, ap, subst, ◌∙◌, arith, None}
use Rattle.std.specs.Prelude.{All}
use Rattle.std.proofs.Math.Seq.{drop-cons}
use Rattle.std.proofs.lemmas.List.{length-append, map-append, reverse-append}
use Rattle.std.proofs.lemmas.List.Elements.{All-append, All-cons, All-nil}
use Rattle.f3_program.specs.declared.program.Procedure.{Procedure}
use Rattle.f3_meaning_whole.specs.Act.{Setting}
use Rattle.f3_meaning_whole.specs.Exec.{declared_in, variables}
use Rattle.f3_code.specs.Core as o
use Rattle.f3_code.specs.Work as w
use Rattle.f3_code.specs.Lower.{lowered_procedure}
use Rattle.f3_code.specs.State as c
use Rattle.f3_code.specs.declared.instruction.Instruction.TheVariants as i
use Rattle.f3_code.specs.Code.{body_code, entries, places_of, procedures_code, routines_code, work_code}
use Rattle.f3_gen_procedures.specs.Ends.{procedure_ends, routine_ends}
use Rattle.f3_gen_values.specs.Emission.{entries_in}

-- one place more
pub places_more : (total : ℕ) (found after xs : List ℕ) (n : ℕ) → 0 < n → n ≤ length xs → found ≡ map (λ k. total - k) (reverse (drop n xs))
    → after ≡ found ++ (total - get_or xs (n - 1) 0) ∷ [] → after ≡ map (λ k. total - k) (reverse (drop (n - 1) xs))
places_more total found after xs n low high e f =
    let next : suc (n - 1) ≡ n = omega arith in
    let within : n - 1 < length xs = omega arith in
    let all : drop (n - 1) xs ≡ get_or xs (n - 1) 0 ∷ drop n xs = drop-cons xs (n - 1) 0 within ∙ ap (λ j. get_or xs (n - 1) 0 ∷ drop j xs) next in
    f ∙ ap (λ l. l ++ (total - get_or xs (n - 1) 0) ∷ []) e
    ∙ sym (map-append (λ k. total - k) (reverse (drop n xs)) (get_or xs (n - 1) 0 ∷ []))
    ∙ ap (λ l. map (λ k. total - k) l) (sym (reverse-append (get_or xs (n - 1) 0 ∷ []) (drop n xs)))
    ∙ ap (λ l. map (λ k. total - k) (reverse l)) (sym all)

-- ---- where they begin, by what stands from them on

abbrev entry : Setting → Procedure → ℕ → c.Entry
entry g p k = record { at = k; unit = p.unit; dummies = p.dummies.items; variables = declared_in p; initial = variables g p }

pub procedures_placed : (g : Setting) (m n total at : ℕ) (ps : List Procedure) → n + (at + length (procedures_code m (map (lowered_procedure g) ps))) ≡ total
    → entries_in g ps (map (λ k. total - k) (procedure_ends m n (map (lowered_procedure g) ps))) ≡ entries m at (map (lowered_procedure g) ps)
procedures_placed g m n total at [] e = refl
procedures_placed g m n total at (p ∷ ps) e =
    let long : length (body_code m (lowered_procedure g p) ++ procedures_code m (map (lowered_procedure g) ps))
    ≡ length (body_code m (lowered_procedure g p)) + length (procedures_code m (map (lowered_procedure g) ps)) = length-append (body_code m (lowered_procedure g p)) (procedures_code m (map (lowered_procedure g) ps)) in
    let here : total - (n + length (body_code m (lowered_procedure g p) ++ procedures_code m (map (lowered_procedure g) ps))) ≡ at = omega arith in
    let rest : n + (at + length (body_code m (lowered_procedure g p)) + length (procedures_code m (map (lowered_procedure g) ps))) ≡ total = omega arith in
    ap (λ k. entry g p k ∷ entries_in g ps (map (λ k. total - k) (procedure_ends m n (map (lowered_procedure g) ps)))) here
    ∙ ap (λ l. entry g p at ∷ l) (procedures_placed g m n total (at + length (body_code m (lowered_procedure g p))) ps rest)

pub routines_placed : (n total at : ℕ) (xs : List w.Work) → n + (at + length (routines_code xs)) ≡ total → map (λ k. total - k) (routine_ends n xs) ≡ places_of at xs
routines_placed n total at [] e = refl
routines_placed n total at (x ∷ xs) e =
    let long : length (work_code (length xs) None x ++ (c.line None i.Back ∷ routines_code xs)) ≡ length (work_code (length xs) None x) + suc (length (routines_code xs))
    = length-append (work_code (length xs) None x) (c.line None i.Back ∷ routines_code xs) in
    let here : total - (n + length (work_code (length xs) None x ++ (c.line None i.Back ∷ routines_code xs))) ≡ at = omega arith in
    let rest : n + (at + length (work_code (length xs) None x) + 1 + length (routines_code xs)) ≡ total = omega arith in
    ap (λ k. k ∷ map (λ k. total - k) (routine_ends n xs)) here ∙ ap (λ l. at ∷ l) (routines_placed n total (at + length (work_code (length xs) None x) + 1) xs rest)

-- ---- no more lines stand from them on than there are

behind : (total n : ℕ) (ks : List ℕ) → n ≤ total → All (λ k. k ≤ total) (reverse ks) → All (λ k. k ≤ total) (reverse (n ∷ ks))
behind total n ks low all = subst (λ l. All (λ k. k ≤ total) l) (sym (reverse-append (n ∷ []) ks))
    (All-append (λ k. k ≤ total) (reverse ks) (n ∷ []) all (All-cons (λ k. k ≤ total) n [] low (All-nil (λ k. k ≤ total))))

pub procedures_within : (total m n : ℕ) (ps : List o.Procedure) → n + length (procedures_code m ps) ≤ total → All (λ k. k ≤ total) (reverse (procedure_ends m n ps))
procedures_within total m n [] h = All-nil (λ k. k ≤ total)
procedures_within total m n (p ∷ ps) h = behind total (n + length (body_code m p ++ procedures_code m ps)) (procedure_ends m n ps) h
    (procedures_within total m n ps (omega (arith, length-append (body_code m p) (procedures_code m ps))))

pub routines_within : (total n : ℕ) (xs : List w.Work) → n + length (routines_code xs) ≤ total → All (λ k. k ≤ total) (reverse (routine_ends n xs))
routines_within total n [] h = All-nil (λ k. k ≤ total)
routines_within total n (x ∷ xs) h = behind total (n + length (work_code (length xs) None x ++ (c.line None i.Back ∷ routines_code xs))) (routine_ends n xs) h
    (routines_within total n xs (omega (arith, length-append (work_code (length xs) None x) (c.line None i.Back ∷ routines_code xs))))
