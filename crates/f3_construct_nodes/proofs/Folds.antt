-- Branches and cases, the last one first.
use Rattle.std.proofs.Common.{◌≡◌, ℕ, nat_eq, Bool, true, false, List, [], ◌∷◌, ◌++◌, length, map, refl, sym, ap, ◌∙◌, arith}
use Rattle.std.proofs.lemmas.Bool.{ne_eqb}
use Rattle.std.proofs.lemmas.List.{map-append}
use Rattle.f3_elaboration.specs.Nodes as n
use Rattle.f3_elaboration.specs.Nodes.{StatementNode}
use Rattle.f3_construct_nodes.specs.declared.branches.Branch.{Branch}
use Rattle.f3_construct_nodes.specs.declared.cases.Case.{Case}
use Rattle.f3_construct_nodes.specs.Nested.{BranchNode, CaseNode, branch_of, branched, case_of, chosen}

-- whether none stands before it
abbrev is_first : {X : Type 0} → List X → Bool
is_first [] = true
is_first (x ∷ xs) = false

branched_later : (bs : List BranchNode) (b : BranchNode) (o : StatementNode) → branched false (bs ++ (b ∷ [])) o ≡ branched false bs (n.at b.place false (n.branch b.condition b.block o))
branched_later [] b o = refl
branched_later (x ∷ bs) b o = ap (λ y. n.at x.place false (n.branch x.condition x.block y)) (branched_later bs b o)

branched_last : (bs : List BranchNode) (b : BranchNode) (o : StatementNode) → branched true (bs ++ (b ∷ [])) o ≡ branched true bs (n.at b.place (is_first bs) (n.branch b.condition b.block o))
branched_last [] b o = refl
branched_last (x ∷ bs) b o = ap (λ y. n.at x.place true (n.branch x.condition x.block y)) (branched_later bs b o)

first_by : (bs : List Branch) (l : ℕ) → l ≡ length bs → nat_eq l 0 ≡ is_first (map branch_of bs)
first_by [] l e = ap (λ k. nat_eq k 0) e
first_by (b ∷ bs) l e = ne_eqb l 0 (λ z. absurd (omega (arith, e, z)))

-- the last branch, taken from a list
pub branch_popped : (list rest : List Branch) (b : Branch) (l : ℕ) (first : Bool) (before inner after whole : StatementNode) → list ≡ rest ++ (b ∷ []) → l ≡ length rest → first ≡ nat_eq l 0
    → inner ≡ n.branch (branch_of b).condition (branch_of b).block before → after ≡ n.at b.place first inner
    → branched true (map branch_of list) before ≡ whole → branched true (map branch_of rest) after ≡ whole
branch_popped list rest b l first before inner after whole e k f i a h =
    ap (branched true (map branch_of rest)) (a ∙ ap (n.at b.place first) i ∙ ap (λ y. n.at b.place y (n.branch (branch_of b).condition (branch_of b).block before)) (f ∙ first_by rest l k))
    ∙ sym (branched_last (map branch_of rest) (branch_of b) before)
    ∙ sym (ap (λ bs. branched true bs before) (ap (map branch_of) e ∙ map-append branch_of rest (b ∷ [])))
    ∙ h

pub chosen_last : (cs : List CaseNode) (c : CaseNode) (o : StatementNode) → chosen (cs ++ (c ∷ [])) o ≡ chosen cs (n.case c.ranges c.block o)
chosen_last [] c o = refl
chosen_last (x ∷ cs) c o = ap (n.case x.ranges x.block) (chosen_last cs c o)

-- the last case, taken from a list
pub case_popped : (list rest : List Case) (c : Case) (before after whole : StatementNode) → list ≡ rest ++ (c ∷ []) → after ≡ n.case (case_of c).ranges (case_of c).block before
    → chosen (map case_of list) before ≡ whole → chosen (map case_of rest) after ≡ whole
case_popped list rest c before after whole e a h =
    ap (chosen (map case_of rest)) a
    ∙ sym (chosen_last (map case_of rest) (case_of c) before)
    ∙ sym (ap (λ cs. chosen cs before) (ap (map case_of) e ∙ map-append case_of rest (c ∷ [])))
    ∙ h

-- a case, pushed to a list
pub case_pushed : (list more : List Case) (c : Case) (o : StatementNode) → more ≡ list ++ (c ∷ []) → chosen (map case_of more) o ≡ chosen (map case_of list) (n.case (case_of c).ranges (case_of c).block o)
case_pushed list more c o e = ap (λ cs. chosen cs o) (ap (map case_of) e ∙ map-append case_of list (c ∷ [])) ∙ chosen_last (map case_of list) (case_of c) o
