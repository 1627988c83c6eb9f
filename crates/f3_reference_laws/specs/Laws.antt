-- The expressions of an elaborated program refer to functions alone.
use Rattle.std.specs.Prelude.{◌≡◌, ℕ, Bool, true, List, Some, slice_get}
use Rattle.f3_lookups.specs.declared.lookup.Lookup.{Lookup}
use Rattle.f3_tree.specs.Tree.{Tree}
use Rattle.f3_program.specs.declared.program.Procedure.{Procedure}
use Rattle.f3_program.specs.declared.program.Program.{Program}
use Rattle.f3_kinds.specs.declared.types.Object.{Object}
use Rattle.f3_kinds.specs.declared.things.Dummy.{Dummy}
use Rattle.f3_kinds.specs.Things.{function}
use Rattle.f3_meaning_whole.specs.Permitted.{Each}
use Rattle.f3_elaboration.specs.Declarations.{Whole}
use Rattle.f3_elaboration.specs.DeclaredViews.{program_view}
use Rattle.f3_elaboration.specs.Numbers.{number_in}
use Rattle.f3_elaboration.specs.Program.{elaborated}
use Rattle.f3_lawful_laws.specs.Entities.{whole_of}
use Rattle.f3_pure_laws.specs.References.{is_function, StatementRefers}

-- What the rules take for a function is one of the elaborated program: it has a result (ISO/IEC 1539-1:2004, 12.5.2.1).
abbrev pub HaveResults : Program → Whole → Type 0
HaveResults p w = (e : ℕ) (pure : Bool) (ds : List (ℕ × Dummy)) (o : Object) → slice_get (w.scene).natures e ≡ Some (function pure ds o)
    → is_function (slice_get p.procedures.items (number_in (w.numbers).procedures e)) ≡ true

-- Then, wherever an expression stands in the elaborated program, each reference in it is one to a function (12.4.2).
abbrev pub ElaboratedRefers : Type 0
ElaboratedRefers = (t : Tree) (look : ℕ → ℕ → Lookup) (order : List ℕ) (p : Program) → program_view p ≡ elaborated t look order
    → HaveResults p (whole_of t look order)
    → StatementRefers p p.main.body × Each (λ (q : Procedure). StatementRefers p q.body) p.procedures.items
