use Rattle.std.proofs.Common.{List, sym, subst}
use Rattle.f3_program.specs.declared.declarations.Declared.{Declared}
use Rattle.f3_rooms.specs.Forms.{total}
use Rattle.f3_sizes.specs.Words.{AreWords}
use Rattle.f3_sizes.proofs.Rows.{total_with, total_none}
use Rattle.f3_sizes.proofs.words.frame.Goals as goal

pub returns-in-Some : goal.returns-in-Some
returns-in-Some c = λ ts have.
    let locals = c.args.procedure.now.locals.items in
    let first = subst (λ (ds : List Declared). AreWords c.row-locals.result (total ts ds)) c.deref.ensures.value (c.row-locals.ensures ts have) in
    subst (λ n. AreWords c.behind.result n) (sym (total_with ts locals c.args.procedure.now.result c.in-Some.last c.in-Some.is))
    (c.behind.ensures ts (total ts locals) have first)

pub returns-in-None : goal.returns-in-None
returns-in-None c = λ ts have.
    let locals = c.args.procedure.now.locals.items in
    let first = subst (λ (ds : List Declared). AreWords c.row-locals.result (total ts ds)) c.deref.ensures.value (c.row-locals.ensures ts have) in
    subst (λ n. AreWords c.row-locals.result n) (sym (total_none ts locals c.args.procedure.now.result c.in-None.is)) first
