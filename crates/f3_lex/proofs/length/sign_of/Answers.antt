use Rattle.std.proofs.Common.{inl, inr, sym, arith}
use Rattle.f3_lex.proofs.Lengths.{no_sign, slash_equals, slash_closes, slash_alone, alone}
use Rattle.f3_lex.proofs.length.sign_of.Goals as goal

pub returns-then-second-eq41 : goal.returns-then-second-eq41
returns-then-second-eq41 c = rw c.in-47.is (elim c.if-second-eq41.either [ inl e ↦ sym (slash_equals _ _ e) | inr p ↦ sym (slash_closes _ _ p.0 p.1) ])

pub returns-else-second-eq41 : goal.returns-else-second-eq41
returns-else-second-eq41 c = rw c.in-47.is (sym (slash_alone _ _ c.if-second-eq41.false.0 c.if-second-eq41.false.1))

pub returns-in_default : goal.returns-in_default
returns-in_default c = sym (no_sign _ c.args.first _ (grind arith) (grind arith) (grind arith) (grind arith) (grind arith) (grind arith) (grind arith) (grind arith) (grind arith) (grind arith) (grind arith) (grind arith) (grind arith) (grind arith))

pub returns-in_default-2 : goal.returns-in_default-2
returns-in_default-2 c = sym (no_sign _ c.args.first _ (grind arith) (grind arith) (grind arith) (grind arith) (grind arith) (grind arith) (grind arith) (grind arith) (grind arith) (grind arith) (grind arith) (grind arith) (grind arith) (grind arith))

pub returns-in-43 : goal.returns-in-43
returns-in-43 c = sym (alone _ _ _ c.in-43.is)
