use Rattle.std.proofs.Common.{◌≡◌, ◌<◌, ◌≤◌, ℕ}
use Rattle.std.specs.List.{All}
use Rattle.f3_program.specs.declared.statement.Statement.{size-Statement}
use Rattle.f3_meaning_whole.specs.Act.{Setting}
use Rattle.f3_code.specs.Lower.{lowered}
use Rattle.f3_code.specs.Code.{Ways, code_of}
use Rattle.f3_gen_statements.specs.Chain.{chain_code}
use Rattle.f3_gen_statements.proofs.chain.chain_of.Given as goal

abbrev pub invariant-loop-last : goal.invariant-loop-last
invariant-loop-last l = record {
  code : (m : ℕ) → (g : Setting) → (ws : Ways) → code_of m l.fn.place (lowered g l.statement) ws ≡ chain_code m g l.links.items (code_of m l.place (lowered g l.last) ws) ws;
  parts : All (λ k. size-Statement k.then.now < size-Statement l.statement) l.links.items;
  within : size-Statement l.last ≤ size-Statement l.statement;
}

abbrev pub decreases-loop-last : goal.decreases-loop-last
decreases-loop-last l = size-Statement l.last
