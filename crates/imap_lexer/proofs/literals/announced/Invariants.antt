use Rattle.std.proofs.Common.{◌≡◌, drop}
use Rattle.imap_lexer.specs.Literals.{announced as announced_by}
use Rattle.imap_lexer.specs.Lexer.{capped}
use Rattle.imap_lexer.proofs.literals.announced.Given as goal

-- No announcement begins in front of here.
abbrev pub invariant-starts : goal.invariant-starts
invariant-starts l = capped (announced_by l.line) ≡ capped (announced_by (drop l.start l.line))
