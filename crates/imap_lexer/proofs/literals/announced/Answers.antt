use Rattle.std.proofs.Common.{ℕ, List, ap, sym, ◌∙◌}
use Rattle.imap_lexer.specs.Literals.{announcement as announcement_of}
use Rattle.imap_lexer.specs.Lexer.{capped}
use Rattle.imap_lexer.proofs.Numbers.{announced-later, rest}
use Rattle.imap_lexer.proofs.literals.announced.Goals as goal

pub starts-preserved : goal.starts-preserved
starts-preserved c = c.starts.invariant
    ∙ announced-later c.args.line.now c.starts.start c.starts-test.true
    (sym c.in-None.is ∙ c.announcement.ensures ∙ ap (λ (text : List ℕ). capped (announcement_of text)) (rest c.starts.start c.args.line.now))
