use Rattle.std.proofs.Common.{◌≡◌, ◌++◌, take, drop}
use Rattle.mail_text.specs.Texts.{front, behind}
use Rattle.imap_grammar.specs.Classes.{is_in}
use Rattle.imap_grammar.proofs.reader.front_len.Given as goal

abbrev pub invariant-loop-at : goal.invariant-loop-at
invariant-loop-at l =
    (front (is_in l.class) l.text ≡ take l.at l.text ++ front (is_in l.class) (drop l.at l.text))
    × (behind (is_in l.class) l.text ≡ behind (is_in l.class) (drop l.at l.text))
