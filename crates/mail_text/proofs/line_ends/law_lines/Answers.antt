use Rattle.mail_text.proofs.LineLemmas.{lines-append, lines-joined, AreLines-lines, IsCrlf-joined}
use Rattle.mail_text.proofs.PieceLemmas.{pieces_of_crlf, joined-pieces}
use Rattle.mail_text.proofs.line_ends.law_lines.Goals as goal

pub returns : goal.returns
returns c = record {
  appended = lines-append;
  read_again = lines-joined;
  are_lines = AreLines-lines;
  is_crlf = IsCrlf-joined;
  pieces_of_crlf = pieces_of_crlf;
  pieces_joined = joined-pieces;
}
