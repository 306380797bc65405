use Rattle.date_grammar.proofs.CommentLemmas.{comment_blank, comment_begins}
use Rattle.date_grammar.proofs.laws.law_comments.Goals as goal

pub returns : goal.returns
returns c = record { blank = comment_blank; begins = comment_begins }
