use Rattle.date_grammar.proofs.StampLaws.{sent_again, now_again, internal_print_again, read_has_print}
use Rattle.date_grammar.proofs.laws.law_dates.Goals as goal

pub returns : goal.returns
returns c = record { sent = sent_again; now = now_again; internal = internal_print_again; has_print = read_has_print }
