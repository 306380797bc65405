use Rattle.address_grammar.specs.Printing.{printed}
use Rattle.address_grammar.proofs.PrintedLists.{reads_printed}
use Rattle.address_grammar.proofs.ReadLemmas.{reads, reading_of}
use Rattle.address_grammar.proofs.ReadItems.{read_is_good}
use Rattle.address_grammar.proofs.CleanLemmas.{no_control}
use Rattle.address_grammar.proofs.TrimmedLemmas.{printed_trimmed}
use Rattle.address_grammar.proofs.laws.law_addresses.Goals as goal

pub returns : goal.returns
returns c = record {
  is_grammar = λ value items. (reads value items, reading_of value items);
  read_again = λ value items r. let s = read_is_good value items (reading_of value items r) in reads (printed items) items (reads_printed items s.good s.whole s.some);
  is_trimmed = λ value items r. let s = read_is_good value items (reading_of value items r) in printed_trimmed items s.good s.whole s.some;
  no_control = λ value items b r small h. no_control b value items small r h;
}
