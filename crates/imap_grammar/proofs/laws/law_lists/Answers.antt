use Rattle.imap_grammar.specs.declared.classes.Class.TheVariants.{Atom, Astring}
use Rattle.imap_grammar.proofs.ListLaws.{is_list}
use Rattle.imap_grammar.proofs.RuleLaws.{range_takes, flag_takes, some_takes, string_or_takes, status_takes}
use Rattle.imap_grammar.proofs.ItemLaws.{opening_takes, fetch_item_takes, sort_key_takes, within_takes, numbers_suffice}
use Rattle.imap_grammar.proofs.laws.law_lists.Goals as goal

pub returns-clause-ranges : goal.returns-clause-ranges
returns-clause-ranges c = is_list range_takes

pub returns-clause-flags : goal.returns-clause-flags
returns-clause-flags c = is_list flag_takes

pub returns-clause-atoms : goal.returns-clause-atoms
returns-clause-atoms c = is_list (some_takes Atom)

pub returns-clause-names : goal.returns-clause-names
returns-clause-names c = is_list (string_or_takes Astring)

pub returns-clause-status : goal.returns-clause-status
returns-clause-status c = is_list status_takes

pub returns-clause-openings : goal.returns-clause-openings
returns-clause-openings c = is_list opening_takes

pub returns-clause-items : goal.returns-clause-items
returns-clause-items c = is_list fetch_item_takes

pub returns-clause-sorted : goal.returns-clause-sorted
returns-clause-sorted c = is_list sort_key_takes

pub returns-clause-keys : goal.returns-clause-keys
returns-clause-keys c levels = is_list (within_takes levels)

pub returns-clause-numbers : goal.returns-clause-numbers
returns-clause-numbers c = numbers_suffice
