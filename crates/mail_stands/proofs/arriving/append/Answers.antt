use Rattle.mail_stands.proofs.Counting.{append_same}
use Rattle.mail_stands.proofs.Appending.{append_leads, append_keeps, append_runs, next_free, itself, new_here}
use Rattle.mail_stands.proofs.arriving.append.Goals as goal

pub returns-clause-refusal : goal.returns-clause-refusal
returns-clause-refusal c content t world id flags date mail taken whole = append_same c.keys.ensures.places content t world id flags date mail taken whole.ordered

pub returns-clause-next : goal.returns-clause-next
returns-clause-next c = next_free

pub returns-clause-leads : goal.returns-clause-leads
returns-clause-leads c = append_leads (record {
  same = c.keys.ensures.same;
  places = c.keys.ensures.places;
  entries = c.insertion.ensures;
  flags = c.insertion-2.ensures;
  names = c.insertion-3.ensures;
  order = c.changes_keep_references.ensures.order;
  stays = c.stores_stay_legal.ensures.changed;
})

pub returns-clause-fit : goal.returns-clause-fit
returns-clause-fit c content t id row flags date mail taken message rows ids names whole text found new proper brings = (
  _,
  append_runs content t mail flags message rows ids names brings row (itself t id row found) date taken c.keys.ensures.same c.insertion.ensures c.insertion-2.ensures c.insertion-3.ensures c.changes_keep_references.ensures.order whole text
      (new_here t id row found new) proper,
)

pub returns-clause-owners : goal.returns-clause-owners
returns-clause-owners c content t after id row flags date mail taken message rows ids names found brings runs =
    append_keeps content t mail flags message rows ids names brings row (itself t id row found) date taken c.keys.ensures.same (record { same = c.row_after_replace.ensures.same; other = c.row_after_replace.ensures.other })
    c.changes_have_one_end.ensures after runs
