use Rattle.mail_stands.proofs.Appending.{itself}
use Rattle.mail_stands.proofs.Stored.{sorted_apart, store_keeps, store_leads, store_runs, store_same, store_stays}
use Rattle.mail_stands.proofs.storing.store_flags.Goals as goal

pub returns-clause-refusal : goal.returns-clause-refusal
returns-clause-refusal c content t world id uids how flags whole stands storable = store_same (record {
  same = c.keys.ensures.same;
  places = c.keys.ensures.places;
  names = c.insertion-2.ensures;
  flags = c.insertion.ensures;
  removes = record { same = c.row_after_remove.ensures.same; other = c.row_after_remove.ensures.other };
  replaces = record { same = c.row_after_replace.ensures.same; other = c.row_after_replace.ensures.other };
  heads = record { same = c.row_after_replace-2.ensures.same; other = c.row_after_replace-2.ensures.other };
  order = c.changes_keep_references.ensures.order;
  one_end = c.changes_have_one_end.ensures;
  stays = c.stores_stay_legal.ensures.changed;
})
    content t world id uids how flags whole stands storable.proper storable.once

pub returns-clause-leads : goal.returns-clause-leads
returns-clause-leads c content t world id row uids how flags ids names whole stands found storable = store_leads (record {
  same = c.keys.ensures.same;
  places = c.keys.ensures.places;
  names = c.insertion-2.ensures;
  flags = c.insertion.ensures;
  removes = record { same = c.row_after_remove.ensures.same; other = c.row_after_remove.ensures.other };
  replaces = record { same = c.row_after_replace.ensures.same; other = c.row_after_replace.ensures.other };
  heads = record { same = c.row_after_replace-2.ensures.same; other = c.row_after_replace-2.ensures.other };
  order = c.changes_keep_references.ensures.order;
  one_end = c.changes_have_one_end.ensures;
  stays = c.stores_stay_legal.ensures.changed;
})
    content t world id row uids how flags ids names whole stands found storable.proper storable.once (sorted_apart uids storable.ascend)

pub returns-clause-stays : goal.returns-clause-stays
returns-clause-stays c content t world id uids how flags whole stands storable = store_stays (record {
  same = c.keys.ensures.same;
  places = c.keys.ensures.places;
  names = c.insertion-2.ensures;
  flags = c.insertion.ensures;
  removes = record { same = c.row_after_remove.ensures.same; other = c.row_after_remove.ensures.other };
  replaces = record { same = c.row_after_replace.ensures.same; other = c.row_after_replace.ensures.other };
  heads = record { same = c.row_after_replace-2.ensures.same; other = c.row_after_replace-2.ensures.other };
  order = c.changes_keep_references.ensures.order;
  one_end = c.changes_have_one_end.ensures;
  stays = c.stores_stay_legal.ensures.changed;
})
    content t world id uids how flags whole stands storable.proper storable.once

pub returns-clause-fit : goal.returns-clause-fit
returns-clause-fit c t id row uids how flags ids names whole text found storable naming = (
  _,
  store_runs (record {
    same = c.keys.ensures.same;
    places = c.keys.ensures.places;
    names = c.insertion-2.ensures;
    flags = c.insertion.ensures;
    removes = record { same = c.row_after_remove.ensures.same; other = c.row_after_remove.ensures.other };
    replaces = record { same = c.row_after_replace.ensures.same; other = c.row_after_replace.ensures.other };
    heads = record { same = c.row_after_replace-2.ensures.same; other = c.row_after_replace-2.ensures.other };
    order = c.changes_keep_references.ensures.order;
    one_end = c.changes_have_one_end.ensures;
    stays = c.stores_stay_legal.ensures.changed;
  })
      t whole row (itself t id row found) how flags storable.proper storable.once ids names naming uids (sorted_apart uids storable.ascend) text,
)

pub returns-clause-owners : goal.returns-clause-owners
returns-clause-owners c t after id row uids how flags ids names whole text found storable naming = store_keeps (record {
  same = c.keys.ensures.same;
  places = c.keys.ensures.places;
  names = c.insertion-2.ensures;
  flags = c.insertion.ensures;
  removes = record { same = c.row_after_remove.ensures.same; other = c.row_after_remove.ensures.other };
  replaces = record { same = c.row_after_replace.ensures.same; other = c.row_after_replace.ensures.other };
  heads = record { same = c.row_after_replace-2.ensures.same; other = c.row_after_replace-2.ensures.other };
  order = c.changes_keep_references.ensures.order;
  one_end = c.changes_have_one_end.ensures;
  stays = c.stores_stay_legal.ensures.changed;
})
    t whole row (itself t id row found) how flags storable.proper storable.once ids names naming uids (sorted_apart uids storable.ascend) text after
