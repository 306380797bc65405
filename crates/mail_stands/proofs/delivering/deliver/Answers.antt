use Rattle.mail_stands.proofs.Receiving.{uid_same}
use Rattle.mail_stands.proofs.Delivered.{deliver_keeps, deliver_leads, deliver_runs, deliver_stays, named_free}
use Rattle.mail_stands.proofs.delivering.deliver.Goals as goal

pub returns-clause-uids : goal.returns-clause-uids
returns-clause-uids c content t world user whole s = uid_same c.keys.ensures.places content t world whole s user

pub returns-clause-free : goal.returns-clause-free
returns-clause-free c content t world user row whole s named =
    named_free (record {
      same = c.keys.ensures.same;
      places = c.keys.ensures.places;
      heads = c.insertion.ensures;
      entries = c.insertion-2.ensures;
      replaces = record { same = c.row_after_replace.ensures.same; other = c.row_after_replace.ensures.other };
      one_end = c.changes_have_one_end.ensures;
      stays = c.stores_stay_legal.ensures.changed;
    }) content t world user row whole s named

pub returns-clause-leads : goal.returns-clause-leads
returns-clause-leads c content t world users date mail taken message rows heads whole s print are all brings =
    deliver_leads (record {
      same = c.keys.ensures.same;
      places = c.keys.ensures.places;
      heads = c.insertion.ensures;
      entries = c.insertion-2.ensures;
      replaces = record { same = c.row_after_replace.ensures.same; other = c.row_after_replace.ensures.other };
      one_end = c.changes_have_one_end.ensures;
      stays = c.stores_stay_legal.ensures.changed;
    }) content t users date mail taken message rows heads whole are brings c.insertion-3.ensures c.insertion-4.ensures world s print all

pub returns-clause-stays : goal.returns-clause-stays
returns-clause-stays c content t world users date mail taken whole s all = deliver_stays c.keys.ensures.places content t world users date mail taken whole s all

pub returns-clause-fit : goal.returns-clause-fit
returns-clause-fit c content t users date mail taken message rows heads whole are brings = (
  _,
  deliver_runs (record {
    same = c.keys.ensures.same;
    places = c.keys.ensures.places;
    heads = c.insertion.ensures;
    entries = c.insertion-2.ensures;
    replaces = record { same = c.row_after_replace.ensures.same; other = c.row_after_replace.ensures.other };
    one_end = c.changes_have_one_end.ensures;
    stays = c.stores_stay_legal.ensures.changed;
  }) content t users date mail taken message rows heads whole are brings,
)

pub returns-clause-owners : goal.returns-clause-owners
returns-clause-owners c content t after users date mail taken message rows heads whole are brings runs =
    deliver_keeps (record {
      same = c.keys.ensures.same;
      places = c.keys.ensures.places;
      heads = c.insertion.ensures;
      entries = c.insertion-2.ensures;
      replaces = record { same = c.row_after_replace.ensures.same; other = c.row_after_replace.ensures.other };
      one_end = c.changes_have_one_end.ensures;
      stays = c.stores_stay_legal.ensures.changed;
    }) content t users date mail taken message rows heads whole are brings after runs
