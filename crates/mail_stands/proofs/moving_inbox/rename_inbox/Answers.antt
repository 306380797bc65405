use Rattle.mail_stands.proofs.InboxMoved.{inbox_can, inbox_leads, inbox_same}
use Rattle.mail_stands.proofs.MovingRuns.{moving_keeps, moving_runs}
use Rattle.std.proofs.Common.{subst}
use Rattle.mail_stands.specs.Leading.{KeepsOwners}
use Rattle.mail_stands.specs.MovingInbox.{rename_inbox_changes}
use Rattle.mail_stands.proofs.moving_inbox.rename_inbox.Goals as goal

pub returns-clause-refusal : goal.returns-clause-refusal
returns-clause-refusal c content t world owner from to whole s is = inbox_same c.keys.ensures.places content t world owner whole s from to is

pub returns-clause-can : goal.returns-clause-can
returns-clause-can c content t world owner to row whole s found none = inbox_can (record {
  same = c.keys.ensures.same;
  itself = c.keys.ensures.itself;
  places = c.keys.ensures.places;
  boxes = c.insertion.ensures;
  entries = c.insertion-2.ensures;
  flags = c.insertion-3.ensures;
  gone = c.insertion-4.ensures;
  no_entries = record { same = c.row_after_remove.ensures.same; other = c.row_after_remove.ensures.other };
  no_flags = record { same = c.row_after_remove-2.ensures.same; other = c.row_after_remove-2.ensures.other };
}) (record { entries = c.rows_at_keys.ensures; flags = c.rows_at_keys-2.ensures }) c.keys.ensures.numbers content t world owner row whole s found to none

pub returns-clause-leads : goal.returns-clause-leads
returns-clause-leads c content t world owner from to row whole s is found none =
    inbox_leads (record {
      same = c.keys.ensures.same;
      itself = c.keys.ensures.itself;
      places = c.keys.ensures.places;
      boxes = c.insertion.ensures;
      entries = c.insertion-2.ensures;
      flags = c.insertion-3.ensures;
      gone = c.insertion-4.ensures;
      no_entries = record { same = c.row_after_remove.ensures.same; other = c.row_after_remove.ensures.other };
      no_flags = record { same = c.row_after_remove-2.ensures.same; other = c.row_after_remove-2.ensures.other };
    }) (record { entries = c.rows_at_keys.ensures; flags = c.rows_at_keys-2.ensures }) c.keys.ensures.numbers content t world owner row whole s found c.stores_stay_legal.ensures.changed from to is none

pub returns-clause-fit : goal.returns-clause-fit
returns-clause-fit c t to row whole can = (
  _,
  moving_runs (record {
    same = c.keys.ensures.same;
    itself = c.keys.ensures.itself;
    places = c.keys.ensures.places;
    boxes = c.insertion.ensures;
    entries = c.insertion-2.ensures;
    flags = c.insertion-3.ensures;
    gone = c.insertion-4.ensures;
    no_entries = record { same = c.row_after_remove.ensures.same; other = c.row_after_remove.ensures.other };
    no_flags = record { same = c.row_after_remove-2.ensures.same; other = c.row_after_remove-2.ensures.other };
  }) (record { entries = c.rows_at_keys.ensures; flags = c.rows_at_keys-2.ensures }) t to row whole can,
)

pub returns-clause-owners : goal.returns-clause-owners
returns-clause-owners c t after to row whole can runs =
    subst (KeepsOwners t) (c.changes_have_one_end.ensures t (rename_inbox_changes t to row) _ after (moving_runs (record {
      same = c.keys.ensures.same;
      itself = c.keys.ensures.itself;
      places = c.keys.ensures.places;
      boxes = c.insertion.ensures;
      entries = c.insertion-2.ensures;
      flags = c.insertion-3.ensures;
      gone = c.insertion-4.ensures;
      no_entries = record { same = c.row_after_remove.ensures.same; other = c.row_after_remove.ensures.other };
      no_flags = record { same = c.row_after_remove-2.ensures.same; other = c.row_after_remove-2.ensures.other };
    }) (record { entries = c.rows_at_keys.ensures; flags = c.rows_at_keys-2.ensures }) t to row whole can) runs) (moving_keeps (record {
      same = c.keys.ensures.same;
      itself = c.keys.ensures.itself;
      places = c.keys.ensures.places;
      boxes = c.insertion.ensures;
      entries = c.insertion-2.ensures;
      flags = c.insertion-3.ensures;
      gone = c.insertion-4.ensures;
      no_entries = record { same = c.row_after_remove.ensures.same; other = c.row_after_remove.ensures.other };
      no_flags = record { same = c.row_after_remove-2.ensures.same; other = c.row_after_remove-2.ensures.other };
    }) (record { entries = c.rows_at_keys.ensures; flags = c.rows_at_keys-2.ensures }) t to row whole can (record { same = c.row_after_replace.ensures.same; other = c.row_after_replace.ensures.other }))
