use Rattle.std.proofs.Common.{◌≡◌, true, sym, subst}
use Rattle.std.specs.List.{AllByRecursion}
use Rattle.mail_stands.specs.Storing.{is_there}
use Rattle.mail_stands.specs.Expunging.{AreNotGone, there_of}
use Rattle.mail_stands.proofs.Among.{apart_filter}
use Rattle.mail_stands.proofs.Appending.{itself}
use Rattle.mail_stands.proofs.Removing.{all_pass, expunge_keeps, expunge_runs}
use Rattle.mail_stands.proofs.Expunged.{expunge_leads, expunge_same, expunge_stays, none_gone}
use Rattle.mail_stands.proofs.Heading.{row_id}
use Rattle.mail_stands.proofs.Stored.{sorted_apart}
use Rattle.mail_stands.proofs.expunging.expunge.Goals as goal

pub returns-clause-refusal : goal.returns-clause-refusal
returns-clause-refusal c content t world id uids whole s =
    expunge_same (record {
      same = c.keys.ensures.same;
      itself = c.keys.ensures.itself;
      places = c.keys.ensures.places;
      gone = c.insertion.ensures;
      no_entries = record { same = c.row_after_remove.ensures.same; other = c.row_after_remove.ensures.other };
      no_flags = record { same = c.row_after_remove-2.ensures.same; other = c.row_after_remove-2.ensures.other };
      heads = record { same = c.row_after_replace.ensures.same; other = c.row_after_replace.ensures.other };
      at_keys = c.rows_at_keys.ensures;
      one_end = c.changes_have_one_end.ensures;
      stays = c.stores_stay_legal.ensures.changed;
    }) content t world id uids s

pub returns-clause-apart : goal.returns-clause-apart
returns-clause-apart c content t world id row uids s found =
    none_gone (record {
      same = c.keys.ensures.same;
      itself = c.keys.ensures.itself;
      places = c.keys.ensures.places;
      gone = c.insertion.ensures;
      no_entries = record { same = c.row_after_remove.ensures.same; other = c.row_after_remove.ensures.other };
      no_flags = record { same = c.row_after_remove-2.ensures.same; other = c.row_after_remove-2.ensures.other };
      heads = record { same = c.row_after_replace.ensures.same; other = c.row_after_replace.ensures.other };
      at_keys = c.rows_at_keys.ensures;
      one_end = c.changes_have_one_end.ensures;
      stays = c.stores_stay_legal.ensures.changed;
    }) content t world id row uids s found

pub returns-clause-leads : goal.returns-clause-leads
returns-clause-leads c content t world id row uids whole s found sorted some none =
    expunge_leads (record {
      same = c.keys.ensures.same;
      itself = c.keys.ensures.itself;
      places = c.keys.ensures.places;
      gone = c.insertion.ensures;
      no_entries = record { same = c.row_after_remove.ensures.same; other = c.row_after_remove.ensures.other };
      no_flags = record { same = c.row_after_remove-2.ensures.same; other = c.row_after_remove-2.ensures.other };
      heads = record { same = c.row_after_replace.ensures.same; other = c.row_after_replace.ensures.other };
      at_keys = c.rows_at_keys.ensures;
      one_end = c.changes_have_one_end.ensures;
      stays = c.stores_stay_legal.ensures.changed;
    }) content t world id row uids s found whole (sorted_apart uids sorted) some none

pub returns-clause-stays : goal.returns-clause-stays
returns-clause-stays c content t world id uids whole s none =
    expunge_stays (record {
      same = c.keys.ensures.same;
      itself = c.keys.ensures.itself;
      places = c.keys.ensures.places;
      gone = c.insertion.ensures;
      no_entries = record { same = c.row_after_remove.ensures.same; other = c.row_after_remove.ensures.other };
      no_flags = record { same = c.row_after_remove-2.ensures.same; other = c.row_after_remove-2.ensures.other };
      heads = record { same = c.row_after_replace.ensures.same; other = c.row_after_replace.ensures.other };
      at_keys = c.rows_at_keys.ensures;
      one_end = c.changes_have_one_end.ensures;
      stays = c.stores_stay_legal.ensures.changed;
    }) content t world id uids s none

pub returns-clause-fit : goal.returns-clause-fit
returns-clause-fit c t id row uids whole text found sorted gone = (
  _,
  expunge_runs (record {
    same = c.keys.ensures.same;
    itself = c.keys.ensures.itself;
    places = c.keys.ensures.places;
    gone = c.insertion.ensures;
    no_entries = record { same = c.row_after_remove.ensures.same; other = c.row_after_remove.ensures.other };
    no_flags = record { same = c.row_after_remove-2.ensures.same; other = c.row_after_remove-2.ensures.other };
    heads = record { same = c.row_after_replace.ensures.same; other = c.row_after_replace.ensures.other };
    at_keys = c.rows_at_keys.ensures;
    one_end = c.changes_have_one_end.ensures;
    stays = c.stores_stay_legal.ensures.changed;
  }) t row whole (itself t id row found) (there_of t id uids) (subst (λ k. AllByRecursion (λ u. is_there t k u ≡ true) (there_of t id uids)) (sym (row_id t.heads.mailboxes id row found)) (all_pass (is_there t id) uids))
      (apart_filter (is_there t id) uids (sorted_apart uids sorted)) (subst (λ k. AreNotGone t k (there_of t id uids)) (sym (row_id t.heads.mailboxes id row found)) gone) text,
)

pub returns-clause-owners : goal.returns-clause-owners
returns-clause-owners c t after id row uids whole text found sorted gone runs =
    expunge_keeps (record {
      same = c.keys.ensures.same;
      itself = c.keys.ensures.itself;
      places = c.keys.ensures.places;
      gone = c.insertion.ensures;
      no_entries = record { same = c.row_after_remove.ensures.same; other = c.row_after_remove.ensures.other };
      no_flags = record { same = c.row_after_remove-2.ensures.same; other = c.row_after_remove-2.ensures.other };
      heads = record { same = c.row_after_replace.ensures.same; other = c.row_after_replace.ensures.other };
      at_keys = c.rows_at_keys.ensures;
      one_end = c.changes_have_one_end.ensures;
      stays = c.stores_stay_legal.ensures.changed;
    }) t row whole (itself t id row found) (there_of t id uids) (subst (λ k. AllByRecursion (λ u. is_there t k u ≡ true) (there_of t id uids)) (sym (row_id t.heads.mailboxes id row found)) (all_pass (is_there t id) uids))
    (apart_filter (is_there t id) uids (sorted_apart uids sorted)) (subst (λ k. AreNotGone t k (there_of t id uids)) (sym (row_id t.heads.mailboxes id row found)) gone) text after runs
