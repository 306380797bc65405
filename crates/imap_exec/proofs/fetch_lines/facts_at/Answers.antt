use Rattle.std.proofs.Common.{◌≡◌, Bool, Some, sym, ap, ◌∙◌}
use Rattle.row_store.specs.Holding.{stored_by}
use Rattle.fetch_writer.specs.declared.facts.MessageFacts.{MessageFacts}
use Rattle.std.specs.Option.{option_map}
use Rattle.mail_world.specs.Worlds.{is_among}
use Rattle.imap_steps.specs.Fetching.{facts_of}
use Rattle.imap_steps.specs.Storing.{entry_of}
use Rattle.imap_exec.proofs.FetchLines.{entry_uid, facts_found}
use Rattle.imap_exec.proofs.fetch_lines.facts_at.Goals as goal

pub returns : goal.returns
returns c content w stands =
    let row = c.in-Some.row.now in
    let facts : Bool → MessageFacts =
    λ b. record { uid = c.args.uid; modseq = row.modseq; flags = c.in-Some-2.flags; recent = b; size = c.in-Some-size_at.size; date = c.date_of.result } in
    let o = entry_of w c.args.selection.now.mailbox c.args.uid in
    let recent : c.is_recent.result ≡ is_among c.args.uid c.args.selection.now.view.recent = c.is_recent.ensures in
    let found : Some (facts (is_among c.args.uid c.args.selection.now.view.recent)) ≡ option_map (facts_of c.args.selection.now.view) o =
    facts_found (stored_by content c.args.tables.now) c.args.selection.now.view c.args.uid row c.in-Some-size_at.size c.in-Some-2.flags c.date_of.result o c.date_of.ensures.seconds c.date_of.ensures.zone
    (λ entry found. entry_uid w c.args.selection.now.mailbox c.args.uid entry found) (c.in-Some.ensures.entry content w stands) (c.in-Some-size_at.ensures content w stands)
    (sym c.in-Some-2.is ∙ c.in_ok-flags.ensures content w stands) in
    let whole : Some (facts c.is_recent.result) ≡ option_map (facts_of c.args.selection.now.view) o = ap (λ (b : Bool). Some (facts b)) recent ∙ found in
    whole
