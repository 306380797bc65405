use Rattle.std.proofs.Common.{◌++◌, ℕ, Bool, true, false, List, map, get_or, take, sym, ap, subst, ◌∙◌}
use Rattle.std.proofs.lemmas.List.{append-nil, append_assoc}
use Rattle.row_tables.specs.TableRows.{TableRows}
use Rattle.row_store.specs.Holding.{in_row}
use Rattle.fetch_writer.specs.Told.{item_told}
use Rattle.mail_stands.specs.Stands.{Stands}
use Rattle.imap_steps.specs.Storing.{entry_of}
use Rattle.imap_steps.specs.Fetching.{fetched}
use Rattle.imap_exec.specs.Fetching.{AreTold, line_with}
use Rattle.imap_exec.proofs.FetchLines.{fetched_more, fetched_none}
use Rattle.imap_exec.proofs.FetchReading.{Done, reads_more, reads_none}
use Rattle.imap_exec.proofs.fetch_lines.tell_messages.Goals as goal

pub loop-uid-init : goal.loop-uid-init
loop-uid-init g c =
    let before = c.args.answer.now.items in (
      reads_none g.D.Disk.told c.args.store.now c.requires.usable,
      λ w stands. sym (ap (λ (l : List ℕ). before ++ l) (fetched_none w c.args.selection.now c.args.by_uid c.args.items.now c.args.seen.now) ∙ append-nil before),
    )

pub loop-uid-preserved : goal.loop-uid-preserved
loop-uid-preserved g c =
    let its = c.loop-uid.invariant in
    let before = c.args.answer.now.items in
    let chosen = c.args.selection.now in
    let by_uid = c.args.by_uid in
    let items = c.args.items.now in
    let seen = c.args.seen.now in
    let uids = c.args.uids.now in
    let k = c.loop-uid.uid-index in
    let uid = get_or uids k 0 in
    let plain : AreTold by_uid items false c.reads_header-header.result c.reads_body-body.result (map item_told c.as_slice.result.now) = record {
      items = ap (map item_told) c.as_slice.ensures.value ∙ c.in_ok-plain.ensures;
      header_is = c.reads_header-header.ensures;
      body_is = c.reads_body-body.ensures;
    } in
    let more : AreTold by_uid items true c.reads_header-header.result c.reads_body-body.result (map item_told c.as_slice-in-loop-uid.result.now) = record {
      items = ap (map item_told) c.as_slice-in-loop-uid.ensures.value ∙ c.in_ok-more.ensures;
      header_is = c.reads_header-header.ensures;
      body_is = c.reads_body-body.ensures;
    } in (
      reads_more g.D.Disk.told Done c.args.store.now c.loop-uid.store c.tell_either.new.store its.0 c.in_ok-tell_either.ensures.reads,
      λ w stands.
          let there = subst (λ (t : TableRows). Stands in_row t w) (sym its.0.tables) stands in
          let line : Bool → List ℕ = λ b. line_with by_uid chosen.view items b (entry_of w chosen.mailbox uid) in
          let last = line c.is_one_of-changed.result in
          c.in_ok-tell_either.ensures.line w by_uid items there plain more
          ∙ (ap (λ (l : List ℕ). l ++ last) (its.1 w stands)
          ∙ (append_assoc before (fetched w chosen by_uid items seen (take k uids)) last
          ∙ (ap (λ (b : Bool). before ++ (fetched w chosen by_uid items seen (take k uids) ++ line b)) c.is_one_of-changed.ensures
          ∙ ap (λ (l : List ℕ). before ++ l) (sym (fetched_more w chosen by_uid items seen uids k c.loop-uid-test.true))))),
    )
