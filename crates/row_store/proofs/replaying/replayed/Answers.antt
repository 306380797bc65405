use Rattle.std.proofs.Common.{◌≡◌, List, false, true, sym, ◌∙◌, subst, rules}
use Rattle.row_tables.specs.TableRows.{no_rows}
use Rattle.row_store.proofs.Payloads.{Laws, replay_stuck, one_payload_more}
use Rattle.row_store.proofs.replaying.replayed.Goals as goal

pub returns-then-not-branch-clause-none : goal.returns-then-not-branch-clause-none
returns-then-not-branch-clause-none c =
    let laws : Laws = record { one_end = c.changes_have_one_end.ensures; differ = c.encodings_differ.ensures; texts = c.fitting_texts_have_lengths.ensures } in
    let i = c.loop-payload.invariant in
    let none : c.in_ok-replay.field-0 ≡ false = search rules in
    replay_stuck laws no_rows c.loop-payload.tables c.args.payloads.items c.loop-payload.yielded c.loop-payload.payload-iterator.rest.items c.next.new.self.rest.items c.in-Some.payload i.0 i.1 c.in-Some.ensures.steps.0
    (λ changes widths is can. c.in_ok-replay.ensures.not_all none changes widths (c.as_slice.ensures ∙ is) can)

pub loop-payload-preserved : goal.loop-payload-preserved
loop-payload-preserved c =
    let i = c.loop-payload.invariant in
    let all : c.in_ok-replay.field-0 ≡ true = search rules in
    let made = c.in_ok-replay.ensures.all all in
    one_payload_more no_rows c.loop-payload.tables c.replay.new.tables c.args.payloads.items c.loop-payload.yielded c.loop-payload.payload-iterator.rest.items c.next.new.self.rest.items c.in-Some.payload made.0 i.0 i.1 c.in-Some.ensures.steps.0
    made.1 (sym c.as_slice.ensures ∙ made.2) made.3
