use Rattle.std.proofs.Common.{ℕ, Option, Result, Ok, Err, IfOk, ap, subst, ◌∙◌}
use Rattle.std.specs.Option.{option_map}
use Rattle.row_tables.specs.TableRows.{TableRows}
use Rattle.row_store.specs.Holding.{in_row}
use Rattle.mail_world.specs.Worlds.{Mailbox}
use Rattle.mail_stands.specs.Stands.{AreWhole}
use Rattle.mailbox_core.specs.Summing.{IsSummary}
use Rattle.mailbox_core.specs.SummaryRows.{IsRowSummary}
use Rattle.mailbox_core.proofs.Summed.{summed}
use Rattle.mailbox_core.proofs.summing.summarize.Goals as goal

ok_more : {T E : Type 0} (P Q : T → Type 0) (result : Result T E) → ((x : T) → P x → Q x) → IfOk result P → IfOk result Q
ok_more P Q (Ok x) more holds = more x holds
ok_more P Q (Err e) more holds = holds

pub returns : goal.returns
returns g c = record {
  summed = λ w stands m at.
      let t = c.args.store.now.tables in
      let id : ℕ = c.args.mailbox in
      let there : AreWhole c.tables-tables.result.now = record { ordered = c.are_whole.ensures.ordered; closed = c.are_whole.ensures.closed; distinct = c.are_whole.ensures.distinct } in
      let whole : AreWhole t = subst AreWhole c.tables-tables.ensures there in
      let are : IfOk c.summary_of.result (IsRowSummary t id) = subst (λ (u : TableRows). IfOk c.summary_of.result (IsRowSummary u id)) c.tables-tables.ensures c.summary_of.ensures in
      ok_more (IsRowSummary t id) (λ its. IsSummary its m) c.summary_of.result
      (summed c.keys.ensures.same c.insertion.ensures in_row t w id m whole stands at (c.rows_at_keys.ensures t.marks.flags whole.ordered.flags)
      (c.message_uids.ensures in_row t w id m whole stands at)
      (c.mailbox_rows.ensures.at in_row t w id stands ∙ ap (λ (o : Option Mailbox). option_map (λ (x : Mailbox). x.head) o) at)) are;
}
