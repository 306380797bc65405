use Rattle.std.proofs.Common.{List, ℕ, ◌++◌, ap, sym, ◌∙◌}
use Rattle.std.specs.Prelude.{codes}
use Rattle.imap_writer.proofs.RunLemmas.{ended}
use Rattle.imap_writer.proofs.runs.run_behind.Goals as goal

pub returns : goal.returns
returns c = λ ns. ended c.args.out.now.items c.extend_from_slice.new.self.items c.args.run c.args.n ns (sym c.is_next.ensures ∙ c.if-is_next.false) (c.in_ok-extend_from_slice.ensures.items ∙ ap (λ (o : List ℕ). o ++ codes ",") c.in_ok-push_run.ensures)
