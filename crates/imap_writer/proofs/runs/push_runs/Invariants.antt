use Rattle.std.proofs.Common.{◌≡◌, ◌++◌, drop}
use Rattle.imap_writer.specs.Sets.{runs_text, runs_behind}
use Rattle.imap_writer.proofs.runs.push_runs.Given as goal

abbrev pub invariant-loop-n : goal.invariant-loop-n
invariant-loop-n l =
    l.out.items ++ runs_text (runs_behind l.run (drop l.n-index l.others)) ≡ l.fn.out.items ++ runs_text (runs_behind (record { first = l.first; last = l.first }) l.others)
