use Rattle.std.proofs.Common.{Ok, Err}
use Rattle.std.proofs.lemmas.List.Sorted.{searched}
use Rattle.std.proofs.lemmas.Map.Keys.{non_decreasing_from_sorted}
use Rattle.imap_exec.proofs.FetchLines.{one_found, none_found}
use Rattle.imap_exec.proofs.fetch_lines.is_one_of.Goals as goal

pub returns-in-Ok : goal.returns-in-Ok
returns-in-Ok c =
    let uids = c.args.uids.now in
    let at = searched uids c.args.uid (Ok c.in-Ok.field-0) c.in-Ok.ensures.position (λ i j h lt. non_decreasing_from_sorted uids c.requires i j 0 h lt) in
    one_found c.args.uid c.in-Ok.field-0 uids at.0 at.1

pub returns-in-Err : goal.returns-in-Err
returns-in-Err c =
    let uids = c.args.uids.now in
    let at = searched uids c.args.uid (Err c.in-Err.field-0) c.in-Err.ensures.position (λ i j h lt. non_decreasing_from_sorted uids c.requires i j 0 h lt) in
    none_found c.args.uid c.in-Err.field-0 uids at.1 at.2
