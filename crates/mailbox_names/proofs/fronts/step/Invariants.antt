use Rattle.std.proofs.Common.{◌≡◌, ◌+◌, ◌++◌, length, false, take, drop}
use Rattle.mailbox_names.specs.Rows.{stepped}
use Rattle.mailbox_names.proofs.fronts.step.Given as goal

abbrev pub invariant-fronts : goal.invariant-fronts
invariant-fronts l = record {
  count : length l.row ≡ length l.name + 1;
  so_far : (take l.i l.row ++ stepped l.p l.carry (drop l.i l.row) (drop l.i l.name)) ≡ stepped l.p false l.fn.row l.name;
}
