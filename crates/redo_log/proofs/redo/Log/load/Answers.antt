use Rattle.std.proofs.Common.{◌≡◌, ℕ, List, Option, None, IfNone, subst}
use Rattle.redo_log.specs.Text.{IsLog}
use Rattle.redo_log.proofs.Crash.{no_log_there}
use Rattle.redo_log.proofs.redo.Log.load.Goals as goal

from_none : {T : Type 0} {P : Type 0} (o : Option T) → o ≡ None → IfNone o P → P
from_none {T} {P} o is fact = subst (λ (x : Option T). IfNone x P) is fact

pub returns-clause-not_a_log : goal.returns-clause-not_a_log
returns-clause-not_a_log g c is_err =
    let none = from_none c.in_ok-parsed.field-0 c.in-None.is c.in_ok-parsed.ensures.none in
    no_log_there g.D.Disk.told c.args.disk.now c.sync.new.self c.read_whole.new.disk c.in_ok-bytes.bytes.items c.in_ok-sync.ensures.sure c.sync.ensures.reading c.read_whole.ensures.alone c.in_ok-bytes.ensures.bytes
    (subst (λ (bytes : List ℕ). (format generation : ℕ) (payloads : List (List ℕ)) → IsLog format generation payloads bytes → ⊥) c.deref.ensures.value none)
