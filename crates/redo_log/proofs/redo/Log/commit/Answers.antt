use Rattle.std.proofs.Common.{◌+◌, ◌<◌, ◌^◌, [], ◌∷◌, ◌++◌, ℕ, length, sym, ◌∙◌, subst, arith}
use Rattle.disk_model.specs.Told.{IfTold}
use Rattle.disk_model.specs.Images.{Only}
use Rattle.redo_log.specs.Text.{EndsAt}
use Rattle.redo_log.specs.Kept.{Kept, HasLog}
use Rattle.redo_log.proofs.Crash.{told_weaker}
use Rattle.redo_log.proofs.redo.Log.commit.Goals as goal

pub returns-clause-added : goal.returns-clause-added
returns-clause-added g c payloads holds =
    let log = c.self.inside in
    let told = g.D.Disk.told in
    let payload = c.args.payload.now in
    let here : HasLog told (record { format = log.format; generation = log.generation; end = log.end; spent = log.spent }) payloads c.args.disk.now = subst (λ (k : Kept). HasLog told k payloads c.args.disk.now) (sym c.self.view_is) holds in
    let ends : IfTold (told.reading c.args.disk.now) (EndsAt log.format log.generation payloads log.end) = told_weaker (told.reading c.args.disk.now) (λ file both. both.1) here in
    let fits : length payload < 2 ^ 64 = omega arith in
    let done = c.in_ok-add.ensures.added log.format log.generation payloads payload fits (c.deref.ensures.value ∙ c.in_ok-block.ensures) ends in
    subst (λ (n : ℕ). IfTold (told.reading c.add.new.disk) (λ file. Only file (told.images c.add.new.disk) × EndsAt log.format log.generation (payloads ++ payload ∷ []) (log.end + n) file)) (c.deref.ensures.len ∙ sym c.len.ensures) done
