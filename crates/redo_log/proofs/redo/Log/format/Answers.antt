use Rattle.std.proofs.Common.{◌≡◌, ◌<◌, ◌^◌, ℕ, length, List, option_map, ◌∙◌, ap, subst, arith}
use Rattle.disk_model.specs.Calls.{LeavesOnly, overwritten}
use Rattle.redo_log.specs.Text.{empty_text}
use Rattle.redo_log.proofs.Texts.{length-empty}
use Rattle.redo_log.proofs.Crash.{TornFrom, leaves_write, leaves_sync, is_formatted}
use Rattle.redo_log.proofs.redo.Log.format.Goals as goal

pub returns-in_err-write_at-clause-leaves : goal.returns-in_err-write_at-clause-leaves
returns-in_err-write_at-clause-leaves g c =
    let told = g.D.Disk.told in
    let size : length c.deref.result.now ≡ 18 = ap length (c.deref.ensures.value ∙ c.in_ok-text.ensures) ∙ length-empty c.args.format c.args.generation in
    subst (λ (n : ℕ). LeavesOnly told c.args.disk.now c.write_at.new.self (TornFrom told c.args.disk.now c.write_at.new.self n)) size
    (leaves_write told c.args.disk.now c.write_at.new.self (length c.deref.result.now) c.write_at.ensures.time c.write_at.ensures.images)

pub returns-in_err-sync-clause-leaves : goal.returns-in_err-sync-clause-leaves
returns-in_err-sync-clause-leaves g c =
    let told = g.D.Disk.told in
    let size : length c.deref.result.now ≡ 18 = ap length (c.deref.ensures.value ∙ c.in_ok-text.ensures) ∙ length-empty c.args.format c.args.generation in
    subst (λ (n : ℕ). LeavesOnly told c.args.disk.now c.sync.new.self (TornFrom told c.args.disk.now c.write_at.new.self n)) size
    (leaves_sync told c.args.disk.now c.write_at.new.self (length c.deref.result.now) c.sync.new.self c.write_at.ensures.time c.write_at.ensures.images c.sync.ensures.time c.sync.ensures.images)

pub returns-clause-formatted : goal.returns-clause-formatted
returns-clause-formatted g c =
    let told = g.D.Disk.told in
    let fits : c.args.generation < 2 ^ 64 = omega arith in
    let text = empty_text c.args.format c.args.generation in
    is_formatted c.args.format c.args.generation fits (told.reading c.args.disk.now) (told.reading c.sync.new.self)
    (c.sync.ensures.reading ∙ c.in_ok-write_at.ensures.written ∙ ap (λ (l : List ℕ). option_map (overwritten 0 l) (told.reading c.args.disk.now)) (c.deref.ensures.value ∙ c.in_ok-text.ensures))

pub returns-clause-leaves : goal.returns-clause-leaves
returns-clause-leaves g c =
    let told = g.D.Disk.told in
    let size : length c.deref.result.now ≡ 18 = ap length (c.deref.ensures.value ∙ c.in_ok-text.ensures) ∙ length-empty c.args.format c.args.generation in
    subst (λ (n : ℕ). LeavesOnly told c.args.disk.now c.sync.new.self (TornFrom told c.args.disk.now c.write_at.new.self n)) size
    (leaves_sync told c.args.disk.now c.write_at.new.self (length c.deref.result.now) c.sync.new.self c.write_at.ensures.time c.write_at.ensures.images c.sync.ensures.time c.sync.ensures.images)
