use Rattle.std.proofs.Common.{◌≡◌, [], ◌∷◌, ◌++◌, true, false, sym, subst}
use Rattle.row_tables.specs.TableRows.{TableRows, no_rows}
use Rattle.row_store.specs.Holding.{Replays, stored}
use Rattle.row_store.proofs.Payloads.{replays_more}
use Rattle.row_store.proofs.AfterCrash.{appends, commits_payload, kept_more, settled_of}
use Rattle.row_store.proofs.committing.add.Goals as goal

pub returns-in-Ok-clause-kept : goal.returns-in-Ok-clause-kept
returns-in-Ok-clause-kept g c before after changes kept widths is runs =
    let told = g.D.Disk.told in
    let replay : Replays no_rows (kept.payloads ++ c.args.payload.now ∷ []) after = replays_more no_rows before after kept.payloads c.args.payload.now changes kept.replay widths is runs in
    kept_more told c.args.log.now c.args.files.now before kept after c.args.payload.now c.commit.new.disk replay c.commit.ensures.same c.commit.new.self c.commit.ensures.header.0 c.in-Ok.ensures.goes_on (c.in-Ok.ensures.added kept.payloads kept.has_log)

pub returns-in-Ok-clause-crash : goal.returns-in-Ok-clause-crash
returns-in-Ok-clause-crash g c before after changes kept widths is runs =
    let told = g.D.Disk.told in
    let replay : Replays no_rows (kept.payloads ++ c.args.payload.now ∷ []) after = replays_more no_rows before after kept.payloads c.args.payload.now changes kept.replay widths is runs in
    let next = returns-in-Ok-clause-kept g c before after changes kept widths is runs in
    commits_payload told c.args.log.now c.args.files.now before kept after c.args.payload.now c.commit.new.disk replay c.commit.ensures.same (true ≡ true)
    (λ _. settled_of told c.commit.new.self (record { log0 = c.commit.new.disk; log1 = c.args.files.now.log1; bodies = c.args.files.now.bodies }) after next)
    (c.commit.ensures.any_moment kept.unspent kept.payloads kept.has_log)

pub returns-in-Err-Failed-clause-crash : goal.returns-in-Err-Failed-clause-crash
returns-in-Err-Failed-clause-crash g c before after changes kept widths is runs =
    let told = g.D.Disk.told in
    let replay : Replays no_rows (kept.payloads ++ c.args.payload.now ∷ []) after = replays_more no_rows before after kept.payloads c.args.payload.now changes kept.replay widths is runs in
    commits_payload told c.args.log.now c.args.files.now before kept after c.args.payload.now c.commit.new.disk replay c.commit.ensures.same (false ≡ true)
    (λ (e : false ≡ true). cc)
    (c.commit.ensures.any_moment kept.unspent kept.payloads kept.has_log)

pub returns-in-Err-NoMemory-clause-crash : goal.returns-in-Err-NoMemory-clause-crash
returns-in-Err-NoMemory-clause-crash g c before after changes kept widths is runs =
    let told = g.D.Disk.told in
    let replay : Replays no_rows (kept.payloads ++ c.args.payload.now ∷ []) after = replays_more no_rows before after kept.payloads c.args.payload.now changes kept.replay widths is runs in
    commits_payload told c.args.log.now c.args.files.now before kept after c.args.payload.now c.commit.new.disk replay c.commit.ensures.same (false ≡ true)
    (λ (e : false ≡ true). cc)
    (c.commit.ensures.any_moment kept.unspent kept.payloads kept.has_log)

pub returns-in-Ok-clause-appended : goal.returns-in-Ok-clause-appended
returns-in-Ok-clause-appended g c =
    let kept = c.requires.1 in
    appends g.D.Disk.told c.args.log.now c.args.files.now c.requires.0 kept c.args.payload.now c.commit.new.disk c.a_text_says_one_thing.ensures c.commit.new.self c.commit.ensures.header.0 c.commit.ensures.header.1 (c.in-Ok.ensures.added kept.payloads kept.has_log)
