use Rattle.std.proofs.Common.{take}
use Rattle.mail_rounds.proofs.Taking.{inside_takes, both_ok}
use Rattle.mail_rounds.proofs.hearing.take_inside.Goals as goal

pub returns-clause-taken : goal.returns-clause-taken
returns-clause-taken c =
    both_ok c.feed_inside.result
    (λ count fed goes_on. inside_takes c.units_go_on_and_end.ensures.joined c.args.link.now c.feed_inside.new.self (take count c.args.piece.now) c.if-not-is_open.ensures fed goes_on)
    c.feed_inside.ensures.fed c.feed_inside.ensures.each
