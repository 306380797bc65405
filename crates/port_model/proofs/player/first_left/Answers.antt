use Rattle.std.proofs.Common.{drop}
use Rattle.std.proofs.lemmas.List.Elements.{All-drop}
use Rattle.port_model.specs.Player.{HasBytes}
use Rattle.port_model.proofs.Left.{more-fresh}
use Rattle.port_model.proofs.player.first_left.Goals as goal

pub returns-then-happens-clause-more : goal.returns-then-happens-clause-more
returns-then-happens-clause-more c =
    more-fresh (drop c.loop-event.at c.args.events.now) (All-drop HasBytes c.loop-event.at c.args.events.now c.requires.bytes)
