use Rattle.std.proofs.Common.{◌≡◌, refl, rules}
use Rattle.port_model.specs.SentTexts.{text_at}
use Rattle.port_model.proofs.Starving.{starves}
use Rattle.port_model.proofs.script_ports.ScriptPortsPorts.send.Goals as goal

pub returns-then-self-clause-history : goal.returns-then-self-clause-history
returns-then-self-clause-history c before may_be =
    let same : c.then-self.self-inside.player.plan ≡ c.self.inside.player.plan = search rules in
    starves _ c.self.inside.player c.then-self.self-inside.player.plan c.self.inside.starved c.self.inside.calls (text_at c.self.inside.texts) before same c.self.invariant (rw (← c.self.view_is) at may_be) tt (λ reading. refl)
