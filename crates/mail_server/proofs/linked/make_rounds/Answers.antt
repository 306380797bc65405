use Rattle.std.proofs.Common.{ℕ, ◌≡◌, ◌∙◌, [], refl, subst, arith}
use Rattle.mail_rounds.specs.Held.{held}
use Rattle.mail_server.specs.LinkRounds.{MadeAll}
use Rattle.mail_server.proofs.Crashing.{leaves_none}
use Rattle.mail_server.proofs.Linking.{all_served, rounds_more, rounds_none, rounds_stop}
use Rattle.mail_server.proofs.Transfers.{OnErr-always}
use Rattle.mail_server.proofs.linked.make_rounds.Goals as goal

pub rounds-init : goal.rounds-init
rounds-init g c = record {
  going = c.requires.going;
  within = omega arith;
  made = λ none. ([], none, λ first serves. rounds_none g.C.Core.seen first (held c.args.server.now) (leaves_none g.C.Core.seen (held c.args.server.now).core first) serves);
  quiet = refl;
  stored = refl;
}

pub rounds-preserved : goal.rounds-preserved
rounds-preserved g c =
    let inv = c.rounds.invariant in
    record {
      going = c.in_ok-make_round.ensures.going;
      within = omega (arith, c.rounds-test.true);
      made = λ none.
          let so_far = inv.made none in
          let more = c.in_ok-make_round.ensures.done so_far.0 so_far.1 in (
            more.0,
            more.1,
            λ first serves. rounds_more g.C.Core.seen first c.rounds.turns (held c.args.server.now) (held c.rounds.server) (held c.make_round.new.server) so_far.0 more.0 (so_far.2 first serves) more.2,
          );
      quiet = c.in_ok-make_round.ensures.quiet (λ e. cc) ∙ inv.quiet;
      stored = c.in_ok-make_round.ensures.stored (λ e. cc) ∙ inv.stored;
    }

pub returns-clause-all : goal.returns-clause-all
returns-clause-all g c none =
    let so_far = c.rounds.invariant.made none in
    let all : c.rounds.turns ≡ c.args.rounds = omega (arith, c.rounds.invariant.within, c.rounds-test.false) in (
      so_far.0,
      so_far.1,
      λ first serves. all_served g.C.Core.seen first c.args.rounds so_far.0 (held c.args.server.now) (held c.rounds.server)
          (subst (λ (n : ℕ). MadeAll g.C.Core.seen first n so_far.0 (held c.args.server.now) (held c.rounds.server)) all (so_far.2 first serves)),
    )

pub returns-in_err-make_round-clause-fewer : goal.returns-in_err-make_round-clause-fewer
returns-in_err-make_round-clause-fewer g c =
    OnErr-always c.from_residual.result _ (λ none.
    let so_far = c.rounds.invariant.made none in
    let more = c.in_err-make_round.ensures.part so_far.0 so_far.1 in (
      more.0,
      more.1,
      λ first serves.
          rounds_stop g.C.Core.seen first c.rounds.turns c.args.rounds (held c.args.server.now) (held c.rounds.server) (held c.make_round.new.server) so_far.0 more.0 (omega (arith, c.rounds-test.true)) (so_far.2 first serves) more.2,
    ))
