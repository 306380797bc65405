use Rattle.std.proofs.Common.{◌++◌, ◌≡◌, sym, ap, ◌∙◌, cond}
use Rattle.std.proofs.lemmas.Result.{on_ok_weaker}
use Rattle.session_units.specs.declared.forms.Shown.{Shown}
use Rattle.std.specs.Prelude.{Option, None, Bool, [], ◌∷◌}
use Rattle.session_units.specs.Awaited.{Awaited}
use Rattle.session_units.specs.Units.{first, ended}
use Rattle.mail_model.specs.Machine.{go_ahead}
use Rattle.mail_rounds.proofs.Taking.{takes_closed, takes_more, takes_unit}
use Rattle.mail_rounds.proofs.Crashes.{byte_idle, byte_unit}
use Rattle.mail_rounds.proofs.hearing.serve_byte.Goals as goal

pub returns-then-not-is_open-clause-taken : goal.returns-then-not-is_open-clause-taken
returns-then-not-is_open-clause-taken g c = λ taking held. takes_closed g.C.Core.seen _ _ _ _ taking held c.if-not-is_open.ensures

pub returns-then-not-is_open-clause-crash : goal.returns-then-not-is_open-clause-crash
returns-then-not-is_open-clause-crash g c = λ taking held. byte_idle g.C.Core.seen c.args.core.now c.steps_record_their_changes.ensures.world c.args.moment taking c.args.byte

pub returns-in_err-fed-clause-crash : goal.returns-in_err-fed-clause-crash
returns-in_err-fed-clause-crash g c = λ taking held. byte_idle g.C.Core.seen c.args.core.now c.steps_record_their_changes.ensures.world c.args.moment taking c.args.byte

pub returns-in_err-add_prompt-in-None-clause-crash : goal.returns-in_err-add_prompt-in-None-clause-crash
returns-in_err-add_prompt-in-None-clause-crash g c = λ taking held. byte_idle g.C.Core.seen c.args.core.now c.steps_record_their_changes.ensures.world c.args.moment taking c.args.byte

pub returns-in_ok-add_prompt-in-None-clause-crash : goal.returns-in_ok-add_prompt-in-None-clause-crash
returns-in_ok-add_prompt-in-None-clause-crash g c = λ taking held. byte_idle g.C.Core.seen c.args.core.now c.steps_record_their_changes.ensures.world c.args.moment taking c.args.byte

pub returns-in_ok-add_prompt-in-None-clause-taken : goal.returns-in_ok-add_prompt-in-None-clause-taken
returns-in_ok-add_prompt-in-None-clause-taken g c = λ taking held.
    let none : first c.args.link.now.reader (c.args.byte ∷ []) ≡ None = c.in_ok-fed.ensures.cut ∙ ap (λ (e : Option Shown). ended e c.feed.new.self) (sym c.ending.ensures ∙ c.in-None.is) in
    let took = takes_more g.C.Core.seen c.args.core.now c.args.link.now c.args.moment c.args.byte taking c.feed.new.self c.add_prompt.new.queue.items held c.if-not-is_open.ensures c.in_ok-fed.ensures.fed none
    (c.in_ok-add_prompt-in-None.ensures ∙ ap (λ (asks : Bool). cond asks (c.args.link.now.queue.items ++ go_ahead) c.args.link.now.queue.items) c.in_ok-fed.ensures.prompted) in
    record { stands = took.stands; session = took.session_is; answers = took.answers }

pub returns-in-Some-clause-taken : goal.returns-in-Some-clause-taken
returns-in-Some-clause-taken g c =
    on_ok_weaker c.finish_unit.result
    (λ done taking held.
    let took = takes_unit g.C.Core.seen c.args.link.now c.args.core.now c.finish_unit.new.core c.finish_unit.new.standing c.finish_unit.new.reader c.finish_unit.new.queue.items c.args.moment c.args.byte taking c.feed.new.self held
    c.if-not-is_open.ensures c.in_ok-fed.ensures.fed c.in-Some.shown (c.in_ok-fed.ensures.cut ∙ ap (λ (e : Option Shown). ended e c.feed.new.self) (sym c.ending.ensures ∙ c.in-Some.is))
    (done taking.shared held.stands) in
    record { stands = took.stands; session = took.session_is; answers = took.answers })
    c.finish_unit.ensures.taken

pub returns-in-Some-clause-crash : goal.returns-in-Some-clause-crash
returns-in-Some-clause-crash g c = λ taking held.
    byte_unit g.C.Core.seen c.args.link.now c.args.core.now c.finish_unit.new.core c.args.moment c.args.byte taking c.feed.new.self c.steps_record_their_changes.ensures.world held
    c.if-not-is_open.ensures c.in_ok-fed.ensures.fed c.in-Some.shown (c.in_ok-fed.ensures.cut ∙ ap (λ (e : Option Shown). ended e c.feed.new.self) (sym c.ending.ensures ∙ c.in-Some.is))
    (c.finish_unit.ensures.crash taking.shared held.stands)

pub invariant_of-link-in-None : goal.invariant_of-link-in-None
invariant_of-link-in-None g c =
    let none : first c.args.link.now.reader (c.args.byte ∷ []) ≡ None = c.in_ok-fed.ensures.cut ∙ ap (λ (e : Option Shown). ended e c.feed.new.self) (sym c.ending.ensures ∙ c.in-None.is) in
    record {
      awaiting = ap (λ (a : Awaited). first a []) c.in_ok-fed.ensures.fed ∙ sym (c.units_go_on_and_end.ensures.goes_on c.args.link.now.reader (c.args.byte ∷ []) [] none) ∙ none;
    }
