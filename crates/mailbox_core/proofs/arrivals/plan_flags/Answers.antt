use Rattle.std.proofs.Common.{◌≡◌, [], drop, arith}
use Rattle.std.proofs.lemmas.List.{drop_all}
use Rattle.mailbox_core.proofs.Named.{ids_end, ids_step, names_end, names_step}
use Rattle.mailbox_core.proofs.arrivals.plan_flags.Goals as goal

pub loop-flag-preserved : goal.loop-flag-preserved
loop-flag-preserved c =
    let names = c.args.tables.now.marks.flag_names in
    let flags = c.args.flags.now in
    let before = c.loop-flag.plan in
    let new = c.plan_flag.new.plan in
    let invariant = c.loop-flag.invariant in (
      invariant.0,
      invariant.1,
      ids_step (λ flag. flag.now) names flags c.loop-flag.flag-index c.flag-item.result c.loop-flag-test.true c.flag-item.is c.loop-flag.next _ c.text_of.result.now before.ids.items new.ids.items _
          c.text_of.ensures c.in_ok-next-2.ensures.after c.in_ok-next-2.ensures.ids invariant.2,
      names_step (λ flag. flag.now) names flags c.loop-flag.flag-index c.flag-item.result c.loop-flag-test.true c.flag-item.is c.loop-flag.next _ c.text_of.result.now before.names.items new.names.items _
          c.text_of.ensures c.in_ok-next-2.ensures.after c.in_ok-next-2.ensures.names invariant.3,
    )

pub returns : goal.returns
returns c =
    let names = c.args.tables.now.marks.flag_names in
    let flags = c.args.flags.now in
    let plan = c.loop-flag.plan in
    let invariant = c.loop-flag.invariant in
    let none : drop c.loop-flag.flag-index flags ≡ [] = drop_all c.loop-flag.flag-index flags (omega (arith, c.loop-flag-test.false)) in (
      invariant.0,
      invariant.1,
      ids_end (λ flag. flag.now) names flags c.loop-flag.flag-index c.loop-flag.next plan.ids.items _ none invariant.2,
      names_end (λ flag. flag.now) names flags c.loop-flag.flag-index c.loop-flag.next plan.names.items _ none invariant.3,
    )
