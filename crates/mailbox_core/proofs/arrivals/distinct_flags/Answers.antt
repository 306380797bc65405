use Rattle.std.proofs.Common.{◌≡◌, ℕ, true, false, List, map, sym, ap, ◌∙◌}
use Rattle.std.specs.List.{list_any}
use Rattle.imap_grammar.specs.declared.flags.Flag.{Flag}
use Rattle.mail_world.specs.Flags.{has_flag, same_flag}
use Rattle.mailbox_core.proofs.DistinctFlags.{any_map, one_more}
use Rattle.mailbox_core.proofs.arrivals.distinct_flags.Goals as goal
use Rattle.mailbox_core.proofs.arrivals.distinct_flags.Goals.{then-not-has_flag+in_ok-push, else-not-has_flag}

pub loop-flag-preserved : goal.loop-flag-preserved
loop-flag-preserved c =
    let flags : List Flag = c.args.flags.now in
    let k : ℕ = c.loop-flag.flag-index in
    let x : Flag = c.flag-item.result in
    let found : List Flag = map (λ flag. flag.now) c.loop-flag.found.items in
    let has : has_flag x found ≡ c.has_flag.result =
    any_map (λ other. same_flag other x) (λ flag. flag.now) c.loop-flag.found.items
    ∙ (ap (λ l. list_any (λ other. same_flag other.now x) l) (sym c.as_slice.ensures.value) ∙ sym c.has_flag.ensures) in
    elim c.if-not-has_flag.branch [
      | then-not-has_flag+in_ok-push w ↦
          let more = one_more flags k x found false c.loop-flag-test.true c.flag-item.is c.loop-flag.invariant (has ∙ w.if-not-has_flag.true) in
          ap (λ v. map (λ flag. flag.now) v.items) w.found-is ∙ (w.in_ok-push.ensures ∙ sym more)
      | else-not-has_flag w ↦
          let more = one_more flags k x found true c.loop-flag-test.true c.flag-item.is c.loop-flag.invariant (has ∙ w.if-not-has_flag.false) in
          ap (λ v. map (λ flag. flag.now) v.items) w.found-is ∙ sym more
    ]
