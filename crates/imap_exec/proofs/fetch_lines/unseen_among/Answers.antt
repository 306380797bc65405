use Rattle.std.proofs.Common.{◌+◌, ◌++◌, ℕ, Bool, List, arith, drop, sym, ap, subst, ◌∙◌}
use Rattle.std.specs.Ordering.{nat_cmp}
use Rattle.std.specs.List.Sorted.{IsStrictlySortedBy}
use Rattle.std.proofs.lemmas.List.{append-nil, drop_all}
use Rattle.imap_steps.specs.Storing.{entry_of}
use Rattle.imap_steps.specs.Fetching.{is_unseen_if, unseen_among}
use Rattle.imap_exec.proofs.UnseenAmong.{passed_among, passed_sorted, taken_among, taken_sorted}
use Rattle.imap_exec.proofs.fetch_lines.unseen_among.Goals as goal
use Rattle.imap_exec.proofs.fetch_lines.unseen_among.Goals.{then-is_unseen+in_ok-push, else-is_unseen}

pub loop-uid-preserved : goal.loop-uid-preserved
loop-uid-preserved c =
    let kept = c.loop-uid.unseen.items in
    let uids = c.args.uids.now in
    let k = c.loop-uid.uid-index in
    let within = c.loop-uid-test.true in
    let its = c.loop-uid.invariant in
    elim c.if-is_unseen.branch [
      | then-is_unseen+in_ok-push w ↦
          let now = ap (λ v. v.items) w.unseen-is ∙ w.in_ok-push.ensures.items in (
            λ content world stands.
                let p : ℕ → Bool = λ uid. is_unseen_if (entry_of world c.args.mailbox uid) in
                ap (λ (l : List ℕ). l ++ unseen_among world c.args.mailbox (drop (k + 1) uids)) now
                ∙ (taken_among kept uids k within p (sym (c.is_unseen.ensures content world stands) ∙ w.if-is_unseen.true)
                ∙ its.0 content world stands),
            λ sorted. subst (λ (l : List ℕ). IsStrictlySortedBy nat_cmp (l ++ drop (k + 1) uids)) (sym now) (taken_sorted kept uids k within (its.1 sorted)),
          )
      | else-is_unseen w ↦
          let now = ap (λ v. v.items) w.unseen-is in (
            λ content world stands.
                let p : ℕ → Bool = λ uid. is_unseen_if (entry_of world c.args.mailbox uid) in
                ap (λ (l : List ℕ). l ++ unseen_among world c.args.mailbox (drop (k + 1) uids)) now
                ∙ (passed_among kept uids k within p (sym (c.is_unseen.ensures content world stands) ∙ w.if-is_unseen.false)
                ∙ its.0 content world stands),
            λ sorted. subst (λ (l : List ℕ). IsStrictlySortedBy nat_cmp (l ++ drop (k + 1) uids)) (sym now) (passed_sorted kept uids k within (its.1 sorted)),
          )
    ]

pub returns-clause-value : goal.returns-clause-value
returns-clause-value c content world stands =
    let kept = c.loop-uid.unseen.items in
    sym (append-nil kept)
    ∙ (ap (λ (l : List ℕ). kept ++ unseen_among world c.args.mailbox l) (sym (drop_all c.loop-uid.uid-index c.args.uids.now (omega arith)))
    ∙ c.loop-uid.invariant.0 content world stands)
