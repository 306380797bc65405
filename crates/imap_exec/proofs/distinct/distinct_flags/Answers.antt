use Rattle.std.proofs.Common.{◌≡◌, ◌+◌, ◌-◌, ◌<◌, ℕ, List, drop, length, sym, ap, ◌∙◌, arith}
use Rattle.std.proofs.Math.Seq.{drop-length}
use Rattle.imap_grammar.specs.declared.flags.Flag.{Flag}
use Rattle.mail_world.specs.Flags.{distinct}
use Rattle.imap_exec.proofs.NamedOnce.{one_more}
use Rattle.imap_exec.proofs.distinct.distinct_flags.Goals as goal

pub flags-init : goal.flags-init
flags-init c = record {
  within = omega arith;
  found = c.new-found.ensures.items ∙ sym (ap (λ (l : List Flag). distinct l) (drop-length c.args.flags.now));
}

pub flags-preserved : goal.flags-preserved
flags-preserved c =
    let flags : List Flag = c.args.flags.now in
    let k : ℕ = c.flags.left - 1 in
    let before : k + 1 ≡ c.flags.left = omega arith in
    let less : k < length flags = omega arith in
    let so_far : c.flags.found.items ≡ distinct (drop (k + 1) flags) = c.flags.invariant.found ∙ ap (λ (n : ℕ). distinct (drop n flags)) (sym before) in
    record {
      within = omega arith;
      found = c.in_ok-put_first.ensures ∙ one_more flags k c.index-flags-left.result c.flags.found.items less c.index-flags-left.is so_far;
    }

pub returns : goal.returns
returns c =
    let none : c.flags.left ≡ 0 = omega arith in
    c.flags.invariant.found ∙ ap (λ (n : ℕ). distinct (drop n c.args.flags.now)) none
