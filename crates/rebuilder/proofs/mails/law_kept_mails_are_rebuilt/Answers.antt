use Rattle.std.proofs.Common.{◌≡◌, ◌≤◌, ℕ, List, Result, Ok, Err, refl, arith}
use Rattle.mime_tree.specs.declared.reasons.Reason.{Reason}
use Rattle.mime_tree.specs.Sizes.{levels}
use Rattle.mime_tree.specs.Trees.{Tree}
use Rattle.mime_reader.specs.Reading.{outcome}
use Rattle.mime_reader.specs.Wrapping.{mail_of, wrapper}
use Rattle.rebuilder.specs.Rebuilding.{most_levels}
use Rattle.rebuilder.proofs.mails.law_kept_mails_are_rebuilt.Goals as goal

two_levels : (bytes : List ℕ) (reason : Reason) (now : ℕ) → levels (wrapper bytes reason now) ≡ 2
unfolding wrapper
two_levels bytes reason now = refl

pub returns : goal.returns
returns c bytes now = by (outcome bytes) refl
  where
    by : (o : Result Tree Reason) → outcome bytes ≡ o → levels (mail_of bytes now o).message ≤ most_levels
    by (Ok tree) e = let few = (c.law_reading.ensures.exact bytes tree).0 e in omega (arith, few.few_levels)
    by (Err reason) e = omega (arith, two_levels bytes reason now)
