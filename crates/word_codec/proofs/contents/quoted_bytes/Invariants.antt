use Rattle.std.proofs.Common.{◌≡◌, ◌≤◌, ◌-◌, length, drop}
use Rattle.transfer_codec.specs.Scan.{scan}
use Rattle.word_codec.specs.declared.words.Encoding.TheVariants.{Quoted}
use Rattle.word_codec.specs.Contents.{all_some, content_bytes, escaped, single}
use Rattle.word_codec.proofs.ContentLemmas.{before}
use Rattle.word_codec.proofs.contents.quoted_bytes.Given as goal

-- The bytes found, and those of what is left.
abbrev pub invariant-loop-at : goal.invariant-loop-at
invariant-loop-at l = record {
  within : l.at ≤ length l.content;
  found : before l.out.items (all_some (scan escaped single 0 (drop l.at l.content))) ≡ content_bytes Quoted l.content;
}

abbrev pub decreases-loop-at : goal.decreases-loop-at
decreases-loop-at l = length l.content - l.at
