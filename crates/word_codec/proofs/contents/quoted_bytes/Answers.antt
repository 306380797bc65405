use Rattle.std.proofs.Common.{◌≡◌, ◌+◌, ◌≤◌, ◌∷◌, [], Some, None, length, drop, get_or, refl, sym, ◌∙◌, ap, subst, arith}
use Rattle.std.proofs.lemmas.List.{append-nil, take_rest, length-drop}
use Rattle.std.proofs.lemmas.Slice.{pushed}
use Rattle.std.specs.Option.{option_map}
use Rattle.transfer_codec.specs.Scan.{scan}
use Rattle.transfer_codec.specs.Quoted.{escape}
use Rattle.word_codec.specs.Contents.{all_some, content_bytes, escaped, single}
use Rattle.word_codec.proofs.ContentLemmas.{before, before_more, before_nothing}
use Rattle.word_codec.proofs.ScanLemmas.{scan_found, scan_none, scan_all}
use Rattle.word_codec.proofs.contents.quoted_bytes.Goals as goal

pub loop-at-init : goal.loop-at-init
unfolding content_bytes
loop-at-init c =
    let all = all_some (scan escaped single 0 c.args.content.now) in
    record { within = omega arith; found = ap (λ z. before z all) c.in_ok-out.ensures.items ∙ before_nothing all }

pub loop-at-preserved-in-Some : goal.loop-at-preserved-in-Some
loop-at-preserved-in-Some c =
    let content = c.args.content.now in
    let at = c.loop-at.at in
    let b = c.in-Some.b in
    let out = c.loop-at.out.items in
    let left = all_some (scan escaped single 0 (drop (at + 3) content)) in
    let found : escape (drop at content) ≡ Some b = sym (c.in-Some.ensures.value ∙ ap escape (take_rest content at)) in
    let three : 3 ≤ length (drop at content) = subst (λ rest. 3 ≤ length rest) (take_rest content at) c.in-Some.ensures.within in
    let cut = scan_found escaped single content at 3 (Some b) c.loop-at-test.true (omega arith) (ap (option_map (λ byte. (3, Some byte))) found) in
    record {
      within = omega (arith, length-drop at content);
      found = ap (λ z. before z left) (pushed (b ∷ []) refl c.in_ok-push.was c.push.ensures.items) ∙ sym (before_more out b left)
          ∙ ap (λ items. before out (all_some items)) (sym cut) ∙ c.loop-at.invariant.found;
    }

pub returns-in_default-single : goal.returns-in_default-single
returns-in_default-single c =
    let content = c.args.content.now in
    let at = c.loop-at.at in
    let out = c.loop-at.out.items in
    let none : escape (drop at content) ≡ None = ap escape (sym (take_rest content at)) ∙ sym c.escape.ensures.value ∙ c.in_default.is in
    let cut = scan_none escaped single content at c.loop-at-test.true (ap (option_map (λ byte. (3, Some byte))) none) in
    let nothing : single (get_or content at 0) ≡ None = sym c.single.ensures ∙ c.in_default-single.is in
    ap (λ o. before out (all_some (o ∷ scan escaped single 0 (drop (at + 1) content)))) (sym nothing)
    ∙ ap (λ items. before out (all_some items)) (sym cut) ∙ c.loop-at.invariant.found

pub loop-at-preserved : goal.loop-at-preserved
loop-at-preserved c =
    let content = c.args.content.now in
    let at = c.loop-at.at in
    let b = c.in-Some-single.b in
    let out = c.loop-at.out.items in
    let rest = scan escaped single 0 (drop (at + 1) content) in
    let left = all_some rest in
    let none : escape (drop at content) ≡ None = ap escape (sym (take_rest content at)) ∙ sym c.escape.ensures.value ∙ c.in_default.is in
    let cut = scan_none escaped single content at c.loop-at-test.true (ap (option_map (λ byte. (3, Some byte))) none) in
    let some : Some b ≡ single (get_or content at 0) = c.in-Some-single.ensures in
    record {
      within = omega (arith, c.loop-at-test.true);
      found = ap (λ z. before z left) (pushed (b ∷ []) refl c.in_ok-push-2.was c.push-in-loop-at.ensures.items) ∙ sym (before_more out b left)
          ∙ ap (λ o. before out (all_some (o ∷ rest))) some ∙ ap (λ items. before out (all_some items)) (sym cut) ∙ c.loop-at.invariant.found;
    }

pub returns : goal.returns
returns c =
    let content = c.args.content.now in
    let out = c.loop-at.out.items in
    ap Some (sym (append-nil out)) ∙ ap (λ items. before out (all_some items)) (sym (scan_all escaped single content c.loop-at.at (omega (arith, c.loop-at-test.false)))) ∙ c.loop-at.invariant.found
