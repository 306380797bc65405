use Rattle.std.proofs.Common.{◌≡◌, ◌≤◌, ◌++◌, ◌∷◌, [], ℕ, List, Some, None, length, drop, get_or, refl, sym, ◌∙◌, ap, subst, arith, append_assoc}
use Rattle.std.proofs.lemmas.List.{append-nil, take_rest, length-drop}
use Rattle.std.proofs.lemmas.Slice.{pushed}
use Rattle.std.specs.Option.{option_map}
use Rattle.transfer_codec.specs.Quoted.{escape, escape_front}
use Rattle.transfer_codec.proofs.ScanLemmas.{scan_found, scan_none, scan_all}
use Rattle.transfer_codec.proofs.quoted_bodies.push_unescaped.Goals as goal

-- A byte more is written, and a byte less is left.
one_more : (out after text rest all : List ℕ) (b : ℕ) → after ≡ out ++ b ∷ [] → text ≡ b ∷ rest → out ++ text ≡ all → after ++ rest ≡ all
one_more out after text rest all b added cut before = ap (λ z. z ++ rest) added ∙ append_assoc out (b ∷ []) rest ∙ ap (λ z. out ++ z) (sym cut) ∙ before

pub loop-at-preserved-in-Some : goal.loop-at-preserved-in-Some
loop-at-preserved-in-Some c =
    let text = c.args.text.now in
    let at = c.loop-at.at in
    let b = c.in-Some.b in
    let found : escape (drop at text) ≡ Some b = sym (c.in-Some.ensures.value ∙ ap escape (take_rest text at)) in
    let three : 3 ≤ length (drop at text) = subst (λ rest. 3 ≤ length rest) (take_rest text at) c.in-Some.ensures.within in
    record {
      within = omega (arith, length-drop at text);
      written = one_more _ _ _ _ _ b (pushed (b ∷ []) refl c.in_ok-push-in-Some.was c.push.ensures.items)
          (scan_found escape_front (λ (x : ℕ). x) text at 3 b c.loop-at-test.true (omega arith) (ap (option_map (λ byte. (3, byte))) found)) c.loop-at.invariant.written;
    }

pub loop-at-preserved : goal.loop-at-preserved
loop-at-preserved c =
    let text = c.args.text.now in
    let at = c.loop-at.at in
    let b = get_or text at 0 in
    let none : escape (drop at text) ≡ None = sym (c.in-None.ensures.value ∙ ap escape (take_rest text at)) in
    record {
      within = omega (arith, c.loop-at-test.true);
      written = one_more _ _ _ _ _ b (pushed (b ∷ []) refl c.in_ok-push-in-None.was c.push-in-None.ensures.items)
          (scan_none escape_front (λ (x : ℕ). x) text at c.loop-at-test.true (ap (option_map (λ byte. (3, byte))) none)) c.loop-at.invariant.written;
    }

pub returns : goal.returns
returns c =
    let out = c.loop-at.out.items in
    sym (append-nil out) ∙ ap (λ z. out ++ z) (sym (scan_all escape_front (λ (x : ℕ). x) c.args.text.now c.loop-at.at (omega (arith, c.loop-at-test.false)))) ∙ c.loop-at.invariant.written
