use Rattle.std.proofs.Common.{sym, subst, arith, ◌≡◌, ◌++◌, List, ℕ}
use Rattle.std.specs.Option.{option_map}
use Rattle.port_model.specs.Script.{text_bytes}
use Rattle.port_model.proofs.ScriptLemmas.{text-step, text-long}
use Rattle.port_model.proofs.script.parse_text.Goals as goal

pub returns-then-len-eq-MOST_BYTES : goal.returns-then-len-eq-MOST_BYTES
returns-then-len-eq-MOST_BYTES c =
    sym (text-long c.loop-left.bytes.items c.in-Some.byte (text_bytes c.loop-left.left.now) (text_bytes c.in-Some.rest.now) (text_bytes c.args.text.now) c.loop-left.invariant.0 c.in-Some.ensures.0 (omega arith))

pub loop-left-preserved : goal.loop-left-preserved
loop-left-preserved c = (
  subst (λ (bytes : List ℕ). option_map (λ cs. bytes ++ cs) (text_bytes c.in-Some.rest.now) ≡ text_bytes c.args.text.now) (sym c.in_ok-push.ensures.items)
      (text-step c.loop-left.bytes.items c.in-Some.byte (text_bytes c.loop-left.left.now) (text_bytes c.in-Some.rest.now) (text_bytes c.args.text.now) c.loop-left.invariant.0 c.in-Some.ensures.0),
  omega (arith, c.in_ok-push.ensures.len),
)
