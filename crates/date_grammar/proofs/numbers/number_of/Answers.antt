use Rattle.std.proofs.Common.{◌<◌, ◌≤◌, ◌^◌, ◌≡◌, ℕ, List, Some, sym, arith, length}
use Rattle.mail_text.specs.Decimals.{decimal_value}
use Rattle.std.proofs.Math.Nat.{pow-le-pow_right}
use Rattle.date_grammar.proofs.DigitLemmas.{decimal_bound}
use Rattle.date_grammar.proofs.numbers.number_of.Goals as goal

below : (word : List ℕ) (n : ℕ) → length word ≤ 4 → decimal_value word ≡ Some n → n < 10000
below word n h e =
    let small : n < 10 ^ length word = decimal_bound word n e in
    let ten : 0 < 10 = omega arith in
    let few : 10 ^ length word ≤ 10 ^ 4 = pow-le-pow_right ten h in
    omega arith

pub overflow_cast-result : goal.overflow_cast-result
overflow_cast-result c =
    let small = below c.args.word.now c.in_ok-n.n c.requires (sym c.in_ok-n.ensures) in
    omega (arith, small)

pub returns-clause-short : goal.returns-clause-short
returns-clause-short c = decimal_bound c.args.word.now c.in_ok-n.n (sym c.in_ok-n.ensures)

pub returns-clause-bound : goal.returns-clause-bound
returns-clause-bound c = below c.args.word.now c.in_ok-n.n c.requires (sym c.in_ok-n.ensures)
