use Rattle.std.proofs.Common.{◌≡◌, ◌∙◌, ℤ, ap, arith, rules, pos, ◌+ℤ◌, ◌*ℤ◌, FitsSigned, w64, to_z, of_z}
use Rattle.std.specs.Int.{int_div_euclid, int_rem_euclid}
use Rattle.std.proofs.lemmas.Int.{ints, to_z-of_z}
use Rattle.date_grammar.proofs.InstantLemmas.{day_by_parts}
use Rattle.date_grammar.proofs.instants.civil_day.Goals as goal

pub returns : goal.returns
returns c =
    let fits : FitsSigned w64 c.args.stamp.seconds = search rules in
    let seconds : to_z w64 (of_z w64 c.args.stamp.seconds) ≡ c.args.stamp.seconds = to_z-of_z w64 c.args.stamp.seconds fits in
    let day : c.days_in.result ≡ int_div_euclid c.args.stamp.seconds (pos 86400) =
    c.days_in.ensures.value ∙ ap (λ (x : ℤ). int_div_euclid x (pos 86400)) seconds in
    let second : pos c.second_in.result ≡ int_rem_euclid c.args.stamp.seconds (pos 86400) =
    c.second_in.ensures.value ∙ ap (λ (x : ℤ). int_rem_euclid x (pos 86400)) seconds in
    let moved : c.moved-second.result ≡ pos c.second_in.result +ℤ pos 60 *ℤ c.args.stamp.zone = omega (arith, ints) in
    let m_fits : FitsSigned w64 c.moved-second.result = search rules in
    let m : to_z w64 (of_z w64 c.moved-second.result) ≡ c.moved-second.result = to_z-of_z w64 c.moved-second.result m_fits in
    let more : c.days_in-2.result ≡ int_div_euclid c.moved-second.result (pos 86400) =
    c.days_in-2.ensures.value ∙ ap (λ (x : ℤ). int_div_euclid x (pos 86400)) m in
    let sum : to_z w64 (of_z w64 (to_z w64 (of_z w64 c.days_in.result) +ℤ to_z w64 (of_z w64 c.days_in-2.result))) ≡ c.days_in.result +ℤ c.days_in-2.result = omega (arith, ints) in
    sum ∙ day_by_parts c.args.stamp.seconds c.args.stamp.zone c.days_in.result c.days_in-2.result c.moved-second.result c.second_in.result day second moved more
