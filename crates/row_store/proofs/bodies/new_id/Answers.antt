use Rattle.std.proofs.Common.{◌≡◌, ◌+◌, ◌-◌, ◌^◌, max, nat_lt, not, true, false, sym, ap, ◌∙◌, arith}
use Rattle.row_store.specs.Bodies.{greatest_id}
use Rattle.row_store.proofs.NewIds.{new_where_last_is_taken, new_above, not_true, not_false}
use Rattle.row_store.proofs.bodies.new_id.Goals as goal

pub returns-then-is_last_taken : goal.returns-then-is_last_taken
returns-then-is_last_taken c =
    let rows = c.args.tables.now.shared.bodyparts in
    let taken = not_true (nat_lt (max (greatest_id rows) c.greatest_placed-greatest.result) (2 ^ 64 - 1)) (sym c.is_last_taken.ensures ∙ c.if-is_last_taken.true) in
    new_where_last_is_taken rows c.args.placed.now c.least_free.result (ap (λ g. nat_lt (max (greatest_id rows) g) (2 ^ 64 - 1)) (sym c.greatest_placed-greatest.ensures) ∙ taken) c.least_free.ensures

pub returns : goal.returns
returns c =
    let rows = c.args.tables.now.shared.bodyparts in
    let free = not_false (nat_lt (max (greatest_id rows) c.greatest_placed-greatest.result) (2 ^ 64 - 1)) (sym c.is_last_taken.ensures ∙ c.if-is_last_taken.false) in
    let is : c.max.result ≡ max (greatest_id rows + 1) (greatest_id c.args.placed.now + 1) = omega arith in
    new_above rows c.args.placed.now c.max.result (ap (λ g. nat_lt (max (greatest_id rows) g) (2 ^ 64 - 1)) (sym c.greatest_placed-greatest.ensures) ∙ free) is
