-- Flags that tell which sessions are open, after one more event.
use Rattle.std.proofs.Common.{◌≡◌, ℕ, ◌+◌, ◌-◌, ◌<◌, Bool, true, false, not, List, [], ◌∷◌, ◌++◌, length, get_or, set, refl, subst, arith, length-append, length-set, ◌==◌, nat_lt, nat_le, ◌&&◌, ◌||◌, if◌then◌else◌, ◌⊎◌, inl, inr}
use Rattle.std.specs.Prelude.{count_by}
use Rattle.std.specs.List.{list_any}
use Rattle.std.proofs.lemmas.Bool.Decides.{nat_tests, eqb_tells}
use Rattle.std.proofs.lemmas.List.Sums.{sum_by-append}
use Rattle.std.proofs.lemmas.List.Folds.{list_any-append}
use Rattle.std.proofs.lemmas.List.{get_or-append_right, get_or_past, get_or-set_other}
use Rattle.std.proofs.lemmas.Grind.{common_steps}
use Rattle.port_model.specs.declared.calls.Kind.{Kind}
use Rattle.port_model.specs.declared.events.Event.{Event}
use Rattle.port_model.specs.declared.events.Event.TheVariants.{Opens, Piece, Ends, Loses}
use Rattle.port_model.specs.Script.{opens, closes, is_open, follows}
use Rattle.port_model.specs.OpenSessions.{TellOpen}

count_more : (before : List Event) (event : Event) → count_by opens (before ++ event ∷ []) ≡ count_by opens before + (if opens event then 1 else 0)
count_more before event = grind (arith, sum_by-append (λ x. if opens x then 1 else 0) before (event ∷ []))

closes_more : (before : List Event) (event : Event) (number : ℕ) → list_any (closes number) (before ++ event ∷ []) ≡ list_any (closes number) before || closes number event
closes_more before event number = grind (arith, nat_tests, list_any-append (closes number) before (event ∷ []))

flag_opened : (flags : List Bool) (count number : ℕ) (before : Bool) → 0 < number → length flags ≡ count → get_or flags (number - 1) false ≡ (nat_lt 0 number && nat_le number count && not before)
    → (count < number → before ≡ false) → get_or (flags ++ true ∷ []) (number - 1) false ≡ (nat_lt 0 number && nat_le number (count + 1) && not before)
flag_opened flags count number before some size was later =
    elim (nat_le number count) as (λ (b : Bool). nat_le number count ≡ b → get_or (flags ++ true ∷ []) (number - 1) false ≡ (nat_lt 0 number && nat_le number (count + 1) && not before)) [
      | true ↦ λ old. grind (arith, nat_tests, common_steps)
      | false ↦ λ old. elim (eqb_tells number (count + 1)) [
        | inl p ↦ grind (arith, nat_tests, common_steps, p.1, later (omega arith), get_or-append_right flags (true ∷ []) count (number - 1) false size (omega (arith, p.1)))
        | inr q ↦ grind (arith, nat_tests, common_steps, q.1, get_or_past (flags ++ true ∷ []) (number - 1) false (grind (arith, nat_tests, length-append flags (true ∷ []), q.1)))
      ]
    ] refl

-- a session opens
pub TellOpen-opens : (before : List Event) (flags : List Bool) (kind : Kind) → TellOpen before flags → TellOpen (before ++ Opens kind ∷ []) (flags ++ true ∷ [])
TellOpen-opens before flags kind tell = record {
  sessions = omega (arith, count_more before (Opens kind), length-append flags (true ∷ []), tell.sessions);
  each = λ number some. grind (
    arith,
    nat_tests,
    count_more before (Opens kind),
    closes_more before (Opens kind) number,
    flag_opened flags (count_by opens before) number (list_any (closes number) before) some tell.sessions (tell.each number some) (tell.later number),
  );
  later = λ number above. grind (arith, nat_tests, closes_more before (Opens kind) number, count_more before (Opens kind), tell.later number);
}

-- a session's peer sends a piece
pub TellOpen-piece : (before : List Event) (flags : List Bool) (who : ℕ) (bytes : List ℕ) (moment : ℕ) → TellOpen before flags → TellOpen (before ++ Piece who bytes moment ∷ []) flags
TellOpen-piece before flags who bytes moment tell =
    let event : Event = Piece who bytes moment in record {
      sessions = omega (arith, count_more before event, tell.sessions);
      each = λ number some. grind (arith, nat_tests, count_more before event, closes_more before event number, tell.each number);
      later = λ number above. grind (arith, nat_tests, closes_more before event number, count_more before event, tell.later number);
    }

-- a session ends or is lost
TellOpen-closes : (before : List Event) (flags : List Bool) (event : Event) (who : ℕ) → TellOpen before flags → is_open before who ≡ true → opens event ≡ false → ((number : ℕ) → closes number event ≡ (who == number))
    → TellOpen (before ++ event ∷ []) (set flags (who - 1) false)
TellOpen-closes before flags event who tell is no_open closed = record {
  sessions = grind (arith, count_more before event, tell.sessions, length-set flags (who - 1) false, no_open);
  each = λ number some. elim (eqb_tells who number) [
    | inl p ↦ grind (arith, nat_tests, common_steps, count_more before event, closes_more before event number, closed number, p.0, p.1)
    | inr q ↦ grind (
      arith,
      nat_tests,
      common_steps,
      count_more before event,
      closes_more before event number,
      closed number,
      no_open,
      tell.each number some,
      q.0,
      get_or-set_other flags (who - 1) (number - 1) false false (λ same. q.1 (grind (arith, nat_tests))),
    )
  ];
  later = λ number above. grind (arith, nat_tests, closes_more before event number, count_more before event, tell.later number, no_open, closed number);
}

pub TellOpen-ends_or_loses : (before : List Event) (flags new : List Bool) (event : Event) (who : ℕ) → (event ≡ Ends who) ⊎ (event ≡ Loses who) → TellOpen before flags → follows before event ≡ true
    → (0 < who → new ≡ set flags (who - 1) false) → TellOpen (before ++ event ∷ []) new
TellOpen-ends_or_loses before flags new event who (inl ends) tell good is =
    let may : is_open before who ≡ true = subst (λ (e : Event). follows before e ≡ true) ends good in
    let some : 0 < who = grind (arith, nat_tests) in
    rw (ends, is some) (TellOpen-closes before flags (Ends who) who tell may refl (λ number. refl))
TellOpen-ends_or_loses before flags new event who (inr loses) tell good is =
    let may : is_open before who ≡ true = subst (λ (e : Event). follows before e ≡ true) loses good in
    let some : 0 < who = grind (arith, nat_tests) in
    rw (loses, is some) (TellOpen-closes before flags (Loses who) who tell may refl (λ number. refl))
