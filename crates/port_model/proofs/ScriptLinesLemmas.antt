-- What a script says, line by line, is what its lines say as a whole.
use Rattle.std.proofs.Common.{◌≡◌, ℕ, zero, suc, ◌+◌, ◌<◌, Bool, true, false, ◌||◌, List, [], ◌∷◌, ◌++◌, length, get_or, take, refl, sym, ◌∙◌, ap, subst, arith, append_assoc, append-nil}
use Rattle.std.specs.Prelude.{Option, Some, None, Result, Ok, Err, is_some, flat_map}
use Rattle.port_model.specs.declared.events.Event.{Event}
use Rattle.port_model.specs.Script.{says_nothing, line_event, next_event, with_line, events_after, script_events, script_lines}
use Rattle.port_model.specs.ScriptLines.{its_events, AreAllGood, IsFirstBad}
use Rattle.port_model.proofs.ScriptLemmas.{events_after-nothing, events_after-bad, events_after-good, next_event-Some}

-- whether a line is good behind some events
abbrev fits : List Event → List ℕ → Bool
fits before line = says_nothing line || is_some (next_event before line)

its_events-nothing : (line : List ℕ) → says_nothing line ≡ true → its_events line ≡ []
its_events-nothing line nothing = rw nothing refl

its_events-event : (line : List ℕ) (event : Event) → says_nothing line ≡ false → line_event line ≡ Some event → its_events line ≡ event ∷ []
its_events-event line event something said = rw (something, said) refl

-- a good line
after-fits : (before : List Event) (line : List ℕ) (lines : List (List ℕ)) (nothing : Bool) (next : Option Event) → says_nothing line ≡ nothing → next_event before line ≡ next → nothing || is_some next ≡ true
    → events_after before (line ∷ lines) ≡ with_line (its_events line) (events_after (before ++ its_events line) lines)
after-fits before line lines true next says said good =
    events_after-nothing before line lines says
    ∙ subst (λ (es : List Event). with_line [] (events_after before lines) ≡ with_line es (events_after (before ++ es) lines)) (sym (its_events-nothing line says))
    (ap (λ (es : List Event). with_line [] (events_after es lines)) (sym (append-nil before)))
after-fits before line lines false None says said good = absurd (cc)
after-fits before line lines false (Some event) says said good =
    events_after-good before line lines event says said
    ∙ ap (λ (es : List Event). with_line es (events_after (before ++ es) lines)) (sym (its_events-event line event says (next_event-Some before line event said).said))

-- a bad one
after-bad : (before : List Event) (line : List ℕ) (lines : List (List ℕ)) (nothing : Bool) (next : Option Event) → says_nothing line ≡ nothing → next_event before line ≡ next → nothing || is_some next ≡ false
    → events_after before (line ∷ lines) ≡ Err 1
after-bad before line lines true next says said bad = absurd (cc)
after-bad before line lines false None says said bad = events_after-bad before line lines says said
after-bad before line lines false (Some event) says said bad = absurd (cc)

-- So many lines are good behind some events.
abbrev FitUpTo : List Event → List (List ℕ) → ℕ → Type 0
FitUpTo before lines count = (k : ℕ) → k < count → fits (before ++ flat_map its_events (take k lines)) (get_or lines k []) ≡ true

-- a later line stands behind the same events, of which the first line's are told apart
fits-later : (before : List Event) (line : List ℕ) (lines : List (List ℕ)) (k : ℕ)
    → fits (before ++ flat_map its_events (take (k + 1) (line ∷ lines))) (get_or (line ∷ lines) (k + 1) []) ≡ fits (before ++ its_events line ++ flat_map its_events (take k lines)) (get_or lines k [])
fits-later before line lines k =
    let next : k + 1 ≡ suc k = omega arith in
    subst (λ (n : ℕ). fits (before ++ flat_map its_events (take n (line ∷ lines))) (get_or (line ∷ lines) n []) ≡ fits (before ++ its_events line ++ flat_map its_events (take k lines)) (get_or lines k [])) (sym next)
    (ap (λ (es : List Event). fits es (get_or lines k [])) (sym (append_assoc before (its_events line) (flat_map its_events (take k lines)))))

fit-more : (before : List Event) (line : List ℕ) (lines : List (List ℕ)) (count : ℕ) → fits before line ≡ true → FitUpTo (before ++ its_events line) lines count → FitUpTo before (line ∷ lines) (count + 1)
fit-more before line lines count here later zero low = subst (λ (es : List Event). fits es line ≡ true) (sym (append-nil before)) here
fit-more before line lines count here later (suc k) low =
    subst (λ (es : List Event). fits es (get_or lines k []) ≡ true) (append_assoc before (its_events line) (flat_map its_events (take k lines))) (later k (omega arith))

record FitAll (before : List Event) (lines : List (List ℕ)) (events : List Event) : Type 0 where
  good : FitUpTo before lines (length lines)
  theirs : events ≡ flat_map its_events lines

record FitsFirstBad (before : List Event) (lines : List (List ℕ)) (count : ℕ) : Type 0 where
  within : count < length lines
  good : FitUpTo before lines count
  bad : fits (before ++ flat_map its_events (take count lines)) (get_or lines count []) ≡ false

-- what the lines say that come after some events
abbrev Says : List Event → List (List ℕ) → Result (List Event) ℕ → Type 0
Says before lines (Ok events) = FitAll before lines events
Says before lines (Err n) = (count : ℕ) × (n ≡ count + 1) × FitsFirstBad before lines count

says-more : (before : List Event) (line : List ℕ) (lines : List (List ℕ)) (later : Result (List Event) ℕ) → fits before line ≡ true → Says (before ++ its_events line) lines later → Says before (line ∷ lines) (with_line (its_events line) later)
says-more before line lines (Ok events) here later = record {
  good = subst (FitUpTo before (line ∷ lines)) (omega arith) (fit-more before line lines (length lines) here later.good);
  theirs = ap (λ (es : List Event). its_events line ++ es) later.theirs;
}
says-more before line lines (Err n) here later =
    let bad = later.2 in (
      later.0 + 1,
      ap (λ (m : ℕ). m + 1) later.1,
      record {
        within = omega (arith, bad.within);
        good = fit-more before line lines later.0 here bad.good;
        bad = fits-later before line lines later.0 ∙ bad.bad;
      },
    )

says-bad : (before : List Event) (line : List ℕ) (lines : List (List ℕ)) → fits before line ≡ false → Says before (line ∷ lines) (Err 1)
says-bad before line lines here = (
  0,
  refl,
  record {
    within = omega arith;
    good = λ k low. absurd (omega arith);
    bad = subst (λ (es : List Event). fits es line ≡ false) (sym (append-nil before)) here;
  },
)

says-line : (before : List Event) (line : List ℕ) (lines : List (List ℕ)) (good : Bool) → fits before line ≡ good → ((es : List Event) → Says es lines (events_after es lines)) → Says before (line ∷ lines) (events_after before (line ∷ lines))
says-line before line lines true here later =
    subst (Says before (line ∷ lines)) (sym (after-fits before line lines (says_nothing line) (next_event before line) refl refl here))
    (says-more before line lines (events_after (before ++ its_events line) lines) here (later (before ++ its_events line)))
says-line before line lines false here later =
    subst (Says before (line ∷ lines)) (sym (after-bad before line lines (says_nothing line) (next_event before line) refl refl here)) (says-bad before line lines here)

says : (lines : List (List ℕ)) (before : List Event) → Says before lines (events_after before lines)
says [] before = record { good = λ k low. absurd (omega arith); theirs = refl }
says (line ∷ lines) before = says-line before line lines (fits before line) refl (says lines)

pub all_good : (text : List ℕ) (events : List Event) → script_events text ≡ Ok events → AreAllGood (script_lines text) events
all_good text events is = let s = subst (Says [] (script_lines text)) is (says (script_lines text) []) in record { good = s.good; theirs = s.theirs }

pub first_bad : (text : List ℕ) (n : ℕ) → script_events text ≡ Err n → (before : ℕ) × (n ≡ before + 1) × IsFirstBad (script_lines text) before
first_bad text n is =
    let s = subst (Says [] (script_lines text)) is (says (script_lines text) []) in
    let bad = s.2 in (s.0, s.1, record { within = bad.within; good = bad.good; bad = bad.bad })
