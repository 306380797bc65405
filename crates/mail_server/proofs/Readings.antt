-- What the text of a script says, and the lines of its sessions.
use Rattle.std.proofs.Common.{◌≡◌, ℕ, zero, suc, ◌+◌, ◌<◌, ◌≤◌, cond, Bool, true, false, nat_lt, nat_le, List, [], ◌∷◌, ◌++◌, length, refl, sym, ◌∙◌, ap, subst, arith, length-append}
use Rattle.std.specs.Prelude.{Option, Some, None, flat_map}
use Rattle.std.specs.List.{range_with_len}
use Rattle.std.proofs.lemmas.List.{append-nil}
use Rattle.std.proofs.lemmas.Grind.{flat_map-append}
use Rattle.std.proofs.lemmas.Bool.Decides.{nat_tests}
use Rattle.port_model.specs.Transcript.{session_lines}
use Rattle.disk_model.specs.Told.{Told}
use Rattle.disk_model.specs.declared.disk.Files.{Files}
use Rattle.mail_server.specs.Run.{ReadsUpTo, End, EndsAs, TextEnds, canon_end, canonical, limit_of, end_of_long, transcript_of}
use Rattle.mail_server.specs.declared.words.Task.{Task}
use Rattle.mail_server.specs.declared.words.Task.TheVariants.{Script, Canon}
use Rattle.mail_server.specs.declared.status.Status.TheVariants.{Done}

is-long : (task : Task) (text : List ℕ) → limit_of task < length text → nat_lt (limit_of task) (length text) ≡ true
is-long task text gt = grind (arith, nat_tests, gt)

is-short : (task : Task) (text : List ℕ) → length text ≤ limit_of task → nat_lt (limit_of task) (length text) ≡ false
is-short task text le = grind (arith, nat_tests, le)

pub ends-long : {D : Type 0} (told : Told D) (task : Task) (text : List ℕ) (now : ℕ) (files : Files D) (end : End) → limit_of task < length text → end ≡ end_of_long task → EndsAs told task text now files files end
unfolding EndsAs
ends-long told task text now files end gt is = rw (is-long task text gt) (is, refl)

pub ends-short : {D : Type 0} (told : Told D) (task : Task) (text : List ℕ) (now : ℕ) (files files' : Files D) (end : End) → length text ≤ limit_of task → TextEnds told false task text now files files' end
    → EndsAs told task text now files files' end
unfolding EndsAs
ends-short told task text now files files' end le ends = subst (λ (b : Bool). TextEnds told b task text now files files' end) (sym (is-short task text le)) ends

pub long-ends : {D : Type 0} (told : Told D) (task : Task) (text : List ℕ) (now : ℕ) (files files' : Files D) (end : End) → limit_of task < length text → EndsAs told task text now files files' end
    → (end ≡ end_of_long task) × (files' ≡ files)
unfolding EndsAs
long-ends told task text now files files' end gt ends = subst (λ (b : Bool). TextEnds told b task text now files files' end) (is-long task text gt) ends

-- The word `canon` leaves the files alone.

pub canon-long : (text : List ℕ) (now : ℕ) → limit_of Canon < length text → canon_end text now ≡ end_of_long Canon
unfolding canon_end
canon-long text now gt = rw (is-long Canon text gt) refl

pub canon-short : (text : List ℕ) (now : ℕ) → length text ≤ limit_of Canon → canon_end text now ≡ record { status = Done; lines = canonical text now }
unfolding canon_end
canon-short text now le = rw (is-short Canon text le) refl

pub canon-ends : {D : Type 0} (told : Told D) (text : List ℕ) (now : ℕ) (files : Files D) (end : End) → end ≡ canon_end text now → EndsAs told Canon text now files files end
unfolding EndsAs canon_end
canon-ends told text now files end is = by_length (nat_lt (limit_of Canon) (length text)) is
  where
    by_length : (long : Bool) → end ≡ cond long (end_of_long Canon) (let short : End = record { status = Done; lines = canonical text now } in short) → TextEnds told long Canon text now files files end
    by_length true is = (is, refl)
    by_length false is = (is, refl)

-- what was read and isn't too long is the whole text
pub read-same : (limit : ℕ) (text bytes : List ℕ) (new : Option (List ℕ)) → ReadsUpTo limit bytes (Some text) new → length bytes ≤ limit → text ≡ bytes
read-same limit text bytes None reads le = absurd reads.taken
read-same limit text bytes (Some rest) reads le =
    let e : rest ≡ [] = reads.to_end le in
    reads.taken ∙ ap (λ r. bytes ++ r) e ∙ append-nil bytes

-- what was read ends a run as the whole text does
pub ends-read : {D : Type 0} (told : Told D) (task : Task) (text bytes : List ℕ) (now : ℕ) (files files' : Files D) (end : End) (new : Option (List ℕ)) → ReadsUpTo (limit_of task) bytes (Some text) new
    → EndsAs told task bytes now files files' end → EndsAs told task text now files files' end
ends-read told task text bytes now files files' end None reads ends = absurd reads.taken
ends-read {D} told task text bytes now files files' end (Some rest) reads ends = by_length (nat_le (length bytes) (limit_of task)) refl
  where
    by_length : (b : Bool) → nat_le (length bytes) (limit_of task) ≡ b → EndsAs told task text now files files' end
    by_length true is =
        let le : length bytes ≤ limit_of task = grind (arith, nat_tests, is) in
        subst (λ (t : List ℕ). EndsAs told task t now files files' end) (sym (read-same (limit_of task) text bytes (Some rest) reads le)) ends
    by_length false is =
        let gt : limit_of task < length bytes = grind (arith, nat_tests, is) in
        let long = long-ends told task bytes now files files' end gt ends in
        subst (λ (f : Files D). EndsAs told task text now files f end) (sym long.1)
        (ends-long told task text now files end (omega (arith, gt, ap length reads.taken, length-append bytes rest)) long.0)

-- Numbers, and the lines of sessions by their numbers.

range-more : (a n : ℕ) → range_with_len a (n + 1) ≡ range_with_len a n ++ (a + n) ∷ []
range-more a zero = let e : a ≡ a + 0 = omega arith in ap (λ k. k ∷ []) e
range-more a (suc n) =
    let e : suc n + 1 ≡ suc (n + 1) = omega arith in
    let f : a + 1 + n ≡ a + suc n = omega arith in
    ap (range_with_len a) e ∙ ap (λ l. a ∷ l) (range-more (a + 1) n ∙ ap (λ k. range_with_len (a + 1) n ++ k ∷ []) f)

pub transcript-more : (last : ℕ) (out : ℕ → List ℕ) → transcript_of (last + 1) out ≡ transcript_of last out ++ session_lines (last + 1) (out (last + 1))
transcript-more last out =
    let lines : ℕ → List ℕ = λ number. session_lines number (out number) in
    let e : 1 + last ≡ last + 1 = omega arith in
    ap (flat_map lines) (range-more 1 last) ∙ flat_map-append lines (range_with_len 1 last) ((1 + last) ∷ []) ∙ ap (λ n. transcript_of last out ++ n) (append-nil (lines (1 + last)) ∙ ap lines e)

-- a text by which a run is done isn't too long
pub short-done : {D : Type 0} (told : Told D) (task : Task) (bytes : List ℕ) (now : ℕ) (files files' : Files D) (end : End) → EndsAs told task bytes now files files' end → end.status ≡ Done → length bytes ≤ limit_of task
short-done told task bytes now files files' end ends done = by_length (nat_le (length bytes) (limit_of task)) refl
  where
    long-isnt : (task : Task) → (end_of_long task).status ≡ Done → ⊥
    long-isnt Script e = cc
    long-isnt Canon e = cc

    by_length : (b : Bool) → nat_le (length bytes) (limit_of task) ≡ b → length bytes ≤ limit_of task
    by_length true is = grind (arith, nat_tests, is)
    by_length false is =
        let gt : limit_of task < length bytes = grind (arith, nat_tests, is) in
        absurd (long-isnt task (sym (ap (λ (e : End). e.status) (long-ends told task bytes now files files' end gt ends).0) ∙ done))
