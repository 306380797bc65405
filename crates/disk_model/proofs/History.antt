-- One more change joins those of a disk in memory.
use Rattle.std.proofs.Common.{◌≡◌, ⊎_elim, ℕ, ◌+◌, ◌≤◌, ◌<◌, max, List, [], ◌∷◌, ◌++◌, length, take, drop, refl, sym, ◌∙◌, ap, subst, arith, length-append, length-take, length-drop}
use Rattle.std.proofs.lemmas.List.{take_all, take-append-le}
use Rattle.std.proofs.lemmas.Bool.{cases_lt}
use Rattle.disk_model.specs.declared.memory.Change.{Change}
use Rattle.disk_model.specs.declared.memory.Change.TheVariants.{Write, Sync}
use Rattle.disk_model.specs.Images.{greatest_length}
use Rattle.disk_model.specs.Calls.{overwritten}
use Rattle.disk_model.specs.Memory.{State, at_rest, next, after, state_at, IsRecorded}

pub after_more : (s : State) (changes : List Change) (change : Change) → after s (changes ++ change ∷ []) ≡ next (after s changes) change
after_more s [] change = refl
after_more s (first ∷ changes) change = after_more (next s first) changes change

-- the moments before the last change are as they were, and the others are the last
pub moment_before : (changes : List Change) (change : Change) (moment : ℕ) → moment ≤ length changes → take moment (changes ++ change ∷ []) ≡ take moment changes
moment_before changes change moment le = take-append-le moment changes (change ∷ []) le

pub moment_last : (changes : List Change) (change : Change) (moment : ℕ) → length changes < moment → take moment (changes ++ change ∷ []) ≡ changes ++ change ∷ []
moment_last changes change moment lt = take_all moment (changes ++ change ∷ []) (omega (arith, length-append changes (change ∷ [])))

abbrev IsLongest : State → Type 0
IsLongest s = greatest_length (length s.synced) s.ranges ≡ length s.reading

size_written : (at : ℕ) (piece file : List ℕ) → at ≤ length file → length (overwritten at piece file) ≡ max (at + length piece) (length file)
size_written at piece file within =
    omega (arith, length-append (take at file ++ piece) (drop (at + length piece) file), length-append (take at file) piece, length-take at file, length-drop (at + length piece) file)

longest_written : (s : State) (at : ℕ) (piece : List ℕ) → at ≤ length s.reading → IsLongest s → IsLongest (next s (Write at piece))
longest_written s at piece within is = omega (arith, is, size_written at piece s.reading within)

module _ (first : List ℕ) (changes : List Change) (bytes : List ℕ) (is : IsRecorded first changes bytes) where
  abbrev now : State
  now = after (at_rest first) changes

  longest_now : IsLongest now
  longest_now = subst (λ (l : List Change). IsLongest (after (at_rest first) l)) (take_all (length changes) changes (omega arith)) (is.longest (length changes))

  more : (change : Change) → IsLongest (next now change) → (moment : ℕ) → IsLongest (state_at first (changes ++ change ∷ []) moment)
  more change last moment = ⊎_elim
      (λ (lt : length changes < moment). subst (λ (l : List Change). IsLongest (after (at_rest first) l)) (sym (moment_last changes change moment lt))
      (subst IsLongest (sym (after_more (at_rest first) changes change)) last))
      (λ (le : moment ≤ length changes). subst (λ (l : List Change). IsLongest (after (at_rest first) l)) (sym (moment_before changes change moment le)) (is.longest moment))
      (cases_lt (length changes) moment)

  pub recorded_sync : IsRecorded first (changes ++ Sync ∷ []) bytes
  recorded_sync = record {
    reading = is.reading ∙ ap (λ (s : State). s.reading) (sym (after_more (at_rest first) changes Sync));
    longest = more Sync refl;
  }

  pub recorded_write : (at : ℕ) (piece : List ℕ) → at ≤ length bytes → IsRecorded first (changes ++ Write at piece ∷ []) (overwritten at piece bytes)
  recorded_write at piece within = record {
    reading = ap (overwritten at piece) is.reading ∙ ap (λ (s : State). s.reading) (sym (after_more (at_rest first) changes (Write at piece)));
    longest = more (Write at piece) (longest_written now at piece (omega (arith, within, ap length is.reading)) longest_now);
  }
