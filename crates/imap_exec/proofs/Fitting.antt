-- What can be appended to a mailbox.
use Rattle.std.proofs.Common.{◌≡◌, ◌≤◌, ℕ, Bool, true, false, cond, ◌&&◌, List, [], ◌∷◌, length, Option, Some, None, ℤ, pos, neg_ℤ, ◌≤ℤ◌, int_le, nat_le, nat_lt, refl, arith}
use Rattle.std.specs.List.{list_all}
use Rattle.std.specs.Int.Signed.{le_z_yes}
use Rattle.std.proofs.lemmas.Float.{T_from_true as passes}
use Rattle.std.proofs.lemmas.Bool.{leb-true, ltb-false}
use Rattle.jiff_core.proofs.SignedLemmas.{signed_arith}
use Rattle.imap_lexer.specs.Units.{literal_limit}
use Rattle.date_grammar.specs.declared.parts.Stamp.{Stamp}
use Rattle.date_grammar.specs.Stamps.{HasPrint, civil_day_of}
use Rattle.imap_grammar.specs.declared.flags.Flag.{Flag}
use Rattle.imap_grammar.specs.Flags.{flag_text}
use Rattle.imap_writer.specs.declared.refusals.Refusal.{Refusal}
use Rattle.imap_writer.specs.declared.refusals.Refusal.TheVariants.{LiteralTooLong, Syntax}
use Rattle.row_tables.specs.Fits.{IsText}
use Rattle.mail_world.specs.Flags.{is_flag}
use Rattle.mailbox_core.specs.Messages.{AreProper}
use Rattle.imap_steps.specs.Appending.{is_fit_flag, is_between, has_print, is_fit_date, date_or, unfit}

left_of : (a b : Bool) → (a && b) ≡ true → a ≡ true
left_of true b e = refl
left_of false b e = e

right_of : (a b : Bool) → (a && b) ≡ true → b ≡ true
right_of true b e = e
right_of false b e = cc

both : (a b : Bool) → a ≡ true → b ≡ true → (a && b) ≡ true
both a b e f = cc

-- ---- flags

fit_text : (flag : Flag) → is_fit_flag flag ≡ true → IsText (flag_text flag)
fit_text flag fit =
    let short : length (flag_text flag) ≤ 8192 = leb-true (length (flag_text flag)) 8192 (right_of (is_flag flag) (nat_le (length (flag_text flag)) 8192) fit) in
    omega arith

pub fit_flags : (flags : List Flag) → list_all is_fit_flag flags ≡ true → AreProper flags
fit_flags [] fit = record { flags_are = refl; texts = tt }
fit_flags (flag ∷ flags) fit =
    let first : is_fit_flag flag ≡ true = left_of (is_fit_flag flag) (list_all is_fit_flag flags) fit in
    let rest : AreProper flags = fit_flags flags (right_of (is_fit_flag flag) (list_all is_fit_flag flags) fit) in
    record {
      flags_are = both (is_flag flag) (list_all is_flag flags) (left_of (is_flag flag) (nat_le (length (flag_text flag)) 8192) first) rest.flags_are;
      texts = (fit_text flag first, rest.texts);
    }

-- ---- dates

between : (low high z : ℤ) → is_between low high z ≡ true → (low ≤ℤ z) × (z ≤ℤ high)
between low high z is =
    (le_z_yes (passes (int_le low z) (left_of (int_le low z) (int_le z high) is)), le_z_yes (passes (int_le z high) (right_of (int_le low z) (int_le z high) is)))

has_print_so : (date : Stamp) → has_print date ≡ true → HasPrint date
has_print_so date is =
    let days : Bool = is_between (neg_ℤ (pos 719_162)) (pos 2_932_896) (civil_day_of date) in
    let zones : Bool = is_between (neg_ℤ (pos 1439)) (pos 1439) date.zone in
    record {
      year = between (neg_ℤ (pos 719_162)) (pos 2_932_896) (civil_day_of date) (left_of days zones is);
      zone = between (neg_ℤ (pos 1439)) (pos 1439) date.zone (right_of days zones is);
    }

now_has_print : (now : ℕ) → HasPrint (date_or None now)
now_has_print now = record {
  year = (omega (arith, signed_arith), omega (arith, signed_arith));
  zone = (omega (arith, signed_arith), omega (arith, signed_arith));
}

fit_date : (date : Option Stamp) (now : ℕ) → is_fit_date date ≡ true → HasPrint (date_or date now)
fit_date None now fit = now_has_print now
fit_date (Some date) now fit = has_print_so date fit

-- ---- what isn't refused

abbrev refused_by : Bool → Bool → Option Refusal
refused_by long fit = cond long (Some LiteralTooLong) (cond fit None (Some Syntax))

not_long : (long fit : Bool) → refused_by long fit ≡ None → long ≡ false
not_long true fit e = cc
not_long false fit e = refl

all_fit : (long fit : Bool) → refused_by long fit ≡ None → fit ≡ true
all_fit true fit e = cc
all_fit false true e = refl
all_fit false false e = cc

module _ (flags : List Flag) (date : Option Stamp) (text : List ℕ) (fit : unfit flags date text ≡ None) where
  abbrev long : Bool
  long = nat_lt literal_limit (length text)

  are_fit : (list_all is_fit_flag flags && is_fit_date date) ≡ true
  unfolding unfit
  are_fit = all_fit long (list_all is_fit_flag flags && is_fit_date date) fit

  pub fits_literal : length text ≤ literal_limit
  unfolding unfit
  fits_literal = omega (arith, ltb-false literal_limit (length text) (not_long long (list_all is_fit_flag flags && is_fit_date date) fit))

  pub flags_are_proper : AreProper flags
  flags_are_proper = fit_flags flags (left_of (list_all is_fit_flag flags) (is_fit_date date) are_fit)

  pub date_has_print : (now : ℕ) → HasPrint (date_or date now)
  date_has_print now = fit_date date now (right_of (list_all is_fit_flag flags) (is_fit_date date) are_fit)
