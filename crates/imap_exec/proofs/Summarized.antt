-- What is told of a mailbox is what its summary tells.
use Rattle.std.proofs.Common.{◌≡◌, ℕ, ◌+◌, ◌<◌, ◌≤◌, ◌^◌, ◌++◌, Bool, List, [], ◌∷◌, Some, None, filter, length, map, nat_le, refl, sym, ◌∙◌, append_assoc, arith}
use Rattle.std.proofs.lemmas.List.{length-map}
use Rattle.std.proofs.lemmas.List.Quantifiers.{position-Some}
use Rattle.std.proofs.lemmas.List.Sums.{length-filter, count_by-le-length}
use Rattle.imap_grammar.specs.declared.flags.Flag.{Flag}
use Rattle.imap_grammar.specs.declared.flags.Flag.TheVariants.{Answered, Flagged, Deleted, Seen, Draft, Keyword}
use Rattle.imap_writer.specs.Lines.{exists_line, recent_line, flags_line, permanent_line, uidnext_line, uidvalidity_line}
use Rattle.mail_world.specs.Worlds.{Mailbox, Entry}
use Rattle.mail_world.specs.Summaries.{recent_of, first_unseen, is_unseen}
use Rattle.mailbox_core.specs.declared.summing.Summary.{Summary}
use Rattle.mailbox_core.specs.Summing.{IsSummary}
use Rattle.imap_steps.specs.Selecting.{mailbox_told, unseen_told}

-- ---- numbers

pub messages_within : (its : Summary) (m : Mailbox) → IsSummary its m → length m.entries < 2 ^ 32 → length its.uids < 2 ^ 32
messages_within its m s small = rw (s.uids, length-map m.entries (λ (e : Entry). e.uid)) small

recent_among : (m : Mailbox) → length (recent_of m) ≤ length m.entries
recent_among m =
    let test : Entry → Bool = λ e. nat_le m.head.first_recent e.uid in
    rw (length-map (filter test m.entries) (λ (e : Entry). e.uid), length-filter test m.entries) (count_by-le-length test m.entries)

pub recent_within : (its : Summary) (m : Mailbox) → IsSummary its m → length m.entries < 2 ^ 32 → length its.recent < 2 ^ 32
recent_within its m s small = let among = recent_among m in rw s.recent (omega arith)

unseen_among : (entries : List Entry) (place : ℕ) → first_unseen entries ≡ Some place → place < length entries
unseen_among [] place is = let none : None ≡ Some place = is in absurd (cc)
unseen_among (entry ∷ entries) place is = (position-Some is_unseen (entry ∷ entries) place entry is).0

pub unseen_within : (its : Summary) (m : Mailbox) → IsSummary its m → length m.entries < 2 ^ 32 → (place : ℕ) → its.first_unseen ≡ Some place → place + 1 < 2 ^ 32
unseen_within its m s small place is = let among = unseen_among m.entries place (sym s.first_unseen ∙ is) in omega arith

-- ---- lines

pub joined : (before e r f u rest one two three : List ℕ) → one ≡ before ++ (e ++ r) → two ≡ one ++ (f ++ u) → three ≡ two ++ rest → three ≡ before ++ (e ++ (r ++ (f ++ (u ++ rest))))
joined before e r f u rest one two three first second third =
    rw (third, second, first, append_assoc (before ++ (e ++ r)) (f ++ u) rest, append_assoc before (e ++ r) ((f ++ u) ++ rest), append_assoc e r ((f ++ u) ++ rest), append_assoc f u rest) refl

abbrev pub summary_told : Summary → ℕ → Bool → List Flag → List ℕ
summary_told its mailbox read_write flags =
    exists_line (length its.uids)
    ++ (recent_line (length its.recent)
    ++ (flags_line flags
    ++ (unseen_told its.first_unseen
    ++ (permanent_line flags read_write
    ++ (uidnext_line its.uidnext
    ++ uidvalidity_line mailbox)))))

pub summary_tells : (its : Summary) (m : Mailbox) (mailbox : ℕ) (read_write : Bool) (flags : List Flag) → IsSummary its m → m.head.id ≡ mailbox
    → flags ≡ Answered ∷ Flagged ∷ Deleted ∷ Seen ∷ Draft ∷ map Keyword its.keywords → summary_told its mailbox read_write flags ≡ mailbox_told read_write m
unfolding mailbox_told
summary_tells its m mailbox read_write flags s id are =
    rw (are, s.keywords, s.uids, s.recent, s.first_unseen, s.uidnext, sym id, length-map m.entries (λ (e : Entry). e.uid)) refl
