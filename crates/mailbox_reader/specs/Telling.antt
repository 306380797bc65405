-- The flags of a message, as they are told (RFC 3501 §2.3.2, §7.4.2).
use Rattle.std.specs.Prelude.{List, [], ◌∷◌, ◌++◌, filter, map}
use Rattle.imap_grammar.specs.declared.flags.Flag.{Flag}
use Rattle.imap_grammar.specs.declared.flags.Flag.TheVariants.{Answered, Flagged, Deleted, Seen, Draft, Keyword}
use Rattle.mail_world.specs.Flags.{has_flag}
use Rattle.mail_world.specs.Summaries.{with_keywords}

-- the flags of the standard, but for `\Recent`, which is of a session
abbrev pub system_flags : List Flag
system_flags = Answered ∷ Flagged ∷ Deleted ∷ Seen ∷ Draft ∷ []

-- A set of flags in the order in which they are told: those of the standard, and then the keywords by bytes.
abbrev pub told_flags : List Flag → List Flag
told_flags flags = filter (λ flag. has_flag flag flags) system_flags ++ map Keyword (with_keywords flags [])
