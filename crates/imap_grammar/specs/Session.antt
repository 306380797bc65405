-- Commands of the session (RFC 3501 §6.1, §6.2; RFC 5161 §3.1).
use Rattle.imap_grammar.specs.declared.commands.Command.{Command}
use Rattle.imap_grammar.specs.declared.commands.Command.TheVariants.{Login, Authenticate, Enable}
use Rattle.imap_grammar.specs.declared.classes.Class.TheVariants.{Atom}
use Rattle.imap_grammar.specs.Readings.{Reading, ◌>>=◌, ◌>>◌, pure, space, end}
use Rattle.imap_grammar.specs.Strings.{some, astring}
use Rattle.imap_grammar.specs.Lists.{separated}

-- a command that ends here
unfoldable pub alone : Command → Reading Command
alone command = do
  end
  pure command

unfoldable pub login : Reading Command
login = do
  space
  name ← astring
  space
  password ← astring
  end
  pure (Login name password)

unfoldable pub authenticate : Reading Command
authenticate = do
  space
  mechanism ← some Atom
  end
  pure (Authenticate mechanism)

unfoldable pub enable : Reading Command
enable = do
  space
  names ← separated 32 (some Atom)
  end
  pure (Enable names)
