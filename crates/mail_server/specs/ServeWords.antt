-- The ports in the words of `serve`.
use Rattle.std.specs.Prelude.{Option, Some, None}
use Rattle.mail_server.specs.declared.serve_numbers.ServePorts.{ServePorts}
use Rattle.mail_server.specs.Words.{Asked, OfText, Init, Tables, AddUser, Serve}

abbrev pub ports_asked : Option Asked → Option ServePorts
ports_asked None = None
ports_asked (Some (OfText task)) = None
ports_asked (Some Init) = None
ports_asked (Some Tables) = None
ports_asked (Some (AddUser name password)) = None
ports_asked (Some (Serve rounds imap lmtp)) = Some (record { imap = imap; lmtp = lmtp })
