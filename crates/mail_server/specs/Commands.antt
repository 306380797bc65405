-- What a command that was read asks for.
use Rattle.mail_server.specs.Words as model
use Rattle.mail_server.specs.declared.words.Command.{Command}
use Rattle.mail_server.specs.declared.words.Command.TheVariants.{OfText, Init, Tables, AddUser, Serve}

abbrev pub meaning : Command → model.Asked
meaning (OfText task) = model.OfText task
meaning Init = model.Init
meaning Tables = model.Tables
meaning (AddUser name password) = model.AddUser name.now password.now
meaning (Serve serve) = model.Serve serve.rounds serve.ports.imap serve.ports.lmtp
