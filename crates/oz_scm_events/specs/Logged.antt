-- Which event says that a transaction was logged.
use Rattle.oz_core.specs.declared.event.EventKind.{EventKind}
use Rattle.oz_core.specs.declared.event.EventKind.TheVariants.{Log}
use Rattle.oz_dellog.specs.declared.txn.Txn.{Txn}

abbrev pub log_event : Txn → EventKind
log_event txn = Log txn.number txn.container txn.locals
