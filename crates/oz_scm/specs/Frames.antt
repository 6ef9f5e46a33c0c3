-- For private calls: an entry in the frame in which a journal takes it.
use Rattle.std.specs.Prelude.{◌≡◌, ◌≤◌, ℕ, List, length}
use Rattle.oz_scm.specs.declared.grants.entry.Entry.{Entry}
use Rattle.oz_scm.specs.grants.Entries.{entry_bytes}
use Rattle.oz_journal.specs.Journal.{body_of}
use Rattle.oz_journal.specs.declared.frame.TheConstants.{LONGEST_FRAME}

pub record IsFrameOf (entry : Entry) (frame : List ℕ) : Type 0 where
  pub body : body_of frame ≡ entry_bytes entry
  pub least : 5 ≤ length frame
  pub most : length frame ≤ LONGEST_FRAME
