use Rattle.std.proofs.Common.{◌∙◌}
use Rattle.oz_node_events.proofs.Noted.{appended_begins}
use Rattle.oz_node_events.proofs.changing.NodeSeat+Ledger+O+O+R.give.Goals as goal

pub returns-in-Some-clause-other : goal.returns-in-Some-clause-other
returns-in-Some-clause-other g c =
    let note = c.note.ensures in
    let begins = appended_begins _ _ _ _ note.told in
    record { same = note.other; free = note.other_free; begins = (begins.0, note.other_seen ∙ begins.1); seen = note.other_seen; mine = note.other_mine; room = note.other_room }

pub returns-in-None-clause-other : goal.returns-in-None-clause-other
returns-in-None-clause-other g c =
    let show = c.show.ensures in
    record { same = show.other; free = show.other_free; begins = show.other_begins; seen = show.other_seen; mine = show.other_mine; room = show.other_room }
