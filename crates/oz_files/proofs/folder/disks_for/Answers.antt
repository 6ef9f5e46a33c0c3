use Rattle.std.proofs.Common.{map, subst}
use Rattle.std.specs.String.{string_bytes}
use Rattle.oz_host.specs.files.Reading.{IsFault}
use Rattle.oz_files.proofs.folder.disks_for.Goals as goal

pub returns-in-Err-At-clause-manager : goal.returns-in-Err-At-clause-manager
returns-in-Err-At-clause-manager g c is =
    absurd (c.words_of_a_transfer_have_no_fault.ensures _ c.in-Err-At.field-0-0 is (subst (IsFault (map string_bytes c.args.words.now)) c.in-Err-At.field-0-is c.in-Err-At.ensures.fault))

pub returns-in-Err-At-clause-scm : goal.returns-in-Err-At-clause-scm
returns-in-Err-At-clause-scm g c is =
    absurd (c.words_of_a_transfer_have_no_fault.ensures _ c.in-Err-At.field-0-0 is (subst (IsFault (map string_bytes c.args.words.now)) c.in-Err-At.field-0-is c.in-Err-At.ensures.fault))

pub returns-in-Err-At-clause-nodes : goal.returns-in-Err-At-clause-nodes
returns-in-Err-At-clause-nodes g c is =
    absurd (c.words_of_a_transfer_have_no_fault.ensures _ c.in-Err-At.field-0-0 is (subst (IsFault (map string_bytes c.args.words.now)) c.in-Err-At.field-0-is c.in-Err-At.ensures.fault))

pub returns-in-Err-At-clause-count : goal.returns-in-Err-At-clause-count
returns-in-Err-At-clause-count g c way path nodes workers is =
    absurd (c.words_of_a_transfer_have_no_fault.ensures _ c.in-Err-At.field-0-0 (way, (path, nodes, workers, is))
    (subst (IsFault (map string_bytes c.args.words.now)) c.in-Err-At.field-0-is c.in-Err-At.ensures.fault))
