-- What a decision on a change promises follows from its reply, and from what the rows are.
use Rattle.std.proofs.Common.{◌≡◌, List, None, refl, sym, subst}
use Rattle.oz_namespace.specs.declared.namespace.Namespace.{Namespace}
use Rattle.oz_model.specs.Answers.{Answers}
use Rattle.oz_model.specs.laws.Scopes.{stays}
use Rattle.oz_requests.specs.declared.reply.Reply.{Reply}
use Rattle.oz_requests.specs.declared.reply.Reply.TheVariants as replies
use Rattle.oz_requests.specs.declared.request.Request.{Request}
use Rattle.oz_requests.specs.declared.request.Request.TheVariants.{DeleteKey, RenameKey}
use Rattle.oz_requests.specs.Names.{name_fault}
use Rattle.oz_rows.specs.declared.operation.Change.{Change}
use Rattle.oz_rows.specs.RowMaps.{Rows, after_changes}
use Rattle.oz_sound.specs.Sound.{IsSound, IsSoundButRenames, RenamesAreSound}
use Rattle.oz_decision.specs.Meets.{Stand, Meets}
use Rattle.oz_decision.specs.laws.OneRow.{nothing_changes, stand_but_renames, meets_in_all}
use Rattle.oz_om_key.specs.om_change.Changes.{IsChange}
use Rattle.oz_om_key.specs.om_change.Keys.{MayRecordChange}
use Rattle.oz_om_key.specs.om_change.Records.{AreRecorded}
use Rattle.oz_om_key.proofs.om_change_lemmas.Batches.{bytes_of}
use Rattle.oz_om_key.proofs.om_change_lemmas.Deleted.{meets as deletion_meets, renames_stay as deletion_keeps}
use Rattle.oz_om_key.proofs.om_change_lemmas.Renamed.{meets as renaming_meets, renames_now as renaming_keeps}
use Rattle.oz_om_key.proofs.om_change_lemmas.Records.{is_told, no_other}

abbrev MeetsBut : Rows → Namespace → Request → Reply → List Change → Type 0
MeetsBut all namespace request reply changes = Meets IsSoundButRenames all namespace request reply (bytes_of changes) changes

pub meets : (all : Rows) (namespace : Namespace) (request : Request) (reply : Reply) (changes : List Change) → IsChange request → name_fault request ≡ None → MayRecordChange all request reply → AreRecorded all request reply changes → Stand IsSoundButRenames all namespace → Answers namespace request reply → MeetsBut all namespace request reply changes
unfolding is_told
meets all namespace request (replies.Code code) changes change named allowed recorded stand answers = subst (MeetsBut all namespace request (replies.Code code)) (sym recorded) (nothing_changes IsSoundButRenames all namespace request (replies.Code code) stand answers (stays namespace request (replies.Code code) refl))
meets all namespace (DeleteKey v b k) replies.Done changes change named allowed recorded stand answers = subst (MeetsBut all namespace (DeleteKey v b k) replies.Done) (sym recorded) (deletion_meets all v b k named allowed namespace stand answers)
meets all namespace (RenameKey v b k to) replies.Done changes change named allowed (numbers, are, recorded) stand answers = subst (MeetsBut all namespace (RenameKey v b k to) replies.Done) (sym recorded) (renaming_meets all v b k to named allowed numbers namespace stand answers)
meets all namespace request replies.Done changes change named allowed recorded stand answers = absurd change
meets all namespace request reply changes change named allowed recorded stand answers = no_other namespace request reply change refl answers

renames : (all : Rows) (namespace : Namespace) (request : Request) (reply : Reply) (changes : List Change) → IsChange request → name_fault request ≡ None → MayRecordChange all request reply → AreRecorded all request reply changes → Stand IsSound all namespace → RenamesAreSound (after_changes changes all)
renames all namespace (DeleteKey v b k) replies.Done changes change named allowed recorded stand = subst (λ (c : List Change). RenamesAreSound (after_changes c all)) (sym recorded) (deletion_keeps all v b k named allowed namespace (stand_but_renames all namespace stand) stand.sound.renames)
renames all namespace (RenameKey v b k to) replies.Done changes change named allowed (numbers, are, recorded) stand =
    subst (λ (c : List Change). RenamesAreSound (after_changes c all)) (sym recorded) (renaming_keeps all v b k to named allowed numbers namespace (stand_but_renames all namespace stand) stand.sound are)
renames all namespace request replies.Done changes change named allowed recorded stand = absurd change
renames all namespace request reply changes change named allowed recorded stand = subst (λ (c : List Change). RenamesAreSound (after_changes c all)) (sym recorded) stand.sound.renames

pub meets_all : (all : Rows) (namespace : Namespace) (request : Request) (reply : Reply) (changes : List Change) → IsChange request → name_fault request ≡ None → MayRecordChange all request reply → AreRecorded all request reply changes → Stand IsSound all namespace → Answers namespace request reply → Meets IsSound all namespace request reply (bytes_of changes) changes
meets_all all namespace request reply changes change named allowed recorded stand answers =
    meets_in_all all namespace request reply (bytes_of changes) changes (meets all namespace request reply changes change named allowed recorded (stand_but_renames all namespace stand) answers)
    (renames all namespace request reply changes change named allowed recorded stand)
