-- What a decision on a commit promises follows from its reply, and from what the rows are.
use Rattle.std.proofs.Common.{◌≡◌, None, refl}
use Rattle.oz_namespace.specs.declared.namespace.Namespace.{Namespace}
use Rattle.oz_model.specs.Answers.{Answers}
use Rattle.oz_model.specs.laws.Scopes.{stays}
use Rattle.oz_requests.specs.declared.reply.Reply.{Reply}
use Rattle.oz_requests.specs.declared.reply.Reply.TheVariants as replies
use Rattle.oz_requests.specs.declared.request.Request.{Request}
use Rattle.oz_requests.specs.declared.request.Request.TheVariants.{CommitKey}
use Rattle.oz_requests.specs.Names.{name_fault}
use Rattle.oz_rows.specs.RowMaps.{Rows, after_changes}
use Rattle.oz_sound.specs.Sound.{IsSound, IsSoundButRenames, RenamesAreSound}
use Rattle.oz_decision.specs.Meets.{Stand, Meets}
use Rattle.oz_decision.specs.laws.OneRow.{nothing_changes, stand_but_renames, meets_in_all}
use Rattle.oz_om_session.specs.Commits.{IsCommit}
use Rattle.oz_om_session.specs.Records.{recorded_commit}
use Rattle.oz_om_session.specs.Sessions.{MayRecordCommit}
use Rattle.oz_om_session.proofs.CommitDone.{meets as commit_meets, renames_stay as commit_keeps_renames}
use Rattle.oz_om_session.proofs.CommitRecords.{is_told, no_other, bytes_for}

pub meets : (all : Rows) (namespace : Namespace) (request : Request) (reply : Reply) → IsCommit request → name_fault request ≡ None → MayRecordCommit all request reply → Stand IsSoundButRenames all namespace → Answers namespace request reply → Meets IsSoundButRenames all namespace request reply (bytes_for all request reply) (recorded_commit all request reply)
unfolding is_told
meets all namespace request (replies.Code code) commit named allowed stand answers = nothing_changes IsSoundButRenames all namespace request (replies.Code code) stand answers (stays namespace request (replies.Code code) refl)
meets all namespace (CommitKey v b k n pieces) replies.Done commit named allowed stand answers = commit_meets all v b k n pieces named allowed namespace stand answers
meets all namespace request replies.Done commit named allowed stand answers = absurd commit
meets all namespace request reply commit named allowed stand answers = no_other namespace request reply commit refl answers

renames : (all : Rows) (namespace : Namespace) (request : Request) (reply : Reply) → IsCommit request → name_fault request ≡ None → MayRecordCommit all request reply → Stand IsSoundButRenames all namespace → RenamesAreSound all → RenamesAreSound (after_changes (recorded_commit all request reply) all)
renames all namespace (CommitKey v b k n pieces) replies.Done commit named allowed stand sound = commit_keeps_renames all v b k n pieces named allowed namespace stand sound
renames all namespace request replies.Done commit named allowed stand sound = absurd commit
renames all namespace request reply commit named allowed stand sound = sound

pub meets_all : (all : Rows) (namespace : Namespace) (request : Request) (reply : Reply) → IsCommit request → name_fault request ≡ None → MayRecordCommit all request reply → Stand IsSound all namespace → Answers namespace request reply → Meets IsSound all namespace request reply (bytes_for all request reply) (recorded_commit all request reply)
meets_all all namespace request reply commit named allowed stand answers =
    let most = stand_but_renames all namespace stand in
    meets_in_all all namespace request reply (bytes_for all request reply) (recorded_commit all request reply) (meets all namespace request reply commit named allowed most answers) (renames all namespace request reply commit named allowed most stand.sound.renames)
