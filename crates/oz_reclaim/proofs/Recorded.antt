-- What is decided of the requests on snapshots keeps all that a decision owes.
use Rattle.std.proofs.Common.{◌≡◌, inr, List, [], None, Some, sym, subst}
use Rattle.oz_cache.specs.Cache.{CacheView, newest}
use Rattle.oz_decision.specs.declared.decision.Decision.{Decision}
use Rattle.oz_decision.specs.Replies.{IsReply}
use Rattle.oz_model.specs.Answers.{Answers}
use Rattle.oz_model.specs.Scope.{scope_of}
use Rattle.oz_model.specs.laws.Order.{refused_by_name, refused_so}
use Rattle.oz_names.specs.declared.code.Code.{Code}
use Rattle.oz_reclaim.specs.Snapshots.{AreRecorded, IsOnSnapshots, IsRefused, IsSnapshotDecision}
use Rattle.oz_reclaim.proofs.Created.{kept_created}
use Rattle.oz_reclaim.proofs.Decided.{listed_rows}
use Rattle.oz_reclaim.proofs.Marked.{kept_counted, kept_deleted, kept_listed, kept_refused}
use Rattle.oz_requests.specs.declared.reply.Reply.{Reply}
use Rattle.oz_requests.specs.declared.reply.Reply.TheVariants as replies
use Rattle.oz_requests.specs.declared.request.Request.{Request}
use Rattle.oz_requests.specs.declared.request.Request.TheVariants.{CreateSnapshot, DeleteSnapshot, InfoSnapshot, ListSnapshots}
use Rattle.oz_requests.specs.Names.{name_fault, volume_in}
use Rattle.oz_rows.specs.declared.operation.Change.{Change}
use Rattle.oz_rows.specs.RowMaps.{KeysRise, Rows}

pub decided : (cache : CacheView) → KeysRise cache.durable.rows → (request : Request) → IsOnSnapshots request → name_fault request ≡ None → (d : Decision) → IsReply (newest cache) request d.reply → AreRecorded (newest cache) request d.reply d.bytes d.changes → IsSnapshotDecision (newest cache) request d
decided cache rise (CreateSnapshot v b name) is named d reply exact = let list = listed_rows cache rise in record { kept = kept_created (newest cache) list.0 list.1 v b name named d reply exact; exact = exact }
decided cache rise (DeleteSnapshot v b name) is named d reply exact = record { kept = kept_deleted (newest cache) v b name d reply exact; exact = exact }
decided cache rise (ListSnapshots v b) is named d reply exact = record { kept = kept_listed (newest cache) v b d reply exact; exact = exact }
decided cache rise (InfoSnapshot v b name) is named d reply exact = record { kept = kept_counted (newest cache) v b name d reply exact; exact = exact }
decided cache rise request is named d reply exact = absurd is

-- a name that is none
refused_recorded : (all : Rows) (request : Request) → IsOnSnapshots request → (reply : Reply) (bytes : List _) (changes : List Change) → IsRefused reply bytes changes → AreRecorded all request reply bytes changes
refused_recorded all (CreateSnapshot v b name) is reply bytes changes refused = inr refused
refused_recorded all (DeleteSnapshot v b name) is reply bytes changes refused = inr refused
refused_recorded all (ListSnapshots v b) is reply bytes changes refused = refused.2
refused_recorded all (InfoSnapshot v b name) is reply bytes changes refused = refused.2
refused_recorded all request is reply bytes changes refused = absurd is

pub named_wrong : (all : Rows) (request : Request) → IsOnSnapshots request → (code : Code) → name_fault request ≡ Some code → (d : Decision) → d.reply ≡ replies.Code code → d.changes ≡ [] → d.bytes ≡ [] → IsSnapshotDecision all request d
unfolding Answers
named_wrong all request is code fault d reply none bytes =
    let refused : IsRefused d.reply d.bytes d.changes = (code, reply, (bytes, none)) in
    record {
      kept = kept_refused all request d (λ namespace stand.
          let scope = scope_of namespace (volume_in request) in
          subst (λ (r : Reply). Answers namespace request r) (sym reply) (refused_so scope request code (refused_by_name scope request code fault))) refused;
      exact = refused_recorded all request is d.reply d.bytes d.changes refused;
    }
