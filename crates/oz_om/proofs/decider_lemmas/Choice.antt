-- What is known of a request by the choice of the crate that decides it.
use Rattle.std.proofs.Common.{◌≡◌, ◌≤◌, ℕ, Bool, true, false, nat_le, List, length, Option, cond, refl, sym, ◌∙◌, ap, arith}
use mathlib.Core.Bool.{false≢true}
use Rattle.oz_om.specs.decider.Decided.{decides, is_decided}
use Rattle.oz_om.specs.decider.Deciders.{decider_of, decides_alone}
use Rattle.oz_om.specs.decider.Premises.{GrantsNew}
use Rattle.oz_om.specs.decider.Records.{operations_by, operations_for}
use Rattle.oz_om.specs.decider.Sizes.{most_operations}
use Rattle.oz_om.specs.declared.decider.decider.Decider.{Decider}
use Rattle.oz_om.specs.declared.decider.decider.Decider.TheVariants as deciders
use Rattle.oz_decision.specs.Drafts.{row_by_row}
use Rattle.oz_decision.specs.laws.SessionRows.{at_most}
use Rattle.oz_fields.specs.declared.block.Block.{Block}
use Rattle.oz_om_key.specs.om_change.Changes.{IsChange}
use Rattle.oz_om_key.specs.Requests.{is_on_keys}
use Rattle.oz_om_session.specs.om_open.Opens.{IsOpening}
use Rattle.oz_om_session.specs.om_open.Records.{operations_for as operations_of_opening}
use Rattle.oz_om_session.specs.Commits.{IsCommit}
use Rattle.oz_om_session.specs.Picks.{IsNew}
use Rattle.oz_reclaim.specs.Service.{NamesFew}
use Rattle.oz_reclaim.specs.Snapshots.{IsOnSnapshots}
use Rattle.oz_requests.specs.declared.request.Family.TheVariants as families
use Rattle.oz_requests.specs.declared.request.PurgeRow.{PurgeRow}
use Rattle.oz_requests.specs.declared.request.Request.{Request}
use Rattle.oz_requests.specs.declared.request.Request.TheVariants.{CreateVolume, InfoVolume, DeleteVolume, CreateBucket}
use Rattle.oz_requests.specs.declared.request.Request.TheVariants.{InfoBucket, DeleteBucket, ListBuckets, CreateKey}
use Rattle.oz_requests.specs.declared.request.Request.TheVariants.{AllocateBlock, CommitKey, DeleteKey, RenameKey}
use Rattle.oz_requests.specs.declared.request.Request.TheVariants.{LookupKey, ListKeys, ExpireOpen, CreateSnapshot}
use Rattle.oz_requests.specs.declared.request.Request.TheVariants.{DeleteSnapshot, ListSnapshots, InfoSnapshot, Purge}
use Rattle.oz_requests.specs.declared.request.Request.TheVariants.{MoveDeleted, PurgeSnapshot}
use Rattle.oz_requests.specs.Families.{family_of}
use Rattle.oz_rows.specs.declared.operation.Change.{Change}
use Rattle.oz_rows.specs.RowMaps.{Rows}

-- a Purge is decided with the manager's own requests, or by none
abbrev is_of_purge : Decider → Bool
is_of_purge deciders.Reclaiming = true
is_of_purge deciders.Nobody = true
is_of_purge decider = false

no_purge : (v : List ℕ) (named : List PurgeRow) (d : Decider) → is_of_purge d ≡ false → decider_of (Purge v named) ≡ d → ⊥
no_purge v named d other e = false≢true (sym other ∙ sym (ap is_of_purge e) ∙ by (nat_le (length named) 1024))
  where
    by : (t : Bool) → is_of_purge (cond t deciders.Reclaiming deciders.Nobody) ≡ true
    by true = refl
    by false = refl

pub on_buckets : (request : Request) → decider_of request ≡ deciders.Buckets → family_of request ≡ families.Buckets
on_buckets (CreateVolume v) e = refl
on_buckets (InfoVolume v) e = refl
on_buckets (DeleteVolume v) e = refl
on_buckets (CreateBucket v b) e = refl
on_buckets (InfoBucket v b) e = refl
on_buckets (DeleteBucket v b) e = refl
on_buckets (ListBuckets v) e = refl
on_buckets (Purge v named) e = absurd (no_purge v named deciders.Buckets refl e)
on_buckets request e = absurd cc

pub on_keys : (request : Request) → decider_of request ≡ deciders.Reading → is_on_keys request ≡ true
on_keys (LookupKey v b s k) e = refl
on_keys (ListKeys v b s prefix start count) e = refl
on_keys (Purge v named) e = absurd (no_purge v named deciders.Reading refl e)
on_keys request e = absurd cc

pub is_change : (request : Request) → decider_of request ≡ deciders.Changing → IsChange request
is_change (DeleteKey v b k) e = tt
is_change (RenameKey v b k to) e = tt
is_change (Purge v named) e = absurd (no_purge v named deciders.Changing refl e)
is_change request e = absurd cc

pub is_opening : (request : Request) → decider_of request ≡ deciders.Opening → IsOpening request
is_opening (CreateKey v b k) e = tt
is_opening (ExpireOpen v b) e = tt
is_opening (Purge v named) e = absurd (no_purge v named deciders.Opening refl e)
is_opening request e = absurd cc

pub is_commit : (request : Request) → decider_of request ≡ deciders.Committing → IsCommit request
is_commit (CommitKey v b k n pieces) e = tt
is_commit (Purge v named) e = absurd (no_purge v named deciders.Committing refl e)
is_commit request e = absurd cc

pub is_grant : (request : Request) → decider_of request ≡ deciders.Granting → family_of request ≡ families.Allocation
is_grant (AllocateBlock v b k n exclude) e = refl
is_grant (Purge v named) e = absurd (no_purge v named deciders.Granting refl e)
is_grant request e = absurd cc

pub is_on_snapshots : (request : Request) → decider_of request ≡ deciders.Snapshots → IsOnSnapshots request
is_on_snapshots (CreateSnapshot v b s) e = tt
is_on_snapshots (DeleteSnapshot v b s) e = tt
is_on_snapshots (ListSnapshots v b) e = tt
is_on_snapshots (InfoSnapshot v b s) e = tt
is_on_snapshots (Purge v named) e = absurd (no_purge v named deciders.Snapshots refl e)
is_on_snapshots request e = absurd cc

pub is_service : (request : Request) → decider_of request ≡ deciders.Reclaiming → family_of request ≡ families.Service
is_service (Purge v named) e = refl
is_service (MoveDeleted v b n to) e = refl
is_service (PurgeSnapshot v b n) e = refl
is_service request e = absurd cc

few_of : (named : List PurgeRow) (t : Bool) → nat_le (length named) 1024 ≡ t → cond t deciders.Reclaiming deciders.Nobody ≡ deciders.Reclaiming → length named ≤ 1024
few_of named true few e = at_most (length named) 1024 few
few_of named false few e = absurd cc

pub names_few : (request : Request) → decider_of request ≡ deciders.Reclaiming → NamesFew request
names_few (Purge v named) e = few_of named (nat_le (length named) 1024) refl e
names_few request e = tt

-- where a crate is chosen, the request is decided
pub not_decided : (request : Request) → decider_of request ≡ deciders.Nobody → is_decided request ≡ false
not_decided request e = ap decides e

pub granting_decides : (request : Request) → decider_of request ≡ deciders.Granting → is_decided request ≡ true
granting_decides request e = ap decides e

alone_is_decided : (d : Decider) → decides_alone d ≡ true → decides d ≡ true
alone_is_decided deciders.Granting e = absurd (false≢true e)
alone_is_decided deciders.Nobody e = absurd (false≢true e)
alone_is_decided d e = refl

pub alone_decides : (request : Request) → decides_alone (decider_of request) ≡ true → is_decided request ≡ true
alone_decides request e = alone_is_decided (decider_of request) e

-- a request for a block isn't decided without one
pub no_grant : (request : Request) → decides_alone (decider_of request) ≡ true → family_of request ≡ families.Allocation → ⊥
no_grant (AllocateBlock v b k n exclude) e family = false≢true e
no_grant request e family = cc

pub nobody_grants : (request : Request) → decider_of request ≡ deciders.Nobody → family_of request ≡ families.Allocation → ⊥
nobody_grants (AllocateBlock v b k n exclude) e family = cc
nobody_grants request e family = cc

pub others_alone : (decider : Decider) → (decider ≡ deciders.Nobody → ⊥) → (decider ≡ deciders.Granting → ⊥) → decides_alone decider ≡ true
others_alone deciders.Nobody nobody granting = absurd (nobody refl)
others_alone deciders.Granting nobody granting = absurd (granting refl)
others_alone decider nobody granting = refl

-- the premise of a crate is the one that is asked for
pub is_new : (rows : Rows) (request : Request) (pick : Option (Block × ℕ)) → decider_of request ≡ deciders.Granting → GrantsNew rows request pick → IsNew rows pick
is_new rows (AllocateBlock v b k n exclude) pick e new = new
is_new rows (Purge v named) pick e new = absurd (no_purge v named deciders.Granting refl e)
is_new rows request pick e new = absurd cc

pub needs_none : (rows : Rows) (request : Request) (pick : Option (Block × ℕ)) → decides_alone (decider_of request) ≡ true → GrantsNew rows request pick
needs_none rows (AllocateBlock v b k n exclude) pick e = absurd (false≢true e)
needs_none rows request pick e = tt

-- only the end of a bucket's sessions isn't written row by row
pub by_rows : (request : Request) (changes : List Change) → (decider_of request ≡ deciders.Opening → ⊥) → operations_of_opening request changes ≡ row_by_row changes
by_rows (ExpireOpen v b) changes other = absurd (other refl)
by_rows request changes other = refl

-- those of volumes, buckets, keys and blocks are
abbrev pub is_by_rows : Decider → Bool
is_by_rows deciders.Buckets = true
is_by_rows deciders.Reading = true
is_by_rows deciders.Changing = true
is_by_rows deciders.Granting = true
is_by_rows deciders.Committing = true
is_by_rows deciders.Opening = false
is_by_rows deciders.Snapshots = false
is_by_rows deciders.Reclaiming = false
is_by_rows deciders.Nobody = false

pub rows_are : (d : Decider) (request : Request) (changes : List Change) → is_by_rows d ≡ true → operations_by d request changes ≡ row_by_row changes
rows_are deciders.Opening request changes e = absurd (false≢true e)
rows_are deciders.Snapshots request changes e = absurd (false≢true e)
rows_are deciders.Reclaiming request changes e = absurd (false≢true e)
rows_are deciders.Nobody request changes e = absurd (false≢true e)
rows_are d request changes e = refl

pub no_opening : (d : Decider) → is_by_rows d ≡ true → d ≡ deciders.Opening → ⊥
no_opening d by e = false≢true (sym (ap is_by_rows e) ∙ by)

-- so the operations are those that the crate of sessions has for all of these
pub same_by_rows : (request : Request) (changes : List Change) → is_by_rows (decider_of request) ≡ true → operations_of_opening request changes ≡ operations_for request changes
same_by_rows request changes by = by_rows request changes (no_opening (decider_of request) by) ∙ sym (rows_are (decider_of request) request changes by)

pub same_opening : (request : Request) (changes : List Change) → decider_of request ≡ deciders.Opening → operations_of_opening request changes ≡ operations_for request changes
same_opening request changes e = sym (ap (λ (d : Decider). operations_by d request changes) e)

-- space is kept for four at least
pub four : (request : Request) → 4 ≤ most_operations request
four (RenameKey v b k to) = omega arith
four (DeleteKey v b k) = omega arith
four (Purge v named) = omega arith
four request = omega arith

-- and for 258 where a key changes
pub many : (request : Request) → decider_of request ≡ deciders.Changing → 258 ≤ most_operations request
many (DeleteKey v b k) e = omega arith
many (RenameKey v b k to) e = omega arith
many (Purge v named) e = absurd (no_purge v named deciders.Changing refl e)
many request e = absurd cc
