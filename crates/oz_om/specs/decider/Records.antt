-- Which rows a decision changes, those among them that no namespace shows, and by which operations.
use Rattle.std.specs.Prelude.{◌≡◌, ℕ, List, [], ◌∷◌}
use Rattle.oz_om.specs.declared.decider.decider.Decider.{Decider}
use Rattle.oz_om.specs.declared.decider.decider.Decider.TheVariants.{Buckets, Reading, Changing, Opening, Granting}
use Rattle.oz_om.specs.declared.decider.decider.Decider.TheVariants.{Committing, Snapshots, Reclaiming, Nobody}
use Rattle.oz_om.specs.decider.Deciders.{decider_of}
use Rattle.oz_decision.specs.Drafts.{operation_for, row_by_row}
use Rattle.oz_om_bucket.specs.Records.{recorded_changes}
use Rattle.oz_om_key.specs.om_change.Records.{AreRecorded as AreChanged}
use Rattle.oz_om_session.specs.om_open.Records.{AreRecorded as AreOpened, operations_for as operations_of_opening}
use Rattle.oz_om_session.specs.Records.{recorded_grant, recorded_commit}
use Rattle.oz_reclaim.specs.Service.{AreServed, operations_for as operations_of_service}
use Rattle.oz_reclaim.specs.Snapshots.{AreRecorded as AreRecordedOfSnapshots}
use Rattle.oz_requests.specs.declared.reply.Reply.{Reply}
use Rattle.oz_requests.specs.declared.request.Request.{Request}
use Rattle.oz_requests.specs.declared.request.Request.TheVariants.{CreateSnapshot}
use Rattle.oz_rows.specs.declared.operation.Change.{Change}
use Rattle.oz_rows.specs.declared.operation.Operation.{Operation}
use Rattle.oz_rows.specs.declared.operation.Operation.TheVariants.{CopyKeys, MoveDeleted}
use Rattle.oz_rows.specs.RowMaps.{Rows}
use Rattle.oz_sound.specs.StandsFor.{drawn_in}

-- those that the crate that decides it records
abbrev pub AreRecordedBy : Decider → Rows → Request → Reply → List ℕ → List Change → Type 0
AreRecordedBy Buckets rows request reply bytes changes = changes ≡ recorded_changes request reply
AreRecordedBy Reading rows request reply bytes changes = changes ≡ []
AreRecordedBy Changing rows request reply bytes changes = AreChanged rows request reply changes
AreRecordedBy Opening rows request reply bytes changes = AreOpened rows request reply changes
AreRecordedBy Granting rows request reply bytes changes = changes ≡ recorded_grant rows request reply
AreRecordedBy Committing rows request reply bytes changes = changes ≡ recorded_commit rows request reply
AreRecordedBy Snapshots rows request reply bytes changes = AreRecordedOfSnapshots rows request reply bytes changes
AreRecordedBy Reclaiming rows request reply bytes changes = AreServed rows request changes
AreRecordedBy Nobody rows request reply bytes changes = ⊥

abbrev pub AreRecorded : Rows → Request → Reply → List ℕ → List Change → Type 0
AreRecorded rows request reply bytes changes = AreRecordedBy (decider_of request) rows request reply bytes changes

-- A snapshot's number is drawn, and its row is put. By that number the keys are copied, and the deleted rows move.
abbrev pub operations_of_snapshots : Request → List Change → List Operation
operations_of_snapshots (CreateSnapshot volume bucket snapshot) (drawn ∷ made ∷ changes) =
    operation_for drawn.key drawn.row ∷ operation_for made.key made.row
    ∷ CopyKeys volume bucket (drawn_in drawn.row) ∷ MoveDeleted volume bucket 0 (drawn_in drawn.row) ∷ []
operations_of_snapshots request changes = row_by_row changes

-- the operations that make the changes
abbrev pub operations_by : Decider → Request → List Change → List Operation
operations_by Buckets request changes = row_by_row changes
operations_by Reading request changes = row_by_row changes
operations_by Changing request changes = row_by_row changes
operations_by Opening request changes = operations_of_opening request changes
operations_by Granting request changes = row_by_row changes
operations_by Committing request changes = row_by_row changes
operations_by Snapshots request changes = operations_of_snapshots request changes
operations_by Reclaiming request changes = operations_of_service request changes
operations_by Nobody request changes = []

abbrev pub operations_for : Request → List Change → List Operation
operations_for request changes = operations_by (decider_of request) request changes
