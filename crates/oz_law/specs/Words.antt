-- Words for private calls: what one event makes of a container's pipeline, and which transaction is meant.
use Rattle.std.specs.Prelude.{ℕ, Bool, false, ◌&&◌, ◌==◌, Option, None, Some, if◌then◌else◌}
use Rattle.std.specs.List.{list_any}
use Rattle.oz_fields.specs.declared.block.Block.{Block}
use Rattle.oz_requests.specs.declared.request.AskId.{AskId}
use Rattle.oz_dellog.specs.declared.txn.Txn.{Txn}
use Rattle.oz_core.specs.declared.event.EventKind.{EventKind}
use Rattle.oz_core.specs.declared.event.EventKind.TheVariants.{Decide, Grant, PurgeAsk}
use Rattle.oz_core.specs.declared.opening.Container.{Container}
use Rattle.oz_core.specs.Asks.{is_id}
use Rattle.oz_core.specs.Manager.{named_by}
use Rattle.oz_core.specs.Nodes.{is_block}

-- a transaction of this number and container
abbrev pub is_txn : ℕ → ℕ → Txn → Bool
is_txn number container txn = txn.number == number && txn.container == container

-- the pipeline that a container was made on
abbrev pub pipeline_in : Option Container → Option ℕ
pipeline_in None = None
pipeline_in (Some container) = Some container.pipeline

abbrev pub made_on : Option ℕ → ℕ → ℕ
made_on None pipeline = pipeline
made_on (Some before) pipeline = before

abbrev pub pipeline_after : ℕ → Option ℕ → EventKind → Option ℕ
pipeline_after number before (Grant stripe container pipeline first count) =
    if container == number then Some (made_on before pipeline) else before
pipeline_after number before _ = before

-- a Decide of this id named the block; a PurgeAsk has it
abbrev pub names : AskId → Block → EventKind → Bool
names id block (Decide other index reply batch) = is_id id other && list_any (is_block block) (named_by reply)
names id block _ = false

abbrev pub purges : Block → EventKind → Bool
purges block (PurgeAsk blocks) = list_any (is_block block) blocks
purges block _ = false
