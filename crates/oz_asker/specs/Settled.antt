-- Whether what was decided is on the manager's disk, and will be.
use Rattle.std.specs.Prelude.{◌≡◌, ◌↔◌, ℕ, ◌<◌, ◌≤◌, Bool, true, false, List, None, Some, Result, Ok, Err}
use Rattle.oz_buffer.specs.Became.{index_of}
use Rattle.oz_core.specs.declared.event.Event.{Event}
use Rattle.oz_core.specs.declared.event.Node.TheVariants.{Manager}
use Rattle.oz_core.specs.declared.opening.Opening.{Opening}
use Rattle.oz_core.specs.Manager.{durable_index, halt_of}
use Rattle.oz_requests.specs.declared.request.AskId.{AskId}

-- What is told of the last Decide of an id: that it is stable; or that it isn't, and the manager has halted with this
-- count, or hasn't halted.
pub record IsSettlement (opening : Opening) (story : List Event) (id : AskId) (told : Result Bool ℕ) : Type 0 where
  pub index : ℕ
  pub decided : index_of id story ≡ Some index
  pub stable : (told ≡ Ok true) ↔ (index ≤ durable_index opening story)
  pub halted : (count : ℕ) →
      (told ≡ Err count) ↔ ((durable_index opening story < index) × (halt_of Manager story ≡ Some count))
  pub waits : (told ≡ Ok false) ↔ ((durable_index opening story < index) × (halt_of Manager story ≡ None))
