-- What became of the blocks that a line was granted.
use Rattle.std.specs.Prelude.{◌≡◌, Bool, true, false, List, [], ◌∷◌, map, filter, count_by, nat_le, is_none}
use Rattle.std.specs.Prelude.{Option, None, Some, if◌then◌else◌}
use Rattle.oz_fields.specs.declared.block.Block.{Block}
use Rattle.oz_core.specs.declared.event.Event.{Event}
use Rattle.oz_core.specs.declared.event.PutRefusal.{PutRefusal}
use Rattle.oz_core.specs.declared.opening.Opening.{Opening}
use Rattle.oz_core.specs.Steps.{GrantedBlock, is_written, is_abandoned, is_settled, is_off, is_of_node, refusing_members}
use Rattle.oz_requests.specs.declared.request.Exclude.{Exclude}
use Rattle.oz_steps.specs.declared.came.Attempt.{Attempt}
use Rattle.oz_steps.specs.declared.fate.Fate.{Fate}
use Rattle.oz_steps.specs.declared.fate.Fate.TheVariants as fates
use Rattle.oz_steps.specs.declared.came.Granted.{Granted}

-- The story has it so: the block was written; it was given up, and not since two members can't take blocks at all; it
-- was given up since they can't.
abbrev pub IsFate : Opening → List Event → GrantedBlock → Fate → Type 0
IsFate opening story grant fates.Written = is_written story grant ≡ true
IsFate opening story grant fates.ContainerRefused =
    (is_abandoned opening story grant ≡ true) × (is_off opening story grant ≡ false)
IsFate opening story grant fates.PipelineRefused =
    (is_abandoned opening story grant ≡ true) × (is_off opening story grant ≡ true)

pub record IsAttempt (opening : Opening) (story : List Event) (grant : GrantedBlock) (attempt : Attempt) : Type 0 where
  pub block : grant.block ≡ attempt.granted.block
  pub pipeline : grant.pipeline ≡ attempt.granted.pipeline
  pub fate : IsFate opening story grant attempt.fate

-- a block that was granted and of which nothing came yet
pub record IsUnsettled (opening : Opening) (story : List Event) (grant : GrantedBlock) (granted : Granted) : Type 0 where
  pub block : grant.block ≡ granted.block
  pub pipeline : grant.pipeline ≡ granted.pipeline
  pub unsettled : is_settled opening story grant ≡ false

-- The grants of a story are these attempts, in order, and behind them the block that is being written, if there is one.
abbrev pub AreBeingWritten : Opening → List Event → Option Granted → List GrantedBlock → Type 0
AreBeingWritten opening story None grants = grants ≡ []
AreBeingWritten opening story (Some granted) grants =
    (grant : GrantedBlock) × (grants ≡ grant ∷ []) × IsUnsettled opening story grant granted

abbrev pub AreGrants : Opening → List Event → List Attempt → Option Granted → List GrantedBlock → Type 0
AreGrants opening story [] writing grants = AreBeingWritten opening story writing grants
AreGrants opening story (attempt ∷ attempts) writing grants =
    (grant : GrantedBlock) × (others : List GrantedBlock) × (grants ≡ grant ∷ others)
    × IsAttempt opening story grant attempt × AreGrants opening story attempts writing others

-- the blocks that were written, in order
abbrev pub is_fate_written : Fate → Bool
is_fate_written fates.Written = true
is_fate_written fates.ContainerRefused = false
is_fate_written fates.PipelineRefused = false

abbrev pub has_fate_written : Attempt → Bool
has_fate_written attempt = is_fate_written attempt.fate

abbrev pub written_blocks : List Attempt → List Block
written_blocks attempts = map (λ (attempt : Attempt). attempt.granted.block) (filter has_fate_written attempts)

-- What the line excludes by them: the containers of those that two members refused, and the pipelines of those that
-- two members couldn't take.
abbrev pub is_fate_of_container : Fate → Bool
is_fate_of_container fates.Written = false
is_fate_of_container fates.ContainerRefused = true
is_fate_of_container fates.PipelineRefused = false

abbrev pub is_of_container : Attempt → Bool
is_of_container attempt = is_fate_of_container attempt.fate

abbrev pub is_fate_of_pipeline : Fate → Bool
is_fate_of_pipeline fates.Written = false
is_fate_of_pipeline fates.ContainerRefused = false
is_fate_of_pipeline fates.PipelineRefused = true

abbrev pub is_of_pipeline : Attempt → Bool
is_of_pipeline attempt = is_fate_of_pipeline attempt.fate

abbrev pub excluded_by : List Attempt → Exclude
excluded_by attempts = record {
  containers = map (λ (attempt : Attempt). attempt.granted.block.container) (filter is_of_container attempts);
  pipelines = map (λ (attempt : Attempt). attempt.granted.pipeline) (filter is_of_pipeline attempts);
}

-- ---- the answers of a block's three members

-- a member refused it so
abbrev pub refused_so : (PutRefusal → Bool) → Option PutRefusal → Bool
refused_so counts None = false
refused_so counts (Some refusal) = counts refusal

-- the story has these answers, one of each member: none of a put, or the refusal
pub record AreAnswers (opening : Opening) (story : List Event) (grant : GrantedBlock) (answers : List (Option PutRefusal))
    : Type 0 where
  pub written : is_written story grant ≡ nat_le 2 (count_by is_none answers)
  pub refused : (counts : PutRefusal → Bool)
      → refusing_members opening story counts grant ≡ count_by (refused_so counts) answers

-- what becomes of a block by its three members' answers
abbrev pub fate_of : List (Option PutRefusal) → Fate
fate_of answers =
    if nat_le 2 (count_by is_none answers) then fates.Written
    else if nat_le 2 (count_by (refused_so is_of_node) answers) then fates.PipelineRefused
    else fates.ContainerRefused
