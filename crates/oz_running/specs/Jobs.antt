-- For private calls: the jobs of a run.
use Rattle.std.specs.Prelude.{◌≡◌, ℕ, ◌+◌, ◌-◌, nat_lt, List, if◌then◌else◌}
use Rattle.oz_core.specs.Seats.{first_worker_seat}
use Rattle.oz_headline.specs.Seated.{ArePlaced}
use Rattle.oz_worker.specs.declared.job.Job.{Job}
use Rattle.oz_worker.specs.declared.job.Job.TheVariants.{Worker, Flusher}

module _ {T O R : Type 0} where
  -- the worker at a place, of so many, with the seat of its number
  abbrev pub worker_at : ℕ → ℕ → Job T O R
  worker_at workers place = Worker (record { number = first_worker_seat + place; place = place; workers = workers })

  -- of so many workers, from the one at the last place to the first, and then the flusher
  abbrev pub job_at : ℕ → ℕ → Job T O R
  job_at workers place = if nat_lt place workers then worker_at workers (workers - place - 1) else Flusher

  abbrev pub AreJobs : ℕ → List (Job T O R) → Type 0
  AreJobs workers jobs = ArePlaced (λ place job. job ≡ job_at workers place) jobs
