-- Which job stands at a place.
use Rattle.std.proofs.Common.{◌≡◌, ◌<◌, ℕ, ◌+◌, ◌-◌, true, false, nat_lt, List, [], ◌∷◌, ◌++◌, length, refl, sym, ap, ◌∙◌, subst, arith, append-nil, append_assoc, length-append}
use Rattle.std.proofs.lemmas.Bool.{le-ltb, lt-ltb}
use Rattle.oz_core.specs.declared.event.Event.{Event}
use Rattle.oz_core.specs.Seats.{first_worker_seat}
use Rattle.oz_running.specs.Jobs.{job_at, worker_at}
use Rattle.oz_running.specs.Seats.{AddsReady}
use Rattle.oz_running.proofs.Placed.{with_last}
use Rattle.oz_turn.specs.declared.seat.Seat.{Seat}
use Rattle.oz_turn.specs.declared.told.Told.{Ghosts}
use Rattle.oz_turn.specs.Ring.{TurnId}
use Rattle.oz_turn.specs.Seat.{IsReady}
use Rattle.oz_worker.specs.declared.job.Job.{Job}
use Rattle.oz_worker.specs.declared.job.Job.TheVariants.{Worker, Flusher}
use Rattle.oz_worker.specs.Workers.{WorkerView}

module _ {T O R : Type 0} where
  pub worker_there : (workers place rest : ℕ) → place + rest + 1 ≡ workers → worker_at {T = T} {O = O} {R = R} workers rest ≡ job_at workers place
  worker_there workers place rest e =
      let less : nat_lt place workers ≡ true = lt-ltb place workers (omega (arith, e)) in
      let same : rest ≡ workers - place - 1 = omega (arith, e) in
      rw less (ap (λ (n : ℕ). worker_at {T = T} {O = O} {R = R} workers n) same)

  pub flusher_there : (workers place : ℕ) → place ≡ workers → Flusher ≡ job_at {T = T} {O = O} {R = R} workers place
  flusher_there workers place e =
      let less : nat_lt place workers ≡ false = le-ltb place workers (omega (arith, e)) in
      rw less refl

  abbrev a_worker : WorkerView → Job T O R
  a_worker worker = Worker worker

  -- the seat of the worker at a place
  pub seat_there : (workers place : ℕ) (worker : WorkerView) → place < workers → Worker worker ≡ job_at {T = T} {O = O} {R = R} workers place
      → worker.number ≡ first_worker_seat + (workers - place - 1)
  seat_there workers place worker less is =
      let there = worker_there workers place (workers - place - 1) (omega (arith, less)) in
      inside (is ∙ sym there)
    where
      inside : {one other : WorkerView} → a_worker one ≡ a_worker other → one.number ≡ other.number
      inside e = cc

  pub no_flusher : (workers place : ℕ) → place < workers → Flusher ≡ job_at {T = T} {O = O} {R = R} workers place → ⊥
  no_flusher workers place less is =
      let there = worker_there workers place (workers - place - 1) (omega (arith, less)) in
      apart (is ∙ sym there)
    where
      apart : {m : ℕ} → Flusher ≡ worker_at {T = T} {O = O} {R = R} workers m → ⊥
      apart e = cc

module _ {A : Type 0} {told : Ghosts A Event} (turn : TurnId) where
  pub adds_none : (before : List (Seat A Event told)) → AddsReady turn before before
  adds_none before = record { more = []; behind = sym (append-nil before); ready = λ n s at. absurd cc }

  pub adds_more : (before all after : List (Seat A Event told)) (s : Seat A Event told) → AddsReady turn before all → after ≡ all ++ s ∷ [] → IsReady turn (length all) s
      → AddsReady turn before after
  adds_more before all after s adds e ready =
      let count : length all ≡ length before + length adds.more = ap (λ (l : List (Seat A Event told)). length l) adds.behind ∙ length-append before adds.more in record {
        more = adds.more ++ s ∷ [];
        behind = e ∙ (ap (λ (l : List (Seat A Event told)). l ++ s ∷ []) adds.behind ∙ append_assoc before adds.more (s ∷ []));
        ready = with_last (λ n t. IsReady turn (length before + n) t) (adds.more ++ s ∷ []) adds.more s refl adds.ready (subst (λ (k : ℕ). IsReady turn k s) count ready);
      }
