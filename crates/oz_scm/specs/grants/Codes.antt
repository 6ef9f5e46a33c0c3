-- Which plain values the containers in memory and the storage container manager are stored as, for proofs that have to tell
-- them apart.
use Rattle.std.specs.Prelude.{◌≡◌, ℕ, ◌==◌, if◌then◌else◌, List, Bool, refl}
use Rattle.std.specs.Ordering.{nat_cmp}
use Rattle.std.specs.Coded.{Coded, code_by, coded×, coded_ℕ, coded_list}
use Rattle.std.specs.FinMap.{FinMap, code}
use Rattle.oz_container.specs.declared.state.State.{State}
use Rattle.oz_container.specs.declared.state.State.TheVariants as states
use Rattle.oz_dellog.specs.Codes.{coded_logged}
use Rattle.oz_dellog.specs.declared.logged.Logged.{Logged}
use Rattle.oz_scm.specs.declared.grants.container.Container.{Container}
use Rattle.oz_scm.specs.grants.Counts.{place_of}
use Rattle.oz_scm.specs.grants.Made.{Made}
use Rattle.oz_scm.specs.grants.Steps.{View}

abbrev state_in : ℕ → State
state_in place =
    if place == 0 then states.Open
    else (if place == 1 then states.Closing
    else (if place == 2 then states.QuasiClosed
    else (if place == 3 then states.Closed
    else (if place == 4 then states.Deleting else states.Deleted))))

pub state_back : (state : State) → state_in (place_of state) ≡ state
state_back states.Open = refl
state_back states.Closing = refl
state_back states.QuasiClosed = refl
state_back states.Closed = refl
state_back states.Deleting = refl
state_back states.Deleted = refl

abbrev coded_state : Coded State
coded_state = code_by ℕ coded_ℕ place_of state_in state_back

abbrev coded_container : Coded Container
coded_container = code_by (ℕ × (State × ℕ)) (coded× coded_ℕ (coded× coded_state coded_ℕ))
    (λ c. (c.pipeline, (c.state, c.granted))) (λ p. record { pipeline = p.0; state = p.1.0; granted = p.1.1 }) (λ _. refl)

abbrev pub coded_made : Coded Made
coded_made = code_by (ℕ × (List Container × (ℕ × (ℕ × FinMap nat_cmp Logged))))
    (coded× coded_ℕ (coded× (coded_list coded_container) (coded× coded_ℕ (coded× coded_ℕ (code coded_ℕ coded_logged)))))
    (λ m. (m.nodes, (m.containers, (m.next_id, (m.last_txn, m.unretired)))))
    (λ p. record { nodes = p.0; containers = p.1.0; next_id = p.1.1.0; last_txn = p.1.1.1.0; unretired = p.1.1.1.1 }) (λ _. refl)

abbrev pub coded_view : Coded View
coded_view = code_by (Made × ℕ) (coded× coded_made coded_ℕ) (λ v. (v.made, v.spare))
    (λ p. record { made = p.0; spare = p.1 }) (λ _. refl)
