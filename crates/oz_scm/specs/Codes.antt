-- Which plain values the storage container manager is stored as, for proofs that have to tell two apart.
use Rattle.std.specs.Prelude.{Bool, List, refl}
use Rattle.std.specs.Coded.{Coded, code_by, coded×, coded_bool, coded_list}
use Rattle.oz_scm.specs.grants.Codes.{coded_made}
use Rattle.oz_scm.specs.grants.Made.{Made}
use Rattle.oz_scm.specs.Scm.{State}

abbrev pub coded_scm : {D : Type 0} → Coded D → Coded (State D)
coded_scm {D} disk = code_by (D × (Bool × (Made × List Bool))) (coded× disk (coded× coded_bool (coded× coded_made (coded_list coded_bool))))
    (λ s. (s.disk, (s.stopped, (s.made, s.up)))) (λ p. record { disk = p.0; stopped = p.1.0; made = p.1.1.0; up = p.1.1.1 }) (λ _. refl)
