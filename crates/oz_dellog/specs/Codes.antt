-- Which plain values a log is stored as, for proofs that have to tell logs apart.
use Rattle.std.specs.Prelude.{ℕ, List, Bool, refl}
use Rattle.std.specs.Ordering.{nat_cmp}
use Rattle.std.specs.Coded.{Coded, code_by, coded×, coded_ℕ, coded_list, coded_bool}
use Rattle.std.specs.FinMap.{FinMap, code}
use Rattle.oz_dellog.specs.declared.logged.Logged.{Logged}
use Rattle.oz_dellog.specs.Log.{Log}

abbrev pub coded_logged : Coded Logged
coded_logged = code_by (ℕ × (List ℕ × List Bool)) (coded× coded_ℕ (coded× (coded_list coded_ℕ) (coded_list coded_bool)))
    (λ l. (l.container, (l.locals, l.acknowledged)))
    (λ p. record { container = p.0; locals = p.1.0; acknowledged = p.1.1 }) (λ _. refl)

abbrev pub coded_log : Coded Log
coded_log = code_by (ℕ × FinMap nat_cmp Logged) (coded× coded_ℕ (code coded_ℕ coded_logged))
    (λ l. (l.last, l.unretired)) (λ p. record { last = p.0; unretired = p.1 }) (λ _. refl)
