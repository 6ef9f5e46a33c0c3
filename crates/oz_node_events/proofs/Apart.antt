-- No two transactions of the log have one number, where none of the opening's have.
use Rattle.std.proofs.Common.{◌≡◌, ⊎_elim, ℕ, zero, suc, List, [], ◌∷◌, ◌++◌, Contains, refl, sym, ap, ◌∙◌, subst, append-nil, arith}
use Rattle.std.proofs.lemmas.List.Elements.{Contains-append_cases, Contains-append_left, Contains-append_right, filter_map-append}
use Rattle.std.specs.Prelude.{map}
use Rattle.std.specs.List.{cons_option}
use Rattle.oz_buffer.specs.Buffer.{AllFollow, Follows}
use Rattle.oz_buffer.specs.laws.Following.{follow-each}
use Rattle.oz_core.specs.declared.event.Event.{Event}
use Rattle.oz_core.specs.declared.event.EventKind.{EventKind}
use Rattle.oz_core.specs.declared.event.EventKind.TheVariants.{Log}
use Rattle.oz_core.specs.declared.opening.Opening.{Opening}
use Rattle.oz_core.specs.declared.opening.Unretired.{Unretired}
use Rattle.oz_core.specs.Contents.{OpeningBytes}
use Rattle.oz_core.specs.Law.{KindIsEnabled}
use Rattle.oz_core.specs.Scm.{logged, logs}
use Rattle.oz_core.specs.Stories.{all_told}
use Rattle.oz_dellog.specs.declared.txn.Txn.{Txn}
use Rattle.oz_kept.specs.reopened.Left.{NumbersAreApart}
use Rattle.oz_script.specs.declared.lines.script.Script.{Script}
use Rattle.oz_node_events.specs.NodeSeat.{NumbersAreOld}
use Rattle.oz_node_events.proofs.Holding.{AreBelow, LogsBelow, below_none, below_step, in_one, logs_push}

abbrev pub AreApart : List Txn → Type 0
AreApart txns = (one other : Txn) → Contains txns one → Contains txns other → one.number ≡ other.number → one ≡ other

-- what is logged stays in the log
pub log_grows : (opening : Opening) (before more : List Event) (txn : Txn) → Contains (logs opening before) txn → Contains (logs opening (before ++ more)) txn
log_grows opening before more txn there =
    let had = map (λ (unretired : Unretired). unretired.txn) opening.unretired in
    ⊎_elim
    (λ old. Contains-append_left had (all_told logged (before ++ more)) txn old)
    (λ new. Contains-append_right had (all_told logged (before ++ more)) txn
    (subst (λ (l : List Txn). Contains l txn) (sym (filter_map-append (λ (event : Event). logged event.kind) before more))
    (Contains-append_left (all_told logged before) (all_told logged more) txn new)))
    (Contains-append_cases had (all_told logged before) txn there)

-- one that was unretired as the run began
of_unretired : (all : List Unretired) (txn : Txn) → Contains (map (λ (unretired : Unretired). unretired.txn) all) txn
    → (one : Unretired) × (Contains all one × (one.txn ≡ txn))
of_unretired [] txn among = absurd (omega (arith, among.1))
of_unretired (one ∷ all) txn (zero, lt, is) = (one, ((0, omega arith, refl), is))
of_unretired (one ∷ all) txn (suc k, lt, is) =
    let found = of_unretired all txn (k, omega (arith, lt), is) in
    (found.0, ((suc found.1.0.0, omega (arith, found.1.0.1), found.1.0.2), found.1.1))

apart_at_first : (opening : Opening) → NumbersAreApart opening → AreApart (logs opening [])
apart_at_first opening apart one other there among same =
    let had = append-nil (map (λ (unretired : Unretired). unretired.txn) opening.unretired) in
    let first = of_unretired opening.unretired one (subst (λ (l : List Txn). Contains l one) had there) in
    let second = of_unretired opening.unretired other (subst (λ (l : List Txn). Contains l other) had among) in
    let numbers = ap (λ (t : Txn). t.number) first.1.1 ∙ (same ∙ sym (ap (λ (t : Txn). t.number) second.1.1)) in
    sym first.1.1 ∙ (ap (λ (u : Unretired). u.txn) (apart first.0 second.0 first.1.0 second.1.0 numbers) ∙ second.1.1)

one_more : (opening : Opening) (front : List Event) (seat : ℕ) (kind : EventKind) → KindIsEnabled opening front seat kind → LogsBelow opening front
    → AreApart (logs opening front) → AreApart (logs opening front ++ cons_option (logged kind) [])
one_more opening front seat (Log number container locals) may below had one other there among same =
    let new : Txn = record { number = number; container = container; locals = locals } in
    let next = may.next in
    ⊎_elim
    (λ was. ⊎_elim
    (λ also. had one other was also same)
    (λ now.
    let le = below one was in
    let is = ap (λ (t : Txn). t.number) (in_one new other now) in
    absurd (omega (arith, le, next, is, same)))
    (Contains-append_cases (logs opening front) (new ∷ []) other among))
    (λ now. ⊎_elim
    (λ was.
    let le = below other was in
    let is = ap (λ (t : Txn). t.number) (in_one new one now) in
    absurd (omega (arith, le, next, is, same)))
    (λ also. sym (in_one new one now) ∙ in_one new other also)
    (Contains-append_cases (logs opening front) (new ∷ []) other among))
    (Contains-append_cases (logs opening front) (new ∷ []) one there)
one_more opening front seat kind may below had one other there among same = subst AreApart (sym (append-nil (logs opening front))) had one other there among same

module _ (Coherent : Type 0) (opening : Opening) (bytes : OpeningBytes) (script : Script) (coherent : Coherent) (numbered : NumbersAreOld opening)
    (apart : NumbersAreApart opening) where
  abbrev Follow : List Event → Event → Type 0
  Follow = Follows Coherent opening bytes script

  abbrev So : List Event → Type 0
  So front = AreBelow Coherent opening bytes script coherent numbered front × AreApart (logs opening front)

  so_step : (front : List Event) (event : Event) → So front → Follow front event → So (front ++ event ∷ [])
  so_step front event was follows = (
    below_step Coherent opening bytes script coherent numbered front event was.0 follows,
    subst AreApart (sym (logs_push opening front event)) (one_more opening front event.seat event.kind (follows.enabled coherent) was.0.0 was.1),
  )

  pub logs_apart : (story : List Event) → AllFollow Follow [] story → AreApart (logs opening story)
  logs_apart story all =
      (follow-each Follow So story so_step (below_none Coherent opening bytes script coherent numbered, apart_at_first opening apart) all).1
