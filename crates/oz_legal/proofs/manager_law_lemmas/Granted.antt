-- A Grant that has a block, found by a test.
use Rattle.std.proofs.Common.{◌≡◌, ℕ, ◌-◌, ◌<◌, ◌≤◌, true, ◌&&◌, ◌==◌, List, refl, subst, arith}
use Rattle.std.proofs.lemmas.Bool.{eqb-true, eq-eqb, leb-true, ltb-true, le-leb, lt-ltb}
use Rattle.std.specs.Prelude.{nat_le, nat_lt}
use Rattle.std.specs.List.{Contains}
use Rattle.oz_fields.specs.declared.block.Block.{Block}
use Rattle.oz_core.specs.declared.event.Event.{Event}
use Rattle.oz_core.specs.declared.event.EventKind.{EventKind}
use Rattle.oz_core.specs.declared.event.EventKind.TheVariants as kind
use Rattle.oz_core.specs.Scm.{IsOfGrant}
use Rattle.oz_core.specs.Stories.{has_event}
use Rattle.oz_replay.specs.laws.Found.{false-true, both, joined, Found, found, finds}
use Rattle.oz_legal.specs.manager_law.Words.{grants_it}

abbrev a_grant : ℕ → ℕ → ℕ → ℕ → ℕ → ℕ → Event
a_grant seat stripe container pipeline first count = record { seat = seat; kind = kind.Grant stripe container pipeline first count }

granted : (stripe : ℕ) (block : Block) (pipeline : ℕ) (story : List Event) (seat : ℕ) (kind : EventKind) → Contains story (record { seat = seat; kind = kind }) → grants_it stripe block pipeline kind ≡ true → IsOfGrant story stripe block pipeline
granted stripe block pipeline story seat (kind.Grant to container on first count) there so =
    let a = both (to == stripe && container == block.container && on == pipeline && nat_le first block.local) (nat_lt (block.local - first) count) so in
    let b = both (to == stripe && container == block.container && on == pipeline) (nat_le first block.local) a.0 in
    let c = both (to == stripe && container == block.container) (on == pipeline) b.0 in
    let d = both (to == stripe) (container == block.container) c.0 in
    let from : first ≤ block.local = leb-true first block.local b.1 in
    record {
      seat = seat;
      first = first;
      count = count;
      there =
          subst (λ (e : Event). Contains story e)
          ((λ i. a_grant seat (eqb-true to stripe d.0 i) (eqb-true container block.container d.1 i) (eqb-true on pipeline c.1 i) first count)) there;
      place = block.local - first;
      within = ltb-true (block.local - first) count a.1;
      local = omega (arith, from);
    }
granted stripe block pipeline story seat kind there so = false-true so

pub grant-found : (stripe : ℕ) (block : Block) (pipeline : ℕ) (story : List Event) → has_event (grants_it stripe block pipeline) story ≡ true → IsOfGrant story stripe block pipeline
grant-found stripe block pipeline story h =
    let f : Found (λ (event : Event). grants_it stripe block pipeline event.kind) story = found (λ (event : Event). grants_it stripe block pipeline event.kind) story h in
    granted stripe block pipeline story f.item.seat f.item.kind f.there f.so

pub grant-finds : (stripe : ℕ) (block : Block) (pipeline : ℕ) (story : List Event) → IsOfGrant story stripe block pipeline → has_event (grants_it stripe block pipeline) story ≡ true
grant-finds stripe block pipeline story is =
    let from : is.first ≤ block.local = omega (arith, is.local) in
    let below : block.local - is.first < is.count = omega (arith, is.local, is.within) in
    finds (λ (event : Event). grants_it stripe block pipeline event.kind) story (a_grant is.seat stripe block.container pipeline is.first is.count) is.there
    (joined _ _ (joined _ _ (joined _ _ (joined _ _ (eq-eqb stripe stripe refl) (eq-eqb block.container block.container refl)) (eq-eqb pipeline pipeline refl)) (le-leb is.first block.local from)) (lt-ltb (block.local - is.first) is.count below))
