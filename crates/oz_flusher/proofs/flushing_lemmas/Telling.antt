-- By the law the flusher's kinds of event are of its seat alone, so its own events tell all of them.
use Rattle.std.specs.Prelude.{true, false}
use Rattle.std.proofs.Common.{◌≡◌, ℕ, List, [], None, refl, sym, ap}
use Rattle.std.proofs.lemmas.Bool.{false≢true}
use Rattle.oz_buffer.specs.Buffer.{AllFollow, Follows}
use Rattle.oz_buffer.specs.laws.Following.{follow-all}
use Rattle.oz_core.specs.declared.event.Event.{Event}
use Rattle.oz_core.specs.declared.event.EventKind.{EventKind}
use Rattle.oz_core.specs.declared.event.EventKind.TheVariants.{Swap, Flushed, Halt}
use Rattle.oz_core.specs.declared.event.Node.TheVariants.{Manager, Scm, Datanode}
use Rattle.oz_core.specs.declared.opening.Opening.{Opening}
use Rattle.oz_core.specs.Contents.{OpeningBytes}
use Rattle.oz_core.specs.Law.{KindIsEnabled}
use Rattle.oz_core.specs.Manager.{taken_index, stable_index, stable_moment, halt_count, swapped_index, durable_index, halt_of, flushed_moment}
use Rattle.oz_core.specs.Seats.{flusher_seat}
use Rattle.oz_core.specs.Stories.{last_in}
use Rattle.oz_flusher.proofs.flushing_lemmas.Own.{is_ours, IsOurs, AreOurs, own, told_own, all_own}
use Rattle.oz_script.specs.declared.lines.script.Script.{Script}

of_seat : (opening : Opening) (story : List Event) (seat : ℕ) (kind : EventKind) → KindIsEnabled opening story seat kind → is_ours kind ≡ true → seat ≡ flusher_seat
of_seat opening story seat (Swap index) may is = may.of_flusher
of_seat opening story seat (Flushed index moment) may is = may.of_flusher
of_seat opening story seat (Halt Manager count) may is = may.of_node
of_seat opening story seat (Halt Scm count) may is = absurd (false≢true is)
of_seat opening story seat (Halt (Datanode dn) count) may is = absurd (false≢true is)
of_seat opening story seat kind may is = absurd (false≢true is)

takes_none : (kind : EventKind) → is_ours kind ≡ false → taken_index kind ≡ None
takes_none (Swap index) not = absurd (false≢true (sym not))
takes_none kind not = refl

flushes_none : (kind : EventKind) → is_ours kind ≡ false → stable_index kind ≡ None
flushes_none (Flushed index moment) not = absurd (false≢true (sym not))
flushes_none kind not = refl

no_moment : (kind : EventKind) → is_ours kind ≡ false → stable_moment kind ≡ None
no_moment (Flushed index moment) not = absurd (false≢true (sym not))
no_moment kind not = refl

no_halt : (kind : EventKind) → is_ours kind ≡ false → halt_count Manager kind ≡ None
no_halt (Halt Manager count) not = absurd (false≢true (sym not))
no_halt (Halt Scm count) not = refl
no_halt (Halt (Datanode dn) count) not = refl
no_halt kind not = refl

module _ (Coherent : Type 0) (opening : Opening) (bytes : OpeningBytes) (script : Script) (coherent : Coherent) (story : List Event) (all : AllFollow (Follows Coherent opening bytes script) [] story) where
  pub ours_all : AreOurs story
  ours_all = follow-all (Follows Coherent opening bytes script) IsOurs [] story (λ front event may. of_seat opening front event.seat event.kind (may.enabled coherent)) all

  pub swapped_own : swapped_index opening story ≡ swapped_index opening (own story)
  swapped_own = told_own taken_index takes_none opening.last_index story ours_all

  pub durable_own : durable_index opening story ≡ durable_index opening (own story)
  durable_own = told_own stable_index flushes_none opening.last_index story ours_all

  pub halt_own : halt_of Manager story ≡ halt_of Manager (own story)
  halt_own = told_own (halt_count Manager) no_halt None story ours_all

  pub moment_own : flushed_moment story ≡ flushed_moment (own story)
  moment_own = ap (λ (l : List ℕ). last_in l) (all_own stable_moment no_moment story ours_all)
