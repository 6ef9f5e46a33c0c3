use Rattle.std.proofs.Common.{◌≡◌, ◌+◌, ℕ, List, [], ◌∷◌, ◌++◌, sym, ap, ◌∙◌, subst, arith}
use Rattle.std.specs.Prelude.{slice_index}
use Rattle.oz_buffer.specs.Books.{Book}
use Rattle.oz_buffer.specs.Buffer.{AllFollow, Follows}
use Rattle.oz_cache.specs.Cache.{newest}
use Rattle.oz_core.specs.declared.event.Event.{Event}
use Rattle.oz_core.specs.declared.event.EventKind.TheVariants.{PurgeAsk}
use Rattle.oz_core.specs.Law.{PurgeAskIsEnabled}
use Rattle.oz_core.specs.Seats.{stripe_seat}
use Rattle.oz_om.proofs.PurgeAsks.{purge_enabled, told_asked}
use Rattle.oz_om.proofs.Legal.{legal_of}
use Rattle.oz_om.proofs.Told.{rooms_kept}
use Rattle.oz_om.proofs.purging.tell_of.Goals as goal

pub note-requires-clause-follows : goal.note-requires-clause-follows
note-requires-clause-follows g c =
    let old = c.args.stripe.now in
    record {
      of_seat = tt;
      enabled = λ coherent. subst (λ (n : ℕ). PurgeAskIsEnabled g.O.Opened.opening c.args.ledger.story n c.args.blocks)
          (sym (ap (λ (n : ℕ). 20 + n) (c.from-seat.ensures ∙ c.number.ensures)))
          (purge_enabled g.O.Opened.opening g.L.Loaded.rows old.number c.args.ledger.story (newest old.cache) c.args.blocks (c.requires.blocks coherent)
          (legal_of g.O.Opened.coherent g.O.Opened.opening g.O.Opened.bytes g.O.Opened.script coherent c.args.ledger.story c.requires.held.follow)
          c.is_kept.ensures.kept.there c.requires.unhalted);
      fits = λ coherent. tt;
    }

pub ask_purge-requires-clause-asks : goal.ask_purge-requires-clause-asks
ask_purge-requires-clause-asks g c = (
  c.args.blocks,
  c.note.ensures.story
      ∙ ap (λ (n : ℕ). c.args.ledger.story ++ record { seat = n; kind = PurgeAsk c.args.blocks } ∷ []) (ap (λ (n : ℕ). 20 + n) (c.from-seat.ensures ∙ c.number.ensures))
      ∙ ap (λ (l : List Event). l ++ record { seat = stripe_seat c.args.stripe.now.number; kind = PurgeAsk c.args.blocks } ∷ []) (sym c.requires.held.seen),
  λ agreed. (c.requires.blocks (c.requires.opens.agrees.1 agreed)).whole,
)

pub ask_purge-requires-clause-rooms : goal.ask_purge-requires-clause-rooms
ask_purge-requires-clause-rooms g c =
    rooms_kept (λ (l : Book) n. slice_index l.rooms n) (stripe_seat c.args.stripe.now.number) c.args.stripe.now.taken c.args.ledger c.note.new.self c.requires.rooms
    (λ n other. c.note.ensures.others n (λ same. other (omega (arith, same, c.number.ensures, c.from-seat.ensures))))

pub returns-clause-asked : goal.returns-clause-asked
returns-clause-asked g c =
    let event : Event = record { seat = stripe_seat c.args.stripe.now.number; kind = PurgeAsk c.args.blocks } in
    c.ask_purge.ensures.mine event (c.note.ensures.story
    ∙ ap (λ (n : ℕ). c.args.ledger.story ++ record { seat = n; kind = PurgeAsk c.args.blocks } ∷ []) (ap (λ (n : ℕ). 20 + n) (c.from-seat.ensures ∙ c.number.ensures))
    ∙ ap (λ (l : List Event). l ++ event ∷ []) (sym c.requires.held.seen))

pub returns-clause-told : goal.returns-clause-told
returns-clause-told g c =
    let old = c.args.stripe.now in
    let same = c.ask_purge.ensures.same in
    let event : Event = record { seat = stripe_seat old.number; kind = PurgeAsk c.args.blocks } in
    let story_is : c.note.new.self.story ≡ c.args.ledger.story ++ event ∷ [] = c.note.ensures.story
    ∙ ap (λ (n : ℕ). c.args.ledger.story ++ record { seat = n; kind = PurgeAsk c.args.blocks } ∷ []) (ap (λ (n : ℕ). 20 + n) (c.from-seat.ensures ∙ c.number.ensures)) in
    told_asked g.O.Opened.coherent g.O.Opened.opening g.O.Opened.bytes g.O.Opened.script g.L.Loaded.rows old c.ask_purge.new.self c.args.ledger.story
    c.args.blocks c.requires.held c.requires.blocks (λ i. (same i).number) ((λ i. (same i).seen) ∙ story_is)
    (c.ask_purge.ensures.mine event (story_is ∙ ap (λ (l : List Event). l ++ event ∷ []) (sym c.requires.held.seen))) (λ i. newest (same i).cache)
    (subst (AllFollow (Follows g.O.Opened.coherent g.O.Opened.opening g.O.Opened.bytes g.O.Opened.script) []) story_is c.all_follow.ensures)
