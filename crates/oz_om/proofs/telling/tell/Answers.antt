use Rattle.std.proofs.Common.{◌≡◌, ◌+◌, ℕ, List, [], ◌∷◌, ◌++◌, refl, sym, ap, ◌∙◌, subst, arith}
use Rattle.std.specs.Prelude.{slice_index}
use Rattle.oz_buffer.specs.Books.{Book}
use Rattle.oz_buffer.specs.Buffer.{AllFollow, Follows}
use Rattle.oz_cache.specs.Cache.{newest}
use Rattle.oz_core.specs.declared.event.Event.{Event}
use Rattle.oz_core.specs.declared.event.EventKind.TheVariants.{Decide}
use Rattle.oz_core.specs.Seats.{stripe_seat}
use Rattle.oz_rows.specs.declared.operation.Change.{Change}
use Rattle.oz_rows.specs.RowMaps.{after_changes}
use Rattle.oz_om.proofs.Told.{rooms_kept, told_of}
use Rattle.oz_om.proofs.telling.tell.Goals as goal
use Rattle.oz_om.proofs.telling.tell.Goals.{then-is_empty, else-is_empty}

pub note-length-requires-clause-decides : goal.note-length-requires-clause-decides
note-length-requires-clause-decides g c =
    let none = c.if-is_empty.ensures.0 refl in (
      c.args.draft.index,
      record {
        id = c.args.id;
        reply = c.args.draft.reply;
        adds = c.decide.ensures.story
            ∙ ap (λ (n : ℕ). c.args.ledger.story ++ record { seat = n; kind = Decide c.args.id c.args.draft.index c.args.draft.reply c.args.draft.batch } ∷ []) (ap (λ (n : ℕ). 20 + n) (c.from-seat.ensures ∙ c.number.ensures))
            ∙ ap (λ (l : List ℕ). c.args.ledger.story ++ record { seat = stripe_seat c.args.stripe.now.number; kind = Decide c.args.id c.args.draft.index c.args.draft.reply l } ∷ []) none
            ∙ ap (λ (l : List Event). l ++ record { seat = stripe_seat c.args.stripe.now.number; kind = Decide c.args.id c.args.draft.index c.args.draft.reply [] } ∷ []) (sym c.requires.held.seen);
        grants = sym (c.requires.draft.quiet none) ∙ c.requires.draft.granted.granted_is;
        names = c.deref.ensures.value ∙ c.requires.draft.pins_are;
      },
    )

pub note-length-requires-clause-rooms : goal.note-length-requires-clause-rooms
note-length-requires-clause-rooms g c =
    rooms_kept (λ (l : Book) n. slice_index l.rooms n) (stripe_seat c.args.stripe.now.number) c.args.stripe.now.taken c.args.ledger c.decide.new.ledger c.requires.rooms
    (λ n other. c.decide.ensures.others n (λ same. other (omega (arith, same, c.number.ensures, c.from-seat.ensures))))

pub enter-length-requires-clause-rooms : goal.enter-length-requires-clause-rooms
enter-length-requires-clause-rooms g c =
    rooms_kept (λ (l : Book) n. slice_index l.rooms n) (stripe_seat c.args.stripe.now.number) c.args.stripe.now.taken c.args.ledger c.decide.new.ledger c.requires.rooms
    (λ n other. c.decide.ensures.others n (λ same. other (omega (arith, same, c.number.ensures, c.from-seat.ensures))))

pub enter-length-requires-clause-asked : goal.enter-length-requires-clause-asked
enter-length-requires-clause-asked g c = λ agreed. (c.requires.draft.tellable.asked (c.requires.opens.agrees.1 agreed)).whole

pub returns-clause-told : goal.returns-clause-told
returns-clause-told g c =
    let old = c.args.stripe.now in
    let new = c.if-is_empty.stripe in
    let draft = c.args.draft in
    let event : Event = record { seat = stripe_seat old.number; kind = Decide c.args.id draft.index draft.reply draft.batch } in
    let story_is : c.decide.new.ledger.story ≡ c.args.ledger.story ++ event ∷ [] = c.decide.ensures.story
    ∙ ap (λ (n : ℕ). c.args.ledger.story ++ record { seat = n; kind = Decide c.args.id draft.index draft.reply draft.batch } ∷ []) (ap (λ (n : ℕ). 20 + n) (c.from-seat.ensures ∙ c.number.ensures)) in
    let behind : c.decide.new.ledger.story ≡ old.seen ++ event ∷ [] = story_is ∙ ap (λ (l : List Event). l ++ event ∷ []) (sym c.requires.held.seen) in
    let follow = subst (AllFollow (Follows g.O.Opened.coherent g.O.Opened.opening g.O.Opened.bytes g.O.Opened.script) []) story_is c.all_follow.ensures in
    let told = told_of g.O.Opened.coherent g.O.Opened.opening g.O.Opened.bytes g.O.Opened.script g.L.Loaded.rows old new c.args.ledger.story
    c.args.id draft.index draft.reply draft.batch draft.changes c.requires.held c.requires.draft.tellable (λ some. (c.requires.draft.above some).limit) in
    elim c.if-is_empty.branch [
      | then-is_empty w ↦
          let whole = w.stripe-is ∙ w.note-length.ensures.same in
          told (λ i. (whole i).number) ((λ i. (whole i).seen) ∙ story_is)
          ((λ i. (w.stripe-is i).mine) ∙ w.note-length.ensures.mine event behind)
          ((λ i. newest (whole i).cache) ∙ ap (λ (l : List Change). after_changes l (newest old.cache)) (sym (c.requires.draft.tellable.recorded.0 (w.if-is_empty.ensures.0 refl))))
          follow
      | else-is_empty w ↦
          let whole = w.stripe-is ∙ w.enter-length.ensures.same in
          told (λ i. (whole i).number) ((λ i. (whole i).seen) ∙ story_is)
          ((λ i. (w.stripe-is i).mine) ∙ w.enter-length.ensures.mine event behind)
          ((λ i. newest (w.stripe-is i).cache) ∙ (λ i key. w.enter-length.ensures.newest key i))
          follow
    ]
