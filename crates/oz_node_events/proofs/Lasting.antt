-- What may be noted for an ask stays so.
use Rattle.std.proofs.Common.{◌≡◌, ◌≢◌, inl, inr, ℕ, ◌≤◌, Bool, true, false, ◌||◌, not, cond, List, [], ◌∷◌, ◌++◌, length, Option, None, Some, Contains, refl, sym, ap, ◌∙◌, subst, append_assoc, append-nil, arith}
use Rattle.std.proofs.Math.Bool.{or-true}
use Rattle.std.proofs.lemmas.Bool.{false≢true, ne_eqb, or_left}
use Rattle.std.proofs.lemmas.List.Elements.{All-contains, Contains-append_left}
use Rattle.std.proofs.lemmas.List.Folds.{list_any-append}
use Rattle.std.proofs.lemmas.Option.{same_Some}
use Rattle.std.specs.List.{cons_option, flat_map}
use Rattle.oz_asker.specs.laws.Asks.{legal_of_follow, same_id}
use Rattle.oz_buffer.specs.Buffer.{AllFollow, Follows}
use Rattle.oz_buffer.specs.laws.Following.{follow-push}
use Rattle.oz_core.specs.declared.event.Event.{Event}
use Rattle.oz_core.specs.declared.event.EventKind.{EventKind}
use Rattle.oz_core.specs.declared.event.EventKind.TheVariants.{Ask, Put}
use Rattle.oz_core.specs.declared.opening.Opening.{Opening}
use Rattle.oz_core.specs.Asks.{asks, is_asked, is_id, is_script}
use Rattle.oz_core.specs.Coherent.{IsCoherent}
use Rattle.oz_core.specs.Contents.{HasContent, OpeningBytes, WasGranted}
use Rattle.oz_core.specs.Fits.{EventFits, OwnHasStarted}
use Rattle.oz_core.specs.Law.{IsNamedOrOwn, KindIsEnabled}
use Rattle.oz_core.specs.Lines.{AfterIsTold, HasStarted}
use Rattle.oz_core.specs.Nodes.{is_block, length_in, length_of, put_length}
use Rattle.oz_core.specs.Stories.{all_told, first_in, has_event}
use Rattle.oz_fields.specs.declared.block.Block.{Block}
use Rattle.oz_kept.specs.Held.{LinesAreApart}
use Rattle.oz_kept.specs.laws.Contents.{granted_still, one_block, one_content}
use Rattle.oz_kept.specs.laws.Granted.{one_ask_id}
use Rattle.oz_kept.specs.laws.Lines.{lines_apart}
use Rattle.oz_script.specs.declared.lines.script.Line.{Line}
use Rattle.oz_script.specs.declared.lines.script.Script.{Script}
use Rattle.oz_script.specs.lines.Numbered.{IsNumbered}
use Rattle.oz_core.specs.declared.limits.TheConstants.{SERVICE_CLIENT}
use Rattle.oz_kept.specs.reopened.laws.Rising.{member_stays}
use Rattle.oz_replicas.specs.Notes.{Subject}
use Rattle.oz_requests.specs.declared.request.AskId.{AskId}
use Rattle.oz_turn.specs.Told.{BeginsWith}
use Rattle.oz_node_events.specs.Noting.{MayNote}
use Rattle.oz_node_events.proofs.Moving.{first_longer, follow_behind, follow_front, length_parts}

-- ---- what has happened stays so

happened_more : (is : EventKind → Bool) (seen more : List Event) → has_event is seen ≡ true → has_event is (seen ++ more) ≡ true
happened_more is seen more so =
    list_any-append (λ (event : Event). is event.kind) seen more ∙ or_left (has_event is seen) (has_event is more) so

after_more : (seen more : List Event) (after : Option (ℕ × ℕ)) → AfterIsTold seen after → AfterIsTold (seen ++ more) after
after_more seen more None so = tt
after_more seen more (Some named) so = happened_more _ seen more so

started_more : (seen more : List Event) (line : Line) → HasStarted seen line → HasStarted (seen ++ more) line
started_more seen more line so = record {
  before_it = λ some. happened_more _ seen more (so.before_it some);
  after_it = after_more seen more line.after so.after_it;
}

named_more : (seen more : List Event) (id : AskId) (block : Block) → IsNamedOrOwn seen id block → IsNamedOrOwn (seen ++ more) id block
named_more seen more id block (inl named) = inl (record {
  seat = named.seat;
  index = named.index;
  reply = named.reply;
  batch = named.batch;
  there = Contains-append_left seen more _ named.there;
  named = named.named;
})
named_more seen more id block (inr own) = inr own

own_more : (script : Script) (seen more : List Event) (id : AskId) → OwnHasStarted script seen id → OwnHasStarted script (seen ++ more) id
own_more script seen more id so = λ own.
    let at = so own in
    record { line = at.line; its = at.its; command = at.command; admin = at.admin; started = started_more seen more at.line at.started }

-- ---- what was granted

not_service : (script : Script) → IsNumbered script → (line : Line) → Contains script.lines line → line.client ≢ SERVICE_CLIENT
not_service script numbered line there is =
    let known = All-contains (λ (l : Line). l.client ≤ length script.clients) script.lines line numbered.known there in
    absurd (omega (arith, known, numbered.clients, is))

asked_there : (before behind : List Event) (event : Event) (id : AskId) → asks id event.kind ≡ true → is_asked id (before ++ event ∷ behind) ≡ true
asked_there before behind event id so =
    list_any-append (λ (event : Event). asks id event.kind) before (event ∷ behind)
    ∙ (ap (λ (t : Bool). is_asked id before || (t || is_asked id behind)) so ∙ or-true (is_asked id before))

not_again : (opening : Opening) (front : List Event) (seat : ℕ) (id : AskId) (kind : EventKind) → is_script id ≡ true → KindIsEnabled opening front seat kind
    → is_asked id front ≡ true → asks id kind ≡ false
not_again opening front seat id (Ask other request) of_script may asked = by (is_id id other) refl
  where
    by : (t : Bool) → is_id id other ≡ t → t ≡ false
    by false apart = refl
    by true same =
        let one = one_ask_id id other same in
        let unasked = may.unasked (subst (λ (i : AskId). is_script i ≡ true) one of_script) in
        absurd (false≢true (sym unasked ∙ subst (λ (i : AskId). is_asked i front ≡ true) one asked))
not_again opening front seat id kind of_script may asked = refl

module _ (Coherent : Type 0) (opening : Opening) (bytes : OpeningBytes) (script : Script) (coherent : Coherent) where
  abbrev Follow : List Event → Event → Type 0
  Follow = Follows Coherent opening bytes script

  granted_more : (id : AskId) (block : Block) (before : List Event) → is_script id ≡ true → (more front : List Event) → AllFollow Follow front more
      → WasGranted front id block before → WasGranted (front ++ more) id block before
  unfolding AllFollow
  granted_more id block before of_script [] front all was = subst (λ (l : List Event). WasGranted l id block before) (sym (append-nil front)) was
  granted_more id block before of_script (event ∷ more) front all was =
      let ask : Event = record { seat = was.asker; kind = Ask id was.request } in
      let asked = ap (is_asked id) was.asked ∙ asked_there before was.behind ask id (same_id id) in
      let away = not_again opening front event.seat id event.kind of_script (all.0.enabled coherent) asked in
      subst (λ (l : List Event). WasGranted l id block before) (append_assoc front (event ∷ []) more)
      (granted_more id block before of_script more (front ++ event ∷ []) all.1 (granted_still front event id block before away was))

  content_more : IsNumbered script → (block : Block) (content : List ℕ) (more front : List Event) → AllFollow Follow front more
      → HasContent opening bytes script front block content → HasContent opening bytes script (front ++ more) block content
  content_more numbered block content more front all (inl had) = inl had
  content_more numbered block content more front all (inr of) =
      let other : of.id.client ≢ SERVICE_CLIENT = λ service. not_service script numbered of.line of.its.there (of.its.of_client ∙ service) in
      inr (record {
        new = of.new;
        id = of.id;
        before = of.before;
        granted = granted_more of.id block of.before (ap not (ne_eqb of.id.client SERVICE_CLIENT other)) more front all of.granted;
        line = of.line;
        its = of.its;
        are = of.are;
      })

  -- ---- how long a block is

  -- whoever put it put as many bytes as it has
  put_alike : IsCoherent opening bytes → LinesAreApart script → (front : List Event) → AllFollow Follow [] front → (seat : ℕ) (kind : EventKind)
      → EventFits opening bytes script front kind → (block : Block) (content : List ℕ) → HasContent opening bytes script front block content
      → (count : ℕ) → put_length block kind ≡ Some count → count ≡ length content
  put_alike whole apart front all seat (Put dn put id first size) fits block content has count is = by (is_block block put) refl
    where
      by : (t : Bool) → is_block block put ≡ t → count ≡ length content
      by false e = absurd (none_some (sym (ap (λ (t : Bool). cond t (Some size) None) e) ∙ is))
        where
          none_some : None ≡ Some count → ⊥
          none_some e = cc
      by true e =
          let same = same_Some size count (sym (ap (λ (t : Bool). cond t (Some size) None) e) ∙ is) in
          let its = subst (λ (b : Block). HasContent opening bytes script front b fits.content) (sym (one_block block put e)) fits.its in
          sym same ∙ (fits.whole ∙ ap length
          (one_content opening bytes script whole apart front (legal_of_follow Coherent opening bytes script front coherent all) block fits.content content its has))
  put_alike whole apart front all seat kind fits block content has count is = absurd cc

  first_of_one : {X : Type 0} (o : Option X) → first_in (cons_option o []) ≡ o
  first_of_one None = refl
  first_of_one (Some x) = refl

  none_first : {X : Type 0} (l m : List X) → first_in l ≡ None → first_in (l ++ m) ≡ first_in m
  none_first [] m none = refl
  none_first (x ∷ l) m none = absurd cc

  alike_more : IsCoherent opening bytes → IsNumbered script → LinesAreApart script → (block : Block) (content : List ℕ) (more front : List Event)
      → AllFollow Follow [] front → AllFollow Follow front more → HasContent opening bytes script front block content
      → ((count : ℕ) → length_of opening front block ≡ Some count → count ≡ length content)
      → (count : ℕ) → length_of opening (front ++ more) block ≡ Some count → count ≡ length content
  unfolding AllFollow
  alike_more whole numbered apart block content [] front all rest has so count is =
      so count (ap (λ (l : List Event). length_of opening l block) (sym (append-nil front)) ∙ is)
  alike_more whole numbered apart block content (event ∷ more) front all rest has so count is =
      alike_more whole numbered apart block content more (front ++ event ∷ []) (follow-push Follow front event all rest.0) rest.1
      (content_more numbered block content (event ∷ []) front (rest.0, tt) has)
      (λ n e. by (length_of opening front block) refl n e)
      count (ap (λ (l : List Event). length_of opening l block) (append_assoc front (event ∷ []) more) ∙ is)
    where
      had : List ℕ
      had = flat_map (length_in block) opening.nodes ++ all_told (put_length block) front

      by : (o : Option ℕ) → length_of opening front block ≡ o → (n : ℕ) → length_of opening (front ++ event ∷ []) block ≡ Some n → n ≡ length content
      by (Some earlier) e n is =
          let now = length_parts opening block front (event ∷ []) ∙ first_longer (flat_map (length_in block) opening.nodes ++ all_told (put_length block) front) _ earlier e in
          sym (same_Some earlier n (sym now ∙ is)) ∙ so earlier e
      by None e n is =
          let now = length_parts opening block front (event ∷ []) ∙ none_first (flat_map (length_in block) opening.nodes ++ all_told (put_length block) front) _ e in
          put_alike whole apart front all event.seat event.kind (rest.0.fits coherent) block content has n
          (sym (first_of_one (put_length block event.kind)) ∙ (sym now ∙ is))

  -- ---- all of it

  pub may_still : IsCoherent opening bytes → IsNumbered script → (seen story : List Event) (id : AskId) (first : ℕ) (subject : Subject) → is_script id ≡ true
      → MayNote opening bytes script id first subject seen → BeginsWith story seen → AllFollow Follow [] story → MayNote opening bytes script id first subject story
  may_still whole numbered seen story id first subject of_script may begins all =
      let more = begins.0 in
      let parts : AllFollow Follow [] (seen ++ more) = subst (λ (l : List Event). AllFollow Follow [] l) begins.1 all in
      let front = follow_front Follow [] seen more parts in
      let behind = follow_behind Follow [] seen more parts in
      subst (MayNote opening bytes script id first subject) (sym begins.1)
      (record {
        named = named_more seen more id subject.block may.named;
        started = own_more script seen more id may.started;
        piece = λ some.
            let piece = may.piece some in
            record {
              before = piece.before;
              granted = granted_more id subject.block piece.before of_script more seen behind piece.granted;
              place = piece.place;
              content = content_more numbered subject.block subject.bytes more seen behind piece.content;
              alike = alike_more whole numbered (lines_apart script numbered) subject.block subject.bytes more seen front behind piece.content piece.alike;
              members = λ dn among. member_stays opening seen more subject.block.container dn (piece.members dn among);
            };
      })
