-- Whoever got a block has its content.
use Rattle.std.proofs.Common.{
  ◌≡◌,
  ⊎_elim,
  ◌⊎◌,
  ℕ,
  zero,
  suc,
  ◌*◌,
  Bool,
  true,
  false,
  ◌&&◌,
  ◌||◌,
  ◌==◌,
  List,
  [],
  ◌∷◌,
  ◌++◌,
  length,
  take,
  drop,
  Option,
  None,
  Some,
  IsSome,
  Contains,
  cond,
  inl,
  inr,
  refl,
  sym,
  ◌∙◌,
  ap,
  subst,
  append_assoc,
}
use mathlib.Core.Bool.{false≢true}
use Rattle.std.proofs.lemmas.Bool.{eqb-true, eq-eqb, and_parts}
use Rattle.std.proofs.lemmas.List.{take-append-drop}
use Rattle.std.proofs.lemmas.List.Elements.{Contains-append_left, Contains-append_right}
use Rattle.std.proofs.lemmas.List.Folds.{list_any-append}
use Rattle.std.specs.Prelude.{MatchBool}
use Rattle.std.specs.List.{list_any, slice_get}
use Rattle.oz_command.specs.Payload.{bytes_from, piece}
use Rattle.oz_dellog.specs.declared.txn.Txn.{Txn}
use Rattle.oz_fields.specs.declared.block.Block.{Block}
use Rattle.oz_script.specs.declared.lines.script.Line.{Line}
use Rattle.oz_script.specs.declared.lines.script.Script.{Script}
use Rattle.oz_requests.specs.declared.reply.Reply.TheVariants as replies
use Rattle.oz_requests.specs.declared.request.AskId.{AskId}
use Rattle.oz_requests.specs.declared.request.Request.{Request}
use Rattle.oz_core.specs.declared.event.Event.{Event}
use Rattle.oz_core.specs.declared.event.EventKind.{EventKind}
use Rattle.oz_core.specs.declared.event.EventKind.TheVariants.{Ask, Decide, Put, Copy, Delete, Wipe}
use Rattle.oz_core.specs.declared.opening.Opening.{Opening}
use Rattle.oz_core.specs.Asks.{is_id, is_script, is_asked, asks}
use Rattle.oz_core.specs.Coherent.{IsCoherent}
use Rattle.oz_core.specs.Contents.{OpeningBytes, HasContent, WasGranted, IsLineOf, piece_number}
use Rattle.oz_core.specs.Fits.{EventFits, FitsFrom}
use Rattle.oz_core.specs.Law.{IsLegal, IsEnabled, KindIsEnabled, PutIsEnabled, CopyIsEnabled, puts_or_copies}
use Rattle.oz_core.specs.Nodes.{is_block, was_held, holds, held_after, deletes}
use Rattle.oz_core.specs.Scm.{logs}
use Rattle.oz_core.specs.Stories.{has_event, last_told, newer}
use Rattle.oz_kept.specs.Held.{LinesAreApart, Having, HadAtOpening, ArePut, HavingAfter, HavingFrom, HasBytes}
use Rattle.oz_kept.specs.laws.Deleted.{front_legal, enabled_at}
use Rattle.oz_kept.specs.laws.Granted.{IsGrantedTo, one_id, was_nowhere, granted_to_script, one_ask_id, fits_at}

-- ---- grants, as those who wrote the block know them

pub its_grant : (opening : Opening) (story : List Event) (legal : IsLegal opening story) (id : AskId) (block : Block) (before : List Event)
    → WasGranted story id block before → IsGrantedTo opening story legal block id
its_grant opening story legal id block before granted =
    let asked : Event = record { seat = granted.asker; kind = Ask id granted.request } in
    let decided : Event = record { seat = granted.stripe; kind = Decide id granted.index (replies.Granted block granted.pipeline) granted.batch } in
    record {
      seat = granted.stripe;
      index = granted.index;
      pipeline = granted.pipeline;
      batch = granted.batch;
      there = subst (λ (l : List Event). Contains l decided) (sym granted.asked)
          (Contains-append_right before (asked ∷ granted.behind) decided (Contains-append_right (asked ∷ []) granted.behind decided granted.decided));
    }

-- an id is one of its own
is_itself : (id : AskId) → is_id id id ≡ true
is_itself id =
    ap (λ (t : Bool). t && id.line == id.line && id.step == id.step) (eq-eqb id.client id.client refl)
    ∙ ap (λ (t : Bool). t && id.step == id.step) (eq-eqb id.line id.line refl) ∙ eq-eqb id.step id.step refl

asked_there : (before behind : List Event) (seat : ℕ) (id : AskId) (request : Request)
    → is_asked id (before ++ record { seat = seat; kind = Ask id request } ∷ behind) ≡ true
asked_there before behind seat id request =
    let asked : Event = record { seat = seat; kind = Ask id request } in
    list_any-append (λ (event : Event). asks id event.kind) before (asked ∷ behind)
    ∙ ap (λ (t : Bool). list_any (λ (event : Event). asks id event.kind) before || (t || list_any (λ (event : Event). asks id event.kind) behind))
    (is_itself id)
    ∙ or_true (list_any (λ (event : Event). asks id event.kind) before)
  where
    or_true : (t : Bool) → t || true ≡ true
    or_true true = refl
    or_true false = refl

-- the last Ask of an id stands in one place
one_before : (id : AskId) (before other behind rest : List Event) (seat asker : ℕ) (request made : Request)
    → before ++ record { seat = seat; kind = Ask id request } ∷ behind ≡ other ++ record { seat = asker; kind = Ask id made } ∷ rest
    → is_asked id behind ≡ false → is_asked id rest ≡ false → before ≡ other
one_before id [] [] behind rest seat asker request made e none none_other = refl
one_before id [] (y ∷ other) behind rest seat asker request made e none none_other =
    let same : behind ≡ other ++ record { seat = asker; kind = Ask id made } ∷ rest = cc in
    absurd (false≢true (sym none ∙ ap (is_asked id) same ∙ asked_there other rest asker id made))
one_before id (x ∷ before) [] behind rest seat asker request made e none none_other =
    let same : before ++ record { seat = seat; kind = Ask id request } ∷ behind ≡ rest = cc in
    absurd (false≢true (sym none_other ∙ ap (is_asked id) (sym same) ∙ asked_there before behind seat id request))
one_before id (x ∷ before) (y ∷ other) behind rest seat asker request made e none none_other =
    let first : x ≡ y = cc in
    let later : before ++ record { seat = seat; kind = Ask id request } ∷ behind ≡ other ++ record { seat = asker; kind = Ask id made } ∷ rest = cc in
    ap (λ (event : Event). event ∷ before) first
    ∙ ap (λ (l : List Event). y ∷ l) (one_before id before other behind rest seat asker request made later none none_other)

pub one_grant : (opening : Opening) (story : List Event) (legal : IsLegal opening story) (block : Block) (id other : AskId) (before another : List Event)
    → WasGranted story id block before → WasGranted story other block another → (id ≡ other) × (before ≡ another)
one_grant opening story legal block id other before another a b =
    let same = one_id opening story legal block id other (its_grant opening story legal id block before a)
    (its_grant opening story legal other block another b) in
    let moved = subst (λ (i : AskId). WasGranted story i block another) (sym same) b in
    (same, one_before id before another a.behind moved.behind a.asker moved.asker a.request moved.request (sym a.asked ∙ moved.asked) a.last moved.last)

-- ---- a content stays one

pub granted_still : (story : List Event) (event : Event) (id : AskId) (block : Block) (before : List Event) → asks id event.kind ≡ false
    → WasGranted story id block before → WasGranted (story ++ event ∷ []) id block before
granted_still story event id block before away granted = record {
  behind = granted.behind ++ event ∷ [];
  asker = granted.asker;
  request = granted.request;
  asked = ap (λ (l : List Event). l ++ event ∷ []) granted.asked
      ∙ append_assoc before (record { seat = granted.asker; kind = Ask id granted.request } ∷ granted.behind) (event ∷ []);
  last = list_any-append (λ (event : Event). asks id event.kind) granted.behind (event ∷ [])
      ∙ ap (λ (t : Bool). t || (asks id event.kind || false)) granted.last ∙ ap (λ (t : Bool). t || false) away;
  stripe = granted.stripe;
  index = granted.index;
  pipeline = granted.pipeline;
  batch = granted.batch;
  decided = Contains-append_left granted.behind (event ∷ []) _ granted.decided;
}

-- nothing that was granted is asked again
pub unasked_again : (opening : Opening) (bytes : OpeningBytes) (script : Script) (story : List Event) (legal : IsLegal opening story)
    → FitsFrom opening bytes script [] story
    → (seat : ℕ) (kind : EventKind) → KindIsEnabled opening story seat kind → (id : AskId) (block : Block) (before : List Event)
    → WasGranted story id block before → asks id kind ≡ false
unasked_again opening bytes script story legal fits seat (Ask other request) enabled id block before granted = by (is_id id other) refl
  where
    by : (t : Bool) → is_id id other ≡ t → is_id id other ≡ false
    by false e = e
    by true e =
        let same = one_ask_id id other e in
        let scripted = granted_to_script opening bytes script story legal fits block id (its_grant opening story legal id block before granted) in
        let none : is_asked other story ≡ false = enabled.unasked (sym (ap is_script same) ∙ scripted) in
        let there : is_asked id story ≡ true = ap (is_asked id) granted.asked ∙ asked_there before granted.behind granted.asker id granted.request in
        absurd (false≢true (sym none ∙ sym (ap (λ (i : AskId). is_asked i story) same) ∙ there))
unasked_again opening bytes script story legal fits seat kind enabled id block before granted = refl

content_still : (opening : Opening) (bytes : OpeningBytes) (script : Script) (story : List Event) (event : Event) (legal : IsLegal opening story)
    → FitsFrom opening bytes script [] story
    → IsEnabled opening story event → (block : Block) (content : List ℕ) → HasContent opening bytes script story block content
    → HasContent opening bytes script (story ++ event ∷ []) block content
content_still opening bytes script story event legal fits enabled block content (inl had) = inl had
content_still opening bytes script story event legal fits enabled block content (inr of) = inr (record {
  new = of.new;
  id = of.id;
  before = of.before;
  granted = granted_still story event of.id block of.before
      (unasked_again opening bytes script story legal fits event.seat event.kind enabled of.id block of.before of.granted) of.granted;
  line = of.line;
  its = of.its;
  are = of.are;
})

-- ---- who got a block

abbrev pub GotIt : Opening → List Event → Block → ℕ → Type 0
GotIt opening story block dn = (has_event (puts_or_copies dn block) story ≡ true) ⊎ (was_held opening dn block ≡ true)

pub record HasIts (opening : Opening) (bytes : OpeningBytes) (script : Script) (story : List Event) (block : Block) (dn : ℕ) : Type 0 where
  pub content : List ℕ
  pub has : HasBytes opening bytes script story block dn content
  pub its : HasContent opening bytes script story block content

having_next : (script : Script) (block : Block) (start : Having) (before : List Event) (event : Event) (dn : ℕ) (content : List ℕ)
    → HavingAfter script block event.kind (HavingFrom script block start before) dn content → HavingFrom script block start (before ++ event ∷ []) dn content
unfolding HavingFrom
having_next script block start [] event dn content has = has
having_next script block start (first ∷ before) event dn content has =
    having_next script block (HavingAfter script block first.kind start) before event dn content has

-- ---- what one event gives

pub one_block : (block other : Block) → is_block block other ≡ true → block ≡ other
one_block block other e =
    let both = and_parts (other.container == block.container) (other.local == block.local) e in
    made (sym (eqb-true other.container block.container both.0)) (sym (eqb-true other.local block.local both.1))
  where
    made : block.container ≡ other.container → block.local ≡ other.local → block ≡ other
    made container local = λ i. record { container = container i; local = local i }

taken_again : (n : ℕ) (l : List ℕ) → take n l ≡ take (length (take n l)) l
taken_again zero l = refl
taken_again (suc n) [] = refl
taken_again (suc n) (x ∷ l) = ap (λ rest. x ∷ rest) (taken_again n l)

module _ (opening : Opening) (bytes : OpeningBytes) (script : Script) (coherent : IsCoherent opening bytes) (block : Block) (before : List Event)
    (legal : IsLegal opening before) (inv : (dn : ℕ) → GotIt opening before block dn → HasIts opening bytes script before block dn) where
  abbrev Had : Having
  Had = HavingFrom script block (HadAtOpening opening bytes block) before

  record Gives (kind : EventKind) (dn : ℕ) : Type 0 where
    content : List ℕ
    has : HavingAfter script block kind Had dn content
    its : HasContent opening bytes script before block content

  -- the bytes that are put are those of the piece that the block was granted for
  put_bytes : (seat other : ℕ) (id : AskId) (first count : ℕ) → PutIsEnabled opening before seat other block id first count → (content : List ℕ)
      → count ≡ length content
      → HasContent opening bytes script before block content → ArePut script id first count content
  put_bytes seat other id first count enabled content whole (inl had) =
      absurd (was_nowhere opening before legal block id (its_grant opening before legal id block enabled.before enabled.granted) coherent.fresh
      (had.dn, had.held))
  put_bytes seat other id first count enabled content whole (inr of) =
      let same = one_grant opening before legal block of.id id of.before enabled.before of.granted enabled.granted in
      let number : piece_number of.id of.before ≡ piece_number id enabled.before = ap (λ (i : AskId). piece_number i of.before) same.0
      ∙ ap (piece_number id) same.1 in
      let place : 65536 * piece_number of.id of.before ≡ first = ap (λ (n : ℕ). 65536 * n) number ∙ sym enabled.place in
      let is : content ≡ bytes_from of.line.command first 65536 = of.are ∙ ap (λ (n : ℕ). bytes_from of.line.command n 65536) place in
      record {
        line = of.line;
        its = subst (λ (i : AskId). IsLineOf script i.client i.line of.line) same.0 of.its;
        are = is ∙ taken_again 65536 _ ∙ ap (λ (n : ℕ). bytes_from of.line.command first n) (ap length (sym is) ∙ sym whole);
      }

  gives : (seat : ℕ) (kind : EventKind) → KindIsEnabled opening before seat kind → EventFits opening bytes script before kind → (dn : ℕ)
      → puts_or_copies dn block kind ≡ true → Gives kind dn
  gives seat (Put other put id first count) enabled fits dn test =
      let parts = and_parts (other == dn) (is_block block put) test in
      let same = sym (one_block block put parts.1) in
      let here = subst (λ (b : Block). PutIsEnabled opening before seat other b id first count) same enabled in
      let its = subst (λ (b : Block). HasContent opening bytes script before b fits.content) same fits.its in
      record {
        content = fits.content;
        has = subst (λ (t : Bool). MatchBool t (ArePut script id first count fits.content) (Had dn fits.content)) (sym test)
            (put_bytes seat other id first count here fits.content fits.whole its);
        its = its;
      }
  gives seat (Copy source target copied) enabled fits dn test =
      let parts = and_parts (target == dn) (is_block block copied) test in
      let same = sym (one_block block copied parts.1) in
      let here = subst (λ (b : Block). CopyIsEnabled opening before seat source target b) same enabled in
      let old = inv source here.had in
      record {
        content = old.content;
        has = subst (λ (t : Bool). MatchBool t (Had source old.content) (Had dn old.content)) (sym test) old.has;
        its = old.its;
      }
  gives seat kind enabled fits dn test = absurd (false≢true test)

  keeps : (kind : EventKind) (dn : ℕ) (content : List ℕ) → puts_or_copies dn block kind ≡ false → Had dn content → HavingAfter script block kind Had dn content
  keeps (Put other put id first count) dn content test has =
      subst (λ (t : Bool). MatchBool t (ArePut script id first count content) (Had dn content)) (sym test) has
  keeps (Copy source target copied) dn content test has = subst (λ (t : Bool). MatchBool t (Had source content) (Had dn content)) (sym test) has
  keeps kind dn content test has = has

  next_has : (event : Event) → FitsFrom opening bytes script [] before → IsEnabled opening before event → EventFits opening bytes script before event.kind
      → (dn : ℕ)
      → GotIt opening (before ++ event ∷ []) block dn → HasIts opening bytes script (before ++ event ∷ []) block dn
  next_has event fits enabled now dn got = by (puts_or_copies dn block event.kind) refl
    where
      parts : has_event (puts_or_copies dn block) (before ++ event ∷ []) ≡ has_event (puts_or_copies dn block) before
          || (puts_or_copies dn block event.kind || false)
      parts = list_any-append (λ (e : Event). puts_or_copies dn block e.kind) before (event ∷ [])

      earlier : puts_or_copies dn block event.kind ≡ false → GotIt opening before block dn
      earlier none = ⊎_elim
          (λ there. inl (by_test (has_event (puts_or_copies dn block) before) refl
          (sym (parts ∙ ap (λ (t : Bool). has_event (puts_or_copies dn block) before || (t || false)) none) ∙ there))) (λ held. inr held) got
        where
          by_test : (t : Bool) → has_event (puts_or_copies dn block) before ≡ t → t || (false || false) ≡ true
              → has_event (puts_or_copies dn block) before ≡ true
          by_test true e whole = e
          by_test false e whole = absurd (false≢true whole)

      by : (t : Bool) → puts_or_copies dn block event.kind ≡ t → HasIts opening bytes script (before ++ event ∷ []) block dn
      by true e =
          let new = gives event.seat event.kind enabled now dn e in
          record {
            content = new.content;
            has = having_next script block (HadAtOpening opening bytes block) before event dn new.content new.has;
            its = content_still opening bytes script before event legal fits enabled block new.content new.its;
          }
      by false e =
          let old = inv dn (earlier e) in
          record {
            content = old.content;
            has = having_next script block (HadAtOpening opening bytes block) before event dn old.content (keeps event.kind dn old.content e old.has);
            its = content_still opening bytes script before event legal fits enabled block old.content old.its;
          }

-- ---- at each place

pub front_ends : {A : Type 0} (l : List A) (n : ℕ) → slice_get l n ≡ None → take (suc n) l ≡ take n l
front_ends [] zero e = refl
front_ends [] (suc n) e = refl
front_ends (x ∷ l) zero e = absurd cc
front_ends (x ∷ l) (suc n) e = ap (λ rest. x ∷ rest) (front_ends l n e)

pub front_grows : {A : Type 0} (l : List A) (n : ℕ) (x : A) → slice_get l n ≡ Some x → take (suc n) l ≡ take n l ++ x ∷ []
front_grows [] n x e = absurd cc
front_grows (y ∷ l) zero x e = let same : y ≡ x = cc in ap (λ z. z ∷ []) same
front_grows (y ∷ l) (suc n) x e = ap (λ rest. y ∷ rest) (front_grows l n x e)

pub fits_to : (opening : Opening) (bytes : OpeningBytes) (script : Script) (before a b : List Event) → FitsFrom opening bytes script before (a ++ b)
    → FitsFrom opening bytes script before a
unfolding FitsFrom
fits_to opening bytes script before [] b fits = tt
fits_to opening bytes script before (event ∷ a) b fits = (fits.0, fits_to opening bytes script (before ++ event ∷ []) a b fits.1)

some_inside : (o : Option (List ℕ)) → IsSome o → (content : List ℕ) × (o ≡ Some content)
some_inside None some = absurd cc
some_inside (Some content) some = (content, refl)

module _ (opening : Opening) (bytes : OpeningBytes) (script : Script) (coherent : IsCoherent opening bytes) (story : List Event) (legal : IsLegal opening story)
    (fits : FitsFrom opening bytes script [] story) (block : Block) where
  at_first : (dn : ℕ) → GotIt opening [] block dn → HasIts opening bytes script [] block dn
  unfolding HavingFrom
  at_first dn (inl there) = absurd (false≢true there)
  at_first dn (inr held) =
      let had = some_inside (bytes dn block) (coherent.blocks.digests_match block dn held) in
      record { content = had.0; has = record { held = held; are = had.1 }; its = inl (record { dn = dn; held = held; are = had.1 }) }

  fits_front : (n : ℕ) → FitsFrom opening bytes script [] (take n story)
  fits_front n = fits_to opening bytes script [] (take n story) (drop n story) (subst (FitsFrom opening bytes script []) (sym (take-append-drop n story)) fits)

  pub at_each : (n dn : ℕ) → GotIt opening (take n story) block dn → HasIts opening bytes script (take n story) block dn
  at_each zero dn got = at_first dn got
  at_each (suc n) dn got = by (slice_get story n) refl (at_each n)
    where
      by : (o : Option Event) → slice_get story n ≡ o
          → ((dn : ℕ) → GotIt opening (take n story) block dn → HasIts opening bytes script (take n story) block dn)
          → HasIts opening bytes script (take (suc n) story) block dn
      by None e before =
          let same = front_ends story n e in
          subst (λ (l : List Event). HasIts opening bytes script l block dn) (sym same)
          (before dn (subst (λ (l : List Event). GotIt opening l block dn) same got))
      by (Some event) e before =
          let same = front_grows story n event e in
          subst (λ (l : List Event). HasIts opening bytes script l block dn) (sym same)
          (next_has opening bytes script coherent block (take n story) (front_legal opening story legal n) before event (fits_front n)
          (enabled_at opening story legal n event e)
          (fits_at opening bytes script story fits n event e) dn (subst (λ (l : List Event). GotIt opening l block dn) same got))

-- ---- who holds a block got it

kind_gave : (txns : List Txn) (dn : ℕ) (block : Block) (kind : EventKind) (before : Bool) → newer (held_after txns dn block kind) before ≡ true
    → (puts_or_copies dn block kind ≡ true) ⊎ (before ≡ true)
kind_gave txns dn block (Put other put id first count) before e = by (other == dn && is_block block put) refl
  where
    by : (t : Bool) → (other == dn && is_block block put) ≡ t → ((other == dn && is_block block put) ≡ true) ⊎ (before ≡ true)
    by true test = inl test
    by false test = inr (sym (ap (λ (t : Bool). newer (cond t (Some true) None) before) test) ∙ e)
kind_gave txns dn block (Copy source target copied) before e = by (target == dn && is_block block copied) refl
  where
    by : (t : Bool) → (target == dn && is_block block copied) ≡ t → ((target == dn && is_block block copied) ≡ true) ⊎ (before ≡ true)
    by true test = inl test
    by false test = inr (sym (ap (λ (t : Bool). newer (cond t (Some true) None) before) test) ∙ e)
kind_gave txns dn block (Delete other number locals) before e = by (other == dn && deletes txns number locals block) refl
  where
    by : (t : Bool) → (other == dn && deletes txns number locals block) ≡ t → (false ≡ true) ⊎ (before ≡ true)
    by true test = inl (sym (ap (λ (t : Bool). newer (cond t (Some false) None) before) test) ∙ e)
    by false test = inr (sym (ap (λ (t : Bool). newer (cond t (Some false) None) before) test) ∙ e)
kind_gave txns dn block (Wipe other) before e = by (other == dn) refl
  where
    by : (t : Bool) → (other == dn) ≡ t → (false ≡ true) ⊎ (before ≡ true)
    by true test = inl (sym (ap (λ (t : Bool). newer (cond t (Some false) None) before) test) ∙ e)
    by false test = inr (sym (ap (λ (t : Bool). newer (cond t (Some false) None) before) test) ∙ e)
kind_gave txns dn block kind before e = inr e

held_from : (txns : List Txn) (dn : ℕ) (block : Block) (story : List Event) (before : Bool) → last_told (held_after txns dn block) before story ≡ true
    → (has_event (puts_or_copies dn block) story ≡ true) ⊎ (before ≡ true)
held_from txns dn block [] before e = inr e
held_from txns dn block (event ∷ story) before e = ⊎_elim
    (λ later. inl (or_later (puts_or_copies dn block event.kind) later))
    (λ here. ⊎_elim (λ gave. inl (ap (λ (t : Bool). t || has_event (puts_or_copies dn block) story) gave)) (λ old. inr old)
    (kind_gave txns dn block event.kind before here))
    (held_from txns dn block story (newer (held_after txns dn block event.kind) before) e)
  where
    or_later : (t : Bool) → has_event (puts_or_copies dn block) story ≡ true → t || has_event (puts_or_copies dn block) story ≡ true
    or_later true later = refl
    or_later false later = later

pub holder_got : (opening : Opening) (story : List Event) (block : Block) (dn : ℕ) → holds opening story dn block ≡ true → GotIt opening story block dn
holder_got opening story block dn held = held_from (logs opening story) dn block story (was_held opening dn block) held

-- ---- a block has one content

pub same_line : (script : Script) → LinesAreApart script → (client number : ℕ) (one other : Line) → IsLineOf script client number one
    → IsLineOf script client number other → one ≡ other
same_line script apart client number one other a b = apart one other a.there b.there (a.of_client ∙ sym b.of_client) (a.of_number ∙ sym b.of_number)

some_bytes : (a b : List ℕ) → Some a ≡ Some b → a ≡ b
some_bytes a b e = cc

pub one_content : (opening : Opening) (bytes : OpeningBytes) (script : Script) → IsCoherent opening bytes → LinesAreApart script
    → (story : List Event) (legal : IsLegal opening story) (block : Block) (a b : List ℕ)
    → HasContent opening bytes script story block a → HasContent opening bytes script story block b → a ≡ b
one_content opening bytes script coherent apart story legal block a b (inl one) (inl other) =
    some_bytes a b (sym one.are ∙ coherent.blocks.alike block one.dn other.dn one.held other.held ∙ other.are)
one_content opening bytes script coherent apart story legal block a b (inl one) (inr other) = absurd (other.new (one.dn, one.held))
one_content opening bytes script coherent apart story legal block a b (inr one) (inl other) = absurd (one.new (other.dn, other.held))
one_content opening bytes script coherent apart story legal block a b (inr one) (inr other) =
    let same = one_grant opening story legal block one.id other.id one.before other.before one.granted other.granted in
    let line = same_line script apart other.id.client other.id.line one.line other.line
    (subst (λ (i : AskId). IsLineOf script i.client i.line one.line) same.0 one.its) other.its in
    one.are ∙ ap (λ (i : AskId). piece (piece_number i one.before) one.line.command) same.0
    ∙ ap (λ (l : List Event). piece (piece_number other.id l) one.line.command) same.1
    ∙ ap (λ (l : Line). piece (piece_number other.id other.before) l.command) line ∙ sym other.are
