-- What a purge of a stripe answers, by what it saw and what its seat gave.
use Rattle.std.proofs.Common.{◌≡◌, inl, inr, ℕ, ◌+◌, ◌<◌, ◌≤◌, nat_lt, Bool, true, false, List, [], ◌∷◌, ◌++◌, length, map, append-nil, arith, refl, sym, ap, ◌∙◌, subst}
use Rattle.std.specs.Prelude.{Result, Ok, Err, IfErr, IsErrAnd}
use Rattle.oz_core.specs.declared.event.Event.{Event}
use Rattle.oz_core.specs.declared.event.EventKind.TheVariants.{PurgeAsk}
use Rattle.oz_core.specs.declared.opening.Opening.{Opening}
use Rattle.oz_core.specs.Contents.{OpeningBytes}
use Rattle.oz_core.specs.Seats.{stripe_seat}
use Rattle.oz_core.specs.Stories.{mine}
use Rattle.oz_fields.specs.declared.block.Block.{Block}
use Rattle.oz_kept.specs.laws.Reached.{in_none}
use Rattle.oz_locks.specs.Stripe.{IsAtRest, StripeView}
use Rattle.oz_names.specs.declared.limits.TheConstants.{STRIPES}
use Rattle.oz_reclaim.specs.Reclaimable.{IsAmongFirst}
use Rattle.oz_reclaim.specs.declared.finding.TheConstants.{MOST_PURGED}
use Rattle.oz_rows.specs.declared.key.RowKey.{RowKey}
use Rattle.oz_rows.specs.RowMaps.{Rows}
use Rattle.oz_script.specs.declared.lines.script.Script.{Script}
use Rattle.oz_turn.specs.declared.seat.Seat.{Seat}
use Rattle.oz_turn.specs.declared.told.Told.{Ghosts}
use Rattle.oz_turn.specs.Ring.{TurnId}
use Rattle.oz_turn.specs.Seat.{seen_of}
use Rattle.oz_turn.specs.Told.{BeginsWith}
use Rattle.oz_om.specs.declared.purging.Purged.{Purged}
use Rattle.oz_om.specs.declared.refusal.Refusal.{Refusal}
use Rattle.oz_om.specs.Purging.{AreFirstPurged, DeletedRow, HadNoRows, HasPurged, IsCounted, NoneHadAny, OneWasRefused, WasRefused, WereFound, asks_for, blocks_of_all, key_of}
use Rattle.oz_om.specs.Shown.{HasSeen}
use Rattle.oz_om.proofs.Works.{begins_further, begins_itself, below, not_below}

-- a refusal that was passed on, or made of another error
pub refused_through : {A E : Type 0} (P : E → Type 0) (r : Result A E) (e : E) → IsErrAnd r (λ y. y ≡ e) → P e → IfErr r P
refused_through P (Err y) e is holds = subst P (sym is) holds
refused_through P (Ok x) e is holds = tt

pub no_length : {A : Type 0} (l : List A) → length l ≡ 0 → l ≡ []
no_length [] e = refl
no_length (x ∷ l) e = absurd (omega (arith, e))

-- a seat that saw twice has seen
pub seen_twice : {T : Type 0} {told : Ghosts T Event} (turn : TurnId) (Coherent : Type 0) (opening : Opening) (bytes : OpeningBytes) (script : Script) (by : ℕ)
    (a b c : Seat T Event told) → HasSeen turn Coherent opening bytes script by a b → HasSeen turn Coherent opening bytes script by b c
    → HasSeen turn Coherent opening bytes script by a c
seen_twice turn Coherent opening bytes script by a b c first then = record {
  ready = then.ready;
  room = then.room ∙ first.room;
  mine = then.mine ∙ first.mine;
  goes_on = begins_further (seen_of a) (seen_of b) (seen_of c) then.goes_on first.goes_on;
  follow = then.follow;
}

-- a stripe whose sweep goes on rests
pub rests_swept : {T : Type 0} (last : ℕ) (Agrees : Type 0) (Keeps : ℕ → List Event → List Event → Rows → Type 0) (s t : StripeView T)
    → t ≡ record s { reclaim = t.reclaim } → IsAtRest last Agrees Keeps s → IsAtRest last Agrees Keeps t
rests_swept {T} last Agrees Keeps s t same rests =
    subst (λ (v : StripeView T). IsAtRest last Agrees Keeps v) (sym same) (record { free = rests.free; whole = rests.whole; keeps = rests.keeps })

asks_some : (stripe : ℕ) (rows : List DeletedRow) → 1 ≤ length rows
    → asks_for stripe rows ≡ record { seat = stripe_seat stripe; kind = PurgeAsk (blocks_of_all rows) } ∷ []
asks_some stripe [] some = absurd (omega (arith, some))
asks_some stripe (row ∷ more) some = refl

module _ (Coherent : Type 0) (opening : Opening) (loaded : Rows) (stripe : ℕ) (before story : List Event) (it : Purged) (behind : BeginsWith story before)
    (counted : IsCounted opening story it) (found : Coherent → WereFound opening loaded stripe story it) where
  -- nothing was found
  pub purged_none : it.rows.items ≡ [] → HasPurged Coherent opening loaded stripe before story it
  purged_none none = record {
    story = story;
    behind = behind;
    seen = begins_itself story;
    counted = counted;
    found = found;
    asked = sym (append-nil (mine (stripe_seat stripe) story))
        ∙ ap (λ (l : List DeletedRow). mine (stripe_seat stripe) story ++ asks_for stripe l) (sym none);
  }

  -- some was, and asked for
  pub purged_some : (after : List Event) → BeginsWith after story → 1 ≤ length it.rows.items
      → mine (stripe_seat stripe) after ≡ mine (stripe_seat stripe) story
      ++ record { seat = stripe_seat stripe; kind = PurgeAsk (blocks_of_all it.rows.items) } ∷ []
      → HasPurged Coherent opening loaded stripe before after it
  purged_some after seen some given = record {
    story = story;
    behind = behind;
    seen = seen;
    counted = counted;
    found = found;
    asked = given ∙ ap (λ (l : List Event). mine (stripe_seat stripe) story ++ l) (sym (asks_some stripe it.rows.items some));
  }

-- the stripe's seat gave the PurgeAsk alone between two stories
pub given_between : (n n1 n2 n4 : ℕ) (first last m1 m2 m3 m4 : List Event) (blocks others : List Block) → n1 ≡ n → n2 ≡ n → n4 ≡ n
    → mine (stripe_seat n4) last ≡ m4 → m4 ≡ m3 → m3 ≡ m2 ++ record { seat = stripe_seat n2; kind = PurgeAsk blocks } ∷ [] → m2 ≡ m1
    → mine (stripe_seat n1) first ≡ m1 → blocks ≡ others
    → mine (stripe_seat n) last ≡ mine (stripe_seat n) first ++ record { seat = stripe_seat n; kind = PurgeAsk others } ∷ []
given_between n n1 n2 n4 first last m1 m2 m3 m4 blocks others e1 e2 e4 own4 e43 asked e21 own1 same =
    ap (λ (k : ℕ). mine (stripe_seat k) last) (sym e4) ∙ own4 ∙ e43 ∙ asked
    ∙ (λ i. (e21 ∙ sym own1 ∙ ap (λ (k : ℕ). mine (stripe_seat k) first) e1) i ++ record { seat = stripe_seat (e2 i); kind = PurgeAsk (same i) } ∷ [])

-- it gave nothing
pub silent_between : (n n1 n3 : ℕ) (first last m1 m2 m3 : List Event) → n1 ≡ n → n3 ≡ n → mine (stripe_seat n3) last ≡ m3 → m3 ≡ m2 → m2 ≡ m1
    → mine (stripe_seat n1) first ≡ m1 → mine (stripe_seat n) last ≡ mine (stripe_seat n) first
silent_between n n1 n3 first last m1 m2 m3 e1 e3 own3 e32 e21 own1 =
    ap (λ (k : ℕ). mine (stripe_seat k) last) (sym e3) ∙ own3 ∙ e32 ∙ e21 ∙ sym own1 ∙ ap (λ (k : ℕ). mine (stripe_seat k) first) e1

-- ---- of several stripes

none_among : (rows : List DeletedRow) (key : RowKey) → rows ≡ [] → IsAmongFirst MOST_PURGED (map key_of rows) key → ⊥
none_among [] key none (inl there) = in_none key there
none_among [] key none (inr full) = let same = full.0 in absurd (omega (arith, same))
none_among (row ∷ more) key none among = absurd cc

module _ (Coherent : Type 0) (opening : Opening) (loaded : Rows) (first before after : List Event) (later : BeginsWith after before) where
  -- more was seen
  pub none_longer : (n : ℕ) → NoneHadAny Coherent opening loaded n first before → NoneHadAny Coherent opening loaded n first after
  none_longer n none stripe less =
      let old = none stripe less in
      record { story = old.story; behind = old.behind; seen = begins_further old.story before after later old.seen; none = old.none }

  module _ (n : ℕ) (none : NoneHadAny Coherent opening loaded n first before) (earlier : BeginsWith before first) where
    -- what was purged of the next one, behind all that was seen
    purged_behind : (it : Purged) → HasPurged Coherent opening loaded n before after it → HasPurged Coherent opening loaded n first after it
    purged_behind it has = record {
      story = has.story;
      behind = begins_further first before has.story has.behind earlier;
      seen = has.seen;
      counted = has.counted;
      found = has.found;
      asked = has.asked;
    }

    had_none : (it : Purged) → HasPurged Coherent opening loaded n before after it → it.rows.items ≡ [] → HadNoRows Coherent opening loaded n first after
    had_none it has empty = record {
      story = has.story;
      behind = begins_further first before has.story has.behind earlier;
      seen = has.seen;
      none = λ coherent. record {
        tables = (has.found coherent).tables;
        flushed = (has.found coherent).flushed;
        none = λ key may. none_among it.rows.items key empty ((has.found coherent).first key may);
      };
    }

    -- it had none either
    pub none_further : (it : Purged) → HasPurged Coherent opening loaded n before after it → it.rows.items ≡ []
        → NoneHadAny Coherent opening loaded (n + 1) first after
    none_further it has empty stripe less = by (nat_lt stripe n) refl
      where
        by : (t : Bool) → nat_lt stripe n ≡ t → HadNoRows Coherent opening loaded stripe first after
        by true e = none_longer n none stripe (below stripe n e)
        by false e =
            let above = not_below stripe n e in
            let same : n ≡ stripe = omega (arith, above, less) in
            subst (λ (m : ℕ). HadNoRows Coherent opening loaded m first after) same (had_none it has empty)

    -- it had some
    pub first_purged : n < STRIPES → (it : Purged) → HasPurged Coherent opening loaded n before after it → 1 ≤ length it.rows.items
        → AreFirstPurged Coherent opening loaded first after it.rows.items
    first_purged there it has some = by it.rows.items refl some
      where
        by : (l : List DeletedRow) → it.rows.items ≡ l → 1 ≤ length l → AreFirstPurged Coherent opening loaded first after l
        by [] e few = absurd (omega (arith, few))
        by (row ∷ more) e few = (n, there, none_longer n none, it, e, purged_behind it has)

    -- it was refused
    pub one_refused : n < STRIPES → (refusal : Refusal) → WasRefused n before after refusal → OneWasRefused Coherent opening loaded first after refusal
    one_refused there refusal was = record {
      stripe = n;
      there = there;
      none_before = none_longer n none;
      refused = record {
        story = was.story;
        behind = begins_further first before was.story was.behind earlier;
        seen = was.seen;
        silent = was.silent;
        holds = was.holds;
      };
    }
