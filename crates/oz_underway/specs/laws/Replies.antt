-- What a line is replied: no more than it asked.
use Rattle.std.proofs.Common.{
  ◌≡◌,
  ◌≢◌,
  ⊎_elim,
  ℕ,
  ◌+◌,
  ◌≤◌,
  Bool,
  true,
  false,
  cond,
  List,
  [],
  ◌∷◌,
  length,
  None,
  Some,
  Contains,
  refl,
  sym,
  ap,
  ◌∙◌,
  subst,
  length-append,
  arith,
}
use Rattle.std.proofs.lemmas.Bool.{false≢true}
use Rattle.std.proofs.lemmas.Option.{none-some, same_Some}
use Rattle.std.specs.List.{cons_option}
use Rattle.oz_script.specs.declared.lines.script.Script.{Script}
use Rattle.oz_requests.specs.declared.request.AskId.{AskId}
use Rattle.oz_requests.specs.declared.request.Request.{Request}
use Rattle.oz_requests.specs.declared.reply.Reply.{Reply}
use Rattle.oz_core.specs.declared.event.Event.{Event}
use Rattle.oz_core.specs.declared.event.EventKind.{EventKind}
use Rattle.oz_core.specs.declared.event.EventKind.TheVariants.{Ask, Decide}
use Rattle.oz_core.specs.declared.limits.TheConstants.{SERVICE_CLIENT}
use Rattle.oz_core.specs.declared.opening.Opening.{Opening}
use Rattle.oz_core.specs.Asks.{is_of_line, is_id, pending, pending_after, ask_id, last_ask, reply_to, replies_to}
use Rattle.oz_core.specs.Contents.{OpeningBytes}
use Rattle.oz_core.specs.Law.{KindIsEnabled}
use Rattle.oz_asker.specs.laws.Asks.{same_id}
use Rattle.oz_buffer.specs.Buffer.{AllFollow, Follows}
use Rattle.oz_buffer.specs.laws.Courses.{pending-push}
use Rattle.oz_buffer.specs.laws.Lines.{last_or_decided}
use Rattle.oz_kept.specs.laws.Deleted.{first_or_later}
use Rattle.oz_kept.specs.laws.Granted.{told_among}
use Rattle.oz_turn.specs.Told.{BeginsWith}
use Rattle.oz_underway.specs.laws.Asks.{asks_count, id_of_line, its_line, of_line, script_of_line}
use Rattle.oz_underway.specs.laws.Going.{count_more, kept_always, told_longer}

-- No more is replied than was asked, and less while something is undecided.
record AreFew (client line : ℕ) (story : List Event) : Type 0 where
  few : length (replies_to client line story) ≤ asks_count client line story
  fewer : (id : AskId) → is_of_line client line id ≡ true → (request : Request) → pending id story ≡ Some request
      → length (replies_to client line story) + 1 ≤ asks_count client line story

-- what an event adds
record AreFewBehind (client line : ℕ) (front : List Event) (kind : EventKind) : Type 0 where
  few : length (replies_to client line front) + length (cons_option (reply_to client line kind) [])
      ≤ asks_count client line front + length (cons_option (ask_id client line kind) [])
  fewer : (id : AskId) → is_of_line client line id ≡ true → (request : Request) → pending_after id (pending id front) kind ≡ Some request
      → length (replies_to client line front) + length (cons_option (reply_to client line kind) []) + 1
      ≤ asks_count client line front + length (cons_option (ask_id client line kind) [])

module _ (opening : Opening) (client line : ℕ) (front : List Event) (seat : ℕ) (was : AreFew client line front)
    (one : (id other : AskId) → is_of_line client line id ≡ true → is_of_line client line other ≡ true → (request made : Request)
    → pending id front ≡ Some request → pending other front ≡ Some made → id ≡ other) where
  few_behind : (kind : EventKind) → KindIsEnabled opening front seat kind → AreFewBehind client line front kind
  few_behind (Ask other made) enabled = by (is_of_line client line other) refl
    where
      by : (t : Bool) → is_of_line client line other ≡ t → AreFewBehind client line front (Ask other made)
      by true its =
          let more : length (cons_option (ask_id client line (Ask other made)) []) ≡ 1 =
          ap (λ (t : Bool). length (cons_option (cond t (Some other) None) [])) its in
          record { few = omega (arith, was.few, more); fewer = λ id of request is. omega (arith, was.few, more) }
      by false apart =
          let more : length (cons_option (ask_id client line (Ask other made)) []) ≡ 0 =
          ap (λ (t : Bool). length (cons_option (cond t (Some other) None) [])) apart in
          record {
            few = omega (arith, was.few, more);
            fewer = λ id of request is. omega (arith, more, was.fewer id of request (still id of request (is_id id other) refl is));
          }
        where
          still : (id : AskId) → is_of_line client line id ≡ true → (request : Request) → (t : Bool) → is_id id other ≡ t
              → cond t (Some made) (pending id front) ≡ Some request → pending id front ≡ Some request
          still id of request true same is =
              let first = of_line client line id of in
              let then = of_line id.client id.line other (id_of_line id other same) in
              absurd (false≢true (sym apart ∙ its_line client line other (then.0 ∙ first.0) (then.1 ∙ first.1)))
          still id of request false same is = is
  few_behind (Decide other index reply batch) enabled = by (is_of_line client line other) refl
    where
      before : (id : AskId) (request : Request) (t : Bool) → cond t None (pending id front) ≡ Some request → pending id front ≡ Some request
      before id request true is = absurd (none-some request is)
      before id request false is = is

      undecided : (id : AskId) (request : Request) → pending_after id (pending id front) (Decide other index reply batch) ≡ Some request
          → pending id front ≡ Some request
      undecided id request is = before id request (is_id id other) is

      by : (t : Bool) → is_of_line client line other ≡ t → AreFewBehind client line front (Decide other index reply batch)
      by true its =
          let more : length (cons_option (reply_to client line (Decide other index reply batch)) []) ≡ 1 =
          ap (λ (t : Bool). length (cons_option (cond t (Some reply) None) [])) its in
          record {
            few = omega (arith, more, was.fewer other its enabled.request enabled.undecided);
            fewer = λ id of request is.
                let same : id ≡ other = one id other of its request enabled.request (undecided id request is) enabled.undecided in
                let gone : pending_after id (pending id front) (Decide other index reply batch) ≡ None =
                ap (λ (t : Bool). cond t None (pending id front)) (subst (λ (i : AskId). is_id i other ≡ true) (sym same) (same_id other)) in
                absurd (none-some request (sym gone ∙ is));
          }
      by false apart =
          let more : length (cons_option (reply_to client line (Decide other index reply batch)) []) ≡ 0 =
          ap (λ (t : Bool). length (cons_option (cond t (Some reply) None) [])) apart in
          record {
            few = omega (arith, was.few, more);
            fewer = λ id of request is. omega (arith, more, was.fewer id of request (undecided id request is));
          }
  few_behind kind enabled = record {
    few = omega (arith, was.few);
    fewer = λ id of request is. omega (arith, was.fewer id of request is);
  }

module _ (Coherent : Type 0) (opening : Opening) (bytes : OpeningBytes) (script : Script) where
  abbrev Follow : List Event → Event → Type 0
  Follow = Follows Coherent opening bytes script

  pub pending_is_last : (client line : ℕ) (story : List Event) → client ≢ SERVICE_CLIENT → Coherent → AllFollow Follow [] story
      → (id : AskId) → is_of_line client line id ≡ true → (request : Request) → pending id story ≡ Some request
      → last_ask client line story ≡ Some id
  pending_is_last client line story other coherent all id of request is =
      let same = of_line client line id of in
      ⊎_elim (λ none. absurd (none-some request (sym none ∙ is)))
      (λ last. subst (λ (c : ℕ). last_ask c line story ≡ Some id) same.0 (subst (λ (l : ℕ). last_ask id.client l story ≡ Some id) same.1 last))
      (last_or_decided Coherent opening bytes script story coherent all id (script_of_line client line id other of))

  are_few : (client line : ℕ) (story : List Event) → client ≢ SERVICE_CLIENT → Coherent → AllFollow Follow [] story → AreFew client line story
  are_few client line story other coherent all =
      kept_always Follow (AreFew client line) story all
      (λ front event begins follow follows was.
      let last = pending_is_last client line front other coherent follow in
      let behind = few_behind opening client line front event.seat was
      (λ id twin of too request made is also. same_Some id twin (sym (last id of request is) ∙ last twin too made also))
      event.kind (follows.enabled coherent) in
      record {
        few = omega (arith, behind.few, count_more (reply_to client line) front event, count_more (ask_id client line) front event);
        fewer = λ id of request is.
            let less = behind.fewer id of request (sym (pending-push id front event) ∙ is) in
            omega (arith, less, count_more (reply_to client line) front event, count_more (ask_id client line) front event);
      })
      (record { few = omega arith; fewer = λ id of request is. absurd (none-some request is) })

  pub few_replies : (client line : ℕ) (story : List Event) → client ≢ SERVICE_CLIENT → Coherent → AllFollow Follow [] story
      → length (replies_to client line story) ≤ asks_count client line story
  few_replies client line story other coherent all = (are_few client line story other coherent all).few

-- ---- one reply more

pub only_one : {X : Type 0} (xs : List X) (x : X) → Contains xs x → length xs ≤ 1 → xs ≡ x ∷ []
only_one [] x among few = absurd (omega (arith, among.1))
only_one (y ∷ []) x among few = ⊎_elim
    (λ same. ap (λ z. z ∷ []) same)
    (λ none. absurd (omega (arith, none.1)))
    (first_or_later y x [] among)
only_one (y ∷ z ∷ xs) x among few = absurd (omega (arith, few))

-- Where so many replies were all, and a line was replied once more behind them, that reply is the only one more.
pub one_more : (client line asked : ℕ) (story since : List Event) (begins : BeginsWith story since) (event : Event) (reply : Reply)
    → length (replies_to client line since) ≡ asked → length (replies_to client line story) ≤ asked + 1
    → Contains begins.0 event → reply_to client line event.kind ≡ Some reply
    → replies_to client line begins.0 ≡ reply ∷ []
one_more client line asked story since begins event reply all few among is =
    let parts = ap length (told_longer (reply_to client line) story since begins)
    ∙ length-append (replies_to client line since) (replies_to client line begins.0) in
    only_one (replies_to client line begins.0) reply (told_among (reply_to client line) begins.0 event reply among is)
    (omega (arith, parts, all, few))

pub none_more_replied : (client line : ℕ) (story : List Event) → length (replies_to client line story) ≤ 0 → replies_to client line story ≡ []
none_more_replied client line story few = none_in (replies_to client line story) few
  where
    none_in : {X : Type 0} (xs : List X) → length xs ≤ 0 → xs ≡ []
    none_in [] few = refl
    none_in (x ∷ xs) few = absurd (omega (arith, few))
