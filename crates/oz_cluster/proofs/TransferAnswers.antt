-- What the answer of a transfer's line means, by the law and by the script.
use Rattle.std.proofs.Common.{◌≡◌, ◌⊎◌, ⊎_elim, inl, inr, ℕ, zero, suc, ◌+◌, ◌<◌, Bool, true, false, ◌==◌, ◌&&◌, List, [], ◌∷◌, ◌++◌, Option, None, Some, Contains, length, slice_get, cond, refl, sym, ◌∙◌, ap, subst, arith, append_assoc, append-nil}
use Rattle.std.proofs.lemmas.Bool.{and_parts, eqb-true}
use Rattle.std.specs.List.{cons_option, filter_map, fold}
use Rattle.oz_cluster.specs.declared.files.words.Way.{Way}
use Rattle.oz_cluster.specs.declared.files.words.Way.TheVariants.{Put, Get}
use Rattle.oz_cluster.specs.files.Answers.{HasFrom, IsContent, IsKept, IsToldAt, Means}
use Rattle.oz_cluster.specs.files.Asked.{line_for, script_for, told_in}
use Rattle.oz_command.specs.declared.command.Command.{Command}
use Rattle.oz_command.specs.declared.paths.KeyPath.{KeyPath}
use Rattle.oz_command.specs.Payload.{piece}
use Rattle.oz_core.specs.declared.event.Event.{Event}
use Rattle.oz_core.specs.declared.event.EventKind.{EventKind}
use Rattle.oz_core.specs.declared.event.EventKind.TheVariants.{Told, Wrote}
use Rattle.oz_core.specs.declared.opening.Opening.{Opening}
use Rattle.oz_core.specs.Asks.{answer_to, answers_to, is_of_line}
use Rattle.oz_core.specs.Coherent.{IdsAreFresh}
use Rattle.oz_core.specs.Contents.{HasContent, IsLineOf, IsPieceOfLine, OpeningBytes, piece_number, written_for, wrote}
use Rattle.oz_core.specs.Due.{IsDone, IsDue}
use Rattle.oz_core.specs.Fits.{EventFits, Fits, FitsFrom, ToldFits, WroteFits}
use Rattle.oz_core.specs.Law.{IsLegal}
use Rattle.oz_core.specs.Steps.{target}
use Rattle.oz_core.specs.Stories.{last_in}
use Rattle.oz_fields.specs.declared.block.Block.{Block}
use Rattle.oz_kept.specs.Held.{LinesAreApart}
use Rattle.oz_kept.specs.laws.Contents.{fits_to, its_grant}
use Rattle.oz_kept.specs.laws.Deleted.{legal_to}
use Rattle.oz_kept.specs.laws.Granted.{was_nowhere}
use Rattle.oz_running.specs.Puts.{HasNamed}
use Rattle.oz_requests.specs.declared.answer.Answer.{Answer}
use Rattle.oz_requests.specs.declared.answer.Answer.TheVariants as told
use Rattle.oz_requests.specs.declared.answer.Values.{Values}
use Rattle.oz_requests.specs.declared.request.AskId.{AskId}
use Rattle.oz_script.specs.declared.lines.script.Line.{Line}
use Rattle.oz_script.specs.declared.lines.script.Script.{Script}

-- ---- where a list of what events tell has an item

-- the event that tells this, with so many items before it
record IsFound {X : Type 0} (tells : Event → Option X) (story : List Event) (j : ℕ) (x : X) : Type 0 where
  front : List Event
  event : Event
  rest : List Event
  parts : story ≡ front ++ event ∷ rest
  it : tells event ≡ Some x
  count : length (filter_map tells front) ≡ j

cons_length : {X : Type 0} (o : Option X) (xs : List X) → length (cons_option o xs) ≡ length (cons_option o []) + length xs
cons_length None xs = omega arith
cons_length (Some x) xs = omega arith

longer : {X : Type 0} (tells : Event → Option X) (first : Event) (story : List Event) (j k n : ℕ) (x : X) → length (cons_option (tells first) []) ≡ n → n + j ≡ k → IsFound tells story j x → IsFound tells (first ∷ story) k x
longer tells first story j k n x one is found =
    let count = found.count in
    let more = cons_length (tells first) (filter_map tells found.front) in record {
      front = first ∷ found.front;
      event = found.event;
      rest = found.rest;
      parts = ap (λ (l : List Event). first ∷ l) found.parts;
      it = found.it;
      count = omega (arith, count, more, one, is);
    }

find : {X : Type 0} (tells : Event → Option X) (story : List Event) (j : ℕ) (x : X) → slice_get (filter_map tells story) j ≡ Some x → IsFound tells story j x
find tells [] j x is = absurd (cc is)
find {X} tells (first ∷ story) j x is = by (tells first) refl j is (λ k. find tells story k x)
  where
    by : (o : Option X) → tells first ≡ o → (k : ℕ) → slice_get (cons_option (tells first) (filter_map tells story)) k ≡ Some x
        → ((k : ℕ) → slice_get (filter_map tells story) k ≡ Some x → IsFound tells story k x) → IsFound tells (first ∷ story) k x
    by None none k at further =
        longer tells first story k k 0 x (ap (λ (o : Option X). length (cons_option o [])) none) (omega arith)
        (further k (subst (λ (o : Option X). slice_get (cons_option o (filter_map tells story)) k ≡ Some x) none at))
    by (Some y) some zero at further =
        let same : Some y ≡ Some x = subst (λ (o : Option X). slice_get (cons_option o (filter_map tells story)) 0 ≡ Some x) some at in
        record { front = []; event = first; rest = story; parts = refl; it = some ∙ same; count = refl }
    by (Some y) some (suc k) at further =
        longer tells first story k (suc k) 1 x (ap (λ (o : Option X). length (cons_option o [])) some) (omega arith)
        (further k (subst (λ (o : Option X). slice_get (cons_option o (filter_map tells story)) (suc k) ≡ Some x) some at))

-- the last item is at some place
last_from : {X : Type 0} (xs : List X) (first : Option X) (x : X) → fold (λ (before : Option X) (y : X). Some y) first xs ≡ Some x → (first ≡ Some x) ⊎ ((j : ℕ) × (slice_get xs j ≡ Some x))
last_from [] first x is = inl is
last_from (y ∷ xs) first x is = ⊎_elim (λ now. inr (0, now)) (λ later. inr (suc later.0, later.1)) (last_from xs (Some y) x is)

last_at : {X : Type 0} (xs : List X) (x : X) → last_in xs ≡ Some x → (j : ℕ) × (slice_get xs j ≡ Some x)
last_at xs x is = ⊎_elim (λ none. absurd (cc none)) (λ at. at) (last_from xs None x is)

-- ---- what an event is that tells

told_kind : (kind : EventKind) (answer : Answer) → answer_to 1 1 kind ≡ Some answer → kind ≡ Told 1 1 answer
told_kind (Told client line given) answer is = by (client == 1 && line == 1) refl is
  where
    by : (t : Bool) → (client == 1 && line == 1) ≡ t → cond (client == 1 && line == 1) (Some given) None ≡ Some answer → Told client line given ≡ Told 1 1 answer
    by false other at = absurd (cc (ap (λ (b : Bool). cond b (Some given) None) (sym other) ∙ at))
    by true its at =
        let both = and_parts (client == 1) (line == 1) its in
        let same : Some given ≡ Some answer = ap (λ (b : Bool). cond b (Some given) None) (sym its) ∙ at in
        let one : client ≡ 1 = eqb-true client 1 both.0 in
        let two : line ≡ 1 = eqb-true line 1 both.1 in
        let answered : given ≡ answer = cc in
        ap (λ (c : ℕ). Told c line given) one ∙ (ap (λ (l : ℕ). Told 1 l given) two ∙ ap (Told 1 1) answered)
told_kind kind answer is = absurd (cc is)

record IsWrite (kind : EventKind) (block : Block) : Type 0 where
  id : AskId
  is : kind ≡ Wrote block id
  of_client : id.client ≡ 1
  of_line : id.line ≡ 1

write_kind : (kind : EventKind) (block : Block) → wrote 1 1 kind ≡ Some block → IsWrite kind block
write_kind (Wrote other id) block is = by (is_of_line 1 1 id) refl is
  where
    by : (t : Bool) → is_of_line 1 1 id ≡ t → cond (is_of_line 1 1 id) (Some other) None ≡ Some block → IsWrite (Wrote other id) block
    by false apart at = absurd (cc (ap (λ (b : Bool). cond b (Some other) None) (sym apart) ∙ at))
    by true its at =
        let both = and_parts (id.client == 1) (id.line == 1) its in
        let same : Some other ≡ Some block = ap (λ (b : Bool). cond b (Some other) None) (sym its) ∙ at in
        let written : other ≡ block = cc in
        record { id = id; is = ap (λ (b : Block). Wrote b id) written; of_client = eqb-true id.client 1 both.0; of_line = eqb-true id.line 1 both.1 }
write_kind kind block is = absurd (cc is)

-- ---- what the script says at a place

fits_behind : (opening : Opening) (bytes : OpeningBytes) (script : Script) (before front : List Event) (event : Event) (rest : List Event) → FitsFrom opening bytes script before (front ++ event ∷ rest)
    → EventFits opening bytes script (before ++ front) event.kind
unfolding FitsFrom
fits_behind opening bytes script before [] event rest fits = subst (λ (l : List Event). EventFits opening bytes script l event.kind) (sym (append-nil before)) fits.0
fits_behind opening bytes script before (first ∷ front) event rest fits =
    subst (λ (l : List Event). EventFits opening bytes script l event.kind) (append_assoc before (first ∷ []) front) (fits_behind opening bytes script (before ++ first ∷ []) front event rest fits.1)

only_line : (line other : Line) → Contains (line ∷ []) other → other ≡ line
only_line line other (zero, within, is) = sym is
only_line line other (suc k, within, is) = absurd (omega (arith, within))

-- what is done by a put of these bytes has its key named
abbrev PutsAreNamed : Opening → OpeningBytes → KeyPath → List ℕ → Type 0
PutsAreNamed opening bytes path given =
    (before : List Event) (it : Values) → IsLegal opening before → FitsFrom opening bytes (script_for Put path given) [] before
    → IsDone opening bytes (script_for Put path given) before (line_for Put path given) it
    → HasNamed opening before (line_for Put path given) (target path.volume path.bucket path.key)

pub lines_are_apart : (way : Way) (path : KeyPath) (given : List ℕ) → LinesAreApart (script_for way path given)
lines_are_apart way path given one other first second client number =
    only_line (line_for way path given) one first ∙ sym (only_line (line_for way path given) other second)

module _ (opening : Opening) (bytes : OpeningBytes) (path : KeyPath) (given : List ℕ) (story : List Event) (fresh : IdsAreFresh opening)
    (put_named : PutsAreNamed opening bytes path given) where
  module _ (way : Way) (legal : IsLegal opening story) (fits : FitsFrom opening bytes (script_for way path given) [] story) where
    abbrev AScript : Script
    AScript = script_for way path given

    abbrev ALine : Line
    ALine = line_for way path given

    -- the j-th block that was written for the line has piece j
    written_has : (before behind : List Event) → story ≡ before ++ behind → (j : ℕ) (block : Block) → slice_get (written_for 1 1 before) j ≡ Some block
        → HasFrom opening bytes path given way before block (piece j (line_for way path given).command)
    written_has before behind parts j block is =
        let found = find (λ (e : Event). wrote 1 1 e.kind) before j block is in
        let write = write_kind found.event.kind block found.it in
        let whole : story ≡ found.front ++ found.event ∷ (found.rest ++ behind) = parts ∙ (ap (λ (l : List Event). l ++ behind) found.parts ∙ append_assoc found.front (found.event ∷ found.rest) behind) in
        let there : EventFits opening bytes AScript found.front found.event.kind =
        fits_behind opening bytes AScript [] found.front found.event (found.rest ++ behind) (subst (FitsFrom opening bytes AScript []) whole fits) in
        let its : WroteFits found.front block write.id = subst (EventFits opening bytes AScript found.front) write.is there in
        let legal_front : IsLegal opening found.front = legal_to opening [] found.front (found.event ∷ (found.rest ++ behind)) (subst (IsLegal opening) whole legal) in
        let granted = its_grant opening found.front legal_front write.id block its.before its.granted in
        let number : piece_number write.id its.before ≡ j =
        sym its.in_turn ∙ (ap (λ (c : ℕ). length (written_for c write.id.line found.front)) write.of_client ∙ (ap (λ (l : ℕ). length (written_for 1 l found.front)) write.of_line ∙ found.count)) in
        let piece_is : IsPieceOfLine opening AScript found.front block (piece j ALine.command) = record {
          new = was_nowhere opening found.front legal_front block write.id granted fresh;
          id = write.id;
          before = its.before;
          granted = its.granted;
          line = ALine;
          its = record { there = (0, omega arith, refl); of_client = sym write.of_client; of_number = sym write.of_line };
          are = ap (λ (n : ℕ). piece n ALine.command) (sym number);
        } in
        record { front = found.front; rest = found.event ∷ found.rest; parts = found.parts; has = inr piece_is }

  -- what is due means this
  means_put : IsLegal opening story → FitsFrom opening bytes (script_for Put path given) [] story → (before behind : List Event) → story ≡ before ++ behind → (answer : Answer)
      → IsDue opening bytes (script_for Put path given) before (line_for Put path given) answer → Means opening bytes path given Put before answer
  means_put legal fits before behind parts (told.Ok it) due =
      record {
        all = due.values;
        done = due;
        contents = written_has Put legal fits before behind parts;
        named = put_named before it (legal_to opening [] before behind (subst (IsLegal opening) parts legal))
            (fits_to opening bytes (script_for Put path given) [] before behind (subst (FitsFrom opening bytes (script_for Put path given) []) parts fits)) due;
      }
  means_put legal fits before behind parts (told.Code code) due = due
  means_put legal fits before behind parts told.NoPipeline due = due
  means_put legal fits before behind parts told.NoQuorum due = due
  means_put legal fits before behind parts (told.NoReplica number block) due = due
  means_put legal fits before behind parts told.IdsSpent due = due
  means_put legal fits before behind parts told.Unacknowledged due = due
  means_put legal fits before behind parts told.ManagerStopped due = due
  means_put legal fits before behind parts told.ScmStopped due = due
  means_put legal fits before behind parts (told.Held dn) due = due
  means_put legal fits before behind parts told.NoSuchNode due = due
  means_put legal fits before behind parts (told.NodeHalted dn count) due = due
  means_put legal fits before behind parts told.NotOpen due = due
  means_put legal fits before behind parts told.OutOfMemory due = due

  means_get : (before : List Event) (answer : Answer)
      → IsDue opening bytes (script_for Get path given) before (line_for Get path given) answer → Means opening bytes path given Get before answer
  means_get before (told.Ok it) due =
      let values = due.values in
      (values.0, values.2, record { reply = due.reply; last = due.last; are = values.1 })
  means_get before (told.Code code) due = due
  means_get before told.NoPipeline due = due
  means_get before told.NoQuorum due = due
  means_get before (told.NoReplica number block) due = due
  means_get before told.IdsSpent due = due
  means_get before told.Unacknowledged due = due
  means_get before told.ManagerStopped due = due
  means_get before told.ScmStopped due = due
  means_get before (told.Held dn) due = due
  means_get before told.NoSuchNode due = due
  means_get before (told.NodeHalted dn count) due = due
  means_get before told.NotOpen due = due
  means_get before told.OutOfMemory due = due

  means : (way : Way) → IsLegal opening story → FitsFrom opening bytes (script_for way path given) [] story → (before behind : List Event) → story ≡ before ++ behind → (answer : Answer)
      → IsDue opening bytes (script_for way path given) before (line_for way path given) answer → Means opening bytes path given way before answer
  means Put legal fits before behind parts answer due = means_put legal fits before behind parts answer due
  means Get legal fits before behind parts answer due = means_get before answer due

  pub told_means : (way : Way) → IsLegal opening story → Fits opening bytes (script_for way path given) story → (answer : Answer) → told_in story ≡ Some answer
      → IsToldAt opening bytes path given way story answer
  told_means way legal fits answer is =
      let at = last_at (answers_to 1 1 story) answer is in
      let found = find (λ (e : Event). answer_to 1 1 e.kind) story at.0 answer at.1 in
      let kind = told_kind found.event.kind answer found.it in
      let there : EventFits opening bytes (script_for way path given) found.front found.event.kind =
      fits_behind opening bytes (script_for way path given) [] found.front found.event found.rest (subst (FitsFrom opening bytes (script_for way path given) []) found.parts fits.steps) in
      let its : ToldFits opening bytes (script_for way path given) found.front 1 1 answer = subst (EventFits opening bytes (script_for way path given) found.front) kind there in
      let line : its.line ≡ line_for way path given = only_line (line_for way path given) its.line its.its.there in
      record {
        before = found.front;
        behind = found.rest;
        seat = found.event.seat;
        place = found.parts ∙ ap (λ (k : EventKind). found.front ++ record { seat = found.event.seat; kind = k } ∷ found.rest) kind;
        so = means way legal fits.steps found.front (found.event ∷ found.rest) found.parts answer
            (subst (λ (l : Line). IsDue opening bytes (script_for way path given) found.front l answer) line its.due);
      }
