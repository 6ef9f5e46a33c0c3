-- Each piece that is committed is as long as what was written for it.
use Rattle.std.proofs.Common.{
  ◌≡◌,
  ⊎_elim,
  ◌⊎◌,
  ℕ,
  zero,
  suc,
  ◌+◌,
  ◌≤◌,
  Bool,
  true,
  false,
  not,
  ◌&&◌,
  List,
  [],
  ◌∷◌,
  length,
  take,
  filter,
  Option,
  None,
  Some,
  Contains,
  cond,
  inl,
  inr,
  refl,
  sym,
  ◌∙◌,
  ap,
  subst,
  arith,
}
use Rattle.std.proofs.lemmas.Bool.{cases_lt}
use Rattle.std.proofs.lemmas.List.{take_all}
use Rattle.std.specs.Prelude.{nat_lt}
use Rattle.std.specs.List.{slice_get, cons_option, list_any, list_all, fold}
use Rattle.oz_command.specs.declared.command.Command.{Command}
use Rattle.oz_command.specs.declared.command.Command.TheVariants as commands
use Rattle.oz_command.specs.Payload.{piece}
use Rattle.oz_fields.specs.declared.block.Block.{Block}
use Rattle.oz_fields.specs.declared.block.Piece.{Piece}
use Rattle.oz_script.specs.declared.lines.script.Line.{Line}
use Rattle.oz_script.specs.declared.lines.script.Script.{Script}
use Rattle.oz_requests.specs.declared.request.AskId.{AskId}
use Rattle.oz_requests.specs.declared.request.Request.{Request}
use Rattle.oz_requests.specs.declared.request.Request.TheVariants as requests
use Rattle.oz_requests.specs.declared.reply.Reply.{Reply}
use Rattle.oz_core.specs.declared.event.Event.{Event}
use Rattle.oz_core.specs.declared.event.EventKind.{EventKind}
use Rattle.oz_core.specs.declared.event.EventKind.TheVariants.{Wrote}
use Rattle.oz_core.specs.declared.opening.Opening.{Opening}
use Rattle.oz_core.specs.Asks.{is_of_line, replies_to}
use Rattle.oz_core.specs.Contents.{OpeningBytes, WasGranted, written_for, wrote}
use Rattle.oz_core.specs.Fits.{FitsFrom}
use Rattle.oz_core.specs.Law.{IsLegal}
use Rattle.oz_core.specs.Steps.{
  Target,
  pieces_needed,
  pieces_from,
  is_settled,
  granted_to,
  excluded,
  is_done,
  is_code,
  commit_of,
  block_step,
  put_step,
  next_of_put,
  session_in,
  opens_before,
  opening_line,
  is_open_at,
  target_of,
  commit_if,
  commit_step,
  single,
  step_of,
  next_step,
}
use Rattle.oz_core.specs.Stories.{all_told}
use Rattle.oz_kept.specs.laws.Reached.{in_none}
use Rattle.oz_kept.specs.laws.Deleted.{first_or_later, front_legal, enabled_at}
use Rattle.oz_kept.specs.laws.Contents.{granted_still, unasked_again, front_ends, front_grows}
use Rattle.oz_kept.specs.reopened.laws.Pieces.{pieces_of}

-- ---- what a line commits was written for a line

pub record IsOfWritten (script : Script) (story : List Event) (it : Piece) : Type 0 where
  pub line : Line
  pub there : Contains script.lines line
  pub among : Contains (pieces_from 0 line.command (written_for line.client line.number story)) it

single_pieces : (story : List Event) (line : Line) (request : Option Request) (it : Piece) → Contains (pieces_of (single story line request)) it
    → Contains (pieces_of request) it
single_pieces story line request it among = by (list_any (λ (reply : Reply). true) (replies_to line.client line.number story)) among
  where
    by : (t : Bool) → Contains (pieces_of (cond t None request)) it → Contains (pieces_of request) it
    by true none = absurd (in_none it none)
    by false some = some

put_pieces : (opening : Opening) (script : Script) (story : List Event) (line : Line) (to : Target) (commits : Bool) (it : Piece)
    → Contains script.lines line → Contains (pieces_of (next_of_put opening story line to commits)) it → IsOfWritten script story it
put_pieces opening script story line to commits it there among = by (session_in (replies_to line.client line.number story)) among
  where
    committed : (session : ℕ) (t : Bool) → Contains (pieces_of (cond t (Some (commit_of story line to session)) None)) it → IsOfWritten script story it
    committed session true some = record { line = line; there = there; among = some }
    committed session false none = absurd (in_none it none)

    stepped : (t : Bool) (session : ℕ)
        → Contains (pieces_of (cond t (Some (requests.AllocateBlock to.volume to.bucket to.key session
        (excluded opening story line.client line.number))) None)) it → IsOfWritten script story it
    stepped true session none = absurd (in_none it none)
    stepped false session none = absurd (in_none it none)

    written : (session : ℕ) (t : Bool) → Contains (pieces_of (cond t (block_step opening story line to session)
        (cond (commits && not (list_any is_done (replies_to line.client line.number story))) (Some (commit_of story line to session)) None))) it
        → IsOfWritten script story it
    written session true some = stepped (list_all (is_settled opening story) (granted_to line.client line.number story)) session some
    written session false some = committed session (commits && not (list_any is_done (replies_to line.client line.number story))) some

    by : (session : Option ℕ) → Contains (pieces_of (put_step opening story line to commits session)) it → IsOfWritten script story it
    by None none = absurd (in_none it none)
    by (Some session) some = written session (nat_lt (length (written_for line.client line.number story)) (pieces_needed line.command)) some

passed_line : (p : Line → Bool) (l : List Line) (x : Line) → Contains (filter p l) x → Contains l x
passed_line p [] x among = among
passed_line p (y ∷ l) x among = by (p y) (passed_line p l x) among
  where
    later : Contains l x → Contains (y ∷ l) x
    later (k, lt, is) = (suc k, omega (arith, lt), is)

    by : (t : Bool) → (Contains (filter p l) x → Contains l x) → Contains (cond t (y ∷ filter p l) (filter p l)) x → Contains (y ∷ l) x
    by true rest among = ⊎_elim (λ same. (0, omega arith, same)) (λ behind. later (rest behind)) (first_or_later y x (filter p l) among)
    by false rest among = later (rest among)

last_line : (l : List Line) (before : Option Line) (x : Line) → fold (λ before (line : Line). Some line) before l ≡ Some x → (before ≡ Some x) ⊎ Contains l x
last_line [] before x e = inl e
last_line (y ∷ l) before x e = ⊎_elim
    (λ here. let same : y ≡ x = cc in inr (0, omega arith, same))
    (λ later. inr (suc later.0, omega (arith, later.1), later.2))
    (last_line l (Some y) x e)

label_pieces : (script : Script) (story : List Event) (line : Line) (label : List ℕ) (it : Piece)
    → Contains (pieces_of (commit_step story (opening_line script line label))) it → IsOfWritten script story it
label_pieces script story line label it among = by (opening_line script line label) refl among
  where
    committed : (opened : Line) (to : Option Target) (session : Option ℕ) → Contains script.lines opened
        → Contains (pieces_of (commit_if story opened to session)) it → IsOfWritten script story it
    committed opened (Some to) (Some session) there some = record { line = opened; there = there; among = some }
    committed opened (Some to) None there none = absurd (in_none it none)
    committed opened None session there none = absurd (in_none it none)

    opened_at : (opened : Line) (t : Bool) → Contains script.lines opened
        → Contains (pieces_of (cond t (commit_if story opened (target_of opened.command)
        (session_in (replies_to opened.client opened.number story))) None)) it → IsOfWritten script story it
    opened_at opened true there some = committed opened (target_of opened.command) (session_in (replies_to opened.client opened.number story)) there some
    opened_at opened false there none = absurd (in_none it none)

    by : (o : Option Line) → opening_line script line label ≡ o → Contains (pieces_of (commit_step story o)) it → IsOfWritten script story it
    by None e none = absurd (in_none it none)
    by (Some opened) e some =
        let among = ⊎_elim (λ none. absurd cc) (λ there. there) (last_line (filter (opens_before line label) script.lines) None opened e) in
        opened_at opened (is_open_at story opened) (passed_line (opens_before line label) script.lines opened among) some

step_pieces : (opening : Opening) (script : Script) (story : List Event) (line : Line) (command : Command) (it : Piece) → Contains script.lines line
    → Contains (pieces_of (step_of opening script story line command)) it → IsOfWritten script story it
step_pieces opening script story line (commands.KeyPut volume bucket key payload) it there among = put_pieces opening script story line _ true it there among
step_pieces opening script story line (commands.KeyOpen label volume bucket key payload) it there among =
    put_pieces opening script story line _ false it there among
step_pieces opening script story line (commands.KeyCommit label) it there among =
    label_pieces script story line label it (single_pieces story line (commit_step story (opening_line script line label)) it among)
step_pieces opening script story line (commands.VolumeCreate volume) it there among = absurd (in_none it (single_pieces story line _ it among))
step_pieces opening script story line (commands.VolumeDelete volume) it there among = absurd (in_none it (single_pieces story line _ it among))
step_pieces opening script story line (commands.VolumeInfo volume) it there among = absurd (in_none it (single_pieces story line _ it among))
step_pieces opening script story line (commands.BucketCreate volume bucket) it there among = absurd (in_none it (single_pieces story line _ it among))
step_pieces opening script story line (commands.BucketDelete volume bucket) it there among = absurd (in_none it (single_pieces story line _ it among))
step_pieces opening script story line (commands.BucketInfo volume bucket) it there among = absurd (in_none it (single_pieces story line _ it among))
step_pieces opening script story line (commands.BucketList volume) it there among = absurd (in_none it (single_pieces story line _ it among))
step_pieces opening script story line (commands.KeyGet volume bucket snapshot key) it there among = absurd (in_none it (single_pieces story line _ it among))
step_pieces opening script story line (commands.KeyDelete volume bucket key) it there among = absurd (in_none it (single_pieces story line _ it among))
step_pieces opening script story line (commands.KeyRename volume bucket key to) it there among = absurd (in_none it (single_pieces story line _ it among))
step_pieces opening script story line (commands.KeyList volume bucket snapshot prefix start count) it there among =
    absurd (in_none it (single_pieces story line _ it among))
step_pieces opening script story line (commands.KeyExpire volume bucket) it there among = absurd (in_none it (single_pieces story line _ it among))
step_pieces opening script story line (commands.SnapshotCreate volume bucket snapshot) it there among =
    absurd (in_none it (single_pieces story line _ it among))
step_pieces opening script story line (commands.SnapshotDelete volume bucket snapshot) it there among =
    absurd (in_none it (single_pieces story line _ it among))
step_pieces opening script story line (commands.SnapshotInfo volume bucket snapshot) it there among = absurd (in_none it (single_pieces story line _ it among))
step_pieces opening script story line (commands.SnapshotList volume bucket) it there among = absurd (in_none it (single_pieces story line _ it among))
step_pieces opening script story line (commands.Admin command) it there among = absurd (in_none it among)

pub next_pieces : (opening : Opening) (script : Script) (story : List Event) (line : Line) (it : Piece) → Contains script.lines line
    → Contains (pieces_of (next_step opening script story line)) it → IsOfWritten script story it
next_pieces opening script story line it there among = by (list_any is_code (replies_to line.client line.number story)) among
  where
    by : (t : Bool) → Contains (pieces_of (cond t None (step_of opening script story line line.command))) it → IsOfWritten script story it
    by true none = absurd (in_none it none)
    by false some = step_pieces opening script story line line.command it there some

-- ---- its block was written in its place

pub record IsAtPlace (from : ℕ) (command : Command) (blocks : List Block) (it : Piece) : Type 0 where
  pub place : ℕ
  pub there : slice_get blocks place ≡ Some it.block
  pub long : it.length ≡ length (piece (from + place) command)

pub piece_at : (from : ℕ) (command : Command) (blocks : List Block) (it : Piece) → Contains (pieces_from from command blocks) it
    → IsAtPlace from command blocks it
piece_at from command [] it among = absurd (in_none it among)
piece_at from command (block ∷ blocks) it among = ⊎_elim
    (λ same.
    let first : from ≡ from + 0 = omega arith in
    record {
      place = 0;
      there = ap (λ (p : Piece). Some p.block) same;
      long = sym (ap (λ (p : Piece). p.length) same) ∙ ap (λ n. length (piece n command)) first;
    })
    (λ later.
    let behind = piece_at (from + 1) command blocks it later in
    let next : from + 1 + behind.place ≡ from + suc behind.place = omega arith in
    record { place = suc behind.place; there = behind.there; long = behind.long ∙ ap (λ n. length (piece n command)) next })
    (first_or_later (record { block = block; length = length (piece from command) }) it (pieces_from (from + 1) command blocks) among)

pub record IsToldAt {X : Type 0} (tells : EventKind → Option X) (story : List Event) (place : ℕ) (x : X) : Type 0 where
  pub at : ℕ
  pub event : Event
  pub there : slice_get story at ≡ Some event
  pub told : tells event.kind ≡ Some x
  pub before : length (all_told tells (take at story)) ≡ place

pub told_at_place : {X : Type 0} (tells : EventKind → Option X) (story : List Event) (place : ℕ) (x : X) → slice_get (all_told tells story) place ≡ Some x
    → IsToldAt tells story place x
told_at_place tells [] place x e = absurd cc
told_at_place {X} tells (first ∷ story) place x e =
    by (tells first.kind) refl place (subst (λ (o : Option X). slice_get (cons_option o (all_told tells story)) place ≡ Some x) refl e)
    (told_at_place tells story)
  where
    by : (o : Option X) → tells first.kind ≡ o → (place : ℕ) → slice_get (cons_option o (all_told tells story)) place ≡ Some x
        → ((place : ℕ) (x : X) → slice_get (all_told tells story) place ≡ Some x → IsToldAt tells story place x) → IsToldAt tells (first ∷ story) place x
    by None none place is rest =
        let later = rest place x is in
        record {
          at = suc later.at;
          event = later.event;
          there = later.there;
          told = later.told;
          before = ap (λ (o : Option X). length (cons_option o (all_told tells (take later.at story)))) none ∙ later.before;
        }
    by (Some y) some zero is rest = record { at = 0; event = first; there = refl; told = some ∙ is; before = refl }
    by (Some y) some (suc place) is rest =
        let later = rest place x is in
        record {
          at = suc later.at;
          event = later.event;
          there = later.there;
          told = later.told;
          before = ap (λ (o : Option X). length (cons_option o (all_told tells (take later.at story)))) some ∙ ap suc later.before;
        }

-- ---- and what was granted stays so

module _ (opening : Opening) (bytes : OpeningBytes) (script : Script) (story : List Event) (legal : IsLegal opening story)
    (fits : FitsFrom opening bytes script [] story)
    (fronts : (n : ℕ) → FitsFrom opening bytes script [] (take n story)) (id : AskId) (block : Block) (before : List Event) where
  lasts_one : (n : ℕ) → WasGranted (take n story) id block before → WasGranted (take (suc n) story) id block before
  lasts_one n granted = by (slice_get story n) refl
    where
      by : (o : Option Event) → slice_get story n ≡ o → WasGranted (take (suc n) story) id block before
      by None e = subst (λ (l : List Event). WasGranted l id block before) (sym (front_ends story n e)) granted
      by (Some event) e =
          let away = unasked_again opening bytes script (take n story) (front_legal opening story legal n) (fronts n) event.seat event.kind
          (enabled_at opening story legal n event e) id block before granted in
          subst (λ (l : List Event). WasGranted l id block before) (sym (front_grows story n event e))
          (granted_still (take n story) event id block before away granted)

  lasts : (n place : ℕ) → place ≤ n → WasGranted (take place story) id block before → WasGranted (take n story) id block before
  lasts zero place le granted =
      let same : place ≡ 0 = omega (arith, le) in
      subst (λ (k : ℕ). WasGranted (take k story) id block before) same granted
  lasts (suc n) place le granted = ⊎_elim
      (λ below. lasts_one n (lasts n place (omega (arith, below)) granted))
      (λ above.
      let same : place ≡ suc n = omega (arith, le, above) in
      subst (λ (k : ℕ). WasGranted (take k story) id block before) same granted)
      (cases_lt place (suc n))

  pub granted_lasts : (place : ℕ) → WasGranted (take place story) id block before → WasGranted story id block before
  granted_lasts place granted =
      subst (λ (l : List Event). WasGranted l id block before) (take_all (length story + place) story (omega arith))
      (lasts (length story + place) place (omega arith) granted)

-- ---- so a written piece is whole

pub written_id : (client number : ℕ) (block : Block) (kind : EventKind) → wrote client number kind ≡ Some block → (id : AskId) × (kind ≡ Wrote block id)
    × (is_of_line client number id ≡ true)
written_id client number block (Wrote written id) e = by (is_of_line client number id) refl e
  where
    by : (t : Bool) → is_of_line client number id ≡ t → cond t (Some written) None ≡ Some block → (other : AskId) × (Wrote written id ≡ Wrote block other)
        × (is_of_line client number other ≡ true)
    by true test is = let same : written ≡ block = cc in (id, ap (λ (b : Block). Wrote b id) same, test)
    by false test is = absurd cc
written_id client number block kind e = absurd cc
